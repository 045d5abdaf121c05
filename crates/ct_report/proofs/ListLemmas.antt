-- The lines of tests that are listed, put one behind the other.
use Rattle.std.proofs.Common.{◌≡◌, ◌∙◌, sym, ap, ℕ, ◌+◌, ◌<◌, List, [], ◌∷◌, ◌++◌, length, get_or, take, drop, map}
use Rattle.std.specs.Prelude.{Result, Ok, Err}
use Rattle.std.proofs.lemmas.List.{map-append, take_more, take-append-drop}
use Rattle.ct_base.specs.declared.sink.SinkFault.{SinkFault}
use Rattle.ct_base.specs.declared.sink.SinkFault.TheVariants as Sinks
use Rattle.ct_base.specs.Outside.{Puts, PutsEach, SinkTell}
use Rattle.ct_report.specs.Lists.{Listed, test_entry}
use Rattle.ct_report.specs.PutLines.{PutsLines}
use Rattle.ct_report.proofs.PutLemmas.{lines_as, lines_more, lines_stop, lines_then, one_line}

entries-split : (tests : List Listed) (at : ℕ) → map test_entry tests ≡ map test_entry (take at tests) ++ map test_entry (drop at tests)
entries-split tests at = ap (map test_entry) (sym (take-append-drop at tests)) ∙ map-append test_entry (take at tests) (drop at tests)

-- memory was wanting for the line of the next test
pub entries-stop : (tests : List Listed) (at : ℕ) (old new : SinkTell) → PutsLines (map test_entry (take at tests)) old new (Ok tt) → PutsLines (map test_entry tests) old new (Err Sinks.NoMemory)
entries-stop tests at old new put = lines_as (sym (entries-split tests at)) (lines_stop old new (map test_entry (take at tests)) (map test_entry (drop at tests)) put)

module _ (tests : List Listed) (at : ℕ) (test : Listed) (within : at < length tests) (is : test ≡ get_or tests at test) (old mid new : SinkTell) (front : PutsLines (map test_entry (take at tests)) old mid (Ok tt)) where
  entries-next : map test_entry (take (at + 1) tests) ≡ map test_entry (take at tests) ++ test_entry test ∷ []
  entries-next =
      ap (map test_entry) (take_more tests at test within)
      ∙ map-append test_entry (take at tests) (get_or tests at test ∷ [])
      ∙ ap (λ (t : Listed). map test_entry (take at tests) ++ test_entry t ∷ []) (sym is)

  -- the line of the next test was put
  pub entry-put : (result : Result (Unit {0}) SinkFault) → Puts (test_entry test) mid new result → PutsEach (test_entry test ∷ []) mid new result → PutsLines (map test_entry (take (at + 1) tests)) old new result
  entry-put result put each =
      lines_as (sym entries-next) (lines_then old mid new (map test_entry (take at tests)) (test_entry test ∷ []) result front (one_line mid new (test_entry test) result put each))

  pub entry-fails : (fault : SinkFault) → Puts (test_entry test) mid new (Err fault) → PutsEach (test_entry test ∷ []) mid new (Err fault) → PutsLines (map test_entry tests) old new (Err fault)
  entry-fails fault put each =
      lines_as (sym (entries-split tests (at + 1))) (lines_more old new (map test_entry (take (at + 1) tests)) (map test_entry (drop (at + 1) tests)) fault (entry-put (Err fault) put each))

-- a line, then lines, then the last ones
module _ (heading : List ℕ) (middle ending : List (List ℕ)) (old : SinkTell) where
  pub heading-fails : (new : SinkTell) (fault : SinkFault) → PutsLines (heading ∷ []) old new (Err fault) → PutsLines (heading ∷ (middle ++ ending)) old new (Err fault)
  heading-fails new fault put = lines_more old new (heading ∷ []) (middle ++ ending) fault put

  pub middle-fails : (one new : SinkTell) (fault : SinkFault) → PutsLines (heading ∷ []) old one (Ok tt) → PutsLines middle one new (Err fault) → PutsLines (heading ∷ (middle ++ ending)) old new (Err fault)
  middle-fails one new fault first put = lines_then old one new (heading ∷ []) (middle ++ ending) (Err fault) first (lines_more one new middle ending fault put)

  pub ending-put : (one two new : SinkTell) (result : Result (Unit {0}) SinkFault) → PutsLines (heading ∷ []) old one (Ok tt) → PutsLines middle one two (Ok tt) → PutsLines ending two new result → PutsLines (heading ∷ (middle ++ ending)) old new result
  ending-put one two new result first second put = lines_then old one new (heading ∷ []) (middle ++ ending) result first (lines_then one two new middle ending result second put)
