-- Lines that are put one behind the other, each made of an element of a list.
use Rattle.std.proofs.Common.{◌≡◌, ◌∙◌, sym, ap, ℕ, ◌+◌, ◌<◌, List, [], ◌∷◌, ◌++◌, length, get_or, take, drop, map, append_assoc}
use Rattle.std.specs.Prelude.{Result, Ok, Err, Some, slice_get}
use Rattle.std.proofs.lemmas.Option.{slice_get-get_or}
use Rattle.std.proofs.lemmas.List.{map-append, take_more, take-append-drop}
use Rattle.ct_base.specs.declared.sink.SinkFault.{SinkFault}
use Rattle.ct_base.specs.declared.sink.SinkFault.TheVariants as Sinks
use Rattle.ct_base.specs.Outside.{SinkTell}
use Rattle.ct_report.specs.PutLines.{PutsLines}
use Rattle.ct_report.proofs.PutLemmas.{lines_as, lines_more, lines_stop, lines_then}

-- an element that was looked up stands at its place
pub item-of : {A : Type 0} (xs : List A) (at : ℕ) (x : A) → at < length xs → slice_get xs at ≡ Some x → x ≡ get_or xs at x
item-of xs at x lt is = let both : Some (get_or xs at x) ≡ Some x = sym (slice_get-get_or xs at x lt) ∙ is in cc

-- one more line is pushed behind those of the elements in front
pub pushed-next : {A : Type 0} (f : A → List ℕ) (xs : List A) (at : ℕ) (x : A) (old mid new : List (List ℕ)) (line : List ℕ) → at < length xs → mid ≡ old ++ map f (take at xs) → new ≡ mid ++ line ∷ [] → line ≡ f (get_or xs at x) → new ≡ old ++ map f (take (at + 1) xs)
pushed-next {A} f xs at x old mid new line lt mid_is new_is line_is =
    new_is
    ∙ ap (λ (ls : List (List ℕ)). ls ++ line ∷ []) mid_is
    ∙ append_assoc old (map f (take at xs)) (line ∷ [])
    ∙ ap (λ (l : List ℕ). old ++ (map f (take at xs) ++ l ∷ [])) line_is
    ∙ ap (λ (ls : List (List ℕ)). old ++ ls) (sym (ap (map f) (take_more xs at x lt) ∙ map-append f (take at xs) (get_or xs at x ∷ [])))

module _ {A : Type 0} (f : A → List ℕ) (xs : List A) where
  mapped-split : (at : ℕ) → map f xs ≡ map f (take at xs) ++ map f (drop at xs)
  mapped-split at = ap (map f) (sym (take-append-drop at xs)) ∙ map-append f (take at xs) (drop at xs)

  -- memory was wanting for the line of the next element
  pub mapped-stop : (at : ℕ) (old new : SinkTell) → PutsLines (map f (take at xs)) old new (Ok tt) → PutsLines (map f xs) old new (Err Sinks.NoMemory)
  mapped-stop at old new put = lines_as (sym (mapped-split at)) (lines_stop old new (map f (take at xs)) (map f (drop at xs)) put)

  module _ (at : ℕ) (x : A) (within : at < length xs) (is : x ≡ get_or xs at x) (old mid new : SinkTell) (front : PutsLines (map f (take at xs)) old mid (Ok tt)) where
    mapped-next : map f (take (at + 1) xs) ≡ map f (take at xs) ++ f x ∷ []
    mapped-next =
        ap (map f) (take_more xs at x within)
        ∙ map-append f (take at xs) (get_or xs at x ∷ [])
        ∙ ap (λ (y : A). map f (take at xs) ++ f y ∷ []) (sym is)

    -- the line of the next element was put
    pub mapped-put : (result : Result (Unit {0}) SinkFault) → PutsLines (f x ∷ []) mid new result → PutsLines (map f (take (at + 1) xs)) old new result
    mapped-put result put = lines_as (sym mapped-next) (lines_then old mid new (map f (take at xs)) (f x ∷ []) result front put)

    -- the put of the line of the next element failed
    pub mapped-fails : (fault : SinkFault) → PutsLines (f x ∷ []) mid new (Err fault) → PutsLines (map f xs) old new (Err fault)
    mapped-fails fault put =
        lines_as (sym (mapped-split (at + 1))) (lines_more old new (map f (take (at + 1) xs)) (map f (drop (at + 1) xs)) fault (mapped-put (Err fault) put))

module _ (lines : List (List ℕ)) (at : ℕ) (line : List ℕ) (within : at < length lines) (is : line ≡ get_or lines at line) (old mid new : SinkTell) (front : PutsLines (take at lines) old mid (Ok tt)) where
  line-next : take (at + 1) lines ≡ take at lines ++ line ∷ []
  line-next = take_more lines at line within ∙ ap (λ (l : List ℕ). take at lines ++ l ∷ []) (sym is)

  -- the next line was put
  pub line-put : (result : Result (Unit {0}) SinkFault) → PutsLines (line ∷ []) mid new result → PutsLines (take (at + 1) lines) old new result
  line-put result put = lines_as (sym line-next) (lines_then old mid new (take at lines) (line ∷ []) result front put)

  -- the put of the next line failed
  pub line-fails : (fault : SinkFault) → PutsLines (line ∷ []) mid new (Err fault) → PutsLines lines old new (Err fault)
  line-fails fault put =
      lines_as (take-append-drop (at + 1) lines) (lines_more old new (take (at + 1) lines) (drop (at + 1) lines) fault (line-put (Err fault) put))

-- some lines, then others, then the last ones
module _ (frame bars ending : List (List ℕ)) (old : SinkTell) where
  pub frame-fails : (new : SinkTell) (fault : SinkFault) → PutsLines frame old new (Err fault) → PutsLines (frame ++ bars ++ ending) old new (Err fault)
  frame-fails new fault put = lines_more old new (frame ++ bars) ending fault (lines_more old new frame bars fault put)

  pub bars-fail : (one new : SinkTell) (fault : SinkFault) → PutsLines frame old one (Ok tt) → PutsLines bars one new (Err fault) → PutsLines (frame ++ bars ++ ending) old new (Err fault)
  bars-fail one new fault first put = lines_more old new (frame ++ bars) ending fault (lines_then old one new frame bars (Err fault) first put)

  pub ending-put : (one two new : SinkTell) (result : Result (Unit {0}) SinkFault) → PutsLines frame old one (Ok tt) → PutsLines bars one two (Ok tt) → PutsLines ending two new result → PutsLines (frame ++ bars ++ ending) old new result
  ending-put one two new result first second put = lines_then old two new (frame ++ bars) ending result (lines_then old one two frame bars (Ok tt) first second) put
