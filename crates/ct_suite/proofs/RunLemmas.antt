-- A run of bytes of an entry, of which none is a semicolon or a backslash.
use Rattle.std.proofs.Common.{◌≡◌, ℕ, suc, ◌+◌, ◌<◌, ◌≤◌, Bool, true, false, ◌||◌, ◌==◌, List, [], ◌∷◌, ◌++◌, length, take, drop, Result, Err, OnOk, IfErr, refl, sym, ap, ◌∙◌, subst, arith}
use Rattle.std.proofs.lemmas.List.{drop-drop, take-append-drop}
use Rattle.std.proofs.lemmas.Bool.{and_from, and_parts, or_parts, not-true}
use Rattle.std.proofs.lemmas.Result.{IfErr-weaker, on_ok_weaker}
use Rattle.std.specs.List.{list_all, prefix_len}
use Rattle.ct_base.specs.Bytes.{backslash, semicolon}
use Rattle.ct_base.specs.Entries.{parts_of, with_front}
use Rattle.ct_base.proofs.EntryLemmas.{with_front-append}
use Rattle.ct_suite.specs.Readers.{IsReaderWithin, StopsFor, StopsIf, TakesEntries, entries_with, held_bytes, is_ended, is_inner}
use Rattle.ct_suite.specs.declared.fault.ValueFault.{ValueFault}
use Rattle.ct_suite.specs.declared.limits.ValueLimits.{ValueLimits}
use Rattle.ct_suite.specs.declared.reader.Reader.{Reader}
use Rattle.ct_suite.proofs.ReaderLemmas.{parts-other}
use Rattle.ct_suite.proofs.TakesLemmas.{Long, takes-joined}

inner-apart : (byte : ℕ) → is_inner byte ≡ true → ((byte == semicolon) ≡ false) × ((byte == backslash) ≡ false)
inner-apart byte is = or_parts (byte == semicolon) (byte == backslash) (not-true (byte == semicolon || byte == backslash) is)

-- a run at the front of a text has only bytes that belong to an entry wherever they stand
inner-all : (text : List ℕ) → list_all is_inner (take (prefix_len is_inner text) text) ≡ true
inner-all [] = refl
inner-all (byte ∷ rest) = by_inner (is_inner byte) refl (inner-all rest)
  where
    by_inner : (test : Bool) → is_inner byte ≡ test → list_all is_inner (take (prefix_len is_inner rest) rest) ≡ true → list_all is_inner (take (prefix_len is_inner (byte ∷ rest)) (byte ∷ rest)) ≡ true
    by_inner false t behind = rw t refl
    by_inner true t behind =
        let more : ℕ = prefix_len is_inner rest in
        let size : prefix_len is_inner (byte ∷ rest) ≡ suc more = rw t (let sums : 1 + more ≡ suc more = omega arith in sums) in
        ap (λ k. list_all is_inner (take k (byte ∷ rest))) size ∙ and_from (is_inner byte) (list_all is_inner (take more rest)) t behind

pub run-inner : (text : List ℕ) (n : ℕ) → n ≡ prefix_len is_inner text → list_all is_inner (take n text) ≡ true
run-inner text n is = ap (λ k. list_all is_inner (take k text)) is ∙ inner-all text

run-parts : (run rest : List ℕ) → 0 < length run → list_all is_inner run ≡ true → parts_of (run ++ rest) ≡ with_front run (parts_of rest)
run-parts [] rest some all = absurd (omega (arith, some))
run-parts (byte ∷ []) rest some all =
    let apart = inner-apart byte (and_parts (is_inner byte) true all).0 in
    parts-other byte rest apart.0 apart.1
run-parts (byte ∷ next ∷ run) rest some all =
    let both = and_parts (is_inner byte) (list_all is_inner (next ∷ run)) all in
    let apart = inner-apart byte both.0 in
    parts-other byte ((next ∷ run) ++ rest) apart.0 apart.1
    ∙ ap (λ ps. with_front (byte ∷ []) ps) (run-parts (next ∷ run) rest (omega arith) both.1)
    ∙ with_front-append (byte ∷ []) (next ∷ run) (parts_of rest)

pub run-apart : (run rest : List ℕ) → 0 < length run → list_all is_inner run ≡ true → is_ended (run ++ rest) ≡ false
run-apart [] rest some all = absurd (omega (arith, some))
run-apart (byte ∷ run) rest some all = (inner-apart byte (and_parts (is_inner byte) (list_all is_inner run) all).0).0

-- a run behind a backslash that was released first
module _ (limits : ValueLimits) (old between : Reader) (run : List ℕ) (some : 0 < length run) (all : list_all is_inner run ≡ true) where
  pub takes-run : (new : Reader) (result : Result (Unit {0}) ValueFault) → between.held ≡ false → IsReaderWithin limits between → ((rest : List ℕ) → is_ended rest ≡ false → entries_with between rest ≡ entries_with old rest) → new.values ≡ between.values → new.bytes ≡ between.bytes → new.held ≡ between.held
      → OnOk result (new.text.items ≡ between.text.items ++ run) → OnOk result (length new.text.items ≤ limits.value_bytes) → IfErr result (StopsIf (Long limits (between.text.items ++ run))) → TakesEntries limits old new run result
  takes-run new result free within released values bytes held joined short stopped =
      let same : (rest : List ℕ) → parts_of (held_bytes between.held ++ (run ++ rest)) ≡ with_front run (parts_of (held_bytes new.held ++ rest)) =
      λ rest. ap (λ h. parts_of (held_bytes h ++ (run ++ rest))) free ∙ run-parts run rest some all ∙ ap (λ h. with_front run (parts_of (held_bytes h ++ rest))) (sym (held ∙ free)) in
      let takes = takes-joined limits between new run run result values bytes within same joined short stopped in record {
        within = takes.within;
        taken = on_ok_weaker result (λ on rest. on rest ∙ released (run ++ rest) (run-apart run rest some all)) takes.taken;
        stopped = IfErr-weaker result (λ why. (rest : List ℕ) → StopsFor limits (entries_with between (run ++ rest)) why) (λ why. (rest : List ℕ) → StopsFor limits (entries_with old (run ++ rest)) why) (λ why stops rest. subst (λ vs. StopsFor limits vs why) (released (run ++ rest) (run-apart run rest some all)) (stops rest)) takes.stopped;
      }

  pub run-stopped : (new : Reader) (why : ValueFault) → ((rest : List ℕ) → is_ended rest ≡ false → StopsFor limits (entries_with old rest) why) → TakesEntries limits old new run (Err why)
  run-stopped new why stops = record {
    within = tt;
    taken = tt;
    stopped = λ rest. stops (run ++ rest) (run-apart run rest some all);
  }

-- a run in the middle of a text
pub run-next : (text : List ℕ) (at n : ℕ) → drop at text ≡ take n (drop at text) ++ drop (at + n) text
run-next text at n = sym (take-append-drop n (drop at text)) ∙ ap (λ rest. take n (drop at text) ++ rest) (drop-drop n at text)
