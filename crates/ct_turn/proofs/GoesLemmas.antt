-- How a history goes on from what was seen of it.
use Rattle.std.proofs.Common.{◌≡◌, ◌≢◌, ◌∙◌, sym, ap, subst, refl, ℕ, ◌+◌, ◌<◌, ◌≤◌, Bool, true, false, List, [], ◌∷◌, ◌++◌, length, inl, inr, ⊎_elim, ◌⊎◌, append_assoc, length-append, arith}
use Rattle.std.specs.Prelude.{Option, Some, None, ◌==◌, ◌||◌, All, nat_lt, cond, find, if◌then◌else◌}
use Rattle.std.specs.List.{cons_option, list_all, list_any}
use Rattle.std.proofs.lemmas.Bool.{and_parts, cases_Bool, or_parts, or_from}
use Rattle.std.proofs.lemmas.Bool.Decides.{nat_tests}
use Rattle.std.proofs.lemmas.List.{append-nil}
use Rattle.std.proofs.lemmas.List.Elements.{All-head, All-tail}
use Rattle.std.proofs.lemmas.List.Folds.{list_any-append}
use Rattle.ct_history.specs.declared.history.Entry.{Entry}
use Rattle.ct_history.specs.declared.history.Entry.TheVariants.{Start, End, Settle, Stop}
use Rattle.ct_history.specs.History.{Running, is_end_of, open_starts, opened, open_start_of_worker}
use Rattle.ct_turn.specs.declared.view.Note.{Note}
use Rattle.ct_turn.specs.Seen.{AddsOwn, HistoryGoesOn, is_by, is_noted, is_own, longer}

other_number : (v w u : ℕ) → v ≢ w → (u == v) ≡ true → (u == w) ≡ false
other_number v w u ne is = grind (arith, nat_tests, ne)

own_by : (v w : ℕ) (e : Entry) → v ≢ w → is_own v e ≡ true → is_by w e ≡ false
own_by v w (Start t a u p) ne own = other_number v w u ne own
own_by v w (End t a u s) ne own = other_number v w u ne own
own_by v w (Settle t c) ne own = refl
own_by v w Stop ne own = refl

-- a worker's own entries hold none of another worker
pub own_none : (v w : ℕ) (es : List Entry) → v ≢ w → list_all (is_own v) es ≡ true → list_any (is_by w) es ≡ false
own_none v w [] ne own = refl
own_none v w (e ∷ es) ne own =
    let both = and_parts (is_own v e) (list_all (is_own v) es) own in
    or_from (is_by w e) (list_any (is_by w) es) (own_by v w e ne both.0) (own_none v w es ne both.1)

-- a history that goes on from what a worker has seen still does so with another worker's entries added
pub goes_further : (v w : ℕ) (seen now later : List Entry) → v ≢ w → HistoryGoesOn w seen now → AddsOwn v now later → HistoryGoesOn w seen later
goes_further v w seen now later ne goes adds = record {
  more = goes.more ++ adds.more;
  is = adds.is ∙ ap (λ (es : List Entry). es ++ adds.more) goes.is ∙ append_assoc seen goes.more adds.more;
  others = list_any-append (is_by w) goes.more adds.more ∙ or_from _ _ goes.others (own_none v w adds.more ne adds.own);
}

pub goes_nowhere : (w : ℕ) (now : List Entry) → HistoryGoesOn w now now
goes_nowhere w now = record { more = []; is = sym (append-nil now); others = refl }

-- of two beginnings of a list, the longer one begins with the shorter one
prefix_of : (a b x y : List Entry) → a ++ x ≡ b ++ y → length a ≤ length b → (z : List Entry) × (b ≡ a ++ z) × (x ≡ z ++ y)
prefix_of [] b x y e le = (b, refl, e)
prefix_of (p ∷ ps) [] x y e le = absurd (omega (arith, le))
prefix_of (p ∷ ps) (q ∷ qs) x y e le =
    let first : p ≡ q = cc in
    let rest : ps ++ x ≡ qs ++ y = cc in
    let t = prefix_of ps qs x y rest (omega (arith, le)) in
    (t.0, (λ i. sym first i ∷ t.1 i), t.2)

-- of two seen beginnings, the longer one goes on from the shorter one, and the history from the longer one
pub goes_between : (w v : ℕ) (a b now : List Entry) → HistoryGoesOn w a now → HistoryGoesOn v b now → length a ≤ length b → HistoryGoesOn w a b × HistoryGoesOn w b now
goes_between w v a b now one other le =
    let t = prefix_of a b one.more other.more (sym one.is ∙ other.is) le in
    let none : (list_any (is_by w) t.0 || list_any (is_by w) other.more) ≡ false = sym (list_any-append (is_by w) t.0 other.more) ∙ sym (ap (λ (es : List Entry). list_any (is_by w) es) t.2) ∙ one.others in
    let both = or_parts (list_any (is_by w) t.0) (list_any (is_by w) other.more) none in (
      record { more = t.0; is = t.1; others = both.0 },
      record { more = other.more; is = other.is; others = both.1 },
    )

-- the longer of what two have seen, as the first sees it
pub goes_longer : (w v : ℕ) (a b now : List Entry) → HistoryGoesOn w a now → HistoryGoesOn v b now → HistoryGoesOn w a (longer a b) × HistoryGoesOn w (longer a b) now
goes_longer w v a b now one other = elim (cases_Bool (nat_lt (length a) (length b))) [
  | inl less ↦
      let lt : length a < length b = grind (arith, nat_tests, less) in
      subst (λ (c : Bool). HistoryGoesOn w a (if c then b else a) × HistoryGoesOn w (if c then b else a) now) (sym less) (goes_between w v a b now one other (omega (arith, lt)))
  | inr not_less ↦ subst (λ (c : Bool). HistoryGoesOn w a (if c then b else a) × HistoryGoesOn w (if c then b else a) now) (sym not_less) (goes_nowhere w a, one)
]

-- a seen history that is as long as the whole one is the whole one
pub goes_whole : (w : ℕ) (a now : List Entry) → HistoryGoesOn w a now → length now ≤ length a → a ≡ now
goes_whole w a now goes le = by_more goes.more goes.is
  where
    by_more : (more : List Entry) → now ≡ a ++ more → a ≡ now
    by_more [] is = sym (is ∙ append-nil a)
    by_more (e ∷ es) is = let size : length now ≡ length a + length (e ∷ es) = ap length is ∙ length-append a (e ∷ es) in absurd (omega (arith, le, size))

length-longer : (a b : List Entry) → (length a ≤ length (longer a b)) × (length b ≤ length (longer a b))
length-longer a b = elim (cases_Bool (nat_lt (length a) (length b))) [
  | inl less ↦
      let lt : length a < length b = grind (arith, nat_tests, less) in
      subst (λ (c : Bool). (length a ≤ length (if c then b else a)) × (length b ≤ length (if c then b else a))) (sym less) (omega (arith, lt), omega arith)
  | inr not_less ↦
      let le : length b ≤ length a = grind (arith, nat_tests, not_less) in
      subst (λ (c : Bool). (length a ≤ length (if c then b else a)) × (length b ≤ length (if c then b else a))) (sym not_less) (omega arith, le)
]

-- where one of two workers has seen all, the longer of their histories is the whole one
pub longer_whole : (w v : ℕ) (a b now : List Entry) → HistoryGoesOn w a now → HistoryGoesOn v b now → (a ≡ now) ⊎ (b ≡ now) → longer a b ≡ now
longer_whole w v a b now one other all =
    let sizes = length-longer a b in
    goes_whole w (longer a b) now (goes_longer w v a b now one other).1
    (⊎_elim (λ is. let size = ap length is in omega (arith, size, sizes.0)) (λ is. let size = ap length is in omega (arith, size, sizes.1)) all)

find_skips : (w : ℕ) (o : Option Running) (rs : List Running) → find (λ (r : Running). r.worker == w) rs ≡ None → ((r : Running) → o ≡ Some r → (r.worker == w) ≡ false) → find (λ (r : Running). r.worker == w) (cons_option o rs) ≡ None
find_skips w None rs none other = none
find_skips w (Some r) rs none other = ap (λ (b : Bool). cond b (Some r) (find (λ (q : Running). q.worker == w) rs)) (other r refl) ∙ none

-- a worker without entries has no open start
pub none_open : (w : ℕ) (es : List Entry) → list_any (is_by w) es ≡ false → open_start_of_worker w es ≡ None
none_open w [] none = refl
none_open w (e ∷ es) none =
    let both = or_parts (is_by w e) (list_any (is_by w) es) none in
    find_skips w (opened e es) (open_starts es) (none_open w es both.1) (by_entry e both.0)
  where
    by_entry : (x : Entry) → is_by w x ≡ false → (r : Running) → opened x es ≡ Some r → (r.worker == w) ≡ false
    by_entry (Start t a v p) other r is = by_end (list_any (is_end_of t a) es) (record { test = t; attempt = a; worker = v; placement = p }) other is
      where
        by_end : (b : Bool) (run : Running) → (run.worker == w) ≡ false → (if b then None else Some run) ≡ Some r → (r.worker == w) ≡ false
        by_end true run unlike is_r = cc
        by_end false run unlike is_r = let same : run ≡ r = cc in subst (λ (q : Running). (q.worker == w) ≡ false) same unlike
    by_entry (End t a v s) other r is = cc
    by_entry (Settle t c) other r is = cc
    by_entry Stop other r is = cc

-- a worker that was noted has a note
pub noted_is : (P : Note → Type 0) (w : ℕ) (notes : List Note) → All P notes → is_noted w notes ≡ true → (n : Note) × (n.worker ≡ w) × P n
noted_is P w [] all is = cc
noted_is P w (n ∷ ns) all is = elim (cases_Bool (n.worker == w)) [
  | inl here ↦ (n, grind (arith, nat_tests, here), All-head P n ns all)
  | inr other ↦ noted_is P w ns (All-tail P n ns all) (sym (ap (λ (b : Bool). b || list_any (λ (m : Note). m.worker == w) ns) other) ∙ is)
]
