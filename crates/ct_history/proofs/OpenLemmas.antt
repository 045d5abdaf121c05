-- How the open starts of a history change with one entry more.
use Rattle.std.proofs.Common.{◌≡◌, ◌∙◌, sym, ap, Bool, true, false, ℕ, ◌+◌, ◌≤◌, List, [], ◌∷◌, ◌++◌, length, refl, arith, subst}
use Rattle.std.specs.Prelude.{Option, Some, None, filter, not, ◌==◌, ◌&&◌, ◌||◌, ◌⊎◌, cond, IsSomeAnd}
use Rattle.std.specs.List.{list_any, cons_option}
use Rattle.std.proofs.Common.{inl, inr}
use Rattle.std.proofs.Math.Bool.{or-false}
use Rattle.std.proofs.lemmas.Bool.{cases_Bool, true≢false, or_parts}
use Rattle.std.proofs.lemmas.Bool.Decides.{nat_tests}
use Rattle.std.proofs.lemmas.List.Folds.{list_any-append}
use Rattle.std.proofs.lemmas.List.{append-nil}
use Rattle.ct_alloc.specs.declared.placement.Placement.{Placement}
use Rattle.ct_verdict.specs.declared.attempt.Seen.{Seen}
use Rattle.ct_verdict.specs.declared.verdict.Cause.{Cause}
use Rattle.ct_history.specs.declared.history.Entry.{Entry}
use Rattle.ct_history.specs.declared.history.Entry.TheVariants.{Start, End, Settle, Stop}
use Rattle.ct_history.specs.History.{Running, is_end_of, opened, open_starts, holds_start}
use Rattle.ct_history.proofs.BoolLemmas.{eq_same}

-- the entry is no End
abbrev pub is_no_end : Entry → Bool
is_no_end (Start t a w p) = true
is_no_end (End t a w s) = false
is_no_end (Settle t c) = true
is_no_end Stop = true

no_end : (t a : ℕ) (e : Entry) → is_no_end e ≡ true → is_end_of t a e ≡ false
no_end t a (Start t' a' w p) is = refl
no_end t a (End t' a' w s) is = cc
no_end t a (Settle t' c) is = refl
no_end t a Stop is = refl

any-snoc : (t a : ℕ) (es : List Entry) (e : Entry) → list_any (is_end_of t a) (es ++ e ∷ []) ≡ (list_any (is_end_of t a) es || (is_end_of t a e || false))
any-snoc t a es e = list_any-append (is_end_of t a) es (e ∷ [])

-- an entry that is no End leaves what an earlier one opened
opened_before_no_end : (x : Entry) (es : List Entry) (e : Entry) → is_no_end e ≡ true → opened x (es ++ e ∷ []) ≡ opened x es
opened_before_no_end (Start t a w p) es e is =
    ap (λ (b : Bool). cond b None (Some (record { test = t; attempt = a; worker = w; placement = p })))
    (any-snoc t a es e ∙ ap (λ (b : Bool). list_any (is_end_of t a) es || (b || false)) (no_end t a e is) ∙ or-false (list_any (is_end_of t a) es))
opened_before_no_end (End t a w s) es e is = refl
opened_before_no_end (Settle t c) es e is = refl
opened_before_no_end Stop es e is = refl

pub append-cons_option : (o : Option Running) (xs ys : List Running) → cons_option o (xs ++ ys) ≡ cons_option o xs ++ ys
append-cons_option None xs ys = refl
append-cons_option (Some r) xs ys = refl

-- an entry that is no End adds what it opens
pub open_starts-snoc : (es : List Entry) (e : Entry) → is_no_end e ≡ true → open_starts (es ++ e ∷ []) ≡ open_starts es ++ cons_option (opened e []) []
open_starts-snoc [] e is = refl
open_starts-snoc (x ∷ xs) e is =
    ap (λ (o : Option Running). cons_option o (open_starts (xs ++ e ∷ []))) (opened_before_no_end x xs e is)
    ∙ ap (λ (rs : List Running). cons_option (opened x xs) rs) (open_starts-snoc xs e is)
    ∙ append-cons_option (opened x xs) (open_starts xs) (cons_option (opened e []) [])

-- this attempt of the test
abbrev pub is_of : ℕ → ℕ → Running → Bool
is_of t a r = r.test == t && r.attempt == a

-- an End closes the start that it ends, and leaves the others
closes : (x : Entry) (es : List Entry) (t a w : ℕ) (s : Seen) → ((opened x (es ++ End t a w s ∷ []) ≡ opened x es) × (IsSomeAnd (opened x es) (λ r. is_of t a r ≡ true) → ⊥)) ⊎ ((opened x (es ++ End t a w s ∷ []) ≡ None) × IsSomeAnd (opened x es) (λ r. is_of t a r ≡ true))
closes (Start u b v p) es t a w s = elim (cases_Bool (list_any (is_end_of u b) es)) [
  | inl ended ↦
      let shut : opened (Start u b v p) es ≡ None = ap (λ (c : Bool). cond c None (Some (record { test = u; attempt = b; worker = v; placement = p }))) ended in
      let more : list_any (is_end_of u b) (es ++ End t a w s ∷ []) ≡ true = any-snoc u b es (End t a w s) ∙ ap (λ (c : Bool). c || (is_end_of u b (End t a w s) || false)) ended in
      inl (
        ap (λ (c : Bool). cond c None (Some (record { test = u; attempt = b; worker = v; placement = p }))) more ∙ sym shut,
        λ some. subst (λ (o : Option Running). IsSomeAnd o (λ r. is_of t a r ≡ true)) shut some,
      )
  | inr waits ↦
      let more : list_any (is_end_of u b) (es ++ End t a w s ∷ []) ≡ (t == u && a == b || false) = any-snoc u b es (End t a w s) ∙ ap (λ (c : Bool). c || (is_end_of u b (End t a w s) || false)) waits in
      let opens : opened (Start u b v p) es ≡ Some (record { test = u; attempt = b; worker = v; placement = p }) = ap (λ (c : Bool). cond c None (Some (record { test = u; attempt = b; worker = v; placement = p }))) waits in
      elim (cases_Bool (t == u && a == b)) [
        | inl same ↦
            let flipped : (u == t && b == a) ≡ true = grind (arith, nat_tests) in
            let all : list_any (is_end_of u b) (es ++ End t a w s ∷ []) ≡ true = more ∙ ap (λ (c : Bool). c || false) same in
            inr (
              ap (λ (c : Bool). cond c None (Some (record { test = u; attempt = b; worker = v; placement = p }))) all,
              subst (λ (o : Option Running). IsSomeAnd o (λ r. is_of t a r ≡ true)) (sym opens) flipped,
            )
        | inr other ↦
            let none : list_any (is_end_of u b) (es ++ End t a w s ∷ []) ≡ false = more ∙ ap (λ (c : Bool). c || false) other in
            let unlike : (u == t && b == a) ≡ false = grind (arith, nat_tests) in
            inl (
              ap (λ (c : Bool). cond c None (Some (record { test = u; attempt = b; worker = v; placement = p }))) none ∙ sym opens,
              λ some. let like = subst (λ (o : Option Running). IsSomeAnd o (λ r. is_of t a r ≡ true)) opens some in true≢false (sym like ∙ unlike),
            )
      ]
]
closes (End u b v q) es t a w s = inl (refl, λ none. none)
closes (Settle u c) es t a w s = inl (refl, λ none. none)
closes Stop es t a w s = inl (refl, λ none. none)

length-cons_option : (o : Option Running) (xs ys : List Running) → length xs ≤ length ys → length (cons_option o xs) ≤ length (cons_option o ys)
length-cons_option None xs ys le = le
length-cons_option (Some r) xs ys le = omega (arith, le)

one_more : (o : Option Running) (xs ys : List Running) → length xs + 1 ≤ length ys → length (cons_option o xs) + 1 ≤ length (cons_option o ys)
one_more None xs ys le = le
one_more (Some r) xs ys le = omega (arith, le)

length-cons_none : (o : Option Running) (ys : List Running) → length ys ≤ length (cons_option o ys)
length-cons_none None ys = omega arith
length-cons_none (Some r) ys = omega arith

-- an End opens nothing
pub no_more_open : (es : List Entry) (t a w : ℕ) (s : Seen) → length (open_starts (es ++ End t a w s ∷ [])) ≤ length (open_starts es)
no_more_open [] t a w s = omega arith
no_more_open (x ∷ xs) t a w s = elim (closes x xs t a w s) [
  | inl same ↦
      subst (λ (o : Option Running). length (cons_option o (open_starts (xs ++ End t a w s ∷ []))) ≤ length (cons_option (opened x xs) (open_starts xs))) (sym same.0)
      (length-cons_option (opened x xs) _ _ (no_more_open xs t a w s))
  | inr shut ↦
      subst (λ (o : Option Running). length (cons_option o (open_starts (xs ++ End t a w s ∷ []))) ≤ length (cons_option (opened x xs) (open_starts xs))) (sym (shut.0))
      (omega (arith, no_more_open xs t a w s, length-cons_none (opened x xs) (open_starts xs)))
]

any_cons : (o : Option Running) (t a : ℕ) (xs : List Running) → list_any (is_of t a) (cons_option o xs) ≡ true → IsSomeAnd o (λ r. is_of t a r ≡ true) ⊎ (list_any (is_of t a) xs ≡ true)
any_cons None t a xs any = inr any
any_cons (Some r) t a xs any = elim (cases_Bool (is_of t a r)) [
  | inl here ↦ inl here
  | inr not_here ↦ inr (sym (ap (λ (b : Bool). b || list_any (is_of t a) xs) not_here) ∙ any)
]

length_some : (o : Option Running) (t a : ℕ) (ys : List Running) → IsSomeAnd o (λ r. is_of t a r ≡ true) → length (cons_option o ys) ≡ length ys + 1
length_some None t a ys some = absurd some
length_some (Some r) t a ys some = omega arith

-- the End of an open attempt leaves at least one open start less
pub one_less_open : (es : List Entry) (t a w : ℕ) (s : Seen) → list_any (is_of t a) (open_starts es) ≡ true → length (open_starts (es ++ End t a w s ∷ [])) + 1 ≤ length (open_starts es)
one_less_open [] t a w s any = absurd (true≢false (sym any))
one_less_open (x ∷ xs) t a w s any = elim (closes x xs t a w s) [
  | inl same ↦ elim (any_cons (opened x xs) t a (open_starts xs) any) [
    | inl here ↦ absurd (same.1 here)
    | inr there ↦
        subst (λ (o : Option Running). length (cons_option o (open_starts (xs ++ End t a w s ∷ []))) + 1 ≤ length (cons_option (opened x xs) (open_starts xs))) (sym same.0)
        (one_more (opened x xs) _ _ (one_less_open xs t a w s there))
  ]
  | inr shut ↦
      subst (λ (o : Option Running). length (cons_option o (open_starts (xs ++ End t a w s ∷ []))) + 1 ≤ length (cons_option (opened x xs) (open_starts xs))) (sym (shut.0))
      (omega (arith, no_more_open xs t a w s, length_some (opened x xs) t a (open_starts xs) shut.1))
]

any_held : (t a w : ℕ) (rs : List Running) → list_any (λ (r : Running). r.test == t && r.attempt == a && r.worker == w) rs ≡ true → list_any (is_of t a) rs ≡ true
any_held t a w [] any = any
any_held t a w (r ∷ rs) any = elim (cases_Bool (is_of t a r)) [
  | inl here ↦ ap (λ (b : Bool). b || list_any (is_of t a) rs) here
  | inr other ↦
      let not_here : (r.test == t && r.attempt == a && r.worker == w) ≡ false = ap (λ (b : Bool). b && r.worker == w) other in
      let later = sym (ap (λ (b : Bool). b || list_any (λ (q : Running). q.test == t && q.attempt == a && q.worker == w) rs) not_here) ∙ any in
      ap (λ (b : Bool). b || list_any (is_of t a) rs) other ∙ any_held t a w rs later
]

-- the End of a held start leaves at least one open start less
pub one_less_held : (es : List Entry) (t a w v : ℕ) (s : Seen) → holds_start t a w es ≡ true → length (open_starts (es ++ End t a v s ∷ [])) + 1 ≤ length (open_starts es)
one_less_held es t a w v s holds = one_less_open es t a v s (any_held t a w (open_starts es) holds)

keeps : (o : Option Running) (t a : ℕ) (xs : List Running) → (IsSomeAnd o (λ r. is_of t a r ≡ true) → ⊥) → filter (λ r. not (is_of t a r)) (cons_option o xs) ≡ cons_option o (filter (λ r. not (is_of t a r)) xs)
keeps None t a xs other = refl
keeps (Some r) t a xs other = elim (cases_Bool (is_of t a r)) [
  | inl same ↦ absurd (other same)
  | inr unlike ↦ ap (λ (b : Bool). cond (not b) (r ∷ filter (λ q. not (is_of t a q)) xs) (filter (λ q. not (is_of t a q)) xs)) unlike
]

drops : (o : Option Running) (t a : ℕ) (xs : List Running) → IsSomeAnd o (λ r. is_of t a r ≡ true) → filter (λ r. not (is_of t a r)) (cons_option o xs) ≡ filter (λ r. not (is_of t a r)) xs
drops None t a xs same = absurd same
drops (Some r) t a xs same = ap (λ (b : Bool). cond (not b) (r ∷ filter (λ q. not (is_of t a q)) xs) (filter (λ q. not (is_of t a q)) xs)) same

-- an End closes this attempt, and leaves the other open starts as they are
pub open_starts-end : (es : List Entry) (t a w : ℕ) (s : Seen) → open_starts (es ++ End t a w s ∷ []) ≡ filter (λ r. not (is_of t a r)) (open_starts es)
open_starts-end [] t a w s = refl
open_starts-end (x ∷ xs) t a w s = elim (closes x xs t a w s) [
  | inl same ↦
      ap (λ (o : Option Running). cons_option o (open_starts (xs ++ End t a w s ∷ []))) same.0
      ∙ ap (λ (rs : List Running). cons_option (opened x xs) rs) (open_starts-end xs t a w s)
      ∙ sym (keeps (opened x xs) t a (open_starts xs) same.1)
  | inr shut ↦
      ap (λ (o : Option Running). cons_option o (open_starts (xs ++ End t a w s ∷ []))) (shut.0)
      ∙ open_starts-end xs t a w s
      ∙ sym (drops (opened x xs) t a (open_starts xs) shut.1)
]

no_option : (o : Option Running) (rest : List Running) → cons_option o rest ≡ [] → (o ≡ None) × (rest ≡ [])
no_option None rest is = (refl, is)
no_option (Some r) rest is = cc

-- what is closed stays closed
closed_stays : (e : Entry) (es more : List Entry) → opened e es ≡ None → opened e (es ++ more) ≡ None
closed_stays (Start t a w p) es more is = elim (cases_Bool (list_any (is_end_of t a) es)) [
  | inl ended ↦ ap (λ (b : Bool). cond b None (Some (record { test = t; attempt = a; worker = w; placement = p }))) (list_any-append (is_end_of t a) es more ∙ ap (λ (b : Bool). b || list_any (is_end_of t a) more) ended)
  | inr waits ↦
      let run : Running = record { test = t; attempt = a; worker = w; placement = p } in
      let no : Some run ≡ None = sym (ap (λ (b : Bool). cond b None (Some run)) waits) ∙ is in
      cc
]
closed_stays (End t a w s) es more is = refl
closed_stays (Settle t c) es more is = refl
closed_stays Stop es more is = refl

-- where a history has no open start, the open starts with entries added are those of the added entries
pub open_starts-append : (es more : List Entry) → open_starts es ≡ [] → open_starts (es ++ more) ≡ open_starts more
open_starts-append [] more closed = refl
open_starts-append (e ∷ es) more closed =
    let both = no_option (opened e es) (open_starts es) closed in
    ap (λ (o : Option Running). cons_option o (open_starts (es ++ more))) (closed_stays e es more both.0) ∙ open_starts-append es more both.1

-- an attempt that started and ended leaves nothing open
pub closed_both : (t a w : ℕ) (p : Option Placement) (s : Seen) → open_starts (Start t a w p ∷ End t a w s ∷ []) ≡ []
closed_both t a w p s =
    let run : Running = record { test = t; attempt = a; worker = w; placement = p } in
    ap (λ (b : Bool). cons_option (cond ((b && a == a) || false) None (Some run)) []) (eq_same t) ∙ ap (λ (b : Bool). cons_option (cond (b || false) None (Some run)) []) (eq_same a)

-- a Settle or a Stop leaves the open starts
pub opens_settle : (es : List Entry) (n : ℕ) (c : Cause) → open_starts (es ++ Settle n c ∷ []) ≡ open_starts es
opens_settle es n c = open_starts-snoc es (Settle n c) refl ∙ append-nil (open_starts es)

pub opens_stop : (es : List Entry) → open_starts (es ++ Stop ∷ []) ≡ open_starts es
opens_stop es = open_starts-snoc es Stop refl ∙ append-nil (open_starts es)

-- where a test has no open start, leaving out a start of it leaves all
pub filter_none : (t a : ℕ) (rs : List Running) → list_any (λ (q : Running). q.test == t) rs ≡ false → filter (λ r. not (is_of t a r)) rs ≡ rs
filter_none t a [] none = refl
filter_none t a (x ∷ xs) none =
    let both = or_parts (x.test == t) (list_any (λ (q : Running). q.test == t) xs) none in
    ap (λ (b : Bool). cond (not (b && x.attempt == a)) (x ∷ filter (λ r. not (is_of t a r)) xs) (filter (λ r. not (is_of t a r)) xs)) both.0
    ∙ ap (λ (rs : List Running). x ∷ rs) (filter_none t a xs both.1)
