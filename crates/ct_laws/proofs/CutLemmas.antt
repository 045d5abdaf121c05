-- A legal history that is cut at an entry.
use Rattle.std.proofs.Common.{◌≡◌, sym, subst, refl, true, List, [], ◌∷◌, ◌++◌, append_assoc}
use Rattle.std.proofs.lemmas.Bool.{and_from, and_parts}
use Rattle.std.proofs.lemmas.List.{append-nil}
use Rattle.ct_history.specs.declared.plan.PlanParts.{PlanParts}
use Rattle.ct_history.specs.declared.history.Entry.{Entry}
use Rattle.ct_history.specs.Legal.{are_allowed_behind, is_allowed, is_allowed_so_far, is_legal}
use Rattle.ct_history.proofs.LegalLemmas.{legal_allowed}

-- what holds where a history is cut at an entry
pub record IsCut (plan : PlanParts) (front : List Entry) (e : Entry) (rest : List Entry) : Type 0 where
  pub so_far : is_allowed_so_far plan front ≡ true
  pub allowed : is_allowed plan front e ≡ true
  pub behind : are_allowed_behind plan (front ++ e ∷ []) rest ≡ true

-- the same behind entries that stand in front
record IsCutBehind (plan : PlanParts) (before front : List Entry) (e : Entry) (rest : List Entry) : Type 0 where
  so_far : are_allowed_behind plan before front ≡ true
  allowed : is_allowed plan (before ++ front) e ≡ true
  behind : are_allowed_behind plan ((before ++ front) ++ e ∷ []) rest ≡ true

cut_behind : (plan : PlanParts) (before front : List Entry) (e : Entry) (rest : List Entry) → are_allowed_behind plan before (front ++ e ∷ rest) ≡ true → IsCutBehind plan before front e rest
cut_behind plan before [] e rest allowed =
    let both = and_parts (is_allowed plan before e) (are_allowed_behind plan (before ++ e ∷ []) rest) allowed in
    let same = sym (append-nil before) in
    record {
      so_far = refl;
      allowed = subst (λ (es : List Entry). is_allowed plan es e ≡ true) same both.0;
      behind = subst (λ (es : List Entry). are_allowed_behind plan (es ++ e ∷ []) rest ≡ true) same both.1;
    }
cut_behind plan before (x ∷ xs) e rest allowed =
    let both = and_parts (is_allowed plan before x) (are_allowed_behind plan (before ++ x ∷ []) (xs ++ e ∷ rest)) allowed in
    let later = cut_behind plan (before ++ x ∷ []) xs e rest both.1 in
    let same = append_assoc before (x ∷ []) xs in
    record {
      so_far = and_from (is_allowed plan before x) (are_allowed_behind plan (before ++ x ∷ []) xs) both.0 later.so_far;
      allowed = subst (λ (es : List Entry). is_allowed plan es e ≡ true) same later.allowed;
      behind = subst (λ (es : List Entry). are_allowed_behind plan (es ++ e ∷ []) rest ≡ true) same later.behind;
    }

-- where a history that is allowed so far is cut
pub cut_allowed : (plan : PlanParts) (front : List Entry) (e : Entry) (rest : List Entry) → is_allowed_so_far plan (front ++ e ∷ rest) ≡ true → IsCut plan front e rest
cut_allowed plan front e rest allowed =
    let cut = cut_behind plan [] front e rest allowed in
    record { so_far = cut.so_far; allowed = cut.allowed; behind = cut.behind }

-- where a legal history is cut
pub cut : (plan : PlanParts) (front : List Entry) (e : Entry) (rest : List Entry) → is_legal plan (front ++ e ∷ rest) ≡ true → IsCut plan front e rest
cut plan front e rest legal = cut_allowed plan front e rest (legal_allowed plan (front ++ e ∷ rest) legal)
