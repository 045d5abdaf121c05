-- What is known of files that were looked at in turn: none
-- of them changed, and the files so far are there.
use Rattle.std.specs.Prelude.{◌≡◌, ◌+◌, ℕ, Bool, true, false, ◌&&◌, List, [], ◌∷◌, ◌++◌, take, Option, Some, None, IfSome, is_some, Result, Ok, Err, IfErr, IfOk}
use Rattle.std.specs.List.{list_all}
use Rattle.std.proofs.Common.{sym, ap, ap₂, subst, ◌∙◌}
use Rattle.std.proofs.lemmas.Bool.{false≢true}
use Rattle.std.proofs.lemmas.List.Folds.{list_all-append}
use Rattle.ct_base.specs.Outside.{Becomes, HasCause, Held, SameHeld}
use Rattle.ct_base.specs.declared.files.FilesFault.{FilesFault}
use Rattle.ct_base.specs.declared.files.FilesFault.TheVariants.{Failed, NoMemory}
use Rattle.ct_edge.specs.Required.{AreHeld, IsMissing}

-- after one more look each path holds what it held before all looks
pub kept-more : (before mid now : Option Held) → Becomes before mid SameHeld → Becomes mid now SameHeld → Becomes before now SameHeld
kept-more None mid now was is = tt
kept-more (Some x) None now was is = absurd was
kept-more (Some x) (Some y) None was is = absurd is
kept-more (Some x) (Some y) (Some z) was is = λ path. is path ∙ was path

-- a look that tells of no missing file left the count as it was
pub calm-more : (start faults now : ℕ) (seen : Result Bool FilesFault) → faults ≡ start → HasCause Failed faults now seen → IsMissing seen false → now ≡ start
calm-more start faults now (Ok there) calm cause missing = cause.unfailed (λ failed. subst (λ (r : Result Bool FilesFault). IfErr r (λ _. ⊥)) failed tt) ∙ calm
calm-more start faults now (Err Failed) calm cause missing = absurd (false≢true missing)
calm-more start faults now (Err NoMemory) calm cause missing = absurd missing

module _ (files : List (List ℕ)) (place : ℕ) (file : List ℕ) (next : take (place + 1) files ≡ take place files ++ file ∷ []) where
  one-there : (before mid : Option Held) → Becomes before mid SameHeld → IfSome before (λ held. AreHeld held (take place files)) →
      IfSome mid (λ held. true ≡ is_some (held file)) → IfSome before (λ held. AreHeld held (take (place + 1) files))
  one-there None mid same so is = tt
  one-there (Some x) None same so is = absurd same
  one-there (Some x) (Some y) same so is =
      let p = λ (f : List ℕ). is_some (x f) in
      let here = ap is_some (sym (same file)) ∙ sym is in
      ap (list_all p) next ∙ list_all-append p (take place files) (file ∷ []) ∙ ap₂ (λ (a b : Bool). a && (b && true)) so here

  -- after a look that tells of no missing file one more file is there
  pub there-more : (before mid : Option Held) (seen : Result Bool FilesFault) → Becomes before mid SameHeld → IfSome before (λ held. AreHeld held (take place files)) →
      IfOk seen (λ there. IfSome mid (λ held. there ≡ is_some (held file))) → IsMissing seen false → IfSome before (λ held. AreHeld held (take (place + 1) files))
  there-more before mid (Ok true) same so is missing = one-there before mid same so is
  there-more before mid (Ok false) same so is missing = absurd (false≢true missing)
  there-more before mid (Err Failed) same so is missing = absurd (false≢true missing)
  there-more before mid (Err NoMemory) same so is missing = absurd missing
