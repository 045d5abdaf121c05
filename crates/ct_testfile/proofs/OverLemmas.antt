-- Calls that look at files, one after the other: what holds of each of them holds of all together.
use Rattle.std.specs.Prelude.{⊤}
use Rattle.std.proofs.Common.{◌≡◌, ◌≤◌, ℕ, List, Option, Some, None, Result, Ok, Err, IfErr, IfSome, refl, sym, ap, ◌∙◌, subst, arith}
use Rattle.ct_base.specs.Outside.{FilesTell, Held, SameHeld, Becomes, LooksAt}
use Rattle.ct_base.specs.declared.files.FilesFault.{FilesFault}
use Rattle.ct_base.specs.declared.files.FilesFault.TheVariants as Files
use Rattle.ct_testfile.specs.Outcome.{◌>>=◌, on_line}
use Rattle.ct_testfile.specs.Says.{IsRefusalOf, IsAnswerOf, IsRefused, IfFilesFailed, IfUnfailed, TellsHeld, Unfailed, files_fault, HasFilesCause, Over}
use Rattle.ct_testfile.specs.declared.fault.ReadKind.{ReadKind}
use Rattle.ct_testfile.specs.declared.fault.ReadFault.{ReadFault}
use Rattle.ct_testfile.specs.declared.fault.ReadFault.TheVariants.{At, FilesFailed, NoMemory}

-- what was told is told by the same
still-told : {B : Type 0} (before now : Option B) → now ≡ before → Becomes before now (λ was last. ⊤)
still-told before now same = subst (λ told. Becomes before told (λ was last. ⊤)) (sym same) (self before)
  where
    self : {B : Type 0} (told : Option B) → Becomes told told (λ was last. ⊤)
    self None = tt
    self (Some is) = tt

-- the count stayed, and the answer is no fault of the files
pub cause-still : {A : Type 0} (before now : FilesTell) (result : Result A ReadFault) → Unfailed result → now.faults ≡ before.faults → now.refused ≡ before.refused → HasFilesCause before now result
cause-still before now (Ok x) unfailed same unrefused = record { told = still-told before.refused now.refused unrefused; later = omega arith; failed = tt; unfailed = same; unrefused = unrefused }
cause-still before now (Err (At file line kind)) unfailed same unrefused = record { told = still-told before.refused now.refused unrefused; later = omega arith; failed = tt; unfailed = same; unrefused = unrefused }
cause-still before now (Err (FilesFailed path)) unfailed same unrefused = absurd unfailed
cause-still before now (Err NoMemory) unfailed same unrefused = record { told = still-told before.refused now.refused unrefused; later = omega arith; failed = tt; unfailed = same; unrefused = unrefused }

-- what holds from a moment on also holds from an earlier one with the same count and refused path
cause-from : {A : Type 0} (before between now : FilesTell) (result : Result A ReadFault) → between.faults ≡ before.faults → between.refused ≡ before.refused → HasFilesCause between now result → HasFilesCause before now result
cause-from before between now result same unrefused cause = record {
  told = subst (λ refused. Becomes refused now.refused (λ was last. ⊤)) unrefused cause.told;
  later = subst (λ faults. faults ≤ now.faults) same cause.later;
  failed = subst (λ faults. IfErr result (λ fault. IfFilesFailed fault (IsRefused faults now))) same cause.failed;
  unfailed = subst (λ faults. IfUnfailed result (now.faults ≡ faults)) same cause.unfailed;
  unrefused = subst (λ refused. IfUnfailed result (now.refused ≡ refused)) unrefused cause.unrefused;
}

-- a call that does not look at files
pub Over-still : {A : Type 0} (tells : FilesTell) (says : Held → Result A ReadFault) (result : Result A ReadFault) → Unfailed result → ((held : Held) → IsAnswerOf (says held) result) → Over tells tells says result
Over-still tells says result unfailed answer = record {
  answer = λ held told. answer held;
  kept = λ held told. told;
  cause = cause-still tells tells result unfailed refl refl;
}

-- an answer by an equal definition
pub IsAnswerOf-same : {A : Type 0} (one other : Result A ReadFault) (result : Result A ReadFault) → one ≡ other → IsAnswerOf one result → IsAnswerOf other result
IsAnswerOf-same {A} one other result same answer =
    let P : Result A ReadFault → Type 0 = λ says. IsAnswerOf says result in subst P same answer

-- the same call by an equal definition
pub Over-same : {A : Type 0} (before now : FilesTell) (one other : Held → Result A ReadFault) (result : Result A ReadFault) → ((held : Held) → one held ≡ other held) → Over before now one result → Over before now other result
Over-same before now one other result same over = record {
  answer = λ held told. IsAnswerOf-same (one held) (other held) result (same held) (over.answer held told);
  kept = over.kept;
  cause = over.cause;
}

-- a call after one that returned a value
pub Over-then : {A B : Type 0} (before between now : FilesTell) (first : Held → Result A ReadFault) (next : Held → A → Result B ReadFault) (x : A) (result : Result B ReadFault) → Over before between first (Ok x) → Over between now (λ held. next held x) result → Over before now (λ held. first held >>= next held) result
Over-then {B = B} before between now first next x result one two =
    record {
      answer = λ held told. IsAnswerOf-same (next held x) (first held >>= next held) result (sym (ap (λ f. f >>= next held) (one.answer held told))) (two.answer held (one.kept held told));
      kept = λ held told. two.kept held (one.kept held told);
      cause = cause-from before between now result one.cause.unfailed one.cause.unrefused two.cause;
    }

refusal-stopped : {A B : Type 0} (first : Result A ReadFault) (next : A → Result B ReadFault) (fault : ReadFault) → IsRefusalOf first fault → IsRefusalOf (first >>= next) fault
refusal-stopped first next (At file line kind) is = ap (λ f. f >>= next) is
refusal-stopped first next (FilesFailed path) is = tt
refusal-stopped first next NoMemory is = tt

cause-stopped : {A B : Type 0} (before now : FilesTell) (fault : ReadFault) → HasFilesCause {A = A} before now (Err fault) → HasFilesCause {A = B} before now (Err fault)
cause-stopped before now (At file line kind) cause = record { told = cause.told; later = cause.later; failed = tt; unfailed = cause.unfailed; unrefused = cause.unrefused }
cause-stopped before now (FilesFailed path) cause = record { told = cause.told; later = cause.later; failed = cause.failed; unfailed = tt; unrefused = tt }
cause-stopped before now NoMemory cause = record { told = cause.told; later = cause.later; failed = tt; unfailed = cause.unfailed; unrefused = cause.unrefused }

-- a call that returned a fault, and nothing after it
pub Over-stopped : {A B : Type 0} (before now : FilesTell) (first : Held → Result A ReadFault) (next : Held → A → Result B ReadFault) (fault : ReadFault) → Over {A = A} before now first (Err fault) → Over {A = B} before now (λ held. first held >>= next held) (Err fault)
Over-stopped before now first next fault one = record {
  answer = λ held told. refusal-stopped (first held) (next held) fault (one.answer held told);
  kept = one.kept;
  cause = cause-stopped before now fault one.cause;
}

-- a call after which memory was wanting
pub Over-memory : {A B : Type 0} (before now : FilesTell) (first : Held → Result A ReadFault) (says : Held → Result B ReadFault) (x : A) → Over {A = A} before now first (Ok x) → Over {A = B} before now says (Err NoMemory)
Over-memory before now first says x over = record {
  answer = λ held told. tt;
  kept = over.kept;
  cause = cause-still before now (Err NoMemory) tt over.cause.unfailed over.cause.unrefused;
}

-- a call, and a value that is made of what it returned
pub Over-made : {A B : Type 0} (before now : FilesTell) (first : Held → Result A ReadFault) (next : A → B) (x : A) (y : B) → Over {A = A} before now first (Ok x) → y ≡ next x → Over {A = B} before now (λ held. first held >>= λ a. Ok (next a)) (Ok y)
Over-made before now first next x y over made = record {
  answer = λ held told. ap (λ f. f >>= λ a. Ok (next a)) (over.answer held told) ∙ ap Ok (sym made);
  kept = over.kept;
  cause = cause-still before now (Ok y) tt over.cause.unfailed over.cause.unrefused;
}

-- what is told stays told
pub Tells-kept : (held : Held) (before now : Option Held) → Becomes before now SameHeld → TellsHeld held before → TellsHeld held now
Tells-kept held None now kept told = absurd told
Tells-kept held (Some before) None kept told = absurd kept
Tells-kept held (Some before) (Some now) kept told = λ path. kept path ∙ told path

-- a fact about a path, where the files tell what they hold
pub told-at : {X : Type 0} (held : Held) (told : Option Held) (path : List ℕ) (x : X) (f : Option (List ℕ) → X) → IfSome told (λ files. x ≡ f (files path)) → TellsHeld held told → x ≡ f (held path)
told-at held None path x f is tells = absurd tells
told-at held (Some files) path x f is tells = is ∙ ap f (tells path)

-- calls that looked at a path: they answered, memory was wanting, or they failed
pub looked-ok : {T A : Type 0} (path : List ℕ) (before now : FilesTell) (x : T) (says : Held → Result A ReadFault) (result : Result A ReadFault) → LooksAt path before now (Ok x) → Unfailed result → ((held : Held) → TellsHeld held before.held → IsAnswerOf (says held) result) → Over before now says result
looked-ok path before now x says result looks unfailed answer = record {
  answer = answer;
  kept = λ held told. Tells-kept held before.held now.held looks.kept told;
  cause = cause-still before now result unfailed (looks.asks.cause.unfailed (λ e. cc)) (looks.asks.unrefused (λ e. cc));
}

pub looked-err : {T A : Type 0} (path : List ℕ) (before now : FilesTell) (fault : FilesFault) (says : Held → Result A ReadFault) → LooksAt {T = T} path before now (Err fault) → Over {A = A} before now says (Err (files_fault path fault))
looked-err path before now Files.NoMemory says looks = record {
  answer = λ held told. tt;
  kept = λ held told. Tells-kept held before.held now.held looks.kept told;
  cause = cause-still before now (Err NoMemory) tt (looks.asks.cause.unfailed (λ e. cc)) (looks.asks.unrefused (λ e. cc));
}
looked-err path before now Files.Failed says looks = record {
  answer = λ held told. tt;
  kept = λ held told. Tells-kept held before.held now.held looks.kept told;
  cause = record {
    told = looks.asks.told;
    later = looks.asks.cause.later;
    failed = record { rose = looks.asks.cause.failed refl; last = looks.asks.refused refl };
    unfailed = tt;
    unrefused = tt;
  };
}

pub on_line-then : {A B : Type 0} (file : List ℕ) (line : ℕ) (first : Result A ReadKind) (next : A → B) → on_line file line (first >>= λ x. Ok (next x)) ≡ (on_line file line first >>= λ x. Ok (next x))
on_line-then file line (Ok x) next = refl
on_line-then file line (Err kind) next = refl

pub on_line-bind : {A B : Type 0} (file : List ℕ) (line : ℕ) (first : Result A ReadKind) (next : A → Result B ReadKind) → on_line file line (first >>= next) ≡ (on_line file line first >>= λ x. on_line file line (next x))
on_line-bind file line (Ok x) next = refl
on_line-bind file line (Err kind) next = refl

-- what holds so far of a walk over files, and what is still to be done
pub record SoFar {A : Type 0} (before now : FilesTell) (start rest : Held → Result A ReadFault) : Type 0 where
  pub same : (held : Held) → TellsHeld held before.held → start held ≡ rest held
  pub kept : (held : Held) → TellsHeld held before.held → TellsHeld held now.held
  pub count : now.faults ≡ before.faults
  pub refused : now.refused ≡ before.refused

pub SoFar-start : {A : Type 0} (tells : FilesTell) (start : Held → Result A ReadFault) → SoFar tells tells start start
SoFar-start tells start = record { same = λ held told. refl; kept = λ held told. told; count = refl; refused = refl }

-- one more call, which returned a value
pub SoFar-then : {A B : Type 0} (before between now : FilesTell) (start rest : Held → Result B ReadFault) (first : Held → Result A ReadFault) (next : Held → A → Result B ReadFault) (x : A) → SoFar before between start rest → ((held : Held) → rest held ≡ (first held >>= next held)) → Over between now first (Ok x) → SoFar before now start (λ held. next held x)
SoFar-then before between now start rest first next x so_far is over = record {
  same = λ held told. so_far.same held told ∙ is held ∙ ap (λ f. f >>= next held) (over.answer held (so_far.kept held told));
  kept = λ held told. over.kept held (so_far.kept held told);
  count = over.cause.unfailed ∙ so_far.count;
  refused = over.cause.unrefused ∙ so_far.refused;
}

-- the same for an equal definition of the rest
pub SoFar-same : {A : Type 0} (before now : FilesTell) (start rest other : Held → Result A ReadFault) → ((held : Held) → rest held ≡ other held) → SoFar before now start rest → SoFar before now start other
SoFar-same before now start rest other same so_far = record {
  same = λ held told. so_far.same held told ∙ same held;
  kept = so_far.kept;
  count = so_far.count;
  refused = so_far.refused;
}

-- the last call
pub SoFar-end : {A : Type 0} (before between now : FilesTell) (start rest : Held → Result A ReadFault) (result : Result A ReadFault) → SoFar before between start rest → Over between now rest result → Over before now start result
SoFar-end before between now start rest result so_far over =
    record {
      answer = λ held told. IsAnswerOf-same (rest held) (start held) result (sym (so_far.same held told)) (over.answer held (so_far.kept held told));
      kept = λ held told. over.kept held (so_far.kept held told);
      cause = cause-from before between now result so_far.count so_far.refused over.cause;
    }
