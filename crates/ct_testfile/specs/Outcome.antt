-- The outcome of a step of reading: a value, or the first refusal. This project's own.
use Rattle.std.specs.Prelude.{ℕ, List, Option, Some, None, Result, Ok, Err}
use Rattle.ct_testfile.specs.declared.fault.ReadKind.{ReadKind}
use Rattle.ct_testfile.specs.declared.fault.ReadFault.{ReadFault}
use Rattle.ct_testfile.specs.declared.fault.ReadFault.TheVariants.{At}

infixl 10 ◌>>=◌
-- continues with the value, or returns the refusal
abbrev pub ◌>>=◌ : {A B E : Type 0} → Result A E → (A → Result B E) → Result B E
(Ok x) >>= f = f x
(Err refusal) >>= f = Err refusal

-- the value, or this refusal where there is none
abbrev pub or_refused : {A : Type 0} → Option A → ReadKind → Result A ReadKind
or_refused None kind = Err kind
or_refused (Some x) kind = Ok x

-- the outcome, with a refusal placed on this line of the file
abbrev pub on_line : {A : Type 0} → List ℕ → ℕ → Result A ReadKind → Result A ReadFault
on_line file line (Ok x) = Ok x
on_line file line (Err kind) = Err (At file line kind)
