-- Why a text has no reading at a place.
use Rattle.std.specs.Prelude.{◌≡◌, ℕ, ⊤, List, length, Result, Ok, Err}
use Rattle.ct_lex.specs.declared.stop.Cause.{Cause}
use Rattle.ct_lex.specs.declared.stop.Stop.{Stop}
use Rattle.ct_lex.specs.declared.stop.Stop.TheVariants.{At}
use Rattle.ct_lex.specs.declared.stop.Halt.{Halt}
use Rattle.ct_lex.specs.declared.stop.Halt.TheVariants.{Memory, Text}

infixl 10 ◌>>=◌
-- continues with what was read, or returns why nothing was read
abbrev pub ◌>>=◌ : {A B : Type 0} → Result A Stop → (A → Result B Stop) → Result B Stop
(Ok x) >>= f = f x
(Err stop) >>= f = Err stop

-- the text has no reading at the first byte of what is left
abbrev pub refused : {A : Type 0} → Cause → List ℕ → Result A Stop
refused cause left = Err (At cause (length left))

-- the reader halted for want of memory, or for the reason that the definition says
abbrev pub Halts : {A : Type 0} → Halt → Result A Stop → Type 0
Halts Memory read = ⊤
Halts (Text stop) read = read ≡ Err stop

-- what a reader returned is what the definition says, unless memory was wanting
abbrev pub GivesRead : {A : Type 0} → Result A Halt → Result A Stop → Type 0
GivesRead (Ok x) read = read ≡ Ok x
GivesRead (Err halt) read = Halts halt read
