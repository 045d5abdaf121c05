-- The arguments of a command as they are kept and made one by one (cmake-language(7), Command Arguments).
use Rattle.std.specs.Prelude.{◌≡◌, ℕ, ◌≤◌, List, [], ◌∷◌, length, drop, Option, Some, None, Result, Ok, Err}
use Rattle.std.specs.Result.{IsOk}
use Rattle.ct_lex.specs.Extent.{list_read}
use Rattle.ct_lex.specs.Text.{moved, argument_before, arguments_from}
use Rattle.ct_lex.specs.declared.call.Arg.{Arg}

-- the arguments at the front of a text, up to a `)`; no arguments where there is no reading
abbrev pub arguments_in : List ℕ → List Arg
arguments_in text = list_read (arguments_from 0 text)

-- the text begins with arguments and a `)`
abbrev pub BeginsArguments : List ℕ → Type 0
BeginsArguments text = IsOk (arguments_from 0 text)

-- the call returns the first item that is left and removes it,
-- or None where no item is left; an Err changes nothing
abbrev pub TakesFirst : {A E : Type 0} → List A → Result (Option A) E → List A → Type 0
TakesFirst old (Ok (Some item)) new = old ≡ item ∷ new
TakesFirst old (Ok None) new = (old ≡ []) × (new ≡ [])
TakesFirst old (Err fault) new = new ≡ old

-- the first argument of a text and where it ends, or None where the text has no argument;
-- the other arguments are read from there on
abbrev pub IsFirst : List ℕ → Option (Arg × ℕ) → Type 0
IsFirst text None = arguments_in text ≡ []
IsFirst text (Some x) =
    (x.1 ≤ length text) ×
    (arguments_from 0 text ≡ argument_before x.0 (moved x.1 (arguments_from 0 (drop x.1 text))))
