-- The texts of JSON between values are ASCII, so a UTF-8 text with one behind it is UTF-8.
use Rattle.std.proofs.Common.{◌≡◌, ℕ, List, [], ◌∷◌, ◌++◌, Bool, true, false, IsUtf8, refl, sym, subst}
use Rattle.std.proofs.lemmas.Str.{IsUtf8-append, IsUtf8-nil}
use Rattle.json.proofs.Printed.Utf8.{are_ascii, IsUtf8-are_ascii}
use Rattle.serde_json.specs.Written.{comma_if}

pub comma_utf8 : (later : Bool) → IsUtf8 (comma_if later)
comma_utf8 true = IsUtf8-are_ascii (44 ∷ []) refl
comma_utf8 false = IsUtf8-nil

-- a UTF-8 text with an ASCII text behind it is UTF-8
pub more_utf8 : (old piece new : List ℕ) → new ≡ old ++ piece → are_ascii piece ≡ true → IsUtf8 old → IsUtf8 new
more_utf8 old piece new put ascii was = subst IsUtf8 (sym put) (IsUtf8-append old piece was (IsUtf8-are_ascii piece ascii))
