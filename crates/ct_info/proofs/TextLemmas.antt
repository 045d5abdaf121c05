-- The text of a name, for UTF-8 and other names.
use Rattle.std.proofs.Common.{◌≡◌, ℕ, List, Bool, true, false, cond, map, refl, sym, ap}
use Rattle.std.specs.Prelude.{IsUtf8}
use Rattle.std.specs.Str.{is_utf8}
use Rattle.std.proofs.lemmas.Str.{IsUtf8-from_is_utf8, is_utf8-from_IsUtf8}
use Rattle.ct_info.specs.Text.{shown, shown_byte}

-- the text of a name that is UTF-8 is the name
pub is_text : (name : List ℕ) → IsUtf8 name → name ≡ shown name
is_text name utf8 = sym (ap (λ b. cond b name (map shown_byte name)) (is_utf8-from_IsUtf8 name utf8))

no_text_by : (name : List ℕ) (b : Bool) → is_utf8 name ≡ b → (IsUtf8 name → ⊥) → map shown_byte name ≡ cond b name (map shown_byte name)
no_text_by name true is refused = absurd (refused (IsUtf8-from_is_utf8 name is))
no_text_by name false is refused = refl

-- the text of a name that is not UTF-8 is the name with `shown_byte` of each byte
pub is_no_text : (name : List ℕ) → (IsUtf8 name → ⊥) → map shown_byte name ≡ shown name
is_no_text name refused = no_text_by name (is_utf8 name) refl refused
