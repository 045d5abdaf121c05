-- What the arguments of a command stand for.
-- Source: CMake manual, cmake-language(7), Command Arguments and Variable References.
use Rattle.std.specs.Prelude.{ℕ, Bool, true, false, nat_lt, bytes_eq, List, [], ◌∷◌, length, map, sum_by, Option, None, unwrap_or, if◌then◌else◌}
use Rattle.std.specs.List.{flat_map}
use Rattle.ct_base.specs.Entries.{entries_of}
use Rattle.ct_lex.specs.declared.call.Arg.{Arg}
use Rattle.ct_lex.specs.declared.call.ArgKind.{ArgKind}
use Rattle.ct_lex.specs.declared.call.ArgKind.TheVariants.{Bracket, Quoted, Unquoted}
use Rattle.ct_lex.specs.declared.call.Part.{Part}
use Rattle.ct_lex.specs.declared.call.Part.TheVariants.{Bytes, Ref}
use Rattle.ct_suite.specs.declared.value.Value.{Value}

-- a variable that was set, with its value; None where it is no longer set
pub record Variable : Type 0 where
  pub name : List ℕ
  pub value : Option (List ℕ)

-- the value of the variable of that name, if it is set
abbrev pub variable_value : List Variable → List ℕ → Option (List ℕ)
variable_value [] name = None
variable_value (first ∷ variables) name =
    if bytes_eq name first.name then first.value else variable_value variables name

-- the variables after one was set: it takes the place of the one with its name, or goes to the end
abbrev pub with_variable : List Variable → Variable → List Variable
with_variable [] variable = variable ∷ []
with_variable (first ∷ variables) variable =
    if bytes_eq variable.name first.name
    then variable ∷ variables
    else first ∷ with_variable variables variable

-- the text of a part: its bytes, or the value of its variable; a variable that is not set has no bytes
abbrev pub part_text : List Variable → Part → List ℕ
part_text variables (Bytes bytes) = bytes
part_text variables (Ref name) = unwrap_or (variable_value variables name) []

-- the text of an argument: the texts of its parts, joined
abbrev pub argument_text : List Variable → List Part → List ℕ
argument_text variables parts = flat_map (part_text variables) parts

-- a value of a quoted argument or of a bracket argument
abbrev pub quoted : List ℕ → Value
quoted text = record { text = text; unquoted = false }

-- a value of an unquoted argument
abbrev pub bare : List ℕ → Value
bare text = record { text = text; unquoted = true }

-- the values that an argument gives: the entries of its text if it is unquoted, else the text
abbrev pub values_by : ArgKind → List ℕ → List Value
values_by Bracket text = quoted text ∷ []
values_by Quoted text = quoted text ∷ []
values_by Unquoted text = map bare (entries_of text)

-- the values that a command gets from its arguments
abbrev pub values_of : List Variable → List Arg → List Value
values_of variables args =
    flat_map (λ (arg : Arg). values_by arg.kind (argument_text variables arg.parts)) args

-- how many bytes the values have together
abbrev pub size : List Value → ℕ
size values = sum_by (λ (value : Value). length value.text) values

-- the texts of values
abbrev pub texts : List Value → List (List ℕ)
texts values = map (λ (value : Value). value.text) values

-- the value has more than `most` bytes
abbrev pub is_too_long : ℕ → Value → Bool
is_too_long most value = nat_lt most (length value.text)
