-- The conditions of `if` and `elseif`.
-- Source: CMake manual, if, Condition Syntax. This project's own: EXISTS and MATCHES are the only conditions.
use Rattle.std.specs.Prelude.{ℕ, Bool, false, ◌&&◌, bytes_eq, codes, is_some, List, [], ◌∷◌, unwrap_or, Result, Ok, Err, if◌then◌else◌}
use Rattle.ct_base.specs.Outside.{Held}
use Rattle.ct_base.specs.Path.{joined}
use Rattle.ct_regex.specs.Tree.{Tree}
use Rattle.ct_regex.specs.Ends.{hits}
use Rattle.ct_regex.specs.Reading as pattern
use Rattle.ct_regex.specs.declared.fault.RegexFault.{RegexFault}
use Rattle.ct_regex.specs.declared.fault.RegexFault.TheVariants as regex
use Rattle.ct_testfile.specs.declared.fault.Stop.{Stop}
use Rattle.ct_testfile.specs.declared.fault.Stop.TheVariants as stop
use Rattle.ct_suite.specs.Values.{Variable, variable_value}
use Rattle.ct_testfile.specs.declared.fault.ReadKind.{ReadKind}
use Rattle.ct_testfile.specs.declared.fault.ReadKind.TheVariants.{BadCondition, BadPattern}
use Rattle.ct_suite.specs.declared.value.Value.{Value}

-- the value is that word, from an unquoted argument
abbrev pub is_bare_word : List ℕ → Value → Bool
is_bare_word word value = value.unquoted && bytes_eq value.text word

-- the text in front of MATCHES: the value of the variable that it names,
-- if it is unquoted and the variable is set; else the text itself
abbrev pub subject : List Variable → Value → List ℕ
subject variables value =
    if value.unquoted then unwrap_or (variable_value variables value.text) value.text else value.text

-- whether the text has a match of the pattern; BadPattern if the pattern was refused
abbrev pub matched : List ℕ → Result Tree RegexFault → Result Bool ReadKind
matched text (Ok tree) = Ok (hits tree text)
matched text (Err fault) = Err BadPattern

-- the values are `EXISTS path`
abbrev pub is_exists : List Value → Bool
is_exists (word ∷ path ∷ []) = is_bare_word (codes "EXISTS") word
is_exists values = false

-- the values are `text MATCHES pattern`
abbrev pub is_matches : List Value → Bool
is_matches (left ∷ word ∷ right ∷ []) = is_bare_word (codes "MATCHES") word
is_matches values = false

-- whether the condition in these values holds, or its refusal
abbrev pub holds : Held → List ℕ → List Variable → List Value → Result Bool ReadKind
holds held dir variables (word ∷ path ∷ []) =
    if is_bare_word (codes "EXISTS") word
    then Ok (is_some (held (joined dir path.text)))
    else Err BadCondition
holds held dir variables (left ∷ word ∷ right ∷ []) =
    if is_bare_word (codes "MATCHES") word
    then matched (subject variables left) (pattern.reading right.text)
    else Err BadCondition
holds held dir variables values = Err BadCondition

-- why a pattern was not read: memory was wanting, or it is no regular expression
abbrev pub bad_pattern : RegexFault → Stop
bad_pattern regex.NoMemory = stop.NoMemory
bad_pattern fault = stop.Refused BadPattern
