-- How a test file is written, apart from how it is read: brackets, comments, arguments, commands and files.
-- Source: CMake manual, cmake-language(7), Syntax.
use Rattle.std.specs.Prelude.{◌≡◌, ℕ, ◌+◌, Bool, true, false, List, [], ◌∷◌, ◌++◌, Some, replicate, codes}
use Rattle.std.specs.List.{list_all}
use Rattle.ct_lex.specs.Argument.{escaped, begins_reference, with_bytes, with_piece, is_plain, without_feed}
use Rattle.ct_lex.specs.Bytes.{char, is_space, is_blank, begins_word, is_word, is_name, feeds, lower}
use Rattle.ct_lex.specs.declared.call.Arg.{Arg}
use Rattle.ct_lex.specs.declared.call.ArgKind.{ArgKind}
use Rattle.ct_lex.specs.declared.call.ArgKind.TheVariants.{Bracket, Quoted, Unquoted}
use Rattle.ct_lex.specs.declared.call.Call.{Call}
use Rattle.ct_lex.specs.declared.call.Part.{Part}
use Rattle.ct_lex.specs.declared.call.Part.TheVariants.{Bytes, Ref}

-- the opening of a bracket: n times `=` between two `[`
abbrev pub opens_with : ℕ → List ℕ
opens_with n = codes "[" ++ (replicate n (char "=") ++ codes "[")

-- the closing of a bracket: n times `=` between two `]`
abbrev pub closes_with : ℕ → List ℕ
closes_with n = codes "]" ++ (replicate n (char "=") ++ codes "]")

-- the text begins with the opening of a bracket
abbrev pub BeginsBracket : List ℕ → Type 0
BeginsBracket text = (n : ℕ) × (more : List ℕ) × (text ≡ opens_with n ++ more)

-- the text inside a bracket: the closing stands directly behind it, and nowhere before
abbrev pub IsInside : ℕ → List ℕ → Type 0
IsInside n inside =
    (front back : List ℕ) → inside ++ closes_with n ≡ front ++ (closes_with n ++ back) → front ≡ inside

-- a bracket, and the text in it
pub data IsBracket : List ℕ → List ℕ → Type 0 where
  bracket : {inside : List ℕ} (n : ℕ) →
      IsInside n inside → IsBracket (opens_with n ++ (inside ++ closes_with n)) inside

-- what may stand on a line beside a command, and between two arguments: a blank, or a bracket comment
pub data IsSpace : List ℕ → Type 0 where
  blank : (byte : ℕ) → is_blank byte ≡ true → IsSpace (byte ∷ [])
  bracket_comment : {text inside : List ℕ} → IsBracket text inside → IsSpace (codes "#" ++ text)

-- a comment up to the end of its line
pub data IsLineComment : List ℕ → Type 0 where
  line_comment : (text : List ℕ) →
      feeds text ≡ 0 → (BeginsBracket text → ⊥) → IsLineComment (codes "#" ++ text)

-- the end of a line: a line feed, with or without a comment in front of it
pub data IsLineEnd : List ℕ → Type 0 where
  feed : IsLineEnd (codes "\n")
  commented : {text : List ℕ} → IsLineComment text → IsLineEnd (text ++ codes "\n")

-- an identifier: a letter or `_`, and then letters, digits and `_`
abbrev pub IsIdentifier : List ℕ → Type 0
IsIdentifier [] = ⊥
IsIdentifier (byte ∷ bytes) = (begins_word byte ≡ true) × (list_all is_word bytes ≡ true)

-- the name of a variable in a reference
abbrev pub IsVariable : List ℕ → Type 0
IsVariable [] = ⊥
IsVariable (byte ∷ bytes) = list_all is_name (byte ∷ bytes) ≡ true

-- the text of a quoted or an unquoted argument, with its parts:
-- plain bytes, escapes, references, and each `$` that begins no reference
pub data IsText : ArgKind → List ℕ → List Part → Type 0 where
  nothing : {kind : ArgKind} → IsText kind [] []
  plain : {kind : ArgKind} {text : List ℕ} {parts : List Part} (byte : ℕ) →
      is_plain kind byte ≡ true → IsText kind text parts →
      IsText kind (byte ∷ text) (with_piece (Bytes (byte ∷ [])) parts)
  escape : {kind : ArgKind} {text : List ℕ} {parts : List Part} (byte : ℕ) (piece : Part) →
      escaped kind byte ≡ Some piece → IsText kind text parts →
      IsText kind (codes "\\" ++ (byte ∷ text)) (with_piece piece parts)
  dollar : {kind : ArgKind} {text : List ℕ} {parts : List Part} →
      begins_reference text ≡ false → IsText kind text parts →
      IsText kind (codes "$" ++ text) (with_piece (Bytes (codes "$")) parts)
  reference : {kind : ArgKind} {text : List ℕ} {parts : List Part} (name : List ℕ) →
      IsVariable name → IsText kind text parts →
      IsText kind (codes "${" ++ (name ++ (codes "}" ++ text))) (Ref name ∷ parts)

-- an argument: a bracket, a text between two `"`, or a text that is not empty and begins with no bracket
pub data IsArgument : List ℕ → Arg → Type 0 where
  bracketed : {text inside : List ℕ} → IsBracket text inside →
      IsArgument text (record { kind = Bracket; parts = with_bytes (without_feed inside) [] })
  quoted : {text : List ℕ} {parts : List Part} → IsText Quoted text parts →
      IsArgument (codes "\"" ++ (text ++ codes "\"")) (record { kind = Quoted; parts = parts })
  unquoted : {text : List ℕ} {parts : List Part} → IsText Unquoted text parts →
      (text ≡ [] → ⊥) → (BeginsBracket text → ⊥) →
      IsArgument text (record { kind = Unquoted; parts = parts })

-- What stands between the `(` and the `)` of a command. No argument begins directly behind another one.
pub data IsArguments : (behind : Bool) → List ℕ → List Arg → Type 0 where
  none : {behind : Bool} → IsArguments behind [] []
  space : {behind : Bool} {front text : List ℕ} {args : List Arg} →
      IsSpace front → IsArguments false text args → IsArguments behind (front ++ text) args
  line_end : {behind : Bool} {front text : List ℕ} {args : List Arg} →
      IsLineEnd front → IsArguments false text args → IsArguments behind (front ++ text) args
  argument : {front text : List ℕ} {arg : Arg} {args : List Arg} →
      IsArgument front arg → IsArguments true text args → IsArguments false (front ++ text) (arg ∷ args)

-- a command, its name in lower case, and its arguments
pub data IsCommand : List ℕ → List ℕ → List Arg → Type 0 where
  command : {text : List ℕ} {args : List Arg} (word spaces : List ℕ) →
      IsIdentifier word → list_all is_space spaces ≡ true → IsArguments false text args →
      IsCommand (word ++ (spaces ++ (codes "(" ++ (text ++ codes ")")))) (lower word) args

-- The text from a line on up to the end of a file, with its commands and their lines.
-- Behind a command, the next one begins only after the end of a line.
pub data IsRest : (behind : Bool) → (line : ℕ) → List ℕ → List Call → Type 0 where
  at_end : {behind : Bool} {line : ℕ} → IsRest behind line [] []
  in_comment : {behind : Bool} {line : ℕ} {text : List ℕ} → IsLineComment text → IsRest behind line text []
  space : {behind : Bool} {line : ℕ} {front text : List ℕ} {calls : List Call} →
      IsSpace front → IsRest behind (line + feeds front) text calls → IsRest behind line (front ++ text) calls
  line_end : {behind : Bool} {line : ℕ} {front text : List ℕ} {calls : List Call} →
      IsLineEnd front → IsRest false (line + feeds front) text calls
      → IsRest behind line (front ++ text) calls
  command : {line : ℕ} {front text name : List ℕ} {args : List Arg} {calls : List Call} →
      IsCommand front name args → IsRest true (line + feeds front) text calls →
      IsRest false line (front ++ text) (record { name = name; args = args; line = line } ∷ calls)
