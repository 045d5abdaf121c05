-- Where a text has no reading, and why, apart from how it is read.
-- Source: CMake manual, cmake-language(7), Syntax. Which forms are left out is this project's choice.
use Rattle.std.specs.Prelude.{◌≡◌, ℕ, ◌+◌, Bool, true, false, not, ◌||◌, ◌==◌, List, [], ◌∷◌, ◌++◌, None, codes}
use Rattle.std.specs.List.{list_all}
use Rattle.ct_lex.specs.Argument.{escaped}
use Rattle.ct_lex.specs.Bytes.{char, is_space, is_gap, begins_word, is_word, is_name, feeds}
use Rattle.ct_lex.specs.Grammar.{opens_with, closes_with, BeginsBracket, IsSpace, IsLineComment, IsLineEnd, IsIdentifier, IsText, IsArgument, IsCommand}
use Rattle.ct_lex.specs.declared.call.Arg.{Arg}
use Rattle.ct_lex.specs.declared.call.ArgKind.{ArgKind}
use Rattle.ct_lex.specs.declared.call.ArgKind.TheVariants.{Bracket, Quoted, Unquoted}
use Rattle.ct_lex.specs.declared.call.Call.{Call}
use Rattle.ct_lex.specs.declared.call.Part.{Part}
use Rattle.ct_lex.specs.declared.fault.LexFault.{LexFault}
use Rattle.ct_lex.specs.declared.fault.LexFault.TheVariants.{OpenString, OpenBracket, OpenCall, BadEscape, BadChar, BadReference}

-- a kind of fault: with a line it is a fault
abbrev pub FaultKind : Type 0
FaultKind = ℕ → LexFault

-- a unit of an argument's text that is broken, with the text behind it: a backslash and a byte that are no
-- escape; `${` and a name that no `}` ends, or no name; `$ENV{` and `$CACHE{`, which are left out
pub data IsBrokenUnit : ArgKind → List ℕ → FaultKind → Type 0 where
  escape : {kind : ArgKind} (byte : ℕ) (text : List ℕ) →
      escaped kind byte ≡ None → IsBrokenUnit kind (codes "\\" ++ (byte ∷ text)) (λ line. BadEscape line)
  no_name : {kind : ArgKind} (text : List ℕ) →
      IsBrokenUnit kind (codes "${}" ++ text) (λ line. BadReference line)
  no_brace : {kind : ArgKind} (name : List ℕ) (byte : ℕ) (text : List ℕ) →
      list_all is_name name ≡ true → is_name byte ≡ false → (byte == char "}") ≡ false →
      IsBrokenUnit kind (codes "${" ++ (name ++ (byte ∷ text))) (λ line. BadReference line)
  environment : {kind : ArgKind} (text : List ℕ) →
      IsBrokenUnit kind (codes "$ENV{" ++ text) (λ line. BadReference line)
  cache : {kind : ArgKind} (text : List ℕ) →
      IsBrokenUnit kind (codes "$CACHE{" ++ text) (λ line. BadReference line)

-- what stands at the end of a text that ends inside an argument's text:
-- nothing, a backslash, or `${` and bytes of a name
pub data IsCutUnit : List ℕ → Type 0 where
  nothing : IsCutUnit []
  backslash : IsCutUnit (codes "\\")
  name : (name : List ℕ) → list_all is_name name ≡ true → IsCutUnit (codes "${" ++ name)

-- the text has no closing of a bracket with n times `=`
abbrev pub HasNoClosing : ℕ → List ℕ → Type 0
HasNoClosing n text = (front back : List ℕ) → text ≡ front ++ (closes_with n ++ back) → ⊥

-- no argument stands directly behind another one: an unquoted argument ends in front of the byte `(` or `"`,
-- any other one in front of each byte but blanks, line feeds, `)` and `#`
abbrev pub touches : ArgKind → ℕ → Bool
touches Unquoted byte = byte == char "(" || byte == char "\""
touches Quoted byte = not (is_gap byte || byte == char ")" || byte == char "#")
touches Bracket byte = not (is_gap byte || byte == char ")" || byte == char "#")

-- an argument that is broken between the first text and the second
pub data IsBrokenArgument : List ℕ → List ℕ → FaultKind → Type 0 where
  paren : (text : List ℕ) → IsBrokenArgument [] (codes "(" ++ text) (λ line. BadChar line)
  bracket : (n : ℕ) (text : List ℕ) →
      HasNoClosing n text → IsBrokenArgument [] (opens_with n ++ text) (λ line. OpenBracket line)
  quoted : {text back : List ℕ} {parts : List Part} → IsText Quoted text parts → IsCutUnit back →
      IsBrokenArgument [] (codes "\"" ++ (text ++ back)) (λ line. OpenString line)
  in_quoted : {text back : List ℕ} {parts : List Part} {kind : FaultKind} →
      IsText Quoted text parts → IsBrokenUnit Quoted back kind →
      IsBrokenArgument (codes "\"" ++ text) back kind
  in_unquoted : {text back : List ℕ} {parts : List Part} {kind : FaultKind} →
      IsText Unquoted text parts → (BeginsBracket text → ⊥) → IsBrokenUnit Unquoted back kind →
      IsBrokenArgument text back kind
  touching : {text : List ℕ} {arg : Arg} (byte : ℕ) (back : List ℕ) →
      IsArgument text arg → touches arg.kind byte ≡ true →
      IsBrokenArgument text (byte ∷ back) (λ line. BadChar line)

-- an unquoted argument in which the text ends
pub data IsCutArgument : List ℕ → Type 0 where
  unquoted : {text back : List ℕ} {parts : List Part} → IsText Unquoted text parts →
      (BeginsBracket text → ⊥) → IsCutUnit back → IsCutArgument (text ++ back)

-- a bracket comment that is not closed
pub data IsOpenComment : List ℕ → Type 0 where
  open_comment : (n : ℕ) (text : List ℕ) →
      HasNoClosing n text → IsOpenComment (codes "#" ++ (opens_with n ++ text))

-- the arguments of a command, broken between the first text and the second
pub data AreBroken : (behind : Bool) → List ℕ → List ℕ → FaultKind → Type 0 where
  space : {behind : Bool} {front text back : List ℕ} {kind : FaultKind} →
      IsSpace front → AreBroken false text back kind → AreBroken behind (front ++ text) back kind
  line_end : {behind : Bool} {front text back : List ℕ} {kind : FaultKind} →
      IsLineEnd front → AreBroken false text back kind → AreBroken behind (front ++ text) back kind
  argument : {front text back : List ℕ} {arg : Arg} {kind : FaultKind} →
      IsArgument front arg → AreBroken true text back kind → AreBroken false (front ++ text) back kind
  in_argument : {text back : List ℕ} {kind : FaultKind} →
      IsBrokenArgument text back kind → AreBroken false text back kind
  in_comment : {behind : Bool} {text : List ℕ} →
      IsOpenComment text → AreBroken behind [] text (λ line. OpenBracket line)

-- the arguments of a command, in which the text ends outside a quoted argument and a bracket
pub data AreCut : (behind : Bool) → List ℕ → Type 0 where
  at_end : {behind : Bool} → AreCut behind []
  in_comment : {behind : Bool} {text : List ℕ} → IsLineComment text → AreCut behind text
  space : {behind : Bool} {front text : List ℕ} →
      IsSpace front → AreCut false text → AreCut behind (front ++ text)
  line_end : {behind : Bool} {front text : List ℕ} →
      IsLineEnd front → AreCut false text → AreCut behind (front ++ text)
  argument : {front text : List ℕ} {arg : Arg} →
      IsArgument front arg → AreCut true text → AreCut false (front ++ text)
  in_argument : {text : List ℕ} → IsCutArgument text → AreCut false text

-- a command that is broken between the first text and the second: in its arguments,
-- or since no `(` follows its name
pub data IsBrokenCommand : List ℕ → List ℕ → FaultKind → Type 0 where
  in_arguments : {text back : List ℕ} {kind : FaultKind} (word spaces : List ℕ) →
      IsIdentifier word → list_all is_space spaces ≡ true → AreBroken false text back kind →
      IsBrokenCommand (word ++ (spaces ++ (codes "(" ++ text))) back kind
  no_paren : (word spaces : List ℕ) (byte : ℕ) (back : List ℕ) →
      IsIdentifier word → list_all is_space spaces ≡ true → (byte == char "(") ≡ false →
      is_space byte ≡ false → (spaces ≡ [] → is_word byte ≡ false) →
      IsBrokenCommand (word ++ spaces) (byte ∷ back) (λ line. BadChar line)

-- a command in which the text ends outside a quoted argument and a bracket
pub data IsCutCommand : List ℕ → Type 0 where
  in_name : (word spaces : List ℕ) →
      IsIdentifier word → list_all is_space spaces ≡ true → IsCutCommand (word ++ spaces)
  in_arguments : {text : List ℕ} (word spaces : List ℕ) →
      IsIdentifier word → list_all is_space spaces ≡ true → AreCut false text →
      IsCutCommand (word ++ (spaces ++ (codes "(" ++ text)))

-- The text from a line on has these commands, and then the fault.
-- A fault has the line of the byte where the text is broken, and OpenCall the line of the command.
pub data IsBroken : (behind : Bool) → (line : ℕ) → List ℕ → List Call → LexFault → Type 0 where
  space : {behind : Bool} {line : ℕ} {front text : List ℕ} {calls : List Call} {fault : LexFault} →
      IsSpace front → IsBroken behind (line + feeds front) text calls fault →
      IsBroken behind line (front ++ text) calls fault
  line_end : {behind : Bool} {line : ℕ} {front text : List ℕ} {calls : List Call} {fault : LexFault} →
      IsLineEnd front → IsBroken false (line + feeds front) text calls fault →
      IsBroken behind line (front ++ text) calls fault
  command : {line : ℕ} {front text name : List ℕ} {args : List Arg} {calls : List Call} {fault : LexFault} →
      IsCommand front name args → IsBroken true (line + feeds front) text calls fault →
      IsBroken false line (front ++ text) (record { name = name; args = args; line = line } ∷ calls) fault
  in_comment : {behind : Bool} {line : ℕ} {text : List ℕ} →
      IsOpenComment text → IsBroken behind line text [] (OpenBracket line)
  no_word : {behind : Bool} {line : ℕ} (byte : ℕ) (text : List ℕ) →
      is_gap byte ≡ false → (byte == char "#") ≡ false → begins_word byte ≡ false →
      IsBroken behind line (byte ∷ text) [] (BadChar line)
  second_word : {line : ℕ} (byte : ℕ) (text : List ℕ) →
      begins_word byte ≡ true → IsBroken true line (byte ∷ text) [] (BadChar line)
  in_command : {line : ℕ} {front text : List ℕ} {kind : FaultKind} →
      IsBrokenCommand front text kind → IsBroken false line (front ++ text) [] (kind (line + feeds front))
  cut : {line : ℕ} {text : List ℕ} → IsCutCommand text → IsBroken false line text [] (OpenCall line)
