-- How CMake writes commands, so that reading the text returns the same commands.
use Rattle.std.specs.Prelude.{◌≡◌, ℕ, ◌+◌, true, false, ◌||◌, ◌==◌, if◌then◌else◌, ⊤, List, [], ◌∷◌, ◌++◌, codes}
use Rattle.std.specs.List.{list_all}
use Rattle.ct_lex.specs.Argument.{with_bytes, is_plain, without_feed}
use Rattle.ct_lex.specs.Bytes.{char, feeds, lower}
use Rattle.ct_lex.specs.Reads.{Reads}
use Rattle.ct_lex.specs.Grammar.{opens_with, closes_with, IsInside, IsIdentifier, IsVariable}
use Rattle.ct_lex.specs.declared.call.Arg.{Arg}
use Rattle.ct_lex.specs.declared.call.ArgKind.{ArgKind}
use Rattle.ct_lex.specs.declared.call.ArgKind.TheVariants.{Bracket, Quoted, Unquoted}
use Rattle.ct_lex.specs.declared.call.Call.{Call}
use Rattle.ct_lex.specs.declared.call.Part.{Part}
use Rattle.ct_lex.specs.declared.call.Part.TheVariants.{Bytes, Ref}

-- a byte as a quoted argument writes it: `"`, a backslash and `$` have a backslash in front
abbrev pub written_byte : ℕ → List ℕ
written_byte byte =
    if byte == char "\"" || byte == char "\\" || byte == char "$" then codes "\\" ++ byte ∷ [] else byte ∷ []

-- bytes as a quoted argument writes them
abbrev pub written_bytes : List ℕ → List ℕ
written_bytes [] = []
written_bytes (byte ∷ bytes) = written_byte byte ++ written_bytes bytes

-- the text of a quoted argument with these parts
abbrev pub written_parts : List Part → List ℕ
written_parts [] = []
written_parts (Bytes bytes ∷ parts) = written_bytes bytes ++ written_parts parts
written_parts (Ref name ∷ parts) = codes "${" ++ (name ++ (codes "}" ++ written_parts parts))

-- the bytes of the parts, without the references
abbrev pub plain_bytes : List Part → List ℕ
plain_bytes [] = []
plain_bytes (Bytes bytes ∷ parts) = bytes ++ plain_bytes parts
plain_bytes (Ref name ∷ parts) = plain_bytes parts

-- an argument as it is written: in a bracket with one `=`, between two `"`, or as it is
abbrev pub written_arg : ArgKind → List Part → List ℕ
written_arg Bracket parts = opens_with 1 ++ (plain_bytes parts ++ closes_with 1)
written_arg Quoted parts = codes "\"" ++ (written_parts parts ++ codes "\"")
written_arg Unquoted parts = plain_bytes parts

-- the arguments behind the first one, each with a space in front of it
abbrev pub written_behind : List Arg → List ℕ
written_behind [] = []
written_behind (arg ∷ args) = codes " " ++ (written_arg arg.kind arg.parts ++ written_behind args)

-- arguments as they are written, with one space between each two
abbrev pub written_args : List Arg → List ℕ
written_args [] = []
written_args (arg ∷ args) = written_arg arg.kind arg.parts ++ written_behind args

-- a command on a line of its own
abbrev pub written_call : Call → List ℕ
written_call call = call.name ++ (codes "(" ++ (written_args call.args ++ codes ")\n"))

-- commands as they are written, one behind another
abbrev pub written : List Call → List ℕ
written [] = []
written (call ∷ calls) = written_call call ++ written calls

-- parts as a reading returns them:
-- no part of bytes is empty or beside another one, and each reference has a name
abbrev pub AreParts : List Part → Type 0
AreParts [] = ⊤
AreParts (Bytes bytes ∷ parts) = (with_bytes bytes parts ≡ Bytes bytes ∷ parts) × AreParts parts
AreParts (Ref name ∷ parts) = IsVariable name × AreParts parts

-- bytes that a bracket with one `=` can hold:
-- no line feed at their front is dropped, and they do not close it
pub record IsInBracket (bytes : List ℕ) : Type 0 where
  pub front : without_feed bytes ≡ bytes
  pub closed : IsInside 1 bytes

-- a word that needs no quotes: one or more plain bytes, of which the first is no `[`
abbrev pub IsPlainWord : List ℕ → Type 0
IsPlainWord [] = ⊥
IsPlainWord (byte ∷ bytes) =
    ((byte == char "[") ≡ false) × (list_all (is_plain Unquoted) (byte ∷ bytes) ≡ true)

-- parts that an argument of that kind can have, and that can be written
abbrev pub IsArg : ArgKind → List Part → Type 0
IsArg Bracket parts = (with_bytes (plain_bytes parts) [] ≡ parts) × IsInBracket (plain_bytes parts)
IsArg Quoted parts = AreParts parts
IsArg Unquoted parts = (with_bytes (plain_bytes parts) [] ≡ parts) × IsPlainWord (plain_bytes parts)

-- arguments that can be written
abbrev pub AreArgs : List Arg → Type 0
AreArgs [] = ⊤
AreArgs (arg ∷ args) = IsArg arg.kind arg.parts × AreArgs args

-- an identifier in lower case
abbrev pub IsCommandName : List ℕ → Type 0
IsCommandName name = IsIdentifier name × (lower name ≡ name)

-- commands that can be written one behind another, the first of them on that line
abbrev pub CanBeWritten : ℕ → List Call → Type 0
CanBeWritten line [] = ⊤
CanBeWritten line (call ∷ calls) =
    IsCommandName call.name
    × AreArgs call.args
    × (call.line ≡ line)
    × CanBeWritten (line + feeds (written_call call)) calls

-- a text that is written for commands in this way is read as exactly these commands
abbrev pub ReadsWritten : List ℕ → Type 0
ReadsWritten text = (calls : List Call) → CanBeWritten 1 calls → text ≡ written calls → Reads text calls
