-- The commands of the tree of a load. This project's own.
use Rattle.std.specs.Prelude.{ℕ, ◌+◌, ◌-◌, ◌%◌, List, [], ◌∷◌, ◌++◌, codes, decimal, ◌==◌, if◌then◌else◌}
use Rattle.ct_lex.specs.Bytes.{feeds}
use Rattle.ct_lex.specs.Written.{written_call}
use Rattle.ct_lex.specs.declared.call.Arg.{Arg}
use Rattle.ct_lex.specs.declared.call.ArgKind.TheVariants.{Quoted, Unquoted}
use Rattle.ct_lex.specs.declared.call.Call.{Call}
use Rattle.ct_lex.specs.declared.call.Part.TheVariants.{Bytes}
use Rattle.ct_load.specs.Tree.{load_test_name}

-- an argument without quotes
abbrev pub bare_arg : List ℕ → Arg
bare_arg text = record { kind = Unquoted; parts = Bytes text ∷ [] }

-- an argument between two `"`
abbrev pub quoted_arg : List ℕ → Arg
quoted_arg text = record { kind = Quoted; parts = Bytes text ∷ [] }

-- the arguments by which every tenth test waits for the test in front of it
abbrev pub depends_args : ℕ → List Arg
depends_args number =
    if number % 10 == 0 then bare_arg (codes "DEPENDS") ∷ quoted_arg (load_test_name (number - 1)) ∷ [] else []

-- the arguments of the lock that every fourth test holds
abbrev pub lock_args : ℕ → List Arg
lock_args number =
    if number % 4 == 0
    then bare_arg (codes "RESOURCE_LOCK") ∷ quoted_arg (codes "l" ++ decimal (number % 5)) ∷ []
    else []

-- the command on this line that adds a test
abbrev pub add_call : ℕ → ℕ → Call
add_call line number = record {
  name = codes "add_test";
  args = bare_arg (load_test_name number) ∷ quoted_arg (codes "true") ∷ [];
  line = line;
}

-- the command on this line that sets the properties of a test
abbrev pub properties_call : ℕ → ℕ → Call
properties_call line number = record {
  name = codes "set_tests_properties";
  args = bare_arg (load_test_name number) ∷ bare_arg (codes "PROPERTIES")
      ∷ bare_arg (codes "PROCESSORS") ∷ quoted_arg (decimal (1 + number % 3))
      ∷ bare_arg (codes "COST") ∷ quoted_arg (decimal (number % 7))
      ∷ (depends_args number ++ lock_args number);
  line = line;
}

-- the line behind a command as it is written
abbrev pub line_after : Call → ℕ
line_after call = call.line + feeds (written_call call)

-- the two commands of each of these tests, from this line on
abbrev pub test_calls : ℕ → List ℕ → List Call
test_calls line [] = []
test_calls line (number ∷ numbers) =
    add_call line number ∷ properties_call (line_after (add_call line number)) number
    ∷ test_calls (line_after (properties_call (line_after (add_call line number)) number)) numbers
