-- The tree of the tests of a load. This project's own.
use Rattle.std.specs.Prelude.{ℕ, ◌+◌, ◌-◌, ◌%◌, List, [], ◌∷◌, ◌++◌, flat_map, codes, decimal, ◌==◌, if◌then◌else◌}
use Rattle.std.specs.List.{range_with_len}
use Rattle.ct_base.specs.declared.defs.Pair.{Pair}

-- the numbers of `count` tests, from 1
abbrev pub numbers : ℕ → List ℕ
numbers count = range_with_len 1 count

-- the name of a test
abbrev pub load_test_name : ℕ → List ℕ
load_test_name number = codes "t" ++ decimal number

-- the line that adds a test
abbrev pub add_line : ℕ → List ℕ
add_line number = codes "add_test(" ++ load_test_name number ++ codes " \"true\")\n"

-- the property by which every tenth test waits for the test in front of it
abbrev pub depends : ℕ → List ℕ
depends number =
    if number % 10 == 0 then codes " DEPENDS \"" ++ load_test_name (number - 1) ++ codes "\"" else []

-- the property of the lock that every fourth test holds, one of five
abbrev pub lock : ℕ → List ℕ
lock number = if number % 4 == 0 then codes " RESOURCE_LOCK \"l" ++ decimal (number % 5) ++ codes "\"" else []

-- the line that sets the properties of a test: one to three processors, a cost from 0 to 6, what it waits
-- for, and its lock
abbrev pub properties_line : ℕ → List ℕ
properties_line number =
    codes "set_tests_properties(" ++ load_test_name number
    ++ codes " PROPERTIES PROCESSORS \"" ++ decimal (1 + number % 3)
    ++ codes "\" COST \"" ++ decimal (number % 7)
    ++ codes "\"" ++ depends number ++ lock number ++ codes ")\n"

-- the two lines of a test
abbrev pub lines_of : ℕ → List ℕ
lines_of number = add_line number ++ properties_line number

-- the test file of `count` tests: the lines of each, in order of number
abbrev pub tree_text : ℕ → List ℕ
tree_text count = flat_map lines_of (numbers count)

-- the files of a load: the test file alone
abbrev pub tree_files : ℕ → List Pair
tree_files count = record { name = codes "./CTestTestfile.cmake"; value = tree_text count } ∷ []
