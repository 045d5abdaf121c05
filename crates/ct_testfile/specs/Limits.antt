-- The limits of a tree of test files. This project's own.
use Rattle.ct_testfile.specs.declared.limits.Limits.{Limits}
use Rattle.ct_testfile.specs.declared.limits.TheConstants.{LIMITS}

-- how much of a tree is read: the bytes of a file and of all files, those of a value and of all values, the
-- files open inside one another, the commands, and the tests
abbrev pub tree_limits : Limits
tree_limits = LIMITS
