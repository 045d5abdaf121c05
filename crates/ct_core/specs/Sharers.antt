-- The locks that the tests of a plan share, and how many open tests share each. This project's own.
use Rattle.std.specs.Prelude.{ℕ, Bool, false, List, is_some, nat_lt, unwrap_or, if◌then◌else◌}
use Rattle.ct_core.specs.declared.sharers.SharerCount.{SharerCount}
use Rattle.ct_core.specs.declared.sharers.Sharers.{Sharers}
use Rattle.ct_core.specs.Locks.{noted_for}

-- the sharers of the lock are counted
abbrev pub counts_sharers : Sharers → List ℕ → Bool
counts_sharers sharers name = is_some (noted_for sharers.counts name)

-- what is counted for a lock that no test of the plan shares
abbrev pub no_test : SharerCount
no_test = record { tests = 0; marked = false }

-- what is counted for the lock
abbrev pub count_of : Sharers → List ℕ → SharerCount
count_of sharers name = unwrap_or (noted_for sharers.counts name) no_test

-- how many open tests share the lock
abbrev pub sharers_of : Sharers → List ℕ → ℕ
sharers_of sharers name = (count_of sharers name).tests

-- the list that is counted has named the lock
abbrev pub has_mark : Sharers → List ℕ → Bool
has_mark sharers name = (count_of sharers name).marked

-- some open test shares the lock
abbrev pub is_shared : Sharers → List ℕ → Bool
is_shared sharers name = nat_lt 0 (sharers_of sharers name)

-- a test counts once, if it does
abbrev pub one_if : Bool → ℕ
one_if is = if is then 1 else 0
