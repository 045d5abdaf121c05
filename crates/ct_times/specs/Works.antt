-- The work of each test of a history, in a map. This project's own.
use Rattle.std.specs.Prelude.{◌≡◌, ℕ, List, nat_eq, unwrap_or}
use Rattle.indexmap.specs.IndexMap.{IndexMap, get}
use Rattle.ct_history.specs.declared.history.Entry.{Entry}
use Rattle.ct_times.specs.Capacity.{work}

-- the number that a map has of a test, 0 without one
abbrev pub kept_at : {S : Type 0} → IndexMap ℕ ℕ S → ℕ → ℕ
kept_at map test = unwrap_or (get nat_eq map test) 0

-- the map has the work of each test
abbrev pub AreWorks : {S : Type 0} → IndexMap ℕ ℕ S → List Entry → Type 0
AreWorks works entries = (test : ℕ) → kept_at works test ≡ work test entries
