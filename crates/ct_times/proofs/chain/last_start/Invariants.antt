use Rattle.std.proofs.Common.{◌≡◌, ◌<◌, ◌+◌, true, false, take}
use Rattle.std.specs.List.{AllWithin, list_any}
use Rattle.ct_times.specs.Links.{is_start_of_test}
use Rattle.ct_times.proofs.chain.last_start.Given as goal

abbrev pub invariant-loop-begin : goal.invariant-loop-begin
invariant-loop-begin l = record {
  before : l.begin < l.end;
  there : list_any (is_start_of_test l.test) (take (l.begin + 1) l.entries) ≡ true;
  last : AllWithin (λ e. is_start_of_test l.test e ≡ false) l.entries (l.begin + 1) l.end;
}

abbrev pub decreases-loop-begin : goal.decreases-loop-begin
decreases-loop-begin l = l.begin
