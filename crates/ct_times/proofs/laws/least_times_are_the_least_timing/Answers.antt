use Rattle.ct_times.proofs.TimingLemmas.{least_is_timing, least_of_timings}
use Rattle.ct_times.proofs.laws.least_times_are_the_least_timing.Goals as goal

pub returns-clause-timing : goal.returns-clause-timing
returns-clause-timing c = least_is_timing

pub returns-clause-least : goal.returns-clause-least
returns-clause-least c = least_of_timings
