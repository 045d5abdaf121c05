-- The lines of a report that are put one behind the other in a loop.
use Rattle.std.proofs.Common.{◌≡◌, ◌∙◌, ap, sym, subst, ℕ, ◌+◌, ◌<◌, ◌≤◌, List, [], ◌∷◌, ◌++◌, length, get_or, drop, add-one}
use Rattle.std.specs.Prelude.{slice_get}
use Rattle.std.proofs.Math.ListN.{drop_of_length-le}
use Rattle.std.proofs.Math.Seq.{drop-cons}
use Rattle.ct_base.specs.Outside.{SinkTell}
use Rattle.ct_history.specs.declared.plan.PlanTest.{PlanTest}
use Rattle.ct_history.specs.declared.plan.PlanParts.{PlanParts}
use Rattle.ct_times.specs.declared.chain.Link.{Link}
use Rattle.ct_explain.specs.declared.wait.Wait.{Wait}
use Rattle.ct_explain.specs.declared.story.Story.{Story}
use Rattle.ct_explain.specs.Report.{attempt_line, waited_lines, work_lines, works_lines}
use Rattle.ct_explain.proofs.PutLemmas.{LeavesToPut}

-- from a place on stand the item there and those behind it
drop_step : {A : Type 0} (xs : List A) (at : ℕ) (other : A) → at < length xs → drop at xs ≡ get_or xs at other ∷ drop (at + 1) xs
drop_step xs at other within = rw add-one (drop-cons xs at other within)

-- an attempt of no test
abbrev pub no_link : Link
no_link = record { test = 0; attempt = 0; start = 0; micros = 0; begin = 0; end = 0 }

-- the next attempt is the first one that is left
pub waited_left : (plan : PlanParts) (waits : List Wait) (at : ℕ) (links : List Link) (all : List (List ℕ)) (old mid : SinkTell) → at < length links → LeavesToPut all (waited_lines plan waits at (drop at links)) old mid → LeavesToPut all ((attempt_line plan (get_or links at no_link) (slice_get waits at) ∷ []) ++ waited_lines plan waits (at + 1) (drop (at + 1) links)) old mid
waited_left plan waits at links all old mid within left = subst (λ (ls : List Link). LeavesToPut all (waited_lines plan waits at ls) old mid) (drop_step links at no_link within) left

-- behind the last attempt none is left
pub waited_none : (plan : PlanParts) (waits : List Wait) (at : ℕ) (links : List Link) (all : List (List ℕ)) (old mid : SinkTell) → length links ≤ at → LeavesToPut all (waited_lines plan waits at (drop at links)) old mid → LeavesToPut all [] old mid
waited_none plan waits at links all old mid past left = subst (λ (ls : List Link). LeavesToPut all (waited_lines plan waits at ls) old mid) (drop_of_length-le links past) left

-- the next test is the first one that is left
pub works_left : (plan : PlanParts) (story : Story) (tests : List PlanTest) (at : ℕ) (test : PlanTest) (all : List (List ℕ)) (old mid : SinkTell) → at < length tests → test ≡ get_or tests at test → LeavesToPut all (works_lines plan story (drop at tests)) old mid → LeavesToPut all (work_lines plan story test ++ works_lines plan story (drop (at + 1) tests)) old mid
works_left plan story tests at test all old mid within is left =
    subst (λ (ts : List PlanTest). LeavesToPut all (works_lines plan story ts) old mid) (drop_step tests at test within ∙ ap (λ (t : PlanTest). t ∷ drop (at + 1) tests) (sym is)) left

-- behind the last test none is left
pub works_none : (plan : PlanParts) (story : Story) (tests : List PlanTest) (at : ℕ) (all : List (List ℕ)) (old mid : SinkTell) → length tests ≤ at → LeavesToPut all (works_lines plan story (drop at tests)) old mid → LeavesToPut all [] old mid
works_none plan story tests at all old mid past left = subst (λ (ts : List PlanTest). LeavesToPut all (works_lines plan story ts) old mid) (drop_of_length-le tests past) left
