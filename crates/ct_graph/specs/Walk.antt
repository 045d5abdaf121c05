-- A walk from each test to the tests before it. It takes a test once all
-- before it are taken. This project's own.
use Rattle.std.specs.Prelude.{◌≡◌, ℕ, ◌+◌, ◌*◌, ◌<◌, ◌≤◌, ⊤, Bool, true, false, List, [], ◌∷◌, length, take, reverse, slice_index_or, All, count_by, nat_lt, ◌==◌, if◌then◌else◌}
use Rattle.std.specs.List.{list_any, list_all}
use Rattle.ct_base.specs.Numbers.{is_in}
use Rattle.ct_graph.specs.Cycle.{is_cycle}
use Rattle.ct_graph.specs.declared.fault.GraphFault.{GraphFault}
use Rattle.ct_graph.specs.declared.fault.GraphFault.TheVariants.{Cycle, TooManyEdges, NoMemory}
use Rattle.ct_graph.specs.declared.walk.Mark.{Mark}
use Rattle.ct_graph.specs.declared.walk.Mark.TheVariants.{Unseen, Open, Taken}
use Rattle.ct_graph.specs.declared.walk.Step.{Step}
use Rattle.ct_graph.specs.declared.walk.Walk.{Walk}

-- the tests before a test
abbrev pub row_of : List (List ℕ) → ℕ → List ℕ
row_of rows test = slice_index_or rows test []

-- each test that comes before another one has a row
abbrev pub AreWithin : List (List ℕ) → Type 0
AreWithin rows = All (λ row. All (λ j. j < length rows) row) rows

-- how far the walk has come with a test
abbrev pub mark_of : List Mark → ℕ → Mark
mark_of marks test = slice_index_or marks test Unseen

-- the walk has not come to the test
abbrev pub is_unseen : Mark → Bool
is_unseen Unseen = true
is_unseen Open = false
is_unseen (Taken rank) = false

-- the walk has taken the test
abbrev pub is_ranked : Mark → Bool
is_ranked Unseen = false
is_ranked Open = false
is_ranked (Taken rank) = true

-- the rank of a test that is taken
abbrev pub rank_of : Mark → ℕ
rank_of Unseen = 0
rank_of Open = 0
rank_of (Taken rank) = rank

-- the test is taken with a rank below this one
abbrev pub is_taken_below : ℕ → Mark → Bool
is_taken_below rank Unseen = false
is_taken_below rank Open = false
is_taken_below rank (Taken other) = nat_lt other rank

-- the tests are taken
abbrev pub are_taken : List Mark → List ℕ → Bool
are_taken marks tests = list_all (λ j. is_ranked (mark_of marks j)) tests

-- the tests are taken with ranks below this one
abbrev pub are_taken_below : List Mark → ℕ → List ℕ → Bool
are_taken_below marks rank tests = list_all (λ j. is_taken_below rank (mark_of marks j)) tests

-- the test stands on the trail
abbrev pub is_on : List Step → ℕ → Bool
is_on trail test = list_any (λ (s : Step). s.test == test) trail

-- the test is before the one that the trail came from, if it came from one
abbrev pub is_before_last : List (List ℕ) → List Step → ℕ → Bool
is_before_last rows [] test = true
is_before_last rows (s ∷ trail) test = is_in (row_of rows s.test) test

-- a step of the trail: an open test, whose first tests of the row were looked at and are taken
pub record IsStep (rows : List (List ℕ)) (marks : List Mark) (s : Step) : Type 0 where
  pub within : s.test < length rows
  pub open_mark : mark_of marks s.test ≡ Open
  pub few : s.looked ≤ length (row_of rows s.test)
  pub looked_at : are_taken marks (take s.looked (row_of rows s.test)) ≡ true

-- the trail, the newest step first: each test stands once on it, and is before the one behind it
abbrev pub IsTrail : List (List ℕ) → List Mark → List Step → Type 0
IsTrail rows marks [] = Unit {0}
IsTrail rows marks (s ∷ trail) =
    IsStep rows marks s
    × (is_before_last rows trail s.test ≡ true)
    × (is_on trail s.test ≡ false)
    × IsTrail rows marks trail

-- each test that is taken has a greater rank than all before it, which are taken too
abbrev pub AreRanked : List (List ℕ) → List Mark → Type 0
AreRanked rows marks =
    (test rank : ℕ) → mark_of marks test ≡ Taken rank → are_taken_below marks rank (row_of rows test) ≡ true

-- what holds throughout the walk: the taken tests are ranked and counted, and each
-- other test is unseen or on the trail
pub record IsWalk (rows : List (List ℕ)) (marks : List Mark) (trail : List Step) (taken : ℕ) : Type 0 where
  pub marked : length marks ≡ length rows
  pub ranked : AreRanked rows marks
  pub below : (test rank : ℕ) → mark_of marks test ≡ Taken rank → rank < taken
  pub is_trail : IsTrail rows marks trail
  pub on_trail : (test : ℕ) → mark_of marks test ≡ Open → is_on trail test ≡ true
  pub count : taken + count_by is_unseen marks + length trail ≡ length rows

-- the trail of a walk, the newest step first
abbrev pub trail_of : Walk → List Step
trail_of walk = reverse walk.path.items

-- what holds of a walk
abbrev pub Keeps : List (List ℕ) → Walk → Type 0
Keeps rows walk = IsWalk rows walk.marks.items (trail_of walk) walk.taken

-- how many steps are left at most: one to open each unseen test, and one to take each test that is not taken
abbrev pub steps_left : List Mark → List Step → ℕ
steps_left marks trail = 2 * count_by is_unseen marks + length trail

-- the walk goes on: no test that was seen is unseen again, and each taken test stays taken
pub record WalksOn (before now : List Mark) : Type 0 where
  pub seen : (test : ℕ) → is_unseen (mark_of before test) ≡ false → is_unseen (mark_of now test) ≡ false
  pub taken : (test : ℕ) → is_ranked (mark_of before test) ≡ true → is_ranked (mark_of now test) ≡ true

-- the tests of the trail up to this one, in front of others
abbrev pub back_to : ℕ → List Step → List ℕ → List ℕ
back_to first [] tests = tests
back_to first (s ∷ trail) tests =
    if s.test == first then s.test ∷ tests else back_to first trail (s.test ∷ tests)

-- why a walk ends: at a cycle, or for want of memory
abbrev pub EndsWalk : List (List ℕ) → GraphFault → Type 0
EndsWalk rows (Cycle tests) = is_cycle (row_of rows) tests ≡ true
EndsWalk rows TooManyEdges = ⊥
EndsWalk rows NoMemory = ⊤
