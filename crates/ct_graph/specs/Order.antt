-- The order of the tests of a run, or why there is none. Source: CMake manual, cmake-properties(7), DEPENDS
-- and FIXTURES_REQUIRED. The limit, and which cycle is answered, are this project's choice.
use Rattle.std.specs.Prelude.{◌≡◌, ℕ, ◌<◌, ◌≤◌, ⊤, Bool, true, false, List, length, map, find, sum_by, nat_lt, Option, Some, None, Result, Ok, Err, ◌==◌}
use Rattle.std.specs.List.{list_all}
use Rattle.ct_base.specs.declared.defs.TestDef.{TestDef}
use Rattle.ct_props.specs.declared.props.Props.{Props}
use Rattle.ct_graph.specs.Before.{before_of, setups_of}
use Rattle.ct_graph.specs.Cycle.{is_cycle}
use Rattle.ct_graph.specs.declared.ordering.Links.{Links}
use Rattle.ct_graph.specs.declared.ordering.Ordered.{Ordered}
use Rattle.ct_graph.specs.declared.ordering.TheConstants.{MOST_EDGES}
use Rattle.ct_graph.specs.declared.fault.GraphFault.{GraphFault}
use Rattle.ct_graph.specs.declared.fault.GraphFault.TheVariants.{Cycle, TooManyEdges, NoMemory}

-- the greatest edge count: how many tests may come before the tests of a run, summed over those tests
abbrev pub most_edges : ℕ
most_edges = MOST_EDGES

-- how many tests come before the members, counted for each member
abbrev pub edges_of : List TestDef → List Props → List ℕ → ℕ
edges_of defs props members = sum_by (λ number. length (before_of defs props members number)) members

-- the links of the test with this number
abbrev pub links_at : List Links → ℕ → Option Links
links_at links number = find (λ (l : Links). l.number == number) links

-- the links are there, and their rank is below this one
abbrev pub ranks_below : ℕ → Option Links → Bool
ranks_below rank None = false
ranks_below rank (Some l) = nat_lt l.rank rank

-- each test that comes before this one has a lesser rank
abbrev pub ranks_above_all : List Links → Links → Bool
ranks_above_all links l = list_all (λ j. ranks_below l.rank (links_at links j)) l.before

-- an order of the members: each with the members before it, its setups, and a
-- rank above the ranks of those before
pub record IsOrder (defs : List TestDef) (props : List Props) (members : List ℕ) (links : List Links)
    : Type 0 where
  pub numbers : map (λ (l : Links). l.number) links ≡ members
  pub before : map (λ (l : Links). l.before) links ≡ map (before_of defs props members) members
  pub setups : map (λ (l : Links). l.setups) links ≡ map (setups_of props members) members
  pub ranks : list_all (ranks_above_all links) links ≡ true

-- what is answered where at most `most` edges are allowed: an order; a cycle; that there are more edges; or
-- want of memory, which may be answered at any time
abbrev pub IsAnswer : ℕ → List TestDef → List Props → List ℕ → Result Ordered GraphFault → Type 0
IsAnswer most defs props members (Ok ordered) =
    (edges_of defs props members ≤ most) × IsOrder defs props members ordered.links
IsAnswer most defs props members (Err (Cycle tests)) =
    (edges_of defs props members ≤ most) × (is_cycle (before_of defs props members) tests ≡ true)
IsAnswer most defs props members (Err TooManyEdges) = most < edges_of defs props members
IsAnswer most defs props members (Err NoMemory) = ⊤
