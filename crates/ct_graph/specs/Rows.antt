-- The graph of the members: at the number of each test, the members before it. This project's own.
use Rattle.std.specs.Prelude.{◌≡◌, ℕ, ◌+◌, ◌<◌, ⊤, List, [], length, if◌then◌else◌}
use Rattle.ct_base.specs.Numbers.{is_in}
use Rattle.ct_graph.specs.Before.{before_of, setups_of}
use Rattle.ct_graph.specs.Order.{edges_of}
use Rattle.ct_graph.specs.Walk.{row_of, mark_of, rank_of}
use Rattle.ct_graph.specs.declared.fault.GraphFault.{GraphFault}
use Rattle.ct_graph.specs.declared.fault.GraphFault.TheVariants.{Cycle, TooManyEdges, NoMemory}
use Rattle.ct_graph.specs.declared.index.Index.{Index}
use Rattle.ct_graph.specs.declared.ordering.Links.{Links}
use Rattle.ct_graph.specs.declared.walk.Mark.{Mark}

-- the members that come before a test
abbrev pub before_in : Index → ℕ → List ℕ
before_in index = before_of index.defs.now index.props.now index.members.now

-- the members that set up a fixture which a test requires
abbrev pub setups_in : Index → ℕ → List ℕ
setups_in index = setups_of index.props.now index.members.now

-- how many tests come before the members, counted for each of them
abbrev pub edges_in : Index → ℕ
edges_in index = edges_of index.defs.now index.props.now index.members.now

-- each member has its row, and each other number has an empty one; there is one row more than tests
pub record AreRows (before : ℕ → List ℕ) (tests : ℕ) (members : List ℕ) (rows : List (List ℕ)) : Type 0 where
  pub count : length rows ≡ tests + 1
  pub rows_are : (number : ℕ) → row_of rows number ≡ (if is_in members number then before number else [])

-- why the rows are not made: too many edges, or want of memory
abbrev pub EndsRows : ℕ → Index → GraphFault → Type 0
EndsRows most index (Cycle tests) = ⊥
EndsRows most index TooManyEdges = most < edges_in index
EndsRows most index NoMemory = ⊤

-- the links of a member
abbrev pub links_of : (ℕ → List ℕ) → List (List ℕ) → List Mark → ℕ → Links
links_of setups rows marks number =
    record {
      number = number;
      before = row_of rows number;
      setups = setups number;
      rank = rank_of (mark_of marks number);
    }
