-- Lines that are put tree by tree: those put so far, and those behind them.
use Rattle.std.proofs.Common.{◌≡◌, ◌∙◌, sym, ap, subst, refl, ℕ, ◌+◌, ◌<◌, ◌≤◌, true, false, List, [], ◌∷◌, ◌++◌, length, drop, get_or, append_assoc, arith, eqb-true}
use Rattle.std.specs.Prelude.{Result, Ok, Err, codes, ◌==◌}
use Rattle.std.proofs.lemmas.List.{append-nil, drop_all}
use Rattle.ct_base.specs.declared.sink.SinkFault.{SinkFault}
use Rattle.ct_base.specs.Outside.{Puts, PutsEach, SinkTell}
use Rattle.ct_history.specs.declared.plan.PlanTest.{PlanTest}
use Rattle.ct_history.specs.declared.plan.PlanParts.{PlanParts}
use Rattle.ct_history.specs.declared.history.Entry.{Entry}
use Rattle.ct_history.specs.declared.history.History.{History}
use Rattle.ct_history.specs.Parts.{without_stop}
use Rattle.ct_history.specs.Verdicts.{are_all_final}
use Rattle.ct_report.specs.PutLines.{PutsLines}
use Rattle.ct_report.specs.Report.{header_line, summary_lines}
use Rattle.ct_report.proofs.PutLemmas.{lines_as, lines_more, lines_nothing, lines_then, one_line}
use Rattle.ct_plan.proofs.WholeLemmas.{trees_from}
use Rattle.ct_trees.specs.declared.joining.TreeRest.{TreeRest}
use Rattle.ct_trees.specs.TreeParts.{AreEnded, entries_of_each, parts_behind}
use Rattle.ct_trees.specs.TreeReports.{header_lines, summaries_behind, summaries_of_parts, summary_for, tree_lines, tree_part, tree_summary}
use Rattle.ct_trees.proofs.NextTreeLemmas.{both_from}

-- some first lines were put, and these are left
pub record ArePutSoFar (all left : List (List ℕ)) (before now : SinkTell) : Type 0 where
  pub front : List (List ℕ)
  pub split : all ≡ front ++ left
  pub put : PutsLines front before now (Ok tt)

-- no line was put
pub none_put : (all : List (List ℕ)) (sink : SinkTell) → ArePutSoFar all all sink sink
none_put all sink = record { front = []; split = refl; put = lines_nothing sink }

-- all lines were put
pub all_put : (all : List (List ℕ)) (old new : SinkTell) → ArePutSoFar all [] old new → PutsLines all old new (Ok tt)
all_put all old new so_far = lines_as (sym (so_far.split ∙ append-nil so_far.front)) so_far.put

module _ (all next left : List (List ℕ)) (old mid new : SinkTell) (so_far : ArePutSoFar all (next ++ left) old mid) where
  -- the next lines were put
  pub next_put : PutsLines next mid new (Ok tt) → ArePutSoFar all left old new
  next_put put = record {
    front = so_far.front ++ next;
    split = so_far.split ∙ sym (append_assoc so_far.front next left);
    put = lines_then old mid new so_far.front next (Ok tt) so_far.put put;
  }

  -- the put of the next lines failed
  pub next_fails : (fault : SinkFault) → PutsLines next mid new (Err fault) → PutsLines all old new (Err fault)
  next_fails fault put =
      lines_as (sym (so_far.split ∙ sym (append_assoc so_far.front next left)))
      (lines_more old new (so_far.front ++ next) left fault (lines_then old mid new so_far.front next (Err fault) so_far.put put))

-- the headers of trees
module _ (trees : List TreeRest) (at : ℕ) (old mid : SinkTell) (so_far : ArePutSoFar (header_lines trees) (header_lines (drop at trees)) old mid) where
  pub headers_end : length trees ≤ at → PutsLines (header_lines trees) old mid (Ok tt)
  headers_end none = all_put (header_lines trees) old mid (subst (λ (ts : List TreeRest). ArePutSoFar (header_lines trees) (header_lines ts) old mid) (drop_all at trees none) so_far)

  module _ (tree : TreeRest) (within : at < length trees) (is : tree ≡ get_or trees at tree) (new : SinkTell) where
    here : ArePutSoFar (header_lines trees) ((header_line tree.plan ∷ []) ++ header_lines (drop (at + 1) trees)) old mid
    here = subst (λ (ts : List TreeRest). ArePutSoFar (header_lines trees) (header_lines ts) old mid) (trees_from trees at tree within is) so_far

    -- the header of the next tree was put
    pub header_next : Puts (header_line tree.plan) mid new (Ok tt) → PutsEach (header_line tree.plan ∷ []) mid new (Ok tt) → ArePutSoFar (header_lines trees) (header_lines (drop (at + 1) trees)) old new
    header_next put each = next_put (header_lines trees) (header_line tree.plan ∷ []) (header_lines (drop (at + 1) trees)) old mid new here (one_line mid new (header_line tree.plan) (Ok tt) put each)

    -- the put of the next header failed
    pub header_stops : (fault : SinkFault) → Puts (header_line tree.plan) mid new (Err fault) → PutsEach (header_line tree.plan ∷ []) mid new (Err fault) → PutsLines (header_lines trees) old new (Err fault)
    header_stops fault put each = next_fails (header_lines trees) (header_line tree.plan ∷ []) (header_lines (drop (at + 1) trees)) old mid new here fault (one_line mid new (header_line tree.plan) (Err fault) put each)

-- the lines of a tree: a blank line, its folder, its summary
module _ (blank line : List ℕ) (rest : List (List ℕ)) (old : SinkTell) where
  pub blank_fails : (new : SinkTell) (fault : SinkFault) → PutsLines (blank ∷ []) old new (Err fault) → PutsLines (blank ∷ line ∷ rest) old new (Err fault)
  blank_fails new fault put = lines_more old new (blank ∷ []) (line ∷ rest) fault put

  pub folder_fails : (one new : SinkTell) (fault : SinkFault) → PutsLines (blank ∷ []) old one (Ok tt) → PutsLines (line ∷ []) one new (Err fault) → PutsLines (blank ∷ line ∷ rest) old new (Err fault)
  folder_fails one new fault first second = lines_then old one new (blank ∷ []) (line ∷ rest) (Err fault) first (lines_more one new (line ∷ []) rest fault second)

  pub summary_behind_folder : (one two new : SinkTell) (result : Result (Unit {0}) SinkFault) → PutsLines (blank ∷ []) old one (Ok tt) → PutsLines (line ∷ []) one two (Ok tt) → PutsLines rest two new result → PutsLines (blank ∷ line ∷ rest) old new result
  summary_behind_folder one two new result first second third = lines_then old one new (blank ∷ []) (line ∷ rest) result first (lines_then one two new (line ∷ []) rest result second third)

-- a plan without tests has its line as summary
pub summary_of_none : (plan : PlanParts) (part : List Entry) (old new : SinkTell) (result : Result (Unit {0}) SinkFault) → (length plan.tests == 0) ≡ true → PutsLines (codes "No tests were found!!!\n" ∷ []) old new result → PutsLines (tree_summary plan part) old new result
summary_of_none plan part old new result none put = lines_as (by_tests plan.tests none) put
  where
    by_tests : (ts : List PlanTest) → (length ts == 0) ≡ true → codes "No tests were found!!!\n" ∷ [] ≡ summary_for ts (without_stop plan) part
    by_tests [] is = refl
    by_tests (t ∷ ts) is = absurd (omega (arith, eqb-true (length (t ∷ ts)) 0 is))

-- a plan with tests has the summary of its own
pub summary_of_some : (plan : PlanParts) (part : List Entry) (old new : SinkTell) (result : Result (Unit {0}) SinkFault) → (length plan.tests == 0) ≡ false → PutsLines (summary_lines plan part) old new result → PutsLines (tree_summary plan part) old new result
summary_of_some plan part old new result some put = lines_as (by_tests plan.tests some) put
  where
    same : summary_lines plan part ≡ summary_lines (without_stop plan) part
    same = refl

    by_tests : (ts : List PlanTest) → (length ts == 0) ≡ false → summary_lines plan part ≡ summary_for ts (without_stop plan) part
    by_tests [] is = absurd (let no : true ≡ false = is in cc)
    by_tests (t ∷ ts) is = same

-- the lines of trees by their parts are those by the history of all
summaries_by_parts : (trees : List TreeRest) (offset : ℕ) (entries : List Entry) → summaries_of_parts trees (parts_behind offset trees entries) ≡ summaries_behind offset trees entries
summaries_by_parts [] offset entries = refl
summaries_by_parts (tree ∷ trees) offset entries = ap (λ (ls : List (List ℕ)). tree_lines tree.plan (tree_part offset tree entries) ++ ls) (summaries_by_parts trees (offset + tree.defined) entries)

-- the lines of trees were put by their parts
pub put_by_parts : (trees : List TreeRest) (entries : List Entry) (parts : List (List Entry)) → parts ≡ parts_behind 0 trees entries → (old new : SinkTell) (result : Result (Unit {0}) SinkFault) → PutsLines (summaries_of_parts trees parts) old new result → PutsLines (summaries_behind 0 trees entries) old new result
put_by_parts trees entries parts are old new result put = lines_as (ap (λ (ps : List (List Entry)). summaries_of_parts trees ps) are ∙ summaries_by_parts trees 0 entries) put

-- the lines of the trees in front of this place were put
pub record AreSummariesTo (trees : List TreeRest) (parts : List History) (at : ℕ) (before now : SinkTell) : Type 0 where
  pub so_far : ArePutSoFar (summaries_of_parts trees (entries_of_each parts)) (summaries_of_parts (drop at trees) (entries_of_each (drop at parts))) before now
  pub ended : AreEnded (drop at trees) (entries_of_each (drop at parts))

-- the lines of no tree were put
pub first_summary : (trees : List TreeRest) (parts : List History) (sink : SinkTell) → AreEnded trees (entries_of_each parts) → AreSummariesTo trees parts 0 sink sink
first_summary trees parts sink ended = record { so_far = none_put (summaries_of_parts trees (entries_of_each parts)) sink; ended = ended }

module _ (trees : List TreeRest) (parts : List History) (at : ℕ) (old mid : SinkTell) (to : AreSummariesTo trees parts at old mid) where
  abbrev all : List (List ℕ)
  all = summaries_of_parts trees (entries_of_each parts)

  -- the lines of all trees were put
  pub all_summaries : length trees ≤ at → PutsLines (summaries_of_parts trees (entries_of_each parts)) old mid (Ok tt)
  all_summaries none = all_put all old mid (subst (λ (ts : List TreeRest). ArePutSoFar all (summaries_of_parts ts (entries_of_each (drop at parts))) old mid) (drop_all at trees none) to.so_far)

  -- the next tree
  module _ (tree : TreeRest) (part : History) (within : at < length trees) (tree_is : tree ≡ get_or trees at tree) (there : at < length parts) (part_is : part ≡ get_or parts at part) where
    abbrev behind : List (List ℕ)
    behind = summaries_of_parts (drop (at + 1) trees) (entries_of_each (drop (at + 1) parts))

    ended_here : AreEnded (tree ∷ drop (at + 1) trees) (part.entries.items ∷ entries_of_each (drop (at + 1) parts))
    ended_here = both_from trees parts at tree part within tree_is there part_is AreEnded to.ended

    pub final_there : are_all_final tree.plan part.entries.items ≡ true
    final_there = ended_here.0

    next_lines : ArePutSoFar all (tree_lines tree.plan part.entries.items ++ behind) old mid
    next_lines = both_from trees parts at tree part within tree_is there part_is (λ ts ps. ArePutSoFar all (summaries_of_parts ts ps) old mid) to.so_far

    -- the lines of the next tree were put
    pub summary_next : (new : SinkTell) → PutsLines (tree_lines tree.plan part.entries.items) mid new (Ok tt) → AreSummariesTo trees parts (at + 1) old new
    summary_next new put = record { so_far = next_put all (tree_lines tree.plan part.entries.items) behind old mid new next_lines put; ended = ended_here.1 }

    -- the put of the lines of the next tree failed
    pub summary_fails : (new : SinkTell) (fault : SinkFault) → PutsLines (tree_lines tree.plan part.entries.items) mid new (Err fault) → PutsLines (summaries_of_parts trees (entries_of_each parts)) old new (Err fault)
    summary_fails new fault put = next_fails all (tree_lines tree.plan part.entries.items) behind old mid new next_lines fault put
