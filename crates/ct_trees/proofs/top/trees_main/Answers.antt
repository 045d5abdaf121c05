use Rattle.std.proofs.Common.{◌≡◌, ◌∙◌, List, ℕ, sym, subst, length, drop, ◌++◌, map}
use Rattle.std.specs.Prelude.{option_map}
use Rattle.std.proofs.Math.ListN.{take}
use Rattle.ct_app.specs.Ends.{ReportsEnd, history_entries}
use Rattle.ct_worker.proofs.PartLemmas.{front_of}
use Rattle.ct_trees.specs.TreeAnswers.{EndsTrees}
use Rattle.ct_trees.specs.TreeRuns.{sides_of_run}
use Rattle.ct_trees.proofs.TreeCompleteLemmas.{trees_complete}
use Rattle.ct_trees.proofs.TreeGateLemmas.{trees_in_order}
use Rattle.ct_trees.proofs.TreeMeantLemmas.{trees_as_meant}
use Rattle.ct_trees.proofs.top.trees_main.Goals as goal

pub returns-clause-answer : goal.returns-clause-answer
returns-clause-answer g c =
    let ran = c.run_words-ended in
    let gates = c.args.gates in
    let now = ran.new.gates in
    let back : take gates.len (now ++ drop (length now) gates.items) ≡ now = front_of gates.len now (drop (length now) gates.items) (ran.auto.gates ∙ c.as_mut_slice.ensures.len) in
    record {
      place = ran.result.tree;
      names = ran.result.names;
      ended = ran.result.ended;
      middle = g.S.Sink.tells ran.result.sink;
      ends =
          subst (λ (gs : List _). EndsTrees c.args.words.now c.args.env.now (sides_of_run (g.F.Files.tells c.args.files) (g.F.Files.tells ran.new.files) (map g.G.Gate.tells gates.items) (map g.G.Gate.tells gs) (g.S.Sink.tells c.args.sink) (g.S.Sink.tells ran.result.sink)) (record { tree = ran.result.tree; plans = ran.result.plans; whole = ran.result.whole; history = option_map history_entries ran.result.history }) ran.result.names ran.result.ended) (sym back)
          (subst (λ (gs : List _). EndsTrees c.args.words.now c.args.env.now (sides_of_run (g.F.Files.tells c.args.files) (g.F.Files.tells ran.new.files) (map g.G.Gate.tells gs) (map g.G.Gate.tells now) (g.S.Sink.tells c.args.sink) (g.S.Sink.tells ran.result.sink)) (record { tree = ran.result.tree; plans = ran.result.plans; whole = ran.result.whole; history = option_map history_entries ran.result.history }) ran.result.names ran.result.ended) c.as_mut_slice.ensures.value ran.ensures.ends);
      reported = subst (λ (names : List (List ℕ)). ReportsEnd names ran.result.ended c.report_end-outcome.result.0 c.report_end-outcome.result.1 (g.S.Sink.tells ran.result.sink) (g.S.Sink.tells c.report_end-outcome.new.sink)) c.as_slice.ensures c.report_end-outcome.ensures;
      tree_is = c.place_for.ensures;
    }

pub returns-clause-complete : goal.returns-clause-complete
returns-clause-complete g c = trees_complete (returns-clause-answer g c)

pub returns-clause-meant : goal.returns-clause-meant
returns-clause-meant g c = trees_as_meant (returns-clause-answer g c)

pub returns-clause-all : goal.returns-clause-all
returns-clause-all g c =
    let answer = returns-clause-answer g c in
    trees_in_order c.args.words.now c.args.env.now _ _ answer.names answer.ended answer.ends
