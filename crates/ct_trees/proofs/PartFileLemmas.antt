-- The parts of a complete history are ended, and without memory none of their files is written.
use Rattle.std.proofs.Common.{◌≡◌, sym, subst, refl, ℕ, ◌+◌, List, [], ◌∷◌}
use Rattle.std.specs.Prelude.{Err}
use Rattle.ct_base.specs.Outside.{FilesTell, SameHeld}
use Rattle.ct_history.specs.declared.history.Entry.{Entry}
use Rattle.ct_app.proofs.ChangeLemmas.{serves_as, stays}
use Rattle.ct_trees.specs.declared.joining.TreeRest.{TreeRest}
use Rattle.ct_trees.specs.declared.tree_files.TreeFileFault.TheVariants as Fault
use Rattle.ct_trees.specs.Joining.{AreFinalParts}
use Rattle.ct_trees.specs.TreeFiles.{FileText, LeavesFirstTexts, WritesTexts}
use Rattle.ct_trees.specs.TreeParts.{AreEnded, parts_behind}

ended_behind : (trees : List TreeRest) (offset : ℕ) (entries : List Entry) → AreFinalParts offset trees entries → AreEnded trees (parts_behind offset trees entries)
ended_behind [] offset entries final = tt
ended_behind (tree ∷ trees) offset entries final = (final.0, ended_behind trees (offset + tree.defined) entries final.1)

-- in a complete history each part is ended
pub each_ended : (trees : List TreeRest) (entries : List Entry) (parts : List (List Entry)) → parts ≡ parts_behind 0 trees entries → AreFinalParts 0 trees entries → AreEnded trees parts
each_ended trees entries parts are final = subst (λ (ps : List (List Entry)). AreEnded trees ps) (sym are) (ended_behind trees 0 entries final)

-- without memory no file is written
pub none_left : (texts : List FileText) (files : FilesTell) → WritesTexts texts files files (Err Fault.NoMemory)
none_left texts files = serves_as SameHeld (LeavesFirstTexts texts) (λ x y same. record { first = []; rest = texts; split = refl; written = same }) files files (stays files)
