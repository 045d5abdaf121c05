use Rattle.std.proofs.Common.{◌≡◌, ℕ, Bool, List, map, ap, ◌∙◌}
use Rattle.ct_regex.specs.Tree.{Tree}
use Rattle.ct_regex.specs.TreeOf.{regex_tree}
use Rattle.ct_regex.specs.Ends.{hits}
use Rattle.ct_regex.specs.Reading.{can_be_empty}
use Rattle.ct_regex.specs.Walk.{Step, step_of, no_marks}
use Rattle.ct_regex.specs.Stand.{Stand, a_stand, answer, behind_bytes}
use Rattle.ct_regex.specs.Memory.{stand_at}
use Rattle.ct_regex.proofs.ScanLemmas.{all_steps, scan_answers}
use Rattle.ct_regex.proofs.scan.Scan.with_room.Goals as goal

pub returns : goal.returns
returns c =
    let tree : Tree = regex_tree c.args.regex.now in
    let marks : List Bool = c.in_ok-program.program.marks.items in
    let steps : map step_of c.in_ok-program.program.steps.items ≡ all_steps tree = c.in_ok-program.ensures.steps ∙ ap all_steps c.root-root.ensures.tree in
    let first : marks ≡ no_marks tree = c.in_ok-program.ensures.marks ∙ ap no_marks c.root-root.ensures.tree in
    let last : c.can_be_empty-last.result ≡ can_be_empty tree = c.can_be_empty-last.ensures ∙ ap can_be_empty c.root-root.ensures.tree in
    let anew : (bytes : List ℕ) → answer (behind_bytes (map step_of c.in_ok-program.program.steps.items) (stand_at c.in_ok-memory.memory 0) bytes) ≡ hits tree bytes = λ bytes.
    ap (λ (s : Stand). answer (behind_bytes (map step_of c.in_ok-program.program.steps.items) s bytes)) c.in_ok-memory.ensures.first
    ∙ ap (λ (ms : List Bool). answer (behind_bytes (map step_of c.in_ok-program.program.steps.items) (a_stand ms c.can_be_empty-last.result) bytes)) c.deref.ensures.value
    ∙ ap (λ (ss : List Step). answer (behind_bytes ss (a_stand marks c.can_be_empty-last.result) bytes)) steps
    ∙ ap (λ (ms : List Bool). answer (behind_bytes (all_steps tree) (a_stand ms c.can_be_empty-last.result) bytes)) first
    ∙ ap (λ (b : Bool). answer (behind_bytes (all_steps tree) (a_stand (no_marks tree) b) bytes)) last
    ∙ scan_answers tree c.root-root.ensures.sound bytes in
    record { answers = anew; pattern = anew }

pub invariant_of-result-clause-right : goal.invariant_of-result-clause-right
invariant_of-result-clause-right c = c.in_ok-memory.ensures.remembers (map step_of c.in_ok-program.program.steps.items)
