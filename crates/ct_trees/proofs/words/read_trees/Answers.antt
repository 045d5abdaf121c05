use Rattle.std.proofs.Common.{rules, ◌≡◌, ◌*◌, ℕ, List, drop, length, subst}
use Rattle.std.specs.Prelude.{Ok, Err}
use Rattle.ct_args.specs.Invocation.{invocation_seen}
use Rattle.ct_args.specs.Read.{IsFirstFault}
use Rattle.ct_trees.specs.TreeReading.{behind_or_fault}
use Rattle.ct_trees.proofs.WordLemmas.{all_read, behind_unread, slice_behind}
use Rattle.ct_trees.proofs.words.read_trees.Goals as goal

pub returns-in_err-invocation-clause-exact : goal.returns-in_err-invocation-clause-exact
returns-in_err-invocation-clause-exact c =
    let words = c.args.words.now in
    let dirs = c.in_ok-dirs.dirs in
    let fault = c.in_err-invocation.field-0.0 in
    let one : c.len.result ≡ length dirs = search rules in
    let two : c.len-2.result ≡ length dirs = search rules in
    let gave : c.from_residual-in_err-invocation.result ≡ Err fault = search rules in
    let bad = subst (λ (n : ℕ). IsFirstFault (behind_or_fault n (drop (2 * length dirs) words)) fault) two
    (subst (λ (n : ℕ). IsFirstFault (behind_or_fault c.len-2.result (drop (2 * n) words)) fault) one
    (subst (λ (ws : List (List ℕ)). IsFirstFault (behind_or_fault c.len-2.result ws) fault) (slice_behind words (2 * c.len.result)) c.in_err-invocation.ensures.exact)) in
    rw gave (behind_unread words dirs fault c.in_ok-dirs.ensures bad)

pub returns-clause-exact : goal.returns-clause-exact
returns-clause-exact c =
    let words = c.args.words.now in
    let dirs = c.in_ok-dirs.dirs in
    let invocation = c.in_ok-invocation.invocation in
    let one : c.len.result ≡ length dirs = search rules in
    let two : c.len-2.result ≡ length dirs = search rules in
    let read = subst (λ (n : ℕ). behind_or_fault n (drop (2 * length dirs) words) ≡ Ok (invocation_seen invocation)) two
    (subst (λ (n : ℕ). behind_or_fault c.len-2.result (drop (2 * n) words) ≡ Ok (invocation_seen invocation)) one
    (subst (λ (ws : List (List ℕ)). behind_or_fault c.len-2.result ws ≡ Ok (invocation_seen invocation)) (slice_behind words (2 * c.len.result)) c.in_ok-invocation.ensures.exact)) in
    all_read words dirs invocation c.in_ok-dirs.ensures read
