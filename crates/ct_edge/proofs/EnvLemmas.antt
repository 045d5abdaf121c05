-- The variables of a command when one more was set.
use Rattle.std.specs.Prelude.{◌≡◌, ◌≢◌, ℕ, Bool, true, false, List, [], ◌∷◌, ◌++◌, Some, option_map, bytes_eq}
use Rattle.std.specs.Bool.{Decides}
use Rattle.std.specs.Process.{SameOtherVars, clears_env, command_var}
use Rattle.std.specs.declared.process.command.Command.{Command}
use Rattle.std.proofs.Common.{refl, sym, ap, ◌∙◌}
use Rattle.std.proofs.lemmas.Bool.{false≢true}
use Rattle.std.proofs.lemmas.Slice.Eq.{bytes_eq-Decides}
use Rattle.ct_base.specs.declared.defs.Pair.{Pair}
use Rattle.ct_base.specs.Memory.{held_by}
use Rattle.ct_base.specs.Outside.{Writes}
use Rattle.ct_base.proofs.HeldLemmas.{held_by-put}
use Rattle.ct_edge.specs.Process.{HasEnv}

-- a variable has the value that was set, or else the value that it had
var-after : {A : Type 0} (pair : Pair) (pairs after : List Pair) (old new : Command A) (name : List ℕ) (same : Bool) → Decides same (name ≡ pair.name) →
    Writes pair.name pair.value (held_by pairs) (held_by after) → command_var old name ≡ option_map Some (held_by pairs name) →
    command_var new pair.name ≡ Some (Some pair.value) → SameOtherVars old new pair.name → command_var new name ≡ option_map Some (held_by after name)
var-after pair pairs after old new name true decides writes was set others =
    let is = decides.0 refl in
    rw is (set ∙ sym (ap (option_map Some) writes.here))
var-after pair pairs after old new name false decides writes was set others =
    let differ = λ (is : name ≡ pair.name). false≢true (decides.1 is) in
    others name differ ∙ was ∙ sym (ap (option_map Some) (writes.others name differ))

-- with one more pair set behind the others, the command has the environment of all of them
pub has_env-more : {A : Type 0} (pair : Pair) (pairs after : List Pair) (old new : Command A) → HasEnv pairs old → after ≡ pairs ++ pair ∷ [] →
    clears_env new ≡ clears_env old → command_var new pair.name ≡ Some (Some pair.value) → SameOtherVars old new pair.name → HasEnv after new
has_env-more pair pairs after old new has is clears set others = record {
  alone = clears ∙ has.alone;
  values = λ name. var-after pair pairs after old new name (bytes_eq name pair.name) (bytes_eq-Decides name pair.name)
      (held_by-put pairs after pair.name pair.value is) (has.values name) set others;
}
