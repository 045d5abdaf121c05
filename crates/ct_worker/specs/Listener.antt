-- What the scans of a test's patterns stand for. This project's own.
use Rattle.std.specs.Prelude.{ℕ, ⊤, List, [], ◌∷◌}
use Rattle.ct_regex.specs.declared.pattern.Regex.{Regex}
use Rattle.ct_regex.specs.declared.scan.Scan.{Scan}
use Rattle.ct_regex.specs.Scan.{StandsFor}
use Rattle.ct_regex.specs.TreeOf.{regex_tree}
use Rattle.ct_worker.specs.declared.listener.Listener.{Listener}

-- the items at each place of both lists belong together, and the lists are of one length
abbrev pub AreEach : {A B : Type 0} → (A → B → Type 0) → List A → List B → Type 0
AreEach belong [] [] = ⊤
AreEach belong [] (second ∷ seconds) = ⊥
AreEach belong (first ∷ firsts) [] = ⊥
AreEach belong (first ∷ firsts) (second ∷ seconds) = belong first second × AreEach belong firsts seconds

-- each scan stands for the text under the pattern of its place, and there is one scan for each pattern
abbrev pub AllStandFor : List Regex → List ℕ → List Scan → Type 0
AllStandFor patterns text scans =
    AreEach (λ pattern scan. StandsFor (regex_tree pattern) text scan) patterns scans

-- a listener may have heard the text: the scans of its test's three lists of patterns stand for it
pub record ListensFor (listener : Listener) (text : List ℕ) : Type 0 where
  pub fail : AllStandFor listener.props.now.fail text listener.fail.items
  pub pass : AllStandFor listener.props.now.pass text listener.pass.items
  pub skip : AllStandFor listener.props.now.skip text listener.skip.items
