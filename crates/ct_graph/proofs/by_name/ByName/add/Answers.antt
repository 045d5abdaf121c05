use Rattle.std.proofs.Common.{◌≡◌, ◌∙◌, ◌||◌, ◌&&◌, bytes_eq, [], ◌∷◌, ◌++◌, is_some, eqb, sym, ap}
use Rattle.std.proofs.Math.Bool.{or-false}
use Rattle.ct_base.specs.Numbers.{is_in}
use Rattle.ct_base.specs.Found.{or_none}
use Rattle.ct_graph.specs.ByName.{tests_at}
use Rattle.ct_graph.proofs.NameLemmas.{tests_at-updated, is_in-updated}
use Rattle.ct_graph.proofs.by_name.ByName.add.Goals as goal

pub returns-in-Some : goal.returns-in-Some
returns-in-Some c = λ other n.
    let old = c.args.self.now.tests in
    let name = c.args.name in
    let tests = c.push_once.new.tests in
    let now = c.get_mut.follows.lender tests in
    let updates = (c.get_mut.follows.holds tests).3 (ap is_some (sym c.in-Some.ensures.value)) in
    let found = ap or_none c.in-Some.ensures.value in
    ap (λ ts. is_in ts n) (tests_at-updated name old now tests updates other)
    ∙ is_in-updated name.now other tests.items (tests_at old name.now) (tests_at old other) c.args.test n (λ same. ap (tests_at old) same)
    (c.in_ok-push_once.ensures n ∙ ap (λ ts. is_in ts n || eqb c.args.test n) found)

pub returns : goal.returns
returns c = λ other n.
    let pushed : c.push.new.self.items ≡ c.args.test ∷ [] = c.in_ok-push.ensures.items ∙ ap (λ ts. ts ++ c.args.test ∷ []) c.new-tests.ensures.items in
    let old = c.args.self.now.tests in
    let name = c.args.name in
    let none = ap or_none c.in_default.ensures.value in
    ap (λ ts. is_in ts n) (tests_at-updated name c.get_mut.follows.lender-at-none c.insert.new.self c.push.new.self c.in_ok-insert.ensures.updates other)
    ∙ is_in-updated name.now other c.push.new.self.items (tests_at old name.now) (tests_at c.get_mut.follows.lender-at-none other) c.args.test n
    (λ same. ap (tests_at old) same ∙ ap (λ m. tests_at m other) (sym c.get_mut.follows.holds-at-none))
    (ap (λ ts. is_in ts n) pushed ∙ or-false (eqb c.args.test n) ∙ ap (λ ts. is_in ts n || eqb c.args.test n) none)
    ∙ ap (λ m. is_in (tests_at m other) n || (bytes_eq other name.now && eqb c.args.test n)) c.get_mut.follows.holds-at-none
