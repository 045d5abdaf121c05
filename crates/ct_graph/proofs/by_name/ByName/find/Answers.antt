use Rattle.std.proofs.Common.{◌∙◌, ◌||◌, sym, ap, subst}
use Rattle.ct_base.specs.Numbers.{is_in}
use Rattle.ct_graph.specs.ByName.{tests_of, is_found_in}
use Rattle.ct_graph.specs.Found.{AreFound, bytes_of}
use Rattle.ct_graph.proofs.by_name.ByName.find.Goals as goal

pub returns-clause-known : goal.returns-clause-known
returns-clause-known c =
    let find = tests_of c.args.self.now in
    let names = c.args.names.now in
    let found : AreFound find names c.in_ok-tests.tests = record {
      ascending = c.in_ok-tests.ensures.ascending;
      same = λ n. c.in_ok-tests.ensures.same n ∙ c.in_ok-find_all.ensures.same n ∙ ap (λ none. is_in none n || is_found_in find names n) c.requires.empty.none;
    } in
    c.in_ok-keep.ensures find c.requires.known
    (subst (λ tests. AreFound find (bytes_of c.in_ok-key.key.items) tests) (sym c.in_ok-copied-2.ensures)
    (subst (λ named. AreFound find named c.in_ok-tests.tests) (sym c.in_ok-key.ensures) found))
