use Rattle.std.proofs.Common.{◌≡◌, ◌∙◌, ◌-◌, Some, get_or, ap, subst}
use Rattle.ct_props.specs.Numbered.{at_number}
use Rattle.ct_props.proofs.NumberedLemmas.{at_number_read}
use Rattle.ct_graph.specs.ByName.{tests_of}
use Rattle.ct_graph.specs.Found.{AreFound}
use Rattle.ct_graph.proofs.IndexLemmas.{row_before, row_setups, no_row_before, no_row_setups}
use Rattle.ct_graph.proofs.index.Index.row.Goals as goal

pub returns-then-later-clause-before : goal.returns-then-later-clause-before
returns-then-later-clause-before c =
    let self = c.args.self.now in
    let number = c.args.number in
    let later = get_or self.props.now (number - 1) c.index-self-number.result in
    let is_later : at_number self.props.now number ≡ Some later = at_number_read self.props.now number c.index-self-number.result c.requires.above c.requires.within c.index-self-number.is ∙ ap Some c.index-self-number.is in
    c.new.ensures
    ∙ no_row_before self.defs.now self.props.now self.members.now (tests_of self.names) (tests_of self.setups) (tests_of self.users) c.requires.indexed.found c.requires.indexed.inside c.requires.indexed.paired c.requires.indexed.ascending number later is_later c.if-later.true

pub returns-then-later-clause-setups : goal.returns-then-later-clause-setups
returns-then-later-clause-setups c =
    let self = c.args.self.now in
    let number = c.args.number in
    let later = get_or self.props.now (number - 1) c.index-self-number.result in
    let is_later : at_number self.props.now number ≡ Some later = at_number_read self.props.now number c.index-self-number.result c.requires.above c.requires.within c.index-self-number.is ∙ ap Some c.index-self-number.is in
    c.new-then-later.ensures
    ∙ no_row_setups self.defs.now self.props.now self.members.now (tests_of self.names) (tests_of self.setups) (tests_of self.users) c.requires.indexed.found c.requires.indexed.inside c.requires.indexed.paired c.requires.indexed.ascending number later is_later c.if-later.true

pub returns-clause-before : goal.returns-clause-before
returns-clause-before c =
    let self = c.args.self.now in
    let number = c.args.number in
    let later = get_or self.props.now (number - 1) c.index-self-number.result in
    let is_later : at_number self.props.now number ≡ Some later = at_number_read self.props.now number c.index-self-number.result c.requires.above c.requires.within c.index-self-number.is ∙ ap Some c.index-self-number.is in
    row_before self.defs.now self.props.now self.members.now (tests_of self.names) (tests_of self.setups) (tests_of self.users) c.requires.indexed.found c.requires.indexed.inside c.requires.indexed.paired c.requires.indexed.ascending number later is_later
    c.in_ok-before.before c.if-later.false c.in_ok-before.ensures.ascending c.in_ok-before.ensures.found

pub returns-clause-setups : goal.returns-clause-setups
returns-clause-setups c =
    let self = c.args.self.now in
    let number = c.args.number in
    let later = get_or self.props.now (number - 1) c.index-self-number.result in
    let is_later : at_number self.props.now number ≡ Some later = at_number_read self.props.now number c.index-self-number.result c.requires.above c.requires.within c.index-self-number.is ∙ ap Some c.index-self-number.is in
    row_setups self.defs.now self.props.now self.members.now (tests_of self.names) (tests_of self.setups) (tests_of self.users) c.requires.indexed.found c.requires.indexed.inside c.requires.indexed.paired c.requires.indexed.ascending number later is_later
    c.in_ok-setups.setups c.if-later.false (subst (λ names. AreFound (tests_of self.setups) names c.in_ok-setups.setups) c.as_slice.ensures c.in_ok-setups.ensures.found)
