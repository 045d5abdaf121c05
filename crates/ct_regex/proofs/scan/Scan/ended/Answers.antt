use Rattle.std.proofs.Common.{[], Bool, ◌||◌, ap, ◌∙◌, append-nil}
use Rattle.ct_regex.specs.Ends.{hits}
use Rattle.ct_regex.proofs.scan.Scan.ended.Goals as goal

pub returns : goal.returns
returns c = λ tree text stands. c.either.ensures ∙ ap (λ (b : Bool). c.args.self.now.found || b) c.last.ensures ∙ stands.answers [] ∙ ap (hits tree) (append-nil text)
