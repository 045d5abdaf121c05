use Rattle.std.proofs.Common.{◌∙◌}
use Rattle.ct_times.proofs.ShareLemmas.{share_exact, share_up}
use Rattle.ct_times.proofs.share.rounded_up.Goals as goal

pub returns-then-share-gt0 : goal.returns-then-share-gt0
returns-then-share-gt0 c = λ size sum some is. c.saturating_add.ensures ∙ share_up c.args.share size sum some is c.if-share-gt0.true

pub returns-else-share-gt0 : goal.returns-else-share-gt0
returns-else-share-gt0 c = λ size sum some is. share_exact c.args.share size sum some is c.if-share-gt0.false
