use Rattle.std.proofs.Common.{refl}
use Rattle.ct_times.proofs.ShareLemmas.{share_none}
use Rattle.ct_times.proofs.share.no_share.Goals as goal

pub returns : goal.returns
returns c = λ size some. share_none (record { whole = 0; rest = 0 }) size refl refl some
