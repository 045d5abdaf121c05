use Rattle.std.proofs.Common.{◌≡◌, ◌+◌, ◌*◌, ◌/◌, ◌%◌, ◌^◌}
use Rattle.std.specs.Prelude.{min, ◌-◌}
use Rattle.ct_times.proofs.ShareLemmas.{share_step}
use Rattle.ct_times.proofs.share.share_more.Goals as goal

pub returns : goal.returns
returns c = λ sum is.
    let f = c.args.factor in
    let a = c.args.amount in
    let d = c.args.size in
    let part = c.part_of-part.result in
    let part_is : part ≡ f % d * a + c.args.share.rest = c.part_of-part.ensures in
    let whole_is : c.saturating_add-2.result ≡ min (min (c.args.share.whole + min (f / d * a) (2 ^ 128 - 1)) (2 ^ 128 - 1) + part / d) (2 ^ 128 - 1) = cc in
    let rest_is : part % c.from-4.result ≡ part % d = cc in
    share_step c.args.share (record { whole = c.saturating_add-2.result; rest = part % c.from-4.result }) f a d sum part c.requires part_is whole_is rest_is is
