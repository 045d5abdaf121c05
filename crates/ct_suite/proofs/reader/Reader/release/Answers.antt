use Rattle.std.proofs.Common.{false, refl}
use Rattle.ct_suite.proofs.TakesLemmas.{releases-joined}
use Rattle.ct_suite.proofs.reader.Reader.release.Goals as goal

pub returns : goal.returns
returns c =
    releases-joined c.args.limits.now c.args.self.now (record { values = c.args.self.now.values; bytes = c.args.self.now.bytes; text = c.join_text.new.text; held = false }) c.join_text.result refl refl c.requires c.if-not-self.false refl c.join_text.ensures.joined c.join_text.ensures.within c.join_text.ensures.stopped
