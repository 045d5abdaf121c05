use Rattle.std.proofs.Common.{◌∷◌, [], refl}
use Rattle.std.proofs.lemmas.Bool.{ne_eqb}
use Rattle.ct_base.specs.Bytes.{backslash}
use Rattle.ct_suite.proofs.TakesLemmas.{other-same, takes-joined}
use Rattle.ct_suite.proofs.reader.Reader.take_other.Goals as goal

pub returns : goal.returns
returns c =
    takes-joined c.args.limits.now c.args.self.now (record { values = c.args.self.now.values; bytes = c.args.self.now.bytes; text = c.join_text.new.text; held = c.args.self.now.held }) (c.args.byte ∷ []) (c.args.byte ∷ []) c.join_text.result refl refl c.requires.within (other-same c.args.byte c.args.self.now.held c.requires.free c.requires.other (ne_eqb c.args.byte backslash c.if-byte-eq92.false)) c.join_text.ensures.joined c.join_text.ensures.within c.join_text.ensures.stopped
