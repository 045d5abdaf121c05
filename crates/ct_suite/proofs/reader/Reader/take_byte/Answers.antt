use Rattle.std.proofs.Common.{◌∷◌, [], false, refl}
use Rattle.std.proofs.lemmas.Bool.{ne_eqb}
use Rattle.ct_base.specs.Bytes.{semicolon}
use Rattle.ct_suite.proofs.TakesLemmas.{escape-same, takes-ended, takes-joined, takes-released}
use Rattle.ct_suite.proofs.reader.Reader.take_byte.Goals as goal

pub returns-then-byte-ne59 : goal.returns-then-byte-ne59
returns-then-byte-ne59 c =
    takes-released c.args.limits.now c.args.self.now c.release.new.self c.take_other.new.self c.args.byte c.take_other.result c.in_ok-release.ensures.taken (ne_eqb c.args.byte semicolon c.if-byte-ne59.true) c.take_other.ensures

pub returns-then-self : goal.returns-then-self
returns-then-self c =
    takes-joined c.args.limits.now c.args.self.now (record { values = c.args.self.now.values; bytes = c.args.self.now.bytes; text = c.join_text.new.text; held = false }) (c.args.byte ∷ []) (c.args.byte ∷ []) c.join_text.result refl refl c.requires (escape-same c.args.byte c.args.self.now.held c.if-self.true c.if-byte-ne59.false) c.join_text.ensures.joined c.join_text.ensures.within c.join_text.ensures.stopped

pub returns : goal.returns
returns c =
    takes-ended c.args.limits.now c.args.self.now c.end_entry.new.self c.args.byte c.end_entry.result c.if-byte-ne59.false c.if-self.false c.end_entry.ensures.within c.end_entry.ensures.values c.end_entry.ensures.empty c.end_entry.ensures.held c.end_entry.ensures.stopped
