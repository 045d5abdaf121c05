use Rattle.std.proofs.Common.{◌∙◌, sym, append-nil}
use Rattle.ct_edge.proofs.keep.BlobKeep.hand_on.Goals as goal

pub returns-clause-heard : goal.returns-clause-heard
returns-clause-heard g c = record {
  heard = c.bytes.result.now;
  moved = sym (append-nil c.bytes.result.now ∙ c.bytes.ensures);
  said = c.hear.ensures.text;
}
