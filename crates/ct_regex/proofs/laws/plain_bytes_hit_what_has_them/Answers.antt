use Rattle.ct_regex.proofs.LawLemmas.{plain_reading, plain_hits, plain_hits_at}
use Rattle.ct_regex.proofs.laws.plain_bytes_hit_what_has_them.Goals as goal

pub returns : goal.returns
returns c = λ bytes text plain few. rw (plain_reading bytes plain few) (plain_hits bytes text, plain_hits_at bytes text)
