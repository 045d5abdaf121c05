use Rattle.std.proofs.Common.{◌≡◌, ◌+◌, ◌∙◌, ap, get_or}
use Rattle.std.specs.Prelude.{slice_get}
use Rattle.std.specs.Option.{option_copied}
use Rattle.ct_args.specs.Given.{given_by}
use Rattle.ct_args.specs.Seen.{given_seen}
use Rattle.ct_args.specs.Spelling.{said_of}
use Rattle.ct_args.proofs.CutLemmas.{cuts, lent_word}
use Rattle.ct_args.proofs.given.Given.behind.Goals as goal

pub returns-clause-cut : goal.returns-clause-cut
returns-clause-cut c =
    let words = c.args.words.now in
    let count = c.args.count in
    let word = c.bytes-text.result.now in
    let there : word ≡ get_or words count word = rw c.bytes-text.ensures c.index-words-count.is in
    let next : option_copied c.get.result ≡ slice_get words (count + 1) = lent_word words (count + 1) c.get.result c.get.ensures.lookup in
    let given : given_seen c.by-2.result ≡ given_by (said_of word) (count + 1) word (slice_get words (count + 1)) =
    c.by-2.ensures ∙ ap (λ said. given_by said (count + 1) word (option_copied c.get.result)) c.by.ensures.value ∙ ap (given_by (said_of word) (count + 1) word) next in
    cuts words count word (given_seen c.by-2.result) c.requires.within there given
