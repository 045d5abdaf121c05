use Rattle.ct_lex.proofs.OneReading.{reads_on}
use Rattle.ct_lex.proofs.RestLemmas.{writes_on}
use Rattle.ct_lex.proofs.RefusedFiles.{breaks_on}
use Rattle.ct_lex.proofs.lexer.Lexer.next.Goals as goal

pub returns-clause-reading : goal.returns-clause-reading
returns-clause-reading c = reads_on _ _ _ c.advance.ensures.answer

pub returns-clause-grammar : goal.returns-clause-grammar
returns-clause-grammar c = writes_on _ _ _ c.advance.ensures.answer

pub returns-clause-refusal : goal.returns-clause-refusal
returns-clause-refusal c = breaks_on _ _ _ c.advance.ensures.answer
