use Rattle.ct_lex.specs.Place.{beginning}
use Rattle.ct_lex.proofs.OneReading.{one_reading}
use Rattle.ct_lex.proofs.RoundTrip.{reads_written}
use Rattle.ct_lex.proofs.RestLemmas.{reads_files}
use Rattle.ct_lex.proofs.RefusedFiles.{refuses_files, sole_answer}
use Rattle.ct_lex.proofs.lexer.Lexer.new.Goals as goal

pub returns-clause-one : goal.returns-clause-one
returns-clause-one c = one_reading (beginning c.args.text.now)

pub returns-clause-again : goal.returns-clause-again
returns-clause-again c = reads_written c.args.text.now

pub returns-clause-grammar : goal.returns-clause-grammar
returns-clause-grammar c = reads_files c.args.text.now

pub returns-clause-refusals : goal.returns-clause-refusals
returns-clause-refusals c = refuses_files c.args.text.now

pub returns-clause-sole : goal.returns-clause-sole
returns-clause-sole c = sole_answer (beginning c.args.text.now)
