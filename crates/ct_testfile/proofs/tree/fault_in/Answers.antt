use Rattle.std.proofs.Common.{refl}
use Rattle.ct_lex.specs.declared.fault.LexFault.TheVariants as lex
use Rattle.ct_testfile.specs.declared.fault.ReadKind.TheVariants.{OpenString, OpenBracket, OpenCall, BadEscape, BadChar, BadReference}
use Rattle.ct_testfile.proofs.TreeLemmas.{fault-at}
use Rattle.ct_testfile.proofs.tree.fault_in.Goals as goal

pub returns-in-OpenString : goal.returns-in-OpenString
returns-in-OpenString c = rw c.in-OpenString.is (fault-at c.args.file.now c.in-OpenString.line OpenString (lex.OpenString c.in-OpenString.line) c.refused.result refl c.refused.ensures)

pub returns-in-OpenBracket : goal.returns-in-OpenBracket
returns-in-OpenBracket c = rw c.in-OpenBracket.is (fault-at c.args.file.now c.in-OpenBracket.line OpenBracket (lex.OpenBracket c.in-OpenBracket.line) c.refused-in-OpenBracket.result refl c.refused-in-OpenBracket.ensures)

pub returns-in-OpenCall : goal.returns-in-OpenCall
returns-in-OpenCall c = rw c.in-OpenCall.is (fault-at c.args.file.now c.in-OpenCall.line OpenCall (lex.OpenCall c.in-OpenCall.line) c.refused-in-OpenCall.result refl c.refused-in-OpenCall.ensures)

pub returns-in-BadEscape : goal.returns-in-BadEscape
returns-in-BadEscape c = rw c.in-BadEscape.is (fault-at c.args.file.now c.in-BadEscape.line BadEscape (lex.BadEscape c.in-BadEscape.line) c.refused-in-BadEscape.result refl c.refused-in-BadEscape.ensures)

pub returns-in-BadChar : goal.returns-in-BadChar
returns-in-BadChar c = rw c.in-BadChar.is (fault-at c.args.file.now c.in-BadChar.line BadChar (lex.BadChar c.in-BadChar.line) c.refused-in-BadChar.result refl c.refused-in-BadChar.ensures)

pub returns-in-BadReference : goal.returns-in-BadReference
returns-in-BadReference c = rw c.in-BadReference.is (fault-at c.args.file.now c.in-BadReference.line BadReference (lex.BadReference c.in-BadReference.line) c.refused-in-BadReference.result refl c.refused-in-BadReference.ensures)
