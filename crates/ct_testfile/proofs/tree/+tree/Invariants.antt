use Rattle.std.proofs.Common.{◌+◌, ◌*◌, length, drop, map}
use Rattle.ct_lex.specs.Reads.{commands_read}
use Rattle.ct_testfile.specs.Commands.{openings, opening_of}
use Rattle.ct_testfile.specs.Says.{inside}
use Rattle.ct_testfile.specs.Tree.{carried, all_opened}
use Rattle.ct_testfile.proofs.OverLemmas.{SoFar}
use Rattle.ct_testfile.proofs.AsksLemmas.{AskSoFar, asks_from, opened_ask_from}
use Rattle.ct_testfile.proofs.CallsLemmas.{CallsSoFar, calls_from, opened_calls_from}
use Rattle.ct_testfile.proofs.tree.+tree.Given as goal

abbrev pub decreases-carry : goal.decreases-carry
decreases-carry g l = 4 * l.here.now.more + 3

abbrev pub decreases-enter : goal.decreases-enter
decreases-enter g l = 4 * l.here.now.more

abbrev pub decreases-open : goal.decreases-open
decreases-open g l = 4 * l.here.now.more + 1

abbrev pub decreases-open_each : goal.decreases-open_each
decreases-open_each g l = 4 * l.here.now.more + 2

abbrev pub invariant-carry-calls : goal.invariant-carry-calls
invariant-carry-calls g l =
    SoFar (g.F.Files.tells l.initial.files) (g.F.Files.tells l.files) (λ held. carried (inside l.here held) l.here.limits.now held l.here.file.now l.initial.ifs l.initial.known (commands_read l.initial.lexer).0 (commands_read l.initial.lexer).1) (λ held. carried (inside l.here held) l.here.limits.now held l.here.file.now l.ifs l.known (commands_read l.lexer).0 (commands_read l.lexer).1)
    × AskSoFar (g.F.Files.tells l.initial.files).held (asks_from l.here.limits.now l.here.more l.here.file.now l.initial.ifs l.initial.known l.initial.lexer) (asks_from l.here.limits.now l.here.more l.here.file.now l.ifs l.known l.lexer)
    × CallsSoFar (g.F.Files.tells l.initial.files).held (calls_from l.here.limits.now l.here.more l.here.file.now l.initial.ifs l.initial.known l.initial.lexer) (calls_from l.here.limits.now l.here.more l.here.file.now l.ifs l.known l.lexer) (g.F.Files.calls l.initial.files) (g.F.Files.calls l.files)

abbrev pub decreases-carry-calls : goal.decreases-carry-calls
decreases-carry-calls g l = length l.lexer.rest

abbrev pub invariant-open_each-loop-name : goal.invariant-open_each-loop-name
invariant-open_each-loop-name g l =
    SoFar (g.F.Files.tells l.initial.files) (g.F.Files.tells l.files) (λ held. all_opened (inside l.here held) held l.here.file.now.path l.line (openings l.here.file.now.dir l.opens) l.initial.known) (λ held. all_opened (inside l.here held) held l.here.file.now.path l.line (map (opening_of l.here.file.now.dir l.opens.required) (drop l.name-index l.opens.names)) l.known)
    × AskSoFar (g.F.Files.tells l.initial.files).held (opened_ask_from l.here.limits.now l.here.more l.here.file.now l.line l.opens l.opens.names l.initial.known) (opened_ask_from l.here.limits.now l.here.more l.here.file.now l.line l.opens (drop l.name-index l.opens.names) l.known)
    × CallsSoFar (g.F.Files.tells l.initial.files).held (opened_calls_from l.here.limits.now l.here.more l.here.file.now l.line l.opens l.opens.names l.initial.known) (opened_calls_from l.here.limits.now l.here.more l.here.file.now l.line l.opens (drop l.name-index l.opens.names) l.known) (g.F.Files.calls l.initial.files) (g.F.Files.calls l.files)
