use Rattle.std.proofs.Common.{arith}
use Rattle.std.proofs.lemmas.Bool.Decides.{nat_tests}
use Rattle.std.proofs.lemmas.List.{take_rest}
use Rattle.ct_lex.specs.Next.{arg_of}
use Rattle.ct_lex.proofs.ArgsLemmas.{argument-found, argument-taken}
use Rattle.ct_lex.proofs.argument.first_argument.Goals as goal

pub argument_at-requires : goal.argument_at-requires
argument_at-requires c =
    rw take_rest (record { whole = argument-found c.args.text.now c.gaps-at.result c.requires c.gaps-at.ensures.within (grind (arith, nat_tests)) c.gaps-at.ensures.none c.gaps-at.ensures.same })

pub returns : goal.returns
returns c =
    let found = rw take_rest at c.in_ok-arg.ensures in
    argument-taken c.args.text.now (arg_of c.in_ok-arg.arg) c.gaps-at.result c.in_ok-arg.taken c.requires c.gaps-at.ensures.within (grind (arith, nat_tests)) c.gaps-at.ensures.none c.gaps-at.ensures.front found.read found.within c.gaps-at.ensures.same
