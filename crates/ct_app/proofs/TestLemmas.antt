-- The properties of tests that are read one by one, up to the first refused property.
use Rattle.std.proofs.Common.{◌≡◌, ◌∙◌, sym, ap, subst, ℕ, ◌+◌, ◌-◌, ◌<◌, ◌≤◌, List, [], ◌∷◌, ◌++◌, length, take, get_or, refl, arith}
use Rattle.std.specs.Prelude.{All}
use Rattle.std.proofs.lemmas.List.{take_all, take_more}
use Rattle.std.proofs.lemmas.List.Elements.{All-append, All-cons, All-nil}
use Rattle.ct_base.specs.declared.defs.TestDef.{TestDef}
use Rattle.ct_props.specs.declared.props.Props.{Props}
use Rattle.ct_props.specs.PropsOf.{HasProps}
use Rattle.ct_props.specs.Refusal.{IsPropFault}
use Rattle.ct_props.specs.declared.fault.PropFault.{PropFault}
use Rattle.ct_props.specs.declared.fault.PropFault.TheVariants.{Bad, NoMemory}
use Rattle.ct_props.specs.Numbered.{at_number}
use Rattle.ct_props.proofs.NumberedLemmas.{at_number_here}
use Rattle.ct_plan.specs.Source.{HaveProps}
use Rattle.ct_plan.proofs.CallerLemmas.{have_props-snoc}
use Rattle.ct_app.specs.declared.outcome.Outcome.{Outcome}
use Rattle.ct_app.specs.declared.outcome.Outcome.TheVariants.{Completed, Listed, Usage, Refused, FilesFault, OutputFault, Memory}
use Rattle.ct_app.specs.declared.outcome.Refusal.TheVariants.{TestFile, Prop, Spec, Cycle, TooManyEdges}
use Rattle.ct_app.specs.Outcome.{outcome_of_prop}
use Rattle.ct_app.specs.Tests.{IsUnrefused, RefusesTest, RefusesTests}

-- a fault of the properties of a test refuses the test
pub refuses_as : (number : ℕ) (def : TestDef) (fault : PropFault) (outcome : Outcome) → IsPropFault def.props fault → outcome ≡ outcome_of_prop number fault → RefusesTest number def outcome
refuses_as number def fault outcome is told = subst (λ (o : Outcome). RefusesTest number def o) (sym told) (by fault is)
  where
    by : (f : PropFault) → IsPropFault def.props f → RefusesTest number def (outcome_of_prop number f)
    by (Bad key kind) least = (refl, least)
    by NoMemory least = tt

-- the first tests have these properties, and none of them is refused
pub record AreRead (defs : List TestDef) (at : ℕ) (owns : List Props) : Type 0 where
  pub have : HaveProps (take at defs) owns
  pub unrefused : All IsUnrefused (take at defs)

pub read_none : (defs : List TestDef) → AreRead defs 0 []
read_none defs = record { have = tt; unrefused = All-nil IsUnrefused }

pub read_all : (defs : List TestDef) (at : ℕ) (owns : List Props) → length defs ≤ at → AreRead defs at owns → HaveProps defs owns
read_all defs at owns past read = subst (λ (ds : List TestDef). HaveProps ds owns) (take_all at defs past) read.have

module _ (defs : List TestDef) (at : ℕ) (def : TestDef) (within : at < length defs) (is : def ≡ get_or defs at def) where
  more : take (at + 1) defs ≡ take at defs ++ def ∷ []
  more = take_more defs at def within ∙ ap (λ (d : TestDef). take at defs ++ d ∷ []) (sym is)

  -- one more test was read
  pub read_more : (owns now : List Props) (own : Props) → AreRead defs at owns → HasProps def own → IsUnrefused def → now ≡ owns ++ own ∷ [] → AreRead defs (at + 1) now
  read_more owns now own read has unrefused pushed = record {
    have = subst (λ (ds : List TestDef). HaveProps ds now) (sym more) (subst (λ (os : List Props). HaveProps (take at defs ++ def ∷ []) os) (sym pushed) (have_props-snoc (take at defs) owns def own read.have has));
    unrefused = subst (λ (ds : List TestDef). All IsUnrefused ds) (sym more) (All-append IsUnrefused (take at defs) (def ∷ []) read.unrefused (All-cons IsUnrefused def [] unrefused (All-nil IsUnrefused)));
  }

  -- a refused test is the first, where no test before it is refused
  pub refuses : (number : ℕ) (owns : List Props) (outcome : Outcome) → number ≡ at + 1 → AreRead defs at owns → RefusesTest number def outcome → RefusesTests defs outcome
  refuses number owns Completed numbered read refused = refused
  refuses number owns Listed numbered read refused = refused
  refuses number owns (Usage word kind) numbered read refused = refused
  refuses number owns (Refused (TestFile file line kind)) numbered read refused = refused
  refuses number owns (Refused (Prop test key kind)) numbered read refused =
      let place : test - 1 ≡ at = omega (arith, refused.0, numbered) in
      let here : test ≡ at + 1 = omega (arith, refused.0, numbered) in
      record {
        low = omega (arith, refused.0, numbered);
        def = def;
        there = ap (λ (n : ℕ). at_number defs n) here ∙ at_number_here defs at def within is;
        least = refused.1;
        first = subst (λ (n : ℕ). All IsUnrefused (take n defs)) (sym place) read.unrefused;
      }
  refuses number owns (Refused (Spec why)) numbered read refused = refused
  refuses number owns (Refused (Cycle tests)) numbered read refused = refused
  refuses number owns (Refused TooManyEdges) numbered read refused = refused
  refuses number owns (FilesFault path) numbered read refused = refused
  refuses number owns OutputFault numbered read refused = refused
  refuses number owns Memory numbered read refused = tt
