-- What is given, as it is seen: texts in place of references to them.
use Rattle.std.specs.Prelude.{◌≤◌, ℕ, ⊤, option_map}
use Rattle.ct_args.specs.declared.spelling.ValuePlace.{ValuePlace}
use Rattle.ct_args.specs.declared.spelling.ValuePlace.TheVariants.{Nowhere, NextWord, Behind}
use Rattle.ct_args.specs.declared.given.Value.{Value as ValueLent}
use Rattle.ct_args.specs.declared.given.Given.{Given as GivenLent}
use Rattle.ct_args.specs.Given.{Value, Given}

-- a value as it is seen
abbrev pub value_seen : ValueLent → Value
value_seen value = record { word = value.word; text = value.text.now }

-- what is given as it is seen
abbrev pub given_seen : GivenLent → Given
given_seen given = record {
  word = given.word;
  option = given.option;
  value = option_map value_seen given.value;
}

-- a place in a word of so many bytes stands within it
abbrev pub FitsIn : ℕ → ValuePlace → Type 0
FitsIn length Nowhere = ⊤
FitsIn length NextWord = ⊤
FitsIn length (Behind count) = count ≤ length
