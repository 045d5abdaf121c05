-- The commands of a text: one list of calls, or one first fault.
use Rattle.std.specs.Prelude.{◌≡◌, ℕ, zero, suc, ⊤, List, [], ◌∷◌, length, Option, Some, None, Result, Ok, Err}
use Rattle.ct_lex.specs.Place.{Place, beginning, next_of}
use Rattle.ct_lex.specs.declared.call.Call.{Call}
use Rattle.ct_lex.specs.declared.fault.LexFault.{LexFault}
use Rattle.ct_lex.specs.declared.fault.LexFault.TheVariants.{NoMemory}

-- how a reading ends: None at the end of the text, or the first fault
abbrev pub Ending : Type 0
Ending = Option LexFault

-- the reading ends at this place, with this ending
abbrev pub EndsAt : Place → Ending → Type 0
EndsAt place None = next_of place ≡ Ok None
EndsAt place (Some fault) = next_of place ≡ Err fault

-- from a place on, these calls are read one by one, and then the reading has this ending
abbrev pub ReadsFrom : Place → List Call → Ending → Type 0
ReadsFrom place [] ending = EndsAt place ending
ReadsFrom place (call ∷ calls) ending =
    (after : Place) × (next_of place ≡ Ok (Some (call, after))) × ReadsFrom after calls ending

-- the text is read as these calls, up to its end
abbrev pub Reads : List ℕ → List Call → Type 0
Reads text calls = ReadsFrom (beginning text) calls None

-- the text is read as these calls, and then refused with this fault
abbrev pub Refuses : List ℕ → List Call → LexFault → Type 0
Refuses text calls fault = ReadsFrom (beginning text) calls (Some fault)

-- the reading, given what comes next: a call in front of the reading behind it, or the ending
abbrev pub reading_by : Result (Option (Call × Place)) LexFault
    → (Place → List Call × Ending) → List Call × Ending
reading_by (Ok None) later = ([], None)
reading_by (Err fault) later = ([], Some fault)
reading_by (Ok (Some x)) later = (x.0 ∷ (later x.1).0, (later x.1).1)

-- the reading from a place on, cut after n steps
abbrev pub reading_within : ℕ → Place → List Call × Ending
reading_within zero place = ([], None)
reading_within (suc n) place = reading_by (next_of place) (λ after. reading_within n after)

-- the whole reading from a place on, the calls and the ending; it has at most as many calls as bytes are left
unfoldable pub commands_read : Place → List Call × Ending
commands_read place = reading_within (suc (length place.rest)) place

-- there is one reading from a place on: one list of calls, and then the end of the text or one first fault
pub record HasOneReading (place : Place) : Type 0 where
  pub read : ReadsFrom place (commands_read place).0 (commands_read place).1
  pub only : (calls : List Call) (ending : Ending) → ReadsFrom place calls ending
      → (calls ≡ (commands_read place).0) × (ending ≡ (commands_read place).1)

-- what `next` returns at a place, and the place of the lexer afterwards; without a command the place stays
abbrev pub AnswersNext : Place → Result (Option Call) LexFault → Place → Type 0
AnswersNext old (Ok (Some call)) new = next_of old ≡ Ok (Some (call, new))
AnswersNext old (Ok None) new = (next_of old ≡ Ok None) × (new ≡ old)
AnswersNext old (Err NoMemory) new = new ≡ old
AnswersNext old (Err fault) new = (next_of old ≡ Err fault) × (new ≡ old)

-- what `next` returns in terms of the whole reading: its first call, its end, or its fault
abbrev pub ReadsOn : Place → Result (Option Call) LexFault → Place → Type 0
ReadsOn old (Ok (Some call)) new =
    ((commands_read old).0 ≡ call ∷ (commands_read new).0) × ((commands_read old).1 ≡ (commands_read new).1)
ReadsOn old (Ok None) new = ((commands_read old).0 ≡ []) × ((commands_read old).1 ≡ None)
ReadsOn old (Err NoMemory) new = ⊤
ReadsOn old (Err fault) new = ((commands_read old).0 ≡ []) × ((commands_read old).1 ≡ Some fault)
