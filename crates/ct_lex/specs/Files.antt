-- The reading of a file, in terms of the grammar.
use Rattle.std.specs.Prelude.{◌≡◌, ℕ, ◌↔◌, ⊤, List, [], ◌∷◌, Option, Some, None, Result, Ok, Err}
use Rattle.ct_lex.specs.Broken.{IsBroken}
use Rattle.ct_lex.specs.Grammar.{IsRest}
use Rattle.ct_lex.specs.Place.{Place, beginning}
use Rattle.ct_lex.specs.Reads.{Ending, Reads, Refuses, commands_read}
use Rattle.ct_lex.specs.declared.call.Call.{Call}
use Rattle.ct_lex.specs.declared.fault.LexFault.{LexFault}
use Rattle.ct_lex.specs.declared.fault.LexFault.TheVariants.{NoMemory}

-- the grammar writes the text from a place on as these commands
abbrev pub IsRestFrom : Place → List Call → Type 0
IsRestFrom place calls = IsRest place.behind place.line place.rest calls

-- the grammar writes a file as these commands, behind the byte order mark that it may begin with
abbrev pub IsFile : List ℕ → List Call → Type 0
IsFile text calls = IsRestFrom (beginning text) calls

-- the text from a place on has these commands by the grammar, and then this fault
abbrev pub IsBrokenFrom : Place → List Call → LexFault → Type 0
IsBrokenFrom place calls fault = IsBroken place.behind place.line place.rest calls fault

-- a file has these commands by the grammar, and then this fault
abbrev pub IsBrokenFile : List ℕ → List Call → LexFault → Type 0
IsBrokenFile text calls fault = IsBrokenFrom (beginning text) calls fault

-- a text is read as a list of commands exactly if the grammar writes it as that list;
-- so the grammar writes a text as at most one list of commands
abbrev pub ReadsFiles : List ℕ → Type 0
ReadsFiles text = (calls : List Call) → Reads text calls ↔ IsFile text calls

-- What an answer of `next` means in terms of the grammar, by cases:
-- a command stands in front of what stands from the new place on; None: no command is left;
-- a refusal: the text from the old place on is no list of commands; NoMemory says nothing.
abbrev pub WritesOn : Place → Result (Option Call) LexFault → Place → Type 0
WritesOn old (Ok (Some call)) new = (calls : List Call) → IsRestFrom old (call ∷ calls) ↔ IsRestFrom new calls
WritesOn old (Ok None) new = IsRestFrom old []
WritesOn old (Err NoMemory) new = ⊤
WritesOn old (Err fault) new = (calls : List Call) → IsRestFrom old calls → ⊥

-- a text is read as some commands and then refused with a fault
-- exactly if it has these commands by the grammar, and then this fault
abbrev pub RefusesFiles : List ℕ → Type 0
RefusesFiles text =
    (calls : List Call) (fault : LexFault) → Refuses text calls fault ↔ IsBrokenFile text calls fault

-- the text from a place on has these commands by the grammar, and then its end or a fault
abbrev pub SaysFrom : Place → List Call → Ending → Type 0
SaysFrom place calls None = IsRestFrom place calls
SaysFrom place calls (Some fault) = IsBrokenFrom place calls fault

-- The grammar says one thing of the text from a place on, and this is what is read.
-- So no list of commands is broken, and no text is broken with two faults or behind two lists of commands.
pub record HasSoleAnswer (place : Place) : Type 0 where
  pub said : SaysFrom place (commands_read place).0 (commands_read place).1
  pub sole : (calls : List Call) (ending : Ending) → SaysFrom place calls ending
      → (calls ≡ (commands_read place).0) × (ending ≡ (commands_read place).1)

-- What an answer of `next` means in terms of the grammar of what is broken, by cases:
-- a command: the text is broken exactly if it is so from the new place on, with this command in front;
-- None: the text is not broken; a refusal: the text is broken with this fault and no command in front,
-- and in no other way; NoMemory says nothing.
abbrev pub BreaksOn : Place → Result (Option Call) LexFault → Place → Type 0
BreaksOn old (Ok (Some call)) new =
    (calls : List Call) (fault : LexFault) → IsBrokenFrom old calls fault
    ↔ ((more : List Call) × (calls ≡ call ∷ more) × IsBrokenFrom new more fault)
BreaksOn old (Ok None) new = (calls : List Call) (fault : LexFault) → IsBrokenFrom old calls fault → ⊥
BreaksOn old (Err NoMemory) new = ⊤
BreaksOn old (Err fault) new =
    (calls : List Call) (other : LexFault) → IsBrokenFrom old calls other ↔ ((calls ≡ []) × (other ≡ fault))
