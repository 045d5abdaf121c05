-- The items read so far, in front of those that are still to be read.
use Rattle.std.proofs.Common.{◌≡◌, List, [], ◌∷◌, ◌++◌, refl, sym, ap, Ok, Err}
use Rattle.std.specs.Prelude.{Result}
use Rattle.std.proofs.lemmas.List.{append_assoc}
use Rattle.ct_groups.specs.declared.fault.GroupsFault.{GroupsFault}
use Rattle.ct_groups.specs.Description.{reads_on}

-- the items read so far followed by the items read next, or the fault
abbrev pub behind : {X : Type 0} → List X → Result (List X) GroupsFault → Result (List X) GroupsFault
behind items (Ok others) = Ok (items ++ others)
behind items (Err why) = Err why

-- one more item is read
pub behind-one : {X : Type 0} (items : List X) (item : X) (read : Result (List X) GroupsFault) → behind items (reads_on read (λ others. Ok (item ∷ others))) ≡ behind (items ++ item ∷ []) read
behind-one items item (Ok others) = ap (λ all. Ok all) (sym (append_assoc items (item ∷ []) others))
behind-one items item (Err why) = refl
