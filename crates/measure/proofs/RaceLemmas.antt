-- Nothing happens in a run without tests, so a pass of a race stays as it is.
use Rattle.std.proofs.Common.{◌≡◌, sym, ap, refl, true, false, List, [], ◌∷◌}
use Rattle.std.specs.Prelude.{◌||◌, None}
use Rattle.std.proofs.lemmas.Bool.{false≢true}
use Rattle.ct_history.specs.declared.history.Entry.{Entry}
use Rattle.ct_history.specs.declared.history.Entry.TheVariants.{Start, End, Settle, Stop}
use Rattle.ct_history.specs.Legal.{is_legal}
use Rattle.ct_turn.specs.declared.view.Known.{Known}
use Rattle.ct_turn.specs.Pass.{PassValue, idle_pass}
use Rattle.ct_turn.specs.Seen.{has_seen, held_start, longer, moment, no_plan, with_joined}
use Rattle.ct_history.specs.History.{open_start_of_worker}

-- the legal history of a plan without tests is the empty one
pub legal-empty : (es : List Entry) → is_legal no_plan es ≡ true → es ≡ []
legal-empty [] legal = refl
legal-empty (Start t a w p ∷ es) legal = absurd (false≢true legal)
legal-empty (End t a w seen ∷ es) legal = absurd (false≢true legal)
legal-empty (Settle t cause ∷ es) legal = absurd (false≢true legal)
legal-empty (Stop ∷ es) legal = absurd (false≢true legal)

-- a pass that saw nothing happen, and sees the same again, is as it was
pub same-again : (pass : PassValue) → pass.taken ≡ None → pass.known.seen ≡ moment [] false → idle_pass pass.turn (has_seen pass.known (moment [] false)) ≡ pass
same-again pass idle seen = λ i. record { turn = pass.turn; known = record pass.known { seen = sym seen i }; taken = sym idle i }

-- a worker that saw nothing happen holds no start
pub holds-none : (known : Known) → known.seen ≡ moment [] false → held_start known ≡ None
holds-none known seen = ap (λ m. open_start_of_worker known.worker m.entries) seen

-- where neither of two saw anything happen, the one that joins both saw nothing happen
pub joined-seen : (keeper other : Known) → keeper.seen ≡ moment [] false → other.seen ≡ moment [] false → (with_joined keeper other).seen ≡ moment [] false
joined-seen keeper other one two = λ i. moment (longer (one i).entries (two i).entries) ((one i).halted || (two i).halted)
