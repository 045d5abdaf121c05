-- What is found of a journal, and that the number of its first bad line fits 32 bits.
use Rattle.std.proofs.Common.{◌≡◌, ap, sym, subst, refl, Bool, true, false, ℕ, ◌+◌, ◌<◌, ◌^◌, List, length, take, inl, inr, arith}
use Rattle.std.specs.Prelude.{Option, Some, None, IfSome, nat_le, option_map}
use Rattle.std.proofs.lemmas.Bool.{leb-true, leb-false}
use Rattle.std.proofs.lemmas.List.{length-take, take_all}
use Rattle.ct_base.specs.Outside.{Becomes, Held, SameHeld}
use Rattle.ct_history.specs.declared.plan.PlanParts.{PlanParts}
use Rattle.ct_journal_text.specs.Found.{Finds}
use Rattle.ct_journal_text.proofs.ExactLemmas.{refused_small}
use Rattle.ct_journal.specs.File.{HasJournalSize, most_journal_bytes}
use Rattle.ct_journal.specs.CheckFound.{IsLongJournal, IsReadOf}

-- the number of the first bad line fits 32 bits
pub line_fits : (plan : PlanParts) (text : List ℕ) (number : ℕ) → HasJournalSize text → Finds plan text (Some number) → number < 2 ^ 32
line_fits plan text number size found = omega (arith, size, refused_small plan text number found)

-- what was read of a text, cut one byte behind the limit, is all of it or too long
front_read : (text : List ℕ) (fits : Bool) → nat_le (length text) most_journal_bytes ≡ fits → IsReadOf (Some text) (Some (take (most_journal_bytes + 1) text))
front_read text true fits = inl (ap Some (take_all (most_journal_bytes + 1) text (omega (arith, leb-true (length text) most_journal_bytes fits))))
front_read text false fits =
    let above = leb-false (length text) most_journal_bytes fits in
    inr (omega (arith, above), omega (arith, above, length-take (most_journal_bytes + 1) text))

pub read_of_front : (held : Option (List ℕ)) → IsReadOf held (option_map (take (most_journal_bytes + 1)) held)
read_of_front None = inl refl
read_of_front (Some text) = front_read text (nat_le (length text) most_journal_bytes) refl

pub read_at : (path : List ℕ) (told : Option Held) (found : Option (List ℕ)) → IfSome told (λ held. found ≡ option_map (take (most_journal_bytes + 1)) (held path)) → IfSome told (λ held. IsReadOf (held path) found)
read_at path None found read = tt
read_at path (Some held) found read = subst (IsReadOf (held path)) (sym read) (read_of_front (held path))

-- what was read after the files stayed was held before too
pub read_before : (path : List ℕ) (found : Option (List ℕ)) (before between : Option Held) → Becomes before between SameHeld → IfSome between (λ held. IsReadOf (held path) found) → IfSome before (λ held. IsReadOf (held path) found)
read_before path found None between same read = tt
read_before path found (Some x) None same read = absurd same
read_before path found (Some x) (Some y) same read = subst (λ (held : Option (List ℕ)). IsReadOf held found) (same path) read

-- a journal that is short enough is not too long
short_journal : (held : Option (List ℕ)) → IfSome held HasJournalSize → IsLongJournal held → ⊥
short_journal None size long = long
short_journal (Some text) size long = omega (arith, size, long)

short_read : (held found : Option (List ℕ)) → IsReadOf held found → IfSome held HasJournalSize → IsLongJournal found → ⊥
short_read held found (inl is) size long = short_journal held size (subst IsLongJournal is long)
short_read held found (inr both) size long = short_journal held size both.0

pub never_long : (path : List ℕ) (told : Option Held) (held : Held) (found : Option (List ℕ)) → told ≡ Some held → IfSome told (λ held. IsReadOf (held path) found) → IfSome told (λ held. IfSome (held path) HasJournalSize) → IsLongJournal found → ⊥
never_long path None held found is read size long = absurd (cc)
never_long path (Some x) held found is read size long = short_read (x path) found read size long
