-- The entries of -I, read one behind another.
use Rattle.std.proofs.Common.{ℕ, ◌≡◌, List, [], ◌∷◌, ◌++◌, refl, sym, ap, Ok, Err}
use Rattle.std.specs.Prelude.{Option, Result}
use Rattle.std.proofs.lemmas.List.{append_assoc}
use Rattle.ct_args.specs.declared.usage.UsageKind.{UsageKind}
use Rattle.ct_args.specs.Values.{then_read}

-- these entries in front of others
abbrev pub entries_before : List (Option ℕ) → Result (List (Option ℕ)) UsageKind → Result (List (Option ℕ)) UsageKind
entries_before front others = then_read others (λ entries. Ok (front ++ entries))

-- one entry more
pub entries_before-more : (front : List (Option ℕ)) (entry : Option ℕ) (others : Result (List (Option ℕ)) UsageKind) → entries_before front (then_read others (λ entries. Ok (entry ∷ entries))) ≡ entries_before (front ++ entry ∷ []) others
entries_before-more front entry (Ok entries) = ap (λ all. Ok all) (sym (append_assoc front (entry ∷ []) entries))
entries_before-more front entry (Err kind) = refl
