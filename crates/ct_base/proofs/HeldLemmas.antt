-- What pairs hold when one more is appended.
use Rattle.std.specs.Prelude.{ℕ, ◌≡◌, ◌≢◌, List, false, bytes_eq}
use Rattle.std.proofs.Common.{sym}
use Rattle.std.proofs.lemmas.List.{reverse-append}
use Rattle.std.proofs.lemmas.Slice.Eq.{bytes_eq-Decides}
use Rattle.std.proofs.lemmas.Bool.{false_from_ne_true}
use Rattle.ct_base.specs.declared.defs.Pair.{Pair}
use Rattle.ct_base.specs.Memory.{held_by, with_pair}
use Rattle.ct_base.specs.Outside.{Writes}
use Rattle.ct_base.proofs.NameLemmas.{bytes_eq-refl}

bytes_eq-other : (one other : List ℕ) → other ≢ one → bytes_eq one other ≡ false
bytes_eq-other one other differ =
    false_from_ne_true (bytes_eq one other) (λ same. differ (sym ((bytes_eq-Decides one other).0 same)))

-- the last pair is the one that counts for its path
pub held_by-put : (pairs after : List Pair) (path bytes : List ℕ) → after ≡ with_pair pairs path bytes → Writes path bytes (held_by pairs) (held_by after)
held_by-put pairs after path bytes is = rw is (record {
  here = rw (reverse-append, bytes_eq-refl path);
  others = λ other differ. rw (reverse-append, bytes_eq-other path other differ);
})
