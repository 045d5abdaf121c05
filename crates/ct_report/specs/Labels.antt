-- How tests are counted by their labels. This project's own.
use Rattle.std.specs.Prelude.{ℕ, ◌≡◌, ◌+◌, ◌-◌, ◌^◌, ◌<◌, Bool, ◌&&◌, List, map, bytes_eq, if◌then◌else◌, Vec}
use Rattle.std.specs.Borrow.{Bor}
use Rattle.std.specs.List.{list_any}
use Rattle.std.specs.Option.{unwrap_or}
use Rattle.std.specs.Ordering.{nat_cmp}
use Rattle.std.specs.Cmp.Lexicographic.{slice_cmp}
use Rattle.std.specs.BTreeMap.{BTreeMap, get_by}
use Rattle.ct_history.specs.declared.plan.PlanTest.{PlanTest}
use Rattle.ct_report.specs.Report.{has_label}

-- the labels that a set keeps
abbrev pub kept_labels : List (Bor (List ℕ)) → List (List ℕ)
kept_labels kept = map (λ label. label.now) kept

module _ {Y : Type 0} where
  -- how many tests are counted at a label
  abbrev pub label_count : BTreeMap (Vec ℕ Y) ℕ → List ℕ → ℕ
  label_count counts label =
      unwrap_or (get_by (λ (key : Vec ℕ Y). slice_cmp nat_cmp label key.items) counts) 0

  -- each count is below 2^64 - 1, so that one more test can be counted at each label
  abbrev pub CanCountMore : BTreeMap (Vec ℕ Y) ℕ → Type 0
  CanCountMore counts = (label : List ℕ) → label_count counts label < 2 ^ 64 - 1

  -- one more test is counted at this label, and the other counts stay
  abbrev pub CountsLabel : List ℕ → BTreeMap (Vec ℕ Y) ℕ → BTreeMap (Vec ℕ Y) ℕ → Type 0
  CountsLabel label before after =
      (other : List ℕ)
      → label_count after other ≡ label_count before other + (if bytes_eq label other then 1 else 0)

  -- one more test is counted at each of these labels, once even where a label is listed twice
  abbrev pub CountsLabels : List (List ℕ) → BTreeMap (Vec ℕ Y) ℕ → BTreeMap (Vec ℕ Y) ℕ → Type 0
  CountsLabels labels before after =
      (label : List ℕ)
      → label_count after label
      ≡ label_count before label + (if list_any (bytes_eq label) labels then 1 else 0)

  -- the test is counted at each of its labels, if it is wanted
  abbrev pub CountsTest : Bool → PlanTest → BTreeMap (Vec ℕ Y) ℕ → BTreeMap (Vec ℕ Y) ℕ → Type 0
  CountsTest wanted t before after =
      (label : List ℕ)
      → label_count after label
      ≡ label_count before label + (if wanted && has_label label t then 1 else 0)
