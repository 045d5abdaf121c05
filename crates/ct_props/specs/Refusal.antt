-- Which key a test is refused for: the least one, in byte order, whose value has no reading.
use Rattle.std.specs.Prelude.{◌≡◌, ⊤, ℕ, bytes_eq, List, [], ◌∷◌, Option, Some, None, Result, Ok, Err, codes, if◌then◌else◌}
use Rattle.std.specs.Ordering.{nat_cmp}
use Rattle.std.specs.Cmp.Lexicographic.{slice_cmp}
use Rattle.std.specs.declared.cmp.Ordering.TheVariants.{Less}
use Rattle.ct_base.specs.declared.defs.Pair.{Pair}
use Rattle.ct_regex.specs.declared.fault.RegexFault.TheVariants.{NoMemory as RegexMemory}
use Rattle.ct_groups.specs.declared.fault.GroupsFault.TheVariants.{NoMemory as GroupsMemory}
use Rattle.ct_props.specs.declared.fault.PropKind.{PropKind}
use Rattle.ct_props.specs.declared.fault.PropKind.TheVariants.{BadPattern, BadGroups}
use Rattle.ct_props.specs.declared.fault.PropFault.{PropFault}
use Rattle.ct_props.specs.declared.fault.PropFault.TheVariants.{Bad, NoMemory}
use Rattle.ct_props.specs.Values.{value_of_key, text_of_key, processors_in, seconds_in, skip_code_in, patterns_in, resource_groups_in}

-- why a value is refused, if it is
abbrev pub why_not : {X : Type 0} → Result X PropKind → Option PropKind
why_not (Ok x) = None
why_not (Err kind) = Some kind

-- the keys whose values can be refused, in byte order, each with why it is refused, if it is
abbrev pub refusals : List Pair → List (List ℕ × Option PropKind)
refusals props =
    (codes "COST", why_not (seconds_in (value_of_key props (codes "COST")))) ∷ (
      codes "FAIL_REGULAR_EXPRESSION",
      why_not (patterns_in (text_of_key props (codes "FAIL_REGULAR_EXPRESSION"))),
    ) ∷ (
      codes "PASS_REGULAR_EXPRESSION",
      why_not (patterns_in (text_of_key props (codes "PASS_REGULAR_EXPRESSION"))),
    ) ∷
    (codes "PROCESSORS", why_not (processors_in (value_of_key props (codes "PROCESSORS")))) ∷
    (codes "RESOURCE_GROUPS", why_not (resource_groups_in (text_of_key props (codes "RESOURCE_GROUPS")))) ∷ (
      codes "SKIP_REGULAR_EXPRESSION",
      why_not (patterns_in (text_of_key props (codes "SKIP_REGULAR_EXPRESSION"))),
    ) ∷
    (codes "SKIP_RETURN_CODE", why_not (skip_code_in (value_of_key props (codes "SKIP_RETURN_CODE")))) ∷
    (codes "TIMEOUT", why_not (seconds_in (value_of_key props (codes "TIMEOUT")))) ∷
    []

-- why a key is refused, by the table; a key that is not in the table never is
abbrev pub refused_in : List ℕ → List (List ℕ × Option PropKind) → Option PropKind
refused_in key [] = None
refused_in key (row ∷ rows) = if bytes_eq key row.0 then row.1 else refused_in key rows

-- why a test is refused for a key, if it is
abbrev pub refused_as : List Pair → List ℕ → Option PropKind
refused_as props key = refused_in key (refusals props)

-- the first name comes before the second one in byte order
abbrev pub ComesBefore : List ℕ → List ℕ → Type 0
ComesBefore one other = slice_cmp nat_cmp one other ≡ Less

-- a test is refused for this key in this way, and for none that comes before it
pub record IsLeastRefused (props : List Pair) (key : List ℕ) (kind : PropKind) : Type 0 where
  pub refused : refused_as props key ≡ Some kind
  pub least : (other : List ℕ) → ComesBefore other key → refused_as props other ≡ None

-- the test is refused for this fault, or the fault is want of memory, which may come at any time
abbrev pub IsPropFault : List Pair → PropFault → Type 0
IsPropFault props NoMemory = ⊤
IsPropFault props (Bad key kind) = IsLeastRefused props key kind

-- the fault names this key and kind, or is want of memory, which may come at any time
abbrev pub IsBad : List ℕ → PropKind → PropFault → Type 0
IsBad key kind NoMemory = ⊤
IsBad key kind (Bad other told) = (other ≡ key) × (told ≡ kind)

-- the fault of a key is what its rule says, or is want of memory, which may come at any time
abbrev pub IsKeyFault : {Y : Type 0} → List ℕ → Result Y PropKind → PropFault → Type 0
IsKeyFault key says NoMemory = ⊤
IsKeyFault key says (Bad other kind) = (other ≡ key) × (says ≡ Err kind)

-- what was read of a key is, as `view` shows it, what the rule of the key says; a fault is that of the key
abbrev pub ReadsKey : {X Y : Type 0} → (X → Y) → List ℕ → Result Y PropKind → Result X PropFault → Type 0
ReadsKey view key says (Ok x) = says ≡ Ok (view x)
ReadsKey view key says (Err fault) = IsKeyFault key says fault

-- the reason in a fault is not want of memory, which is a fault of its own
abbrev pub IsReason : PropKind → Type 0
IsReason (BadPattern RegexMemory) = ⊥
IsReason (BadGroups GroupsMemory) = ⊥
IsReason _ = ⊤

-- the reason in the fault of a key is not want of memory
abbrev pub HasReason : PropFault → Type 0
HasReason NoMemory = ⊤
HasReason (Bad key kind) = IsReason kind
