-- Lines and names that are kept by their names, and what contracts see of them.
use Rattle.std.proofs.Common.{◌≡◌, ℕ, Bool, true, false, cond, bytes_eq, List, [], ◌∷◌, ◌++◌, map, Option, Some, None, option_map, unwrap_or, IfSome, is_some, refl, sym, ap, ◌∙◌}
use Rattle.std.specs.List.{AllZip}
use Rattle.std.specs.Option.{option_map_or}
use Rattle.std.specs.Map.{lookup, set_value}
use Rattle.std.specs.declared.vec.Vec.{Vec}
use Rattle.std.proofs.lemmas.Slice.Eq.{bytes_eq-Decides}
use Rattle.indexmap.specs.IndexMap.{insert_entry}
use Rattle.ct_cost.specs.CostLine.{CostLine, last_durations, line_of, with_line, with_run, unrun, after_run}
use Rattle.ct_cost.specs.Kept.{line_for, kept_line, durations_of, with_read}

module _ {Z : Type 0} where
  durations_by : (entry : Vec ℕ Z × List ℕ) (name : List ℕ) (found : Option (List ℕ)) (lines : List CostLine) → found ≡ option_map durations_of (line_of lines name) → (is : Bool)
      → cond is (Some entry.1) found ≡ option_map durations_of (cond is (Some (kept_line entry)) (line_of lines name))
  durations_by entry name found lines rest true = refl
  durations_by entry name found lines rest false = rest

  -- the durations that are kept by a name are those of its line
  pub durations-lookup : (name : List ℕ) (entries : List (Vec ℕ Z × List ℕ)) → lookup (λ (key : Vec ℕ Z). bytes_eq name key.items) entries ≡ option_map durations_of (line_of (map kept_line entries) name)
  durations-lookup name [] = refl
  durations-lookup name (entry ∷ entries) =
      durations_by entry name (lookup (λ (key : Vec ℕ Z). bytes_eq name key.items) entries) (map kept_line entries) (durations-lookup name entries) (bytes_eq name entry.0.items)

  insert_by : (entry : Vec ℕ Z × List ℕ) (entries more : List (Vec ℕ Z × List ℕ)) (key : Vec ℕ Z) (durations : List ℕ) → map kept_line more ≡ with_line (map kept_line entries) (line_for key.items durations) → (is : Bool) → bytes_eq key.items entry.0.items ≡ is
      → map kept_line (cond is ((entry.0, durations) ∷ entries) (entry ∷ more)) ≡ cond is (line_for key.items durations ∷ map kept_line entries) (kept_line entry ∷ with_line (map kept_line entries) (line_for key.items durations))
  insert_by entry entries more key durations rest true is =
      ap (λ name. line_for name durations ∷ map kept_line entries) (sym ((bytes_eq-Decides key.items entry.0.items).0 is))
  insert_by entry entries more key durations rest false is = ap (λ lines. kept_line entry ∷ lines) rest

  -- durations that are put in are the line of their name
  pub lines-insert_entry : (entries : List (Vec ℕ Z × List ℕ)) (key : Vec ℕ Z) (durations : List ℕ) → map kept_line (insert_entry (λ (one other : Vec ℕ Z). bytes_eq one.items other.items) entries key durations) ≡ with_line (map kept_line entries) (line_for key.items durations)
  lines-insert_entry [] key durations = refl
  lines-insert_entry (entry ∷ entries) key durations =
      insert_by entry entries (insert_entry (λ (one other : Vec ℕ Z). bytes_eq one.items other.items) entries key durations) key durations (lines-insert_entry entries key durations) (bytes_eq key.items entry.0.items) refl

  set_by : (entry : Vec ℕ Z × List ℕ) (entries more : List (Vec ℕ Z × List ℕ)) (name durations old : List ℕ) (found : Option (List ℕ)) → (found ≡ Some old → map kept_line more ≡ with_line (map kept_line entries) (line_for name durations)) → (is : Bool) → bytes_eq name entry.0.items ≡ is → cond is (Some entry.1) found ≡ Some old
      → map kept_line (cond is ((entry.0, durations) ∷ entries) (entry ∷ more)) ≡ cond is (line_for name durations ∷ map kept_line entries) (kept_line entry ∷ with_line (map kept_line entries) (line_for name durations))
  set_by entry entries more name durations old found rest true is there =
      ap (λ bytes. line_for bytes durations ∷ map kept_line entries) (sym ((bytes_eq-Decides name entry.0.items).0 is))
  set_by entry entries more name durations old found rest false is there =
      ap (λ lines. kept_line entry ∷ lines) (rest there)

  -- durations that replace those of a name are its line
  pub lines-set_value : (entries : List (Vec ℕ Z × List ℕ)) (name durations old : List ℕ) → lookup (λ (key : Vec ℕ Z). bytes_eq name key.items) entries ≡ Some old → map kept_line (set_value (λ (key : Vec ℕ Z). bytes_eq name key.items) entries durations) ≡ with_line (map kept_line entries) (line_for name durations)
  lines-set_value [] name durations old there = cc
  lines-set_value (entry ∷ entries) name durations old there =
      set_by entry entries (set_value (λ (key : Vec ℕ Z). bytes_eq name key.items) entries durations) name durations old (lookup (λ (key : Vec ℕ Z). bytes_eq name key.items) entries) (lines-set_value entries name durations old) (bytes_eq name entry.0.items) refl there

none_left : (is : Bool) (first : CostLine) (found : Option CostLine) → is_some (cond is (Some first) found) ≡ false → (is ≡ false) × (is_some found ≡ false)
none_left true first found none = cc
none_left false first found none = (refl, none)

-- a line whose name has none goes behind the others
pub new_line : (lines : List CostLine) (line : CostLine) → is_some (line_of lines line.name) ≡ false → with_line lines line ≡ lines ++ line ∷ []
new_line [] line none = refl
new_line (first ∷ lines) line none =
    let parts = none_left (bytes_eq line.name first.name) first (line_of lines line.name) none in
    ap (λ is. cond is (line ∷ lines) (first ∷ with_line lines line)) parts.0 ∙ ap (λ ls. first ∷ ls) (new_line lines line parts.1)

named_by : (first : CostLine) (name : List ℕ) (found : Option CostLine) → IfSome found (λ (l : CostLine). l.name ≡ name) → (is : Bool) → bytes_eq name first.name ≡ is → IfSome (cond is (Some first) found) (λ (l : CostLine). l.name ≡ name)
named_by first name found rest true is = sym ((bytes_eq-Decides name first.name).0 is)
named_by first name found rest false is = rest

-- the line that is found by a name has the name
pub line_of-named : (lines : List CostLine) (name : List ℕ) → IfSome (line_of lines name) (λ (l : CostLine). l.name ≡ name)
line_of-named [] name = tt
line_of-named (first ∷ lines) name = named_by first name (line_of lines name) (line_of-named lines name) (bytes_eq name first.name) refl

run_by : (name : List ℕ) (micros : ℕ) (found : Option CostLine) → IfSome found (λ (l : CostLine). l.name ≡ name)
    → line_for name (last_durations (option_map_or durations_of found [] ++ micros ∷ [])) ≡ option_map_or (with_run micros) found (with_run micros (unrun name))
run_by name micros None named = refl
run_by name micros (Some line) named = λ i. record { name = sym named i; durations = last_durations (line.durations ++ micros ∷ []) }

-- the durations of a line, or none, by what was found of them
pub found_or_none : (found : Option CostLine) (said : Option (List ℕ)) → said ≡ option_map durations_of found → unwrap_or said [] ≡ option_map_or durations_of found []
found_or_none None said is = ap (λ o. unwrap_or o []) is
found_or_none (Some line) said is = ap (λ o. unwrap_or o []) is

-- the durations of a name after one more run are those of its line
pub run-line : (lines : List CostLine) (name : List ℕ) (micros : ℕ) (before after : List ℕ) → before ≡ option_map_or durations_of (line_of lines name) [] → after ≡ last_durations (before ++ micros ∷ [])
    → with_line lines (line_for name after) ≡ after_run lines name micros
run-line lines name micros before after is more =
    ap (with_line lines)
    (ap (line_for name) more
    ∙ ap (λ durations. line_for name (last_durations (durations ++ micros ∷ []))) is
    ∙ run_by name micros (line_of lines name) (line_of-named lines name))

-- a line that was read, and whose name has no line yet, goes behind the others
pub new_read : (lines : List CostLine) (line : CostLine) (said : Option CostLine) → Some line ≡ said → is_some (line_of lines line.name) ≡ false → with_line lines line ≡ with_read lines said
new_read lines line said is none =
    new_line lines line none ∙ ap (λ b. cond b lines (lines ++ line ∷ [])) (sym none) ∙ ap (with_read lines) is

pub is_some-mapped : {X Y : Type 0} (f : X → Y) (found : Option X) → is_some (option_map f found) ≡ is_some found
is_some-mapped f None = refl
is_some-mapped f (Some item) = refl

pub same_bytes : (xs ys : List ℕ) → AllZip (λ x y. y ≡ x) xs ys → ys ≡ xs
same_bytes [] [] all = refl
same_bytes [] (y ∷ ys) all = absurd all
same_bytes (x ∷ xs) [] all = absurd all
same_bytes (x ∷ xs) (y ∷ ys) all = λ i. all.0 i ∷ same_bytes xs ys all.1 i

-- copies of kept lines are the same lines
pub copied : {Z : Type 0} (C : Vec ℕ Z → Vec ℕ Z → Type 0) (D : List ℕ → List ℕ → Type 0) → ((k l : Vec ℕ Z) → C k l → l.items ≡ k.items) → ((x y : List ℕ) → D x y → y ≡ x) → (entries copies : List (Vec ℕ Z × List ℕ)) → AllZip (λ p q. C p.0 q.0 × D p.1 q.1) entries copies
    → map kept_line copies ≡ map kept_line entries
copied C D key times [] [] all = refl
copied C D key times [] (copy ∷ copies) all = absurd all
copied C D key times (entry ∷ entries) [] all = absurd all
copied C D key times (entry ∷ entries) (copy ∷ copies) all =
    λ i. line_for (key entry.0 copy.0 all.0.0 i) (times entry.1 copy.1 all.0.1 i) ∷ copied C D key times entries copies all.1 i
