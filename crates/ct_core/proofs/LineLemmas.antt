-- Tests with the same demand: if a due one can't start, no
-- other can. So if no head of a line can start, no test can.
use Rattle.std.proofs.Common.{◌≡◌, ◌∙◌, sym, ap, subst, Bool, true, false, not, ◌&&◌, ◌||◌, ℕ, ◌+◌, ◌<◌, List, [], ◌∷◌, ◌++◌, length, map, take, get_or, nat_le, arith, inl, inr}
use Rattle.std.specs.Prelude.{Option, Some, None, option_map, option_and_then}
use Rattle.std.specs.List.{list_any}
use Rattle.std.proofs.Math.Path.{fun_ext}
use Rattle.std.proofs.lemmas.Bool.{and_from, cases_Bool}
use Rattle.std.proofs.lemmas.List.{get_or-map, length-map, map-append, map_more, take_more_same}
use Rattle.std.proofs.lemmas.Option.{same_Some, slice_get-get_or}
use Rattle.ct_history.specs.declared.plan.PlanTest.{PlanTest}
use Rattle.ct_history.specs.declared.plan.PlanParts.{PlanParts}
use Rattle.ct_history.specs.declared.history.Entry.{Entry}
use Rattle.ct_history.specs.Plan.{IsSound, test_at}
use Rattle.ct_history.specs.History.{Running, has_stop, open_starts, used_processors, used_slots}
use Rattle.ct_history.specs.Rules.{CanStart, exclude, has_processors, has_room, is_excluded, is_pending, is_placed, is_ready, is_serial, locks_of, may_start_at, shared_of}
use Rattle.ct_queue.specs.Lines.{AreNumbered}
use Rattle.ct_queue.specs.Ready.{ReadyValue, IsHead, is_member}
use Rattle.ct_queue.proofs.CallerLemmas.{HasHead, head_of_line}
use Rattle.ct_core.specs.Lines.{AreLinesOf, AskAlike, Demand, demand_at, demand_of, demand_of_test}
use Rattle.ct_core.specs.Choice.{NoneSettles}
use Rattle.ct_core.specs.Waiting.{IsDue, IsQueued}
use Rattle.ct_core.proofs.PickLemmas.{found_parts, member_may, no_member}
use Rattle.ct_core.proofs.ChoiceLemmas.{next_due}
use Rattle.ct_base.specs.Names.{shares_name}

same_exclude : (t u : PlanTest) (o : Option PlanTest) → t.locks ≡ u.locks → t.shared ≡ u.shared → t.serial ≡ u.serial → exclude (Some t) o ≡ exclude (Some u) o
unfolding exclude
same_exclude t u o locks shared serial = λ i.
    shares_name (locks i) (locks_of o)
    || shares_name (locks i) (shared_of o)
    || (shares_name (locks_of o) (locks i) || shares_name (locks_of o) (shared i))
    || serial i
    || is_serial o

module _ (plan : PlanParts) (es : List Entry) where
  -- of two tests with the same demand, both have room or neither has
  same_room : (t u : PlanTest) → AskAlike t u → has_room plan t es ≡ has_room plan u es
  same_room t u alike =
      let processors : t.processors ≡ u.processors = ap (λ (d : Demand). d.processors) alike in
      let locks : t.locks ≡ u.locks = ap (λ (d : Demand). d.locks) alike in
      let shared : t.shared ≡ u.shared = ap (λ (d : Demand). d.shared) alike in
      let serial : t.serial ≡ u.serial = ap (λ (d : Demand). d.serial) alike in
      let excludes : (λ (r : Running). exclude (Some t) (test_at plan.tests r.test)) ≡ (λ (r : Running). exclude (Some u) (test_at plan.tests r.test)) =
      fun_ext (λ r. same_exclude t u (test_at plan.tests r.test) locks shared serial) in
      ap (λ (n : ℕ). nat_le (n + used_processors plan.tests es) plan.level && not (is_excluded plan.tests t es)) processors
      ∙ ap (λ (p : Running → Bool). has_processors plan u es && not (list_any p (open_starts es))) excludes

  due_starts : (n m : ℕ) → IsDue plan es n → demand_of_test plan n ≡ demand_of_test plan m → CanStart plan es m → CanStart plan es n
  due_starts n m due alike can =
      let t = due.test in
      let p = can.placement in
      let other = found_parts plan es p (test_at plan.tests m) can.may in
      let u = other.0 in
      let may = other.2 in
      let same : AskAlike t u =
      same_Some (demand_of t) (demand_of u)
      (sym (ap (λ (o : Option PlanTest). option_map demand_of o) due.planned) ∙ alike ∙ ap (λ (o : Option PlanTest). option_map demand_of o) other.1) in
      let apart : not (is_excluded plan.tests u es) ≡ true = ap not may.apart in
      let room : has_room plan t es ≡ true =
      same_room t u same ∙ and_from (has_processors plan u es) (not (is_excluded plan.tests u es)) may.processors apart in
      let placed : is_placed plan.resources t.needs (used_slots es) p ≡ true =
      ap (λ (d : Demand). is_placed plan.resources d.needs (used_slots es) p) same ∙ may.placed in
      let on : not (has_stop es) ≡ true = ap not due.goes_on in
      let two = and_from (not (has_stop es)) (is_pending plan t es) on due.pending in
      let three = and_from (not (has_stop es) && is_pending plan t es) (is_ready plan t es) two due.ready in
      let four = and_from (not (has_stop es) && is_pending plan t es && is_ready plan t es) (has_room plan t es) three room in
      record {
        placement = p;
        may =
            ap (λ (o : Option PlanTest). may_start_at plan es p o) due.planned
            ∙ and_from (not (has_stop es) && is_pending plan t es && is_ready plan t es && has_room plan t es) (is_placed plan.resources t.needs (used_slots es) p) four placed;
      }

  -- if a due test can't start, no other test with the same demand can
  pub none_alike : (n m : ℕ) → IsDue plan es n → demand_of_test plan n ≡ demand_of_test plan m → (CanStart plan es n → ⊥) → CanStart plan es m → ⊥
  none_alike n m due alike none can = none (due_starts n m due alike can)

module _ (plan : PlanParts) where
  pub demand_there : (place : ℕ) → place < length plan.queue → demand_at plan place ≡ demand_of_test plan (get_or plan.queue place 0)
  demand_there place within =
      ap (λ (o : Option ℕ). option_and_then (demand_of_test plan) o) (slice_get-get_or plan.queue place 0 within)

  -- one more place has its line
  pub lines_more : (lines : List ℕ) (place line : ℕ) → place < length plan.queue → demand_at plan line ≡ demand_at plan place → map (demand_at plan) lines ≡ map (demand_of_test plan) (take place plan.queue) → map (demand_at plan) (lines ++ line ∷ []) ≡ map (demand_of_test plan) (take (place + 1) plan.queue)
  lines_more lines place line within alike before =
      map-append (demand_at plan) lines (line ∷ [])
      ∙ ap (λ (ds : List (Option Demand)). ds ++ demand_at plan line ∷ []) before
      ∙ ap (λ (d : Option Demand). map (demand_of_test plan) (take place plan.queue) ++ d ∷ []) (alike ∙ demand_there place within)
      ∙ sym (map_more (demand_of_test plan) plan.queue place 0 within)

module _ (plan : PlanParts) (lines : List ℕ) (are : AreLinesOf plan lines) where
  pub lines_as_many : length lines ≡ length plan.queue
  lines_as_many =
      sym (length-map lines (demand_at plan)) ∙ ap (λ (ds : List (Option Demand)). length ds) are.alike ∙ length-map plan.queue (demand_of_test plan)

  pub lines_numbered : AreNumbered lines
  lines_numbered = λ place within. subst (λ (k : ℕ). get_or lines place 0 < k) (sym lines_as_many) (are.within place 0 within)

  line_alike : (place : ℕ) → place < length plan.queue → demand_at plan (get_or lines place 0) ≡ demand_of_test plan (get_or plan.queue place 0)
  line_alike place within =
      let many = lines_as_many in
      sym (get_or-map (demand_at plan) lines place 0 None (omega (arith, within, many)))
      ∙ ap (λ (ds : List (Option Demand)). get_or ds place None) are.alike
      ∙ get_or-map (demand_of_test plan) plan.queue place 0 None within

  -- the test at a place and the test at the place of its line have the same demand
  pub line_demand : (place : ℕ) → place < length plan.queue → demand_at plan (get_or lines place 0) ≡ demand_at plan place
  line_demand place within = line_alike place within ∙ sym (demand_there plan place within)

  -- the tests of one line have the same demand
  pub one_line : (place other : ℕ) → place < length plan.queue → other < length plan.queue → get_or lines place 0 ≡ get_or lines other 0 → demand_of_test plan (get_or plan.queue place 0) ≡ demand_of_test plan (get_or plan.queue other 0)
  one_line place other within inside same =
      sym (line_alike place within) ∙ ap (λ (line : ℕ). demand_at plan line) same ∙ line_alike other inside

-- two lists that agree up to a position, and at it, agree up to the next
pub same_more : {A : Type 0} (xs ys : List A) (i : ℕ) (x y : A) → i < length xs → i < length ys → x ≡ get_or xs i x → y ≡ get_or ys i y → x ≡ y → take i xs ≡ take i ys → take (i + 1) xs ≡ take (i + 1) ys
same_more xs ys i x y lt within is at same before =
    take_more_same xs ys i x lt within before (sym is ∙ same ∙ at ∙ ap (λ z. get_or ys i z) (sym same))

-- it suffices to look at the heads of lines
module _ (plan : PlanParts) (sound : IsSound plan) (es : List Entry) (r : ReadyValue) (q : IsQueued plan es [] r) (on : has_stop es ≡ false) (unsettled : NoneSettles plan es) where
  -- if the head of a line can't start, no test of the line can
  behind_head : (place : ℕ) → place < length plan.queue → (head : HasHead r place) → (CanStart plan es (get_or plan.queue head.at 0) → ⊥) → CanStart plan es (get_or plan.queue place 0) → ⊥
  behind_head place within head none =
      let upto = head.upto in
      let inside : head.at < length plan.queue = omega (arith, upto, within) in
      let due = next_due plan es head.at (member_may plan sound es r q head.at on unsettled head.head.member) on in
      none_alike plan es (get_or plan.queue head.at 0) (get_or plan.queue place 0) due (one_line plan r.lines q.lines head.at place inside within head.same) none

  -- if no head in front of an end can start, no test in front of it can
  pub none_headed : (end : ℕ) → ((place : ℕ) → place < end → place < length plan.queue → IsHead r place → CanStart plan es (get_or plan.queue place 0) → ⊥) → (place : ℕ) → place < end → place < length plan.queue → CanStart plan es (get_or plan.queue place 0) → ⊥
  none_headed end none place before within = elim (cases_Bool (is_member r place)) [
    | inl member ↦
        let head = head_of_line r place member in
        let upto = head.upto in
        behind_head place within head (none head.at (omega (arith, upto, before)) (omega (arith, upto, within)) head.head)
    | inr bare ↦ no_member plan sound es r q place within bare
  ]
