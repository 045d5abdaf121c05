-- Bunches of tests that wait for one lock: while the lock is closed, no test of
-- the bunch can start. So the first test that may start is found by a look at
-- the first head of each bunch and, if the lock is open, at the heads behind it.
use Rattle.std.proofs.Common.{◌≡◌, ◌∙◌, sym, ap, subst, Bool, true, false, not, ◌&&◌, ◌||◌, ◌==◌, cond, ℕ, ◌+◌, ◌<◌, ◌≤◌, List, [], ◌∷◌, ◌++◌, All, length, length-append, take, get_or, slice_get, nat_le, nat_lt, refl, arith, inl, inr}
use Rattle.std.specs.Prelude.{Option, Some, None, MatchOption, IfSome, option_and_then, option_map}
use Rattle.std.specs.List.{list_any}
use Rattle.std.specs.Option.{option_or}
use Rattle.std.proofs.lemmas.Bool.{true≢false, and_from, cases_eq, cases_lt, eqb-true, or_right, not-false}
use Rattle.std.proofs.Math.Seq.{get_or-append_seam}
use Rattle.std.proofs.Math.Bool.{and-false}
use Rattle.std.proofs.lemmas.List.{get_or_append_left, get_or_default}
use Rattle.std.proofs.lemmas.List.Elements.{All-push}
use Rattle.std.proofs.lemmas.List.Folds.{list_any_at}
use Rattle.std.proofs.lemmas.Option.{none-some, same_Some, slice_get-get_or, slice_get_within}
use Rattle.ct_base.specs.declared.defs.Need.{Need}
use Rattle.ct_base.specs.declared.defs.Resource.{Resource}
use Rattle.ct_history.specs.declared.plan.PlanTest.{PlanTest}
use Rattle.ct_history.specs.declared.plan.PlanParts.{PlanParts}
use Rattle.ct_history.specs.declared.history.Entry.{Entry}
use Rattle.ct_history.specs.Plan.{IsSound, test_at}
use Rattle.ct_history.specs.History.{has_stop, open_starts, used_slots}
use Rattle.ct_history.specs.Rules.{CanStart, has_room, is_placed, may_start_at, may_start_if_placed}
use Rattle.ct_queue.specs.Lines.{AreNumbered}
use Rattle.ct_queue.specs.Ready.{ReadyValue, IsHead, IsNextHead, IsOfNewBunch, IsOfSeenBunch, NoHeadBehind}
use Rattle.ct_core.specs.declared.choice.Startable.{Startable}
use Rattle.ct_core.specs.declared.in_use.InUse.{InUse}
use Rattle.ct_core.specs.declared.bunches.KeyPlace.{KeyPlace}
use Rattle.ct_core.specs.declared.bunches.KeyPlace.TheVariants.{Alone, Shared}
use Rattle.ct_core.specs.Bunches.{AreBunchesOf, IsBefore, IsFirstOfBunch, Key, NoneOfBunch, NoNewBunchTo, has_room_at, is_open_key, key_at, key_in, key_of, test_in_queue}
use Rattle.ct_core.specs.Choice.{IsStartOf, IsStartable, NoneSettles, NoneStarts}
use Rattle.ct_core.specs.InUse.{IsInUse, is_closed, is_excluded_beside, is_locked}
use Rattle.ct_core.specs.Lines.{demand_at, demand_of_test}
use Rattle.ct_core.specs.Locks.{is_held}
use Rattle.ct_core.specs.Waiting.{IsDue, IsQueued}
use Rattle.ct_core.proofs.ChoiceLemmas.{first_starts, next_due, not_due}
use Rattle.ct_core.proofs.InUseLemmas.{room_beside}
use Rattle.ct_core.proofs.LineLemmas.{demand_there, none_alike, none_headed}
use Rattle.ct_core.proofs.PickLemmas.{member_may, none_before}

-- a lock of this list is there
record HasLock (locks : List (List ℕ)) (lock : List ℕ) : Type 0 where
  pub at : ℕ
  pub named : slice_get locks at ≡ Some lock

-- a test without needs that has this key
record HasKey (o : Option PlanTest) (key : Key) : Type 0 where
  pub test : PlanTest
  pub found : o ≡ Some test
  pub unplaced : (length test.needs == 0) ≡ true
  pub named : cond key.alone (HasLock test.locks key.lock) (HasLock test.shared key.lock)

has_lock : (alone : Bool) (locks : List (List ℕ)) (at : ℕ) (o : Option (List ℕ)) (key : Key) → slice_get locks at ≡ o → option_map (λ (lock : List ℕ). record { lock = lock; alone = alone }) o ≡ Some key → HasLock locks key.lock × (key.alone ≡ alone)
has_lock alone locks at None key there is = absurd (none-some key is)
has_lock alone locks at (Some lock) key there is =
    let same : record { lock = lock; alone = alone } ≡ key = same_Some (record { lock = lock; alone = alone }) key is in
    (record { at = at; named = there ∙ ap (λ (k : Key). Some k.lock) same }, sym (ap (λ (k : Key). k.alone) same))

has_key : (o : Option PlanTest) (k : Option KeyPlace) (key : Key) → key_of o k ≡ Some key → HasKey o key
has_key None k key is = absurd (none-some key is)
has_key (Some t) None key is = absurd (none-some key is)
has_key (Some t) (Some place) key is = by_needs (length t.needs == 0) refl is
  where
    named : (place : KeyPlace) → key_in t place ≡ Some key → cond key.alone (HasLock t.locks key.lock) (HasLock t.shared key.lock)
    named (Alone at) there =
        let has = has_lock true t.locks at (slice_get t.locks at) key refl there in
        subst (λ (b : Bool). cond b (HasLock t.locks key.lock) (HasLock t.shared key.lock)) (sym has.1) has.0
    named (Shared at) there =
        let has = has_lock false t.shared at (slice_get t.shared at) key refl there in
        subst (λ (b : Bool). cond b (HasLock t.locks key.lock) (HasLock t.shared key.lock)) (sym has.1) has.0

    by_needs : (b : Bool) → (length t.needs == 0) ≡ b → cond b (key_in t place) None ≡ Some key → HasKey (Some t) key
    by_needs true none there = record { test = t; found = refl; unplaced = none; named = named place there }
    by_needs false some there = absurd (none-some key there)

-- if the element at some position passes, then some element of the list passes
any_at : (p : List ℕ → Bool) (names : List (List ℕ)) (at : ℕ) (name : List ℕ) → slice_get names at ≡ Some name → p name ≡ true → list_any p names ≡ true
any_at p names at name there is =
    let within = slice_get_within names at name there in
    let same : get_or names at name ≡ name = same_Some (get_or names at name) name (sym (slice_get-get_or names at name within) ∙ there) in
    list_any_at p names at name within (ap p same ∙ is)

-- what is in use excludes a test to which a lock of its own is closed
closed_excludes : (u : InUse) (t : PlanTest) (lock : List ℕ) (alone : Bool) → is_closed u alone lock ≡ true → cond alone (HasLock t.locks lock) (HasLock t.shared lock) → is_excluded_beside u t ≡ true
closed_excludes u t lock true shut has =
    let any = any_at (is_locked u) t.locks has.at lock has.named shut in
    ap (λ (b : Bool). u.serial || t.serial && nat_lt 0 u.open_count || b || list_any (is_held u.locks) t.shared) any
    ∙ ap (λ (b : Bool). b || list_any (is_held u.locks) t.shared) (or_right (u.serial || t.serial && nat_lt 0 u.open_count) true refl)
closed_excludes u t lock false shut has =
    let any = any_at (is_held u.locks) t.shared has.at lock has.named shut in
    or_right (u.serial || t.serial && nat_lt 0 u.open_count || list_any (is_locked u) t.locks) (list_any (is_held u.locks) t.shared) any

-- for a test without needs, no placement is the right one
unplaced_fits : (resources : Option (List Resource)) (needs : List Need) (used : ℕ → ℕ) → (length needs == 0) ≡ true → is_placed resources needs used None ≡ true
unplaced_fits None needs used none = refl
unplaced_fits (Some rs) [] used none = refl
unplaced_fits (Some rs) (need ∷ needs) used none = absurd (omega (arith, eqb-true (length (need ∷ needs)) 0 none))

-- a key is there exactly if its lock is
pub lock_there : (o : Option Key) → option_map (λ (k : Key). k.lock) o ≡ None → o ≡ None
lock_there None none = refl
lock_there (Some key) none = absurd (none-some key.lock (sym none))

-- the lock in a key is the lock that it was made of
pub lock_again : (alone : Bool) (o : Option (List ℕ)) → option_map (λ (k : Key). k.lock) (option_map (λ (lock : List ℕ). record { lock = lock; alone = alone }) o) ≡ o
lock_again alone None = refl
lock_again alone (Some lock) = refl

module _ (plan : PlanParts) where
  queue_there : (place : ℕ) → place < length plan.queue → test_in_queue plan place ≡ test_at plan.tests (get_or plan.queue place 0)
  queue_there place within = ap (λ (o : Option ℕ). option_and_then (test_at plan.tests) o) (slice_get-get_or plan.queue place 0 within)

module _ (plan : PlanParts) (keys : List (Option KeyPlace)) (bunches : List ℕ) (are : AreBunchesOf plan keys bunches) where
  pub bunches_numbered : AreNumbered bunches
  bunches_numbered = λ place within. let many = are.many in subst (λ (k : ℕ). get_or bunches place 0 < k) (sym many) (are.within place 0 within)

  -- the tests of one bunch have the same key
  one_key : (place other : ℕ) → place < length plan.queue → other < length plan.queue → get_or bunches place 0 ≡ get_or bunches other 0 → key_at plan keys place ≡ key_at plan keys other
  one_key place other within inside same =
      sym (are.locked place within) ∙ ap (λ (bunch : ℕ). key_at plan keys bunch) same ∙ are.locked other inside

  -- the tests of one bunch have the same demand, if they have no key
  one_demand : (place other : ℕ) → place < length plan.queue → other < length plan.queue → get_or bunches place 0 ≡ get_or bunches other 0 → key_at plan keys place ≡ None → demand_of_test plan (get_or plan.queue place 0) ≡ demand_of_test plan (get_or plan.queue other 0)
  one_demand place other within inside same none =
      sym (demand_there plan place within)
      ∙ sym (are.alike place within none)
      ∙ ap (λ (bunch : ℕ). demand_at plan bunch) same
      ∙ are.alike other inside (sym (one_key place other within inside same) ∙ none)
      ∙ demand_there plan other inside

-- the bunches of the places before `end` are right
pub record AreBunchesTo (plan : PlanParts) (keys : List (Option KeyPlace)) (bunches : List ℕ) (end : ℕ) : Type 0 where
  pub many : length bunches ≡ end
  pub within : All (λ bunch. bunch < length plan.queue) bunches
  pub locked : (place : ℕ) → place < end → key_at plan keys (get_or bunches place 0) ≡ key_at plan keys place
  pub alike : (place : ℕ) → place < end → key_at plan keys place ≡ None → demand_at plan (get_or bunches place 0) ≡ demand_at plan place

module _ (plan : PlanParts) (keys : List (Option KeyPlace)) (bunches : List ℕ) (end : ℕ) (to : AreBunchesTo plan keys bunches end) where
  -- one more place has its bunch
  pub bunches_more : (bunch : ℕ) → bunch < length plan.queue → key_at plan keys bunch ≡ key_at plan keys end → (key_at plan keys end ≡ None → demand_at plan bunch ≡ demand_at plan end) → AreBunchesTo plan keys (bunches ++ bunch ∷ []) (end + 1)
  bunches_more bunch within locked alike = record {
    many = let long = length-append bunches (bunch ∷ []) in let many = to.many in omega (arith, long, many);
    within = All-push (λ (b : ℕ). b < length plan.queue) bunches bunch to.within within;
    locked = λ place before. elim (cases_lt place end) [
      | inl earlier ↦ subst (λ (b : ℕ). key_at plan keys b ≡ key_at plan keys place) (sym (was place earlier)) (to.locked place earlier)
      | inr last ↦ subst (λ (b : ℕ). key_at plan keys b ≡ key_at plan keys place) (sym (now place before last))
          (subst (λ (p : ℕ). key_at plan keys bunch ≡ key_at plan keys p) (here place before last) locked)
    ];
    alike = λ place before none. elim (cases_lt place end) [
      | inl earlier ↦ subst (λ (b : ℕ). demand_at plan b ≡ demand_at plan place) (sym (was place earlier)) (to.alike place earlier none)
      | inr last ↦ subst (λ (b : ℕ). demand_at plan b ≡ demand_at plan place) (sym (now place before last))
          (subst (λ (p : ℕ). demand_at plan bunch ≡ demand_at plan p) (here place before last) (alike (ap (λ (p : ℕ). key_at plan keys p) (here place before last) ∙ none)))
    ];
  }
    where
      here : (place : ℕ) → place < end + 1 → end ≤ place → end ≡ place
      here place before last = omega (arith, before, last)

      was : (place : ℕ) → place < end → get_or (bunches ++ bunch ∷ []) place 0 ≡ get_or bunches place 0
      was place earlier = get_or_append_left bunches (bunch ∷ []) 0 place (let many = to.many in omega (arith, earlier, many))

      now : (place : ℕ) → place < end + 1 → end ≤ place → get_or (bunches ++ bunch ∷ []) place 0 ≡ bunch
      now place before last =
          ap (λ (p : ℕ). get_or (bunches ++ bunch ∷ []) p 0) (sym (to.many ∙ here place before last)) ∙ get_or-append_seam bunches bunch [] 0

  -- the bunches of all places are right
  pub bunches_all : end ≡ length plan.queue → AreBunchesOf plan keys bunches
  bunches_all all = record {
    many = to.many ∙ all;
    within = to.within;
    locked = λ place within. to.locked place (omega (arith, within, all));
    alike = λ place within none. to.alike place (omega (arith, within, all)) none;
  }

-- a test of the queue without needs, which may start exactly if there is room for it
record IsRoomFor (plan : PlanParts) (es : List Entry) (u : InUse) (place : ℕ) : Type 0 where
  pub test : PlanTest
  pub found : test_at plan.tests (get_or plan.queue place 0) ≡ Some test
  pub unplaced : (length test.needs == 0) ≡ true
  pub room : has_room_at plan u (test_in_queue plan place) ≡ may_start_if_placed plan test es

-- the test at this place, which is a head, may start without a placement
pub record StartsAt (plan : PlanParts) (es : List Entry) (r : ReadyValue) (place : ℕ) : Type 0 where
  pub head : IsHead r place
  pub may : may_start_at plan es None (test_at plan.tests (get_or plan.queue place 0)) ≡ true

-- the places that were looked at: no head of a seen bunch in front of the best place may start, and the test
-- at the best place may
pub record IsLooked (plan : PlanParts) (es : List Entry) (r : ReadyValue) (behind found : Option ℕ) : Type 0 where
  pub none : (head : ℕ) → IsHead r head → IsOfSeenBunch r behind head → IsBefore found head → CanStart plan es (get_or plan.queue head 0) → ⊥
  pub best : IfSome found (StartsAt plan es r)

before_both : (best : Option ℕ) (place other : ℕ) → other ≤ place → IsBefore best place → IsBefore best other
before_both None place other upto before = tt
before_both (Some b) place other upto before = omega (arith, upto, before)

-- if the first head of a new bunch is not in front of the
-- end, each head in front of the end is of a seen bunch
pub bunch_ends : (r : ReadyValue) (behind end : Option ℕ) (first : ℕ) → IsOfNewBunch r behind first → (IsBefore end first → ⊥) → NoNewBunchTo r behind end
bunch_ends r behind end first new past head is before = new.earlier head (ends end past before) is
  where
    ends : (e : Option ℕ) → (IsBefore e first → ⊥) → IsBefore e head → head < first
    ends None not_before less = absurd (not_before tt)
    ends (Some e) not_before less = elim (cases_lt first e) [
      | inl inside ↦ absurd (not_before inside)
      | inr upto ↦ omega (arith, less, upto)
    ]

module _ (plan : PlanParts) (sound : IsSound plan) (es : List Entry) (r : ReadyValue) (q : IsQueued plan es [] r) (on : has_stop es ≡ false) (unsettled : NoneSettles plan es) where
  pub head_due : (place : ℕ) → IsHead r place → IsDue plan es (get_or plan.queue place 0)
  head_due place head = next_due plan es place (member_may plan sound es r q place on unsettled head.member) on

  pub head_within : (place : ℕ) → IsHead r place → place < length plan.queue
  head_within place head = let may = member_may plan sound es r q place on unsettled head.member in may.within

  -- before any look no bunch is seen
  pub looks_begin : IsLooked plan es r None None
  looks_begin = record { none = λ head is seen before. absurd (seen.seen tt); best = tt }

  module _ (behind best : Option ℕ) (looked : IsLooked plan es r behind best) where
    -- no test in front of the first head of a new bunch may start
    pub none_to : (first : ℕ) → IsOfNewBunch r behind first → IsBefore best first → NoneStarts plan es (take first plan.queue)
    none_to first new before =
        none_before plan es first (none_headed plan sound es r q on unsettled first
        (λ place less inside head. looked.none place head (new.earlier place less head) (before_both best first place (omega (arith, less)) before)))

    -- no test in front of the best place may start, if each head there is of a seen bunch
    none_to_best : (b : ℕ) → best ≡ Some b → ((place : ℕ) → place < b → IsHead r place → IsOfSeenBunch r behind place) → NoneStarts plan es (take b plan.queue)
    none_to_best b is seen =
        none_before plan es b (none_headed plan sound es r q on unsettled b
        (λ place less inside head. looked.none place head (seen place less head) (subst (λ (o : Option ℕ). IsBefore o place) (sym is) less)))

    pub best_starts : (b : ℕ) → best ≡ Some b → StartsAt plan es r b
    best_starts b is = subst (λ (o : Option ℕ). IfSome o (StartsAt plan es r)) is looked.best

    pub best_due : (b : ℕ) → best ≡ Some b → IsDue plan es (get_or plan.queue b 0)
    best_due b is = let at = best_starts b is in head_due b at.head

    pub best_within : (b : ℕ) → best ≡ Some b → b < length plan.queue
    best_within b is = let at = best_starts b is in head_within b at.head

    -- once each bunch is seen, the test at the best place is the first that may start
    pub best_first : (b : ℕ) (start : Startable) → best ≡ Some b → NoNewBunchTo r behind best → IsStartOf plan es (get_or plan.queue b 0) start → IsStartable plan es start
    best_first b start is all of =
        first_starts plan es b (get_or plan.queue b 0) start (best_within b is) refl
        (none_to_best b is (λ place less head. all place head (subst (λ (o : Option ℕ). IsBefore o place) (sym is) less))) of

    -- once each bunch is seen and there is no best place, no test may start
    pub none_last : best ≡ None → NoNewBunchTo r behind best → NoneStarts plan es plan.queue
    none_last is all = λ place d inside.
        subst (λ (n : ℕ). CanStart plan es n → ⊥) (get_or_default plan.queue place 0 d inside)
        (none_headed plan sound es r q on unsettled (length plan.queue)
        (λ other before within head.
        let free : IsBefore best other = subst (λ (o : Option ℕ). IsBefore o other) (sym is) tt in
        looked.none other head (all other head free) free) place inside inside)

    -- one more bunch is seen
    module _ (first : ℕ) (new : IsOfNewBunch r behind first) (before : IsBefore best first) (unable : CanStart plan es (get_or plan.queue first 0) → ⊥) where
      seen_before : (head : ℕ) → IsHead r head → IsOfSeenBunch r (Some first) head → (get_or r.bunches head 0 ≡ get_or r.bunches first 0 → ⊥) → IsOfSeenBunch r behind head
      seen_before head is seen apart =
          let at : seen.at < first =
          elim (cases_lt seen.at first) [
            | inl less ↦ less
            | inr upto ↦ elim (cases_eq seen.at first) [
              | inl same ↦ absurd (apart (sym seen.same ∙ ap (λ (p : ℕ). get_or r.bunches p 0) same))
              | inr other ↦ absurd (seen.seen (omega (arith, upto, other)))
            ]
          ] in
          let earlier = new.earlier seen.at at seen.head in
          let upto = earlier.upto in
          let further = seen.upto in
          record {
            at = earlier.at;
            seen = earlier.seen;
            upto = omega (arith, upto, further);
            same = earlier.same ∙ seen.same;
            head = earlier.head;
          }

      none_of_seen : (end : Option ℕ) → ((place : ℕ) → IsBefore end place → IsBefore best place) → NoneOfBunch plan es r first end → (head : ℕ) → IsHead r head → IsOfSeenBunch r (Some first) head → IsBefore end head → CanStart plan es (get_or plan.queue head 0) → ⊥
      none_of_seen end narrow none head is seen inside = elim (cases_eq (get_or r.bunches head 0) (get_or r.bunches first 0)) [
        | inl same ↦ elim (cases_lt first head) [
          | inl behind ↦ none head behind inside same is
          | inr upto ↦ elim (cases_eq head first) [
            | inl here ↦ subst (λ (p : ℕ). CanStart plan es (get_or plan.queue p 0) → ⊥) (sym here) unable
            | inr other ↦ looked.none head is (new.earlier head (omega (arith, upto, other)) is) (narrow head inside)
          ]
        ]
        | inr apart ↦ looked.none head is (seen_before head is seen apart) (narrow head inside)
      ]

      pub looked_more : (found more : Option ℕ) → MatchOption found (NoneOfBunch plan es r first best) (λ f. IsFirstOfBunch plan es r first best f) → more ≡ option_or found best → IsLooked plan es r (Some first) more
      looked_more None more none is =
          subst (λ (o : Option ℕ). IsLooked plan es r (Some first) o) (sym is)
          (record { none = none_of_seen best (λ place inside. inside) none; best = looked.best })
      looked_more (Some f) more found is =
          subst (λ (o : Option ℕ). IsLooked plan es r (Some first) o) (sym is)
          (record {
            none = none_of_seen (Some f) (λ place less. before_both best f place (omega (arith, less)) found.before) found.first;
            best = record { head = found.head; may = found.may };
          })

  -- the search through the heads of one bunch
  module _ (keys : List (Option KeyPlace)) (are : AreBunchesOf plan keys r.bunches) (u : InUse) (in_use : IsInUse plan (open_starts es) u) (first : ℕ) (here : IsHead r first) where
    -- if the first head can't start, and the lock of the bunch is
    -- closed or there is none, no other head of the bunch can start
    pub closed_none : (end : Option ℕ) → (CanStart plan es (get_or plan.queue first 0) → ⊥) → is_open_key u (key_at plan keys first) ≡ false → NoneOfBunch plan es r first end
    closed_none end unable closed head behind inside same is =
        by_key (key_at plan keys first) refl
      where
        within : head < length plan.queue
        within = head_within head is

        by_key : (k : Option Key) → key_at plan keys first ≡ k → CanStart plan es (get_or plan.queue head 0) → ⊥
        by_key None none =
            none_alike plan es (get_or plan.queue first 0) (get_or plan.queue head 0) (head_due first here)
            (one_demand plan keys r.bunches are first head (head_within first here) within (sym same) none) unable
        by_key (Some key) some =
            let shut : is_closed u key.alone key.lock ≡ true = not-false (is_closed u key.alone key.lock) (sym (ap (λ (k : Option Key). is_open_key u k) some) ∙ closed) in
            let has = has_key (test_in_queue plan head) (get_or keys head None) key (one_key plan keys r.bunches are head first within (head_within first here) same ∙ some) in
            let t = has.test in
            let found : test_at plan.tests (get_or plan.queue head 0) ≡ Some t = sym (queue_there plan head within) ∙ has.found in
            not_due plan es t (get_or plan.queue head 0) found (excluded t found (closed_excludes u t key.lock key.alone shut has.named))
          where
            excluded : (t : PlanTest) → test_at plan.tests (get_or plan.queue head 0) ≡ Some t → is_excluded_beside u t ≡ true → may_start_if_placed plan t es ≡ false
            excluded t found out =
                let next = member_may plan sound es r q head on unsettled is.member in
                let this : next.test ≡ t = same_Some next.test t (sym next.found ∙ found) in
                subst (λ (v : PlanTest). may_start_if_placed plan v es ≡ has_room plan v es) this next.may
                ∙ sym (room_beside plan es u t in_use)
                ∙ ap (λ (b : Bool). nat_le (t.processors + u.processors) plan.level && not b) out
                ∙ and-false (nat_le (t.processors + u.processors) plan.level)

    -- if the lock of the bunch is open, a head may start exactly if there is room for it
    module _ (free : is_open_key u (key_at plan keys first) ≡ true) (head : ℕ) (same : get_or r.bunches head 0 ≡ get_or r.bunches first 0) (is : IsHead r head) where
      head_room : IsRoomFor plan es u head
      head_room = by_key (key_at plan keys first) refl
        where
          by_key : (k : Option Key) → key_at plan keys first ≡ k → IsRoomFor plan es u head
          by_key None none = absurd (true≢false (sym free ∙ ap (λ (k : Option Key). is_open_key u k) none))
          by_key (Some key) some =
              let within = head_within head is in
              let has = has_key (test_in_queue plan head) (get_or keys head None) key (one_key plan keys r.bunches are head first within (head_within first here) same ∙ some) in
              let t = has.test in
              let found : test_at plan.tests (get_or plan.queue head 0) ≡ Some t = sym (queue_there plan head within) ∙ has.found in
              let next = member_may plan sound es r q head on unsettled is.member in
              let this : next.test ≡ t = same_Some next.test t (sym next.found ∙ found) in
              let may : may_start_if_placed plan t es ≡ has_room plan t es = subst (λ (v : PlanTest). may_start_if_placed plan v es ≡ has_room plan v es) this next.may in
              record {
                test = t;
                found = found;
                unplaced = has.unplaced;
                room =
                    ap (λ (o : Option PlanTest). has_room_at plan u o) has.found
                    ∙ room_beside plan es u t in_use
                    ∙ sym may;
              }

      pub room_starts : has_room_at plan u (test_in_queue plan head) ≡ true → may_start_at plan es None (test_at plan.tests (get_or plan.queue head 0)) ≡ true
      room_starts room =
          let has = head_room in
          let t = has.test in
          ap (λ (o : Option PlanTest). may_start_at plan es None o) has.found
          ∙ and_from (may_start_if_placed plan t es) (is_placed plan.resources t.needs (used_slots es) None) (sym has.room ∙ room) (unplaced_fits plan.resources t.needs (used_slots es) has.unplaced)

      pub no_room : has_room_at plan u (test_in_queue plan head) ≡ false → CanStart plan es (get_or plan.queue head 0) → ⊥
      no_room room = let has = head_room in not_due plan es has.test (get_or plan.queue head 0) has.found (sym has.room ∙ room)

    -- no head of the bunch may start from behind the first one up to a place
    pub begins_none : NoneOfBunch plan es r first (Some (first + 1))
    begins_none head behind before same is = absurd (omega (arith, behind, before))

    module _ (place : ℕ) (from : first ≤ place) (alike : get_or r.bunches place 0 ≡ get_or r.bunches first 0) (none : NoneOfBunch plan es r first (Some (place + 1))) where
      pub none_further : (end : Option ℕ) → NoHeadBehind r place → NoneOfBunch plan es r first end
      none_further end last head behind before same is = elim (cases_lt head (place + 1)) [
        | inl upto ↦ none head behind upto same is
        | inr further ↦ absurd (last head (omega (arith, further)) (same ∙ sym alike) is)
      ]

      pub none_between : (next : ℕ) → IsNextHead r place next → NoneOfBunch plan es r first (Some next)
      none_between next found head behind before same is = elim (cases_lt head (place + 1)) [
        | inl upto ↦ none head behind upto same is
        | inr further ↦ absurd (found.least head (omega (arith, further)) before (same ∙ sym alike) is)
      ]

      pub none_to_end : (next : ℕ) (end : Option ℕ) → IsNextHead r place next → (IsBefore end next → ⊥) → NoneOfBunch plan es r first end
      none_to_end next end found past head behind before same is = none_between next found head behind (ends end past before) same is
        where
          ends : (e : Option ℕ) → (IsBefore e next → ⊥) → IsBefore e head → head < next
          ends None not_before less = absurd (not_before tt)
          ends (Some e) not_before less = elim (cases_lt next e) [
            | inl inside ↦ absurd (not_before inside)
            | inr upto ↦ omega (arith, less, upto)
          ]

      pub next_starts : (next : ℕ) (end : Option ℕ) → IsNextHead r place next → IsBefore end next → may_start_at plan es None (test_at plan.tests (get_or plan.queue next 0)) ≡ true → IsFirstOfBunch plan es r first end next
      next_starts next end found before may = record {
        behind = let behind = found.behind in omega (arith, from, behind);
        before = before;
        head = found.head;
        may = may;
        first = none_between next found;
      }

      pub next_none : (next : ℕ) → IsNextHead r place next → (CanStart plan es (get_or plan.queue next 0) → ⊥) → NoneOfBunch plan es r first (Some (next + 1))
      next_none next found unable head behind before same is = elim (cases_eq head next) [
        | inl this ↦ subst (λ (p : ℕ). CanStart plan es (get_or plan.queue p 0) → ⊥) (sym this) unable
        | inr other ↦ none_between next found head behind (omega (arith, before, other)) same is
      ]
