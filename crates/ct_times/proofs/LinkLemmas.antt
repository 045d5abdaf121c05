-- Where the attempts of a chain stand among the entries: moments and Starts by their places.
use Rattle.std.proofs.Common.{◌≡◌, ◌∙◌, sym, ap, subst, Bool, true, false, ℕ, zero, suc, ◌+◌, ◌-◌, ◌<◌, ◌≤◌, List, [], ◌∷◌, ◌++◌, get_or, length, map, take, reverse, take-suc, refl, arith, inl, inr}
use Rattle.std.specs.Prelude.{◌≢◌, Option, Some, None, unwrap_or, ◌==◌, cond, nat_lt, option_and_then, position, slice_get, All, AllPairs}
use Rattle.std.specs.List.{HoldsAt, position_or_len}
use Rattle.std.specs.List.Sorted.{IsNonDecreasing, IsNonDecreasingBy}
use Rattle.std.proofs.lemmas.Bool.{cases_lt, cases_order, eq-eqb, false≢true, lt-ltb, le-ltb, ne_eqb, eqb-true}
use Rattle.std.proofs.lemmas.List.{append-nil, append_assoc, get_or-map, get_or_default, get_or_past, get_or-reverse, length-map, length-reverse, map_push, reverse-append, reverse-reverse}
use Rattle.std.proofs.lemmas.List.Folds.{find_at, list_any_at}
use Rattle.std.proofs.lemmas.List.Quantifiers.{all_pairs_push, position-Some}
use Rattle.std.proofs.lemmas.List.Elements.{All-nil, All-push}
use Rattle.std.proofs.lemmas.List.Sorted.{IsNonDecreasingBy-push, IsNonDecreasingBy-short}
use Rattle.std.proofs.lemmas.List.Sums.{position_or_len_is}
use Rattle.std.proofs.lemmas.Option.{get_or_from_slice_get, none-some, same_Some, slice_get-get_or, unwrap_or-slice_get}
use Rattle.ct_verdict.specs.declared.attempt.Seen.{Seen}
use Rattle.ct_history.specs.declared.history.Entry.{Entry}
use Rattle.ct_history.specs.declared.history.Entry.TheVariants.{Start, End, Settle, Stop}
use Rattle.ct_history.specs.Verdicts.{last_of_list}
use Rattle.ct_times.specs.Times.{Timed, last_moment, least_times, length_of, next_timed, start_at, started, timed, timed_behind}
use Rattle.ct_times.specs.Chain.{IsChain, LeadBack, Link, earlier, ended_at, link_ended_by, rise_of}
use Rattle.ct_times.specs.declared.chain.Link.{Link as PlacedLink}
use Rattle.ct_times.specs.Links.{EndsAttempt, EndsBefore, IsLastStart, IsLegalForSome, IsPlaced, StartsAttempt, as_link, is_start_of_test}
use Rattle.ct_times.proofs.ChainLemmas.{are_timed, is_moment}
use Rattle.ct_times.proofs.CodeLemmas.{last_at}
use Rattle.ct_times.proofs.StartLemmas.{begun_attempt}
use Rattle.ct_times.proofs.TimedLemmas.{started-snoc, timed_induction}

-- the place of the first number that is this one
place_is : (ts : List ℕ) (m i : ℕ) → i < length ts → get_or ts i 0 ≡ m → ((k : ℕ) → k < i → get_or ts k 0 ≢ m) → position (λ t. t == m) ts ≡ Some i
place_is ts m i inside is none =
    let at : position_or_len (λ t. t == m) ts ≡ i = position_or_len_is (λ t. t == m) ts i 0 (omega arith) (λ k lt. ne_eqb (get_or ts k 0) m (none k lt)) (λ _. eq-eqb (get_or ts i 0) m is) in
    ap (λ (n : ℕ). cond (nat_lt n (length ts)) (Some n) None) at ∙ ap (λ (b : Bool). cond b (Some i) None) (lt-ltb i (length ts) inside)

-- among numbers that never fall, a number that differs from the one in front of it stands first
pub first_place : (ts : List ℕ) (i place : ℕ) → IsNonDecreasing ts → i < length ts → get_or ts i 0 ≡ get_or ts place 0 → get_or ts (i - 1) 0 ≢ get_or ts i 0 → position (λ t. t == get_or ts place 0) ts ≡ Some i
first_place ts i place sorted inside is apart =
    place_is ts (get_or ts place 0) i inside is (λ k lt same. apart (equal k lt same))
  where
    equal : (k : ℕ) → k < i → get_or ts k 0 ≡ get_or ts place 0 → get_or ts (i - 1) 0 ≡ get_or ts i 0
    equal k lt same =
        let low = sorted k (i - 1) 0 (omega (arith, lt)) (omega (arith, lt, inside)) in
        let high = sorted (i - 1) i 0 (omega arith) inside in
        omega (arith, low, high, is, same)

-- an entry at moment 0, for places where there is none
abbrev pub nowhere : Timed
nowhere = record { entry = Stop; moment = 0 }

last_there : (xs : List Timed) (d : Timed) → 0 < length xs → (get_or xs (length xs - 1) d).moment ≡ last_moment xs
last_there xs d some =
    let ms = map (λ (x : Timed). x.moment) xs in
    let same : length ms ≡ length xs = length-map xs (λ (x : Timed). x.moment) in
    sym (get_or-map (λ (x : Timed). x.moment) xs (length xs - 1) d 0 (omega (arith, some)))
    ∙ ap (λ (n : ℕ). get_or ms (n - 1) 0) (sym same)
    ∙ sym (unwrap_or-slice_get ms (length ms - 1) 0)
    ∙ last_at ms

timed_sorted : (es : List Entry) → IsNonDecreasingBy (λ (x : Timed). x.moment) (timed es)
timed_sorted = timed_induction (λ xs. IsNonDecreasingBy (λ (x : Timed). x.moment) xs) step (IsNonDecreasingBy-short (λ (x : Timed). x.moment) [] (omega arith))
  where
    step : (front : List Timed) (e : Entry) → IsNonDecreasingBy (λ (x : Timed). x.moment) front → IsNonDecreasingBy (λ (x : Timed). x.moment) (front ++ next_timed front e ∷ [])
    step front e sorted = IsNonDecreasingBy-push (λ (x : Timed). x.moment) front (next_timed front e) sorted (λ d some. omega (arith, last_there front d some))

-- the least time at a place is the moment of the entry there
time_at : (es : List Entry) (i d : ℕ) → i < length (timed es) → get_or (least_times es) i d ≡ (get_or (timed es) i nowhere).moment
time_at es i d inside = get_or-map (λ (x : Timed). x.moment) (timed es) i nowhere d inside

times_length : (es : List Entry) → length (least_times es) ≡ length (timed es)
times_length es = length-map (timed es) (λ (x : Timed). x.moment)

-- least times never fall
pub times_sorted : (es : List Entry) → IsNonDecreasing (least_times es)
times_sorted es i j d le lt =
    let inside : j < length (timed es) = omega (arith, lt, times_length es) in
    omega (arith, time_at es i d (omega (arith, le, inside)), time_at es j d inside, timed_sorted es i j nowhere le inside)

entries_behind : (front : List Timed) (es : List Entry) → map (λ (x : Timed). x.entry) (timed_behind front es) ≡ es
entries_behind front [] = refl
entries_behind front (e ∷ es) = ap (λ (l : List Entry). e ∷ l) (entries_behind (front ++ next_timed front e ∷ []) es)

timed_length : (es : List Entry) → length (timed es) ≡ length es
timed_length es = sym (length-map (timed es) (λ (x : Timed). x.entry)) ∙ ap length (entries_behind [] es)

-- each entry stands at its place
entry_at : (es : List Entry) (i : ℕ) (e : Entry) → i < length es → (get_or (timed es) i nowhere).entry ≡ get_or es i e
entry_at es i e inside =
    sym (get_or-map (λ (x : Timed). x.entry) (timed es) i nowhere e (omega (arith, inside, timed_length es)))
    ∙ ap (λ (l : List Entry). get_or l i e) (entries_behind [] es)

-- the entries in front of a place are those that are earlier than a moment
cut : (xs : List Timed) (m i : ℕ) → ((k : ℕ) → k < i → k < length xs → (get_or xs k nowhere).moment < m) → ((k : ℕ) → i ≤ k → k < length xs → m ≤ (get_or xs k nowhere).moment) → earlier m xs ≡ take i xs
cut [] m zero below above = refl
cut [] m (suc i) below above = refl
cut (x ∷ xs) m zero below above =
    ap (λ (b : Bool). cond b (x ∷ earlier m xs) (earlier m xs)) (le-ltb x.moment m (above 0 (omega arith) (omega arith)))
    ∙ cut xs m zero (λ k lt inside. absurd (omega (arith, lt))) (λ k le inside. above (suc k) (omega arith) (omega (arith, inside)))
cut (x ∷ xs) m (suc i) below above =
    ap (λ (b : Bool). cond b (x ∷ earlier m xs) (earlier m xs)) (lt-ltb x.moment m (below 0 (omega arith) (omega arith)))
    ∙ ap (λ (l : List Timed). x ∷ l) (cut xs m i (λ k lt inside. below (suc k) (omega (arith, lt)) (omega (arith, inside))) (λ k le inside. above (suc k) (omega (arith, le)) (omega (arith, inside))))

-- the rise of a moment stands at its first place
rise_there : (xs : List Timed) (m i : ℕ) → i < length xs → (get_or xs i nowhere).moment ≡ m → ((k : ℕ) → k < i → (get_or xs k nowhere).moment < m) → rise_of m xs ≡ Some (get_or xs i nowhere)
rise_there xs m i inside is below =
    let at : position_or_len (λ (x : Timed). x.moment == m) xs ≡ i = position_or_len_is (λ (x : Timed). x.moment == m) xs i nowhere (omega (arith, inside)) (λ k lt. unlike (get_or xs k nowhere).moment (below k lt)) (λ _. eq-eqb (get_or xs i nowhere).moment m is) in
    find_at (λ (x : Timed). x.moment == m) xs ∙ ap (λ (n : ℕ). slice_get xs n) at ∙ slice_get-get_or xs i nowhere inside
  where
    unlike : (n : ℕ) → n < m → (n == m) ≡ false
    unlike n lt = ne_eqb n m (λ same. omega (arith, lt, same))

-- what the first place of a moment says
record IsFirst (es : List Entry) (m i : ℕ) : Type 0 where
  inside : i < length (timed es)
  is : (get_or (timed es) i nowhere).moment ≡ m
  below : (k : ℕ) → k < i → (get_or (timed es) k nowhere).moment < m

is_first : (es : List Entry) (m i : ℕ) → position (λ t. t == m) (least_times es) ≡ Some i → IsFirst es m i
is_first es m i at =
    let says = position-Some (λ t. t == m) (least_times es) i 0 at in
    let within : i < length (timed es) = omega (arith, says.0, times_length es) in
    let here : (get_or (timed es) i nowhere).moment ≡ m = sym (time_at es i 0 within) ∙ eqb-true (get_or (least_times es) i 0) m says.1 in
    record {
      inside = within;
      is = here;
      below = λ k lt.
          let le = timed_sorted es k i nowhere (omega (arith, lt)) within in
          let apart = other k (says.2 k lt) in
          let same = time_at es k 0 (omega (arith, lt, within)) in
          omega (arith, le, apart, same, here);
    }
  where
    other : (k : ℕ) → (get_or (least_times es) k 0 == m) ≡ false → get_or (least_times es) k 0 ≢ m
    other k unlike same = false≢true (sym unlike ∙ eq-eqb (get_or (least_times es) k 0) m same)

-- the attempt whose End is the rise of a moment, by the first place of the moment
ended_there : (es : List Entry) (m i : ℕ) → IsFirst es m i → ended_at m (timed es) ≡ link_ended_by (take i (timed es)) (get_or (timed es) i nowhere).entry
ended_there es m i first =
    let xs = timed es in
    let front : earlier m xs ≡ take i xs = cut xs m i (λ k lt inside. first.below k lt) (λ k le inside. omega (arith, timed_sorted es i k nowhere le inside, first.is)) in
    ap (λ (o : Option Timed). option_and_then (λ (x : Timed). link_ended_by (earlier m xs) x.entry) o) (rise_there xs m i first.inside first.is first.below)
    ∙ ap (λ (ys : List Timed). link_ended_by ys (get_or xs i nowhere).entry) front

start_by : (test m : ℕ) (e : Entry) → start_at test m e ≡ cond (is_start_of_test test e) (Some m) None
start_by test m (Start t a w p) = refl
start_by test m (End t a w seen) = refl
start_by test m (Settle t c) = refl
start_by test m Stop = refl

-- the last start of a test stands at the place of its last Start
last_started : (xs : List Timed) (test begin end : ℕ) → begin < end → end ≤ length xs → is_start_of_test test (get_or xs begin nowhere).entry ≡ true → ((k : ℕ) → begin < k → k < end → is_start_of_test test (get_or xs k nowhere).entry ≡ false) → started test (take end xs) ≡ (get_or xs begin nowhere).moment
last_started xs test begin zero before inside starts last = absurd (omega (arith, before))
last_started xs test begin (suc end) before inside starts last = elim (cases_order begin end) [
  | inl same ↦ step ∙ ap (λ (o : Option ℕ). unwrap_or o (started test (take end xs))) (start_by test x.moment x.entry ∙ ap (λ (b : Bool). cond b (Some x.moment) None) (subst (λ (k : ℕ). is_start_of_test test (get_or xs k nowhere).entry ≡ true) same starts)) ∙ ap (λ (k : ℕ). (get_or xs k nowhere).moment) (sym same)
  | inr (inl less) ↦ step ∙ ap (λ (o : Option ℕ). unwrap_or o (started test (take end xs))) (start_by test x.moment x.entry ∙ ap (λ (b : Bool). cond b (Some x.moment) None) (last end less (omega arith))) ∙ last_started xs test begin end less (omega (arith, inside)) starts (λ k lt more. last k lt (omega (arith, more)))
  | inr (inr more) ↦ absurd (omega (arith, more, before))
]
  where
    x : Timed
    x = get_or xs end nowhere

    step : started test (take (suc end) xs) ≡ unwrap_or (start_at test x.moment x.entry) (started test (take end xs))
    step = ap (started test) (take-suc xs end nowhere (omega (arith, inside))) ∙ started-snoc test (take end xs) x

-- the moment at a place, where that is above 0, is a moment of the history
moment_there : (es : List Entry) (place : ℕ) → 0 < get_or (least_times es) place 0 → is_moment (get_or (least_times es) place 0) (timed es) ≡ true
moment_there es place some = elim (cases_lt place (length (timed es))) [
  | inl inside ↦ list_any_at (λ (x : Timed). x.moment == get_or (least_times es) place 0) (timed es) place nowhere inside (eq-eqb (get_or (timed es) place nowhere).moment (get_or (least_times es) place 0) (sym (time_at es place 0 inside)))
  | inr past ↦ absurd (omega (arith, some, get_or_past (least_times es) place 0 (omega (arith, past, times_length es))))
]

-- the first place of the moment that stands at some place, where that is above 0
pub record Found (es : List Entry) (ts : List ℕ) (place i : ℕ) : Type 0 where
  pub least : ts ≡ least_times es
  pub some : 0 < get_or ts place 0
  pub at : position (λ m. m == get_or ts place 0) ts ≡ Some i

-- the entry there ends an attempt, and the time rises
record Rises (es : List Entry) (ts : List ℕ) (place i : ℕ) (e : Entry) : Type 0 where
  inside : i < length es
  link : Link
  is : ended_at (get_or ts place 0) (timed es) ≡ Some link
  ended : link_ended_by (take i (timed es)) e ≡ Some link
  adds : link.start + link.micros ≡ get_or ts place 0

rises_least : (es : List Entry) (place i : ℕ) (e : Entry) → 0 < get_or (least_times es) place 0 → position (λ m. m == get_or (least_times es) place 0) (least_times es) ≡ Some i → e ≡ get_or es i e → Rises es (least_times es) place i e
rises_least es place i e some at is =
    let m = get_or (least_times es) place 0 in
    let first = is_first es m i at in
    let has = (are_timed es).links m some (moment_there es place some) in
    let within : i < length es = omega (arith, first.inside, timed_length es) in
    let here : (get_or (timed es) i nowhere).entry ≡ e = entry_at es i e within ∙ sym is in
    record {
      inside = within;
      link = has.link;
      is = has.is;
      ended = ap (λ (x : Entry). link_ended_by (take i (timed es)) x) (sym here) ∙ sym (ended_there es m i first) ∙ has.is;
      adds = has.adds;
    }

rises : (es : List Entry) (ts : List ℕ) (place i : ℕ) (e : Entry) → Found es ts place i → e ≡ get_or es i e → Rises es ts place i e
rises es ts place i e found is =
    subst (λ (ms : List ℕ). Rises es ms place i e) (sym found.least)
    (rises_least es place i e (subst (λ (ms : List ℕ). 0 < get_or ms place 0) found.least found.some) (subst (λ (ms : List ℕ). position (λ m. m == get_or ms place 0) ms ≡ Some i) found.least found.at) is)

-- an entry stands there
pub found_inside : (es : List Entry) (ts : List ℕ) (place i : ℕ) → Found es ts place i → i < length es
found_inside es ts place i found =
    let within = (position-Some (λ m. m == get_or ts place 0) ts i 0 found.at).0 in
    omega (arith, within, ap length found.least, times_length es, timed_length es)

-- it is an End
pub found_end : (es : List Entry) (ts : List ℕ) (place i : ℕ) (e : Entry) → Found es ts place i → e ≡ get_or es i e → (t : ℕ) × (a : ℕ) × (w : ℕ) × (s : Seen) × (e ≡ End t a w s)
found_end es ts place i e found is = by_entry e (rises es ts place i e found is).link (rises es ts place i e found is).ended
  where
    by_entry : (x : Entry) (l : Link) → link_ended_by (take i (timed es)) x ≡ Some l → (t : ℕ) × (a : ℕ) × (w : ℕ) × (s : Seen) × (x ≡ End t a w s)
    by_entry (Start t a w p) l ended = absurd (none-some l ended)
    by_entry (End t a w s) l ended = (t, a, w, s, refl)
    by_entry (Settle t c) l ended = absurd (none-some l ended)
    by_entry Stop l ended = absurd (none-some l ended)

-- the link of the attempt that ends there, with the place of the last Start of its test
abbrev pub link_by : List ℕ → ℕ → ℕ → ℕ → ℕ → Seen → PlacedLink
link_by ts begin i t a s = record { test = t; attempt = a; start = get_or ts begin 0; micros = s.micros; begin = begin; end = i }

abbrev linked : ℕ → ℕ → ℕ → ℕ → Link
linked t a start micros = record { test = t; attempt = a; start = start; micros = micros }

placed_least : (es : List Entry) (place i begin t a w : ℕ) (s : Seen) (e : Entry) → Rises es (least_times es) place i e → position (λ m. m == get_or (least_times es) place 0) (least_times es) ≡ Some i → e ≡ get_or es i e → e ≡ End t a w s → IsLastStart es t begin i → HoldsAt (StartsAttempt t a) es begin
    → (ended_at (get_or (least_times es) place 0) (timed es) ≡ Some (as_link (link_by (least_times es) begin i t a s))) × IsPlaced es (link_by (least_times es) begin i t a s)
placed_least es place i begin t a w s e rise at is ends start begins =
    let l = link_by (least_times es) begin i t a s in
    let within : i < length (timed es) = omega (arith, rise.inside, timed_length es) in
    let before : begin < length (timed es) = omega (arith, start.before, within) in
    let moment : started t (take i (timed es)) ≡ get_or (least_times es) begin 0 =
    last_started (timed es) t begin i start.before (omega (arith, within))
    (subst (λ (x : Entry). is_start_of_test t x ≡ true) (sym (entry_at es begin Stop (omega (arith, start.before, rise.inside)))) (start.starts Stop))
    (λ k lt more. subst (λ (x : Entry). is_start_of_test t x ≡ false) (sym (entry_at es k Stop (omega (arith, more, rise.inside)))) (start.last k Stop (omega (arith, lt)) more))
    ∙ sym (time_at es begin 0 before)
    in
    let ended : link_ended_by (take i (timed es)) e ≡ Some (as_link l) =
    ap (λ (x : Entry). link_ended_by (take i (timed es)) x) ends ∙ ap (λ (n : ℕ). Some (linked t a n s.micros)) moment
    in
    let same : rise.link ≡ as_link l = same_Some rise.link (as_link l) (sym rise.ended ∙ ended) in
    let adds : get_or (least_times es) place 0 ≡ l.start + l.micros = sym rise.adds ∙ ap (λ (k : Link). k.start + k.micros) same in (
      rise.is ∙ ap (λ (k : Link). Some k) same,
      record {
        inside = rise.inside;
        ends = λ d. subst (λ (x : Entry). EndsAttempt t a s.micros x) (sym ends ∙ is ∙ get_or_default es i e d rise.inside) (refl, refl, refl);
        first = ap (λ (n : ℕ). position (λ x. x == n) (least_times es)) (sym adds) ∙ at;
        begins = begins;
        last = start;
        moment = slice_get-get_or (least_times es) begin 0 (omega (arith, before, times_length es));
      },
    )

-- it is the link whose End is the rise of the moment, and stands at its places
pub placed : (es : List Entry) (ts : List ℕ) (place i begin t a w : ℕ) (s : Seen) (e : Entry) → Found es ts place i → IsLegalForSome es → e ≡ get_or es i e → e ≡ End t a w s → IsLastStart es t begin i
    → (ended_at (get_or ts place 0) (timed es) ≡ Some (as_link (link_by ts begin i t a s))) × IsPlaced es (link_by ts begin i t a s)
placed es ts place i begin t a w s e found legal is ends start =
    subst (λ (ms : List ℕ). (ended_at (get_or ms place 0) (timed es) ≡ Some (as_link (link_by ms begin i t a s))) × IsPlaced es (link_by ms begin i t a s)) (sym found.least)
    (placed_least es place i begin t a w s e (subst (λ (ms : List ℕ). Rises es ms place i e) found.least (rises es ts place i e found is)) (subst (λ (ms : List ℕ). position (λ m. m == get_or ms place 0) ms ≡ Some i) found.least found.at) is ends start (begun_attempt es legal begin i t a w s e (found_inside es ts place i found) is ends start))

-- the length of a history is the last of its least times
pub length_at : (es : List Entry) (ts : List ℕ) → ts ≡ least_times es → get_or ts (length ts - 1) 0 ≡ length_of es
length_at es ts least = sym (unwrap_or-slice_get ts (length ts - 1) 0) ∙ last_at ts ∙ ap (λ (ms : List ℕ). unwrap_or (last_of_list ms) 0) least

map-reverse : {A B : Type 0} (f : A → B) (xs : List A) → map f (reverse xs) ≡ reverse (map f xs)
map-reverse {B = B} f [] = refl
map-reverse {B = B} f (x ∷ xs) =
    ap (map f) (reverse-append (x ∷ []) xs)
    ∙ map_push f (reverse xs) x
    ∙ ap (λ (l : List B). l ++ f x ∷ []) (map-reverse f xs)
    ∙ sym (reverse-append (f x ∷ []) (map f xs))

-- what stands in front of these links makes them lead back from the length of the history, the last one first
abbrev pub LeadTo : List Entry → List PlacedLink → ℕ → Type 0
LeadTo es links moment = (rest : List Link) → LeadBack (timed es) moment rest → LeadBack (timed es) (length_of es) (map as_link links ++ rest)

-- a link more leads on to the moment of its Start
pub leads_more : (es : List Entry) (ts : List ℕ) (links more : List PlacedLink) (l : PlacedLink) (place : ℕ) → ts ≡ least_times es → LeadTo es links (get_or ts place 0) → 0 < get_or ts place 0 → ended_at (get_or ts place 0) (timed es) ≡ Some (as_link l) → IsPlaced es l → more ≡ links ++ l ∷ [] → LeadTo es more (get_or ts l.begin 0)
leads_more es ts links more l place least leads some is stands grows rest lead =
    let start : get_or ts l.begin 0 ≡ l.start = ap (λ (ms : List ℕ). get_or ms l.begin 0) least ∙ get_or_from_slice_get (least_times es) l.begin l.start 0 stands.moment in
    let whole = leads (as_link l ∷ rest) (some, is, subst (λ (m : ℕ). LeadBack (timed es) m rest) start lead) in
    let same : map as_link more ++ rest ≡ map as_link links ++ as_link l ∷ rest = ap (λ (ls : List PlacedLink). map as_link ls ++ rest) grows ∙ ap (λ (ls : List Link). ls ++ rest) (map_push as_link links l) ∙ append_assoc (map as_link links) (as_link l ∷ []) rest in
    subst (λ (ls : List Link). LeadBack (timed es) (length_of es) ls) (sym same) whole

-- links that lead to 0 are the chain, the other way round
pub leads_all : (es : List Entry) (links chain : List PlacedLink) (moment : ℕ) → LeadTo es links moment → moment ≡ 0 → chain ≡ reverse links → IsChain es (map as_link chain)
leads_all es links chain moment leads none turned =
    let back : reverse (map as_link chain) ≡ map as_link links ++ [] =
    ap (λ (ls : List PlacedLink). reverse (map as_link ls)) turned
    ∙ ap reverse (map-reverse as_link links)
    ∙ reverse-reverse (map as_link links)
    ∙ sym (append-nil (map as_link links))
    in
    subst (λ (ls : List Link). LeadBack (timed es) (length_of es) ls) (sym back) (leads [] none)

-- one entry is not both a Start and an End
apart : (t a u b m : ℕ) (e : Entry) → StartsAttempt t a e → EndsAttempt u b m e → ⊥
apart t a u b m (Start v c w p) starts ends = ends
apart t a u b m (End v c w s) starts ends = starts
apart t a u b m (Settle v c) starts ends = starts
apart t a u b m Stop starts ends = starts

-- these links start at a place or behind it, each in front of those that stand in front of it in the list
pub record AreBehind (place : ℕ) (links : List PlacedLink) : Type 0 where
  pub near : All (λ l. place ≤ l.begin) links
  pub ordered : AllPairs (λ l k. EndsBefore k l) links

pub behind_none : (place : ℕ) → AreBehind place []
behind_none place = record { near = All-nil (λ (l : PlacedLink). place ≤ l.begin); ordered = λ i j d less lt. absurd (omega (arith, lt)) }

-- a link more that ends at the place or in front of it
pub behind_more : (es : List Entry) (place : ℕ) (links : List PlacedLink) (l : PlacedLink) → All (IsPlaced es) links → IsPlaced es l → l.end ≤ place → AreBehind place links → AreBehind l.begin (links ++ l ∷ [])
behind_more es place links l stand stands ends behind = record {
  near = All-push (λ (k : PlacedLink). l.begin ≤ k.begin) links l (λ i d lt. omega (arith, stands.last.before, ends, behind.near i d lt)) (omega arith);
  ordered = all_pairs_push (λ (k j : PlacedLink). EndsBefore j k) links l behind.ordered later;
}
  where
    later : (i : ℕ) (d : PlacedLink) → i < length links → l.end < (get_or links i d).begin
    later i d lt =
        let k = get_or links i d in
        let unlike : l.end ≢ k.begin = λ same. apart k.test k.attempt l.test l.attempt l.micros (get_or es l.end Stop) (subst (λ (n : ℕ). StartsAttempt k.test k.attempt (get_or es n Stop)) (sym same) ((stand i d lt).begins Stop)) (stands.ends Stop) in
        omega (arith, unlike, ends, behind.near i d lt)

-- the other way round each ends in front of the next
pub ordered_all : (place : ℕ) (links chain : List PlacedLink) → AreBehind place links → chain ≡ reverse links → AllPairs EndsBefore chain
ordered_all place links chain behind turned = subst (λ (ls : List PlacedLink). AllPairs EndsBefore ls) (sym turned) pairs
  where
    pairs : AllPairs EndsBefore (reverse links)
    pairs i j d less lt =
        let inside : j < length links = omega (arith, lt, length-reverse links) in
        let one = get_or-reverse links i d (omega (arith, less, inside)) in
        let other = get_or-reverse links j d inside in
        let before = behind.ordered (length links - 1 - j) (length links - 1 - i) d (omega (arith, less, inside)) (omega (arith, inside)) in
        subst (λ (l : PlacedLink). EndsBefore l (get_or (reverse links) j d)) (sym one) (subst (λ (l : PlacedLink). EndsBefore (get_or links (length links - 1 - i) d) l) (sym other) before)
