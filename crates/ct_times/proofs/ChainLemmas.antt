-- A history has one chain, and no other.
use Rattle.std.proofs.Common.{◌≡◌, ◌∙◌, sym, ap, subst, Bool, true, false, ℕ, zero, suc, ◌+◌, ◌<◌, ◌≤◌, List, [], ◌∷◌, ◌++◌, reverse, get_or, length, refl, arith, inl, inr}
use Rattle.std.specs.Prelude.{◌≢◌, ◌⊎◌, Option, Some, None, unwrap_or, ◌==◌, ◌&&◌, ◌||◌, cond, nat_lt, nat_le, option_and_then, sum_by, AllPairs}
use Rattle.std.specs.Option.{option_or}
use Rattle.std.specs.List.{list_any, list_all}
use Rattle.std.proofs.lemmas.Bool.{and_parts, and_from, cases_Bool, true≢false, or_parts, or_right}
use Rattle.std.proofs.lemmas.Bool.Decides.{nat_tests}
use Rattle.std.proofs.lemmas.List.{append-nil, reverse-append, reverse-reverse}
use Rattle.std.proofs.lemmas.List.Elements.{filter-append}
use Rattle.std.proofs.lemmas.List.Folds.{find-append, list_any-append, list_all-append}
use Rattle.std.proofs.lemmas.List.Kept.{AllPairs-cons}
use Rattle.std.proofs.lemmas.List.Sums.{sum_by-cons}
use Rattle.ct_history.specs.declared.history.Entry.{Entry}
use Rattle.ct_history.specs.declared.history.Entry.TheVariants.{Start, End, Settle, Stop}
use Rattle.ct_times.specs.Times.{Timed, last_moment, length_of, next_timed, over_at, start_at, started, timed}
use Rattle.ct_times.specs.Chain.{Follow, HasOneChain, LeadBack, Link, earlier, ended_at, link_ended_by, rise_of}
use Rattle.ct_times.proofs.TimedLemmas.{last-snoc, start_most, started-snoc, timed_induction}

-- some entry stands at this moment
abbrev pub is_moment : ℕ → List Timed → Bool
is_moment m xs = list_any (λ (x : Timed). x.moment == m) xs

-- the attempt whose End is the rise of a moment takes some time, and ends at the moment
pub record HasLink (xs : List Timed) (m : ℕ) : Type 0 where
  pub link : Link
  pub is : ended_at m xs ≡ Some link
  pub adds : link.start + link.micros ≡ m
  pub takes : 0 < link.micros
  pub from : (link.start ≡ 0) ⊎ (is_moment link.start xs ≡ true)

-- what holds of entries at their least moments
pub record AreTimed (xs : List Timed) : Type 0 where
  pub most : list_all (λ (x : Timed). nat_le x.moment (last_moment xs)) xs ≡ true
  pub last : (last_moment xs ≡ 0) ⊎ (is_moment (last_moment xs) xs ≡ true)
  pub starts : (test : ℕ) → started test xs ≤ last_moment xs
  pub begins : (test : ℕ) → (started test xs ≡ 0) ⊎ (is_moment (started test xs) xs ≡ true)
  pub links : (m : ℕ) → 0 < m → is_moment m xs ≡ true → HasLink xs m

moment-snoc : (m : ℕ) (xs : List Timed) (x : Timed) → is_moment m (xs ++ x ∷ []) ≡ (is_moment m xs || (x.moment == m || false))
moment-snoc m xs x = list_any-append (λ (y : Timed). y.moment == m) xs (x ∷ [])

pub same_moment : (m : ℕ) → (m == m) ≡ true
same_moment m = grind (arith, nat_tests)

moment_here : (xs : List Timed) (x : Timed) → is_moment x.moment (xs ++ x ∷ []) ≡ true
moment_here xs x =
    moment-snoc x.moment xs x
    ∙ or_right (is_moment x.moment xs) (x.moment == x.moment || false) (ap (λ (b : Bool). b || false) (same_moment x.moment))

moment_still : (m : ℕ) (xs : List Timed) (x : Timed) → is_moment m xs ≡ true → is_moment m (xs ++ x ∷ []) ≡ true
moment_still m xs x is = moment-snoc m xs x ∙ ap (λ (b : Bool). b || (x.moment == m || false)) is

most_more : (m k : ℕ) (xs : List Timed) → m ≤ k → list_all (λ (x : Timed). nat_le x.moment m) xs ≡ true → list_all (λ (x : Timed). nat_le x.moment k) xs ≡ true
most_more m k [] le all = refl
most_more m k (x ∷ xs) le all =
    let both = and_parts (nat_le x.moment m) (list_all (λ (y : Timed). nat_le y.moment m) xs) all in
    and_from (nat_le x.moment k) (list_all (λ (y : Timed). nat_le y.moment k) xs) (further x.moment both.0) (most_more m k xs le both.1)
  where
    further : (n : ℕ) → nat_le n m ≡ true → nat_le n k ≡ true
    further n is = grind (arith, nat_tests, le, is)

-- entries that stand before a moment are all earlier
all_earlier : (m k : ℕ) (xs : List Timed) → k < m → list_all (λ (x : Timed). nat_le x.moment k) xs ≡ true → earlier m xs ≡ xs
all_earlier m k [] less all = refl
all_earlier m k (x ∷ xs) less all =
    let both = and_parts (nat_le x.moment k) (list_all (λ (y : Timed). nat_le y.moment k) xs) all in
    ap (λ (b : Bool). cond b (x ∷ earlier m xs) (earlier m xs)) (before x.moment both.0) ∙ ap (λ (ys : List Timed). x ∷ ys) (all_earlier m k xs less both.1)
  where
    before : (n : ℕ) → nat_le n k ≡ true → nat_lt n m ≡ true
    before n is = grind (arith, nat_tests, less, is)

-- an entry that stands at the moment or later changes nothing of what is earlier
earlier-snoc : (m : ℕ) (xs : List Timed) (x : Timed) → m ≤ x.moment → earlier m (xs ++ x ∷ []) ≡ earlier m xs
earlier-snoc m xs x le =
    filter-append (λ (y : Timed). nat_lt y.moment m) xs (x ∷ [])
    ∙ ap (λ (b : Bool). earlier m xs ++ cond b (x ∷ []) []) (late x.moment le)
    ∙ append-nil (earlier m xs)
  where
    late : (n : ℕ) → m ≤ n → nat_lt n m ≡ false
    late n is = grind (arith, nat_tests, is)

found_there : (m : ℕ) (xs : List Timed) → is_moment m xs ≡ true → (x : Timed) × (rise_of m xs ≡ Some x)
found_there m [] is = absurd (true≢false (sym is))
found_there m (x ∷ xs) is = elim (cases_Bool (x.moment == m)) [
  | inl here ↦ (x, ap (λ (b : Bool). cond b (Some x) (rise_of m xs)) here)
  | inr other ↦
      let later = found_there m xs (sym (ap (λ (b : Bool). b || is_moment m xs) other) ∙ is) in
      (later.0, ap (λ (b : Bool). cond b (Some x) (rise_of m xs)) other ∙ later.1)
]

found_none : (m : ℕ) (xs : List Timed) → is_moment m xs ≡ false → rise_of m xs ≡ None
found_none m [] is = refl
found_none m (x ∷ xs) is =
    let both = or_parts (x.moment == m) (is_moment m xs) is in
    ap (λ (b : Bool). cond b (Some x) (rise_of m xs)) both.0 ∙ found_none m xs both.1

-- the attempt that an entry ends, by the entries in front of it
abbrev ended_from : List Timed → Option Timed → Option Link
ended_from front found = option_and_then (λ (x : Timed). link_ended_by front x.entry) found

-- a moment that is reached keeps its attempt
link_still : (m : ℕ) (xs : List Timed) (x : Timed) → m ≤ x.moment → is_moment m xs ≡ true → HasLink xs m → HasLink (xs ++ x ∷ []) m
link_still m xs x le is has =
    let found = found_there m xs is in
    let rise : rise_of m (xs ++ x ∷ []) ≡ rise_of m xs =
    find-append (λ (y : Timed). y.moment == m) xs (x ∷ [])
    ∙ ap (λ (o : Option Timed). option_or o (rise_of m (x ∷ []))) found.1
    ∙ sym found.1
    in
    record {
      link = has.link;
      is = ap (λ (ys : List Timed). ended_from ys (rise_of m (xs ++ x ∷ []))) (earlier-snoc m xs x le) ∙ ap (λ (o : Option Timed). ended_from (earlier m xs) o) rise ∙ has.is;
      adds = has.adds;
      takes = has.takes;
      from = elim has.from [
        | inl none ↦ inl none
        | inr moment ↦ inr (moment_still has.link.start xs x moment)
      ];
    }

-- what an entry ends that is over later than all entries in front of it
ended_new : (xs : List Timed) (e : Entry) → AreTimed xs → last_moment xs < over_at xs e → (l : Link) × ((link_ended_by xs e ≡ Some l) × (l.start + l.micros ≡ over_at xs e) × (0 < l.micros) × ((l.start ≡ 0) ⊎ (is_moment l.start xs ≡ true)))
ended_new xs (Start t a w p) all later = absurd (omega (arith, later))
ended_new xs (End t a w seen) all later = (record { test = t; attempt = a; start = started t xs; micros = seen.micros }, (refl, refl, omega (arith, later, all.starts t), all.begins t))
ended_new xs (Settle t c) all later = absurd (omega (arith, later))
ended_new xs Stop all later = absurd (omega (arith, later))

-- a moment that is reached for the first time has its attempt
link_new : (m : ℕ) (xs : List Timed) (e : Entry) → AreTimed xs → m ≡ (next_timed xs e).moment → 0 < m → is_moment m xs ≡ false → HasLink (xs ++ next_timed xs e ∷ []) m
link_new m xs e all is some new =
    let n = next_timed xs e in
    let later : last_moment xs < m = elim all.last [
      | inl none ↦ omega (arith, none, some)
      | inr moment ↦ above moment
    ] in
    let over : over_at xs e ≡ m = omega (arith, is, later) in
    let ended = ended_new xs e all (omega (arith, over, later)) in
    let here : (n.moment == m) ≡ true = subst (λ (k : ℕ). (n.moment == k) ≡ true) (sym is) (same_moment n.moment) in
    let rise : rise_of m (xs ++ n ∷ []) ≡ Some n =
    find-append (λ (y : Timed). y.moment == m) xs (n ∷ [])
    ∙ ap (λ (o : Option Timed). option_or o (rise_of m (n ∷ []))) (found_none m xs new)
    ∙ ap (λ (b : Bool). cond b (Some n) None) here
    in
    let front : earlier m (xs ++ n ∷ []) ≡ xs = earlier-snoc m xs n (omega (arith, is)) ∙ all_earlier m (last_moment xs) xs later all.most in
    record {
      link = ended.0;
      is = ap (λ (ys : List Timed). ended_from ys (rise_of m (xs ++ n ∷ []))) front ∙ ap (λ (o : Option Timed). ended_from xs o) rise ∙ ended.1.0;
      adds = ended.1.1 ∙ over;
      takes = ended.1.2;
      from = elim ended.1.3 [
        | inl none ↦ inl none
        | inr moment ↦ inr (moment_still ended.0.start xs n moment)
      ];
    }
  where
    above : is_moment (last_moment xs) xs ≡ true → last_moment xs < m
    above moment = elim (cases_Bool (last_moment xs == m)) [
      | inl same ↦
          let equal : last_moment xs ≡ m = grind (arith, nat_tests, same) in
          absurd (true≢false (sym (subst (λ (k : ℕ). is_moment k xs ≡ true) equal moment) ∙ new))
      | inr unlike ↦
          let apart : last_moment xs ≢ m = grind (arith, nat_tests, unlike) in
          omega (arith, apart, is)
    ]

-- the last start of a test is at 0 or at the moment of some entry
begin_still : (xs : List Timed) (x : Timed) (m : ℕ) → (m ≡ 0) ⊎ (is_moment m xs ≡ true) → (m ≡ 0) ⊎ (is_moment m (xs ++ x ∷ []) ≡ true)
begin_still xs x m (inl none) = inl none
begin_still xs x m (inr moment) = inr (moment_still m xs x moment)

begin_by : (xs : List Timed) (x : Timed) (m : ℕ) (b : Bool) → (m ≡ 0) ⊎ (is_moment m (xs ++ x ∷ []) ≡ true) → (unwrap_or (cond b (Some x.moment) None) m ≡ 0) ⊎ (is_moment (unwrap_or (cond b (Some x.moment) None) m) (xs ++ x ∷ []) ≡ true)
begin_by xs x m true before = inr (moment_here xs x)
begin_by xs x m false before = before

begin-snoc : (test : ℕ) (xs : List Timed) (x : Timed) (m : ℕ) (e : Entry) → (m ≡ 0) ⊎ (is_moment m (xs ++ x ∷ []) ≡ true) → (unwrap_or (start_at test x.moment e) m ≡ 0) ⊎ (is_moment (unwrap_or (start_at test x.moment e) m) (xs ++ x ∷ []) ≡ true)
begin-snoc test xs x m (Start t a w p) before = begin_by xs x m (t == test) before
begin-snoc test xs x m (End t a w seen) before = before
begin-snoc test xs x m (Settle t c) before = before
begin-snoc test xs x m Stop before = before

-- a moment that is reached is at most a bound of all moments
reached : (m most : ℕ) (ys : List Timed) → list_all (λ (x : Timed). nat_le x.moment most) ys ≡ true → is_moment m ys ≡ true → m ≤ most
reached m most [] all is = absurd (true≢false (sym is))
reached m most (y ∷ ys) all is =
    let both = and_parts (nat_le y.moment most) (list_all (λ (x : Timed). nat_le x.moment most) ys) all in
    elim (cases_Bool (y.moment == m)) [
      | inl same ↦ near y.moment same both.0
      | inr other ↦ reached m most ys both.1 (sym (ap (λ (b : Bool). b || is_moment m ys) other) ∙ is)
    ]
  where
    near : (k : ℕ) → (k == m) ≡ true → nat_le k most ≡ true → m ≤ most
    near k same le = grind (arith, nat_tests, same, le)

timed-step : (xs : List Timed) (e : Entry) → AreTimed xs → AreTimed (xs ++ next_timed xs e ∷ [])
timed-step xs e all = record {
  most = subst (λ (k : ℕ). list_all (λ (x : Timed). nat_le x.moment k) (xs ++ n ∷ []) ≡ true) (sym last)
      (list_all-append (λ (x : Timed). nat_le x.moment n.moment) xs (n ∷ [])
      ∙ and_from (list_all (λ (x : Timed). nat_le x.moment n.moment) xs) (nat_le n.moment n.moment && true) (most_more (last_moment xs) n.moment xs (omega arith) all.most) (ap (λ (b : Bool). b && true) (self n.moment)));
  last = inr (subst (λ (k : ℕ). is_moment k (xs ++ n ∷ []) ≡ true) (sym last) (moment_here xs n));
  starts = λ test. omega (arith, last, begun test, start_least test);
  begins = λ test. subst (λ (k : ℕ). (k ≡ 0) ⊎ (is_moment k (xs ++ n ∷ []) ≡ true)) (sym (begun test)) (begin-snoc test xs n (started test xs) e (begin_still xs n (started test xs) (all.begins test)));
  links = λ m some moment. elim (cases_Bool (is_moment m xs)) [
    | inl old ↦ link_still m xs n (omega (arith, reached m (last_moment xs) xs all.most old)) old (all.links m some old)
    | inr new ↦ link_new m xs e all (here m moment new) some new
  ];
}
  where
    n : Timed
    n = next_timed xs e

    last : last_moment (xs ++ n ∷ []) ≡ n.moment
    last = last-snoc xs n

    begun : (test : ℕ) → started test (xs ++ n ∷ []) ≡ unwrap_or (start_at test n.moment e) (started test xs)
    begun test = started-snoc test xs n

    self : (k : ℕ) → nat_le k k ≡ true
    self k = grind (arith, nat_tests)

    start_least : (test : ℕ) → unwrap_or (start_at test n.moment e) (started test xs) ≤ n.moment
    start_least test = start_most test n.moment (started test xs) e (omega (arith, all.starts test))

    here : (m : ℕ) → is_moment m (xs ++ n ∷ []) ≡ true → is_moment m xs ≡ false → m ≡ n.moment
    here m moment new = equal n.moment (sym (moment-snoc m xs n ∙ ap (λ (b : Bool). b || (n.moment == m || false)) new) ∙ moment)
      where
        equal : (k : ℕ) → (k == m || false) ≡ true → m ≡ k
        equal k is = grind (arith, nat_tests, is)

pub are_timed : (es : List Entry) → AreTimed (timed es)
are_timed = timed_induction AreTimed timed-step (record {
  most = refl;
  last = inl refl;
  starts = λ test. omega arith;
  begins = λ test. inl refl;
  links = λ m some moment. absurd (true≢false (sym moment));
})

-- attempts that lead back from a moment to 0, and follow one another up to it
record Leads (xs : List Timed) (m : ℕ) : Type 0 where
  links : List Link
  lead : LeadBack xs m links
  follow : Follow 0 (reverse links) m

follow-snoc : (from : ℕ) (ls : List Link) (mid : ℕ) (l : Link) → Follow from ls mid → l.start ≡ mid → 0 < l.micros → Follow from (ls ++ l ∷ []) (mid + l.micros)
follow-snoc from [] mid l is starts takes = (starts ∙ sym is, takes, ap (λ (k : ℕ). k + l.micros) is)
follow-snoc from (k ∷ ks) mid l follows starts takes = (follows.0, follows.1, follow-snoc (from + k.micros) ks mid l follows.2 starts takes)

leads_below : (xs : List Timed) → AreTimed xs → (most m : ℕ) → m ≤ most → (m ≡ 0) ⊎ (is_moment m xs ≡ true) → Leads xs m
leads_below xs all most zero le is = record { links = []; lead = refl; follow = refl }
leads_below xs all zero (suc m) le is = absurd (omega (arith, le))
leads_below xs all (suc most) (suc m) le (inl none) = absurd (omega (arith, none))
leads_below xs all (suc most) (suc m) le (inr moment) =
    let some : 0 < suc m = omega arith in
    let has = all.links (suc m) some moment in
    let l = has.link in
    let back = leads_below xs all most l.start (omega (arith, le, has.adds, has.takes)) has.from in
    record {
      links = l ∷ back.links;
      lead = (some, has.is, back.lead);
      follow = subst (λ (ls : List Link). Follow 0 ls (suc m)) (sym (reverse-append (l ∷ []) back.links))
          (subst (λ (k : ℕ). Follow 0 (reverse back.links ++ l ∷ []) k) has.adds (follow-snoc 0 (reverse back.links) l.start l back.follow refl has.takes));
    }

-- only one list of attempts leads back from a moment
one_way : (xs : List Timed) (m : ℕ) (ls ks : List Link) → LeadBack xs m ls → LeadBack xs m ks → ls ≡ ks
one_way xs m [] [] one other = refl
one_way xs m [] (k ∷ ks) one other = absurd (omega (arith, one, other.0))
one_way xs m (l ∷ ls) [] one other = absurd (omega (arith, one.0, other))
one_way xs m (l ∷ ls) (k ∷ ks) one other =
    let found : Some l ≡ Some k = sym one.1 ∙ other.1 in
    let same : l ≡ k = cc in
    let rest = one_way xs l.start ls ks one.2 (subst (λ (x : Link). LeadBack xs x.start ks) (sym same) other.2) in
    ap (λ (x : Link). x ∷ ls) same ∙ ap (λ (ys : List Link). k ∷ ys) rest

follow_sum : (from : ℕ) (ls : List Link) (to : ℕ) → Follow from ls to → from + sum_by (λ (l : Link). l.micros) ls ≡ to
follow_sum from [] to is = omega (arith, is)
follow_sum from (l ∷ ls) to follows = omega (arith, follow_sum (from + l.micros) ls to follows.2, sum_by-cons (λ (k : Link). k.micros) l ls)

-- attempts that follow one another start no earlier than the first
later_starts : (from : ℕ) (ls : List Link) (to : ℕ) → Follow from ls to → (i : ℕ) (d : Link) → i < length ls → from ≤ (get_or ls i d).start
later_starts from [] to follows i d lt = absurd (omega (arith, lt))
later_starts from (l ∷ ls) to follows zero d lt = omega (arith, follows.0)
later_starts from (l ∷ ls) to follows (suc i) d lt = omega (arith, later_starts (from + l.micros) ls to follows.2 i d (omega (arith, lt)))

follow_differ : (from : ℕ) (ls : List Link) (to : ℕ) → Follow from ls to → AllPairs (λ (one other : Link). one ≢ other) ls
follow_differ from [] to follows = λ i j d less lt. absurd (omega (arith, lt))
follow_differ from (l ∷ ls) to follows =
    AllPairs-cons (λ (one other : Link). one ≢ other) l ls
    (λ i d lt same. omega (arith, later_starts (from + l.micros) ls to follows.2 i d lt, follows.0, follows.1, ap (λ (k : Link). k.start) same))
    (follow_differ (from + l.micros) ls to follows.2)

pub has_one_chain : (es : List Entry) → HasOneChain es
has_one_chain es =
    let all = are_timed es in
    let leads = leads_below (timed es) all (length_of es) (length_of es) (omega arith) all.last in
    let chain = reverse leads.links in
    record {
      chain = chain;
      is = subst (λ (ls : List Link). LeadBack (timed es) (length_of es) ls) (sym (reverse-reverse leads.links)) leads.lead;
      only = λ other is. sym (reverse-reverse other) ∙ ap reverse (one_way (timed es) (length_of es) (reverse other) leads.links is leads.lead);
      differ = follow_differ 0 chain (length_of es) leads.follow;
      follow = leads.follow;
      sum = omega (arith, follow_sum 0 chain (length_of es) leads.follow);
    }
