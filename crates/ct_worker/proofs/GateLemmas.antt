-- What the gate of a worker was asked, with one more attempt, and with entries that are not the worker's.
use Rattle.std.proofs.Common.{◌≡◌, ◌∙◌, sym, ap, subst, Bool, true, false, ℕ, ◌+◌, ◌≤◌, List, [], ◌∷◌, ◌++◌, refl, arith, inl, inr, append_assoc}
use Rattle.std.specs.Prelude.{◌⊎◌, Option, Some, None, IfSome, map, count_by, not, ◌==◌, ◌&&◌, ◌||◌, cond}
use Rattle.std.specs.List.{list_any, cons_option}
use Rattle.std.proofs.lemmas.Bool.{or_parts}
use Rattle.std.proofs.Math.Bool.{or-true}
use Rattle.std.proofs.lemmas.List.{append-nil, map-append}
use Rattle.std.proofs.lemmas.List.Elements.{filter_map-append}
use Rattle.std.proofs.lemmas.List.Folds.{list_any-append}
use Rattle.std.proofs.lemmas.List.Sums.{sum_by-append, sum_by-cons}
use Rattle.ct_base.specs.Outside.{Adds, Becomes, Rose}
use Rattle.ct_props.specs.declared.props.Props.{Props}
use Rattle.ct_alloc.specs.declared.placement.Placement.{Placement}
use Rattle.ct_verdict.specs.declared.attempt.Seen.{Seen}
use Rattle.ct_history.specs.declared.history.Entry.{Entry}
use Rattle.ct_history.specs.declared.history.Entry.TheVariants.{Start, End, Settle, Stop}
use Rattle.ct_history.specs.History.{Running}
use Rattle.ct_history.proofs.BoolLemmas.{eq_same}
use Rattle.ct_core.specs.declared.gate.Asked.{Asked}
use Rattle.ct_core.specs.declared.gate.Request.{Request}
use Rattle.ct_core.specs.declared.gate.Told.{Told}
use Rattle.ct_core.specs.Gate.{GateTell, asked_for, is_no_memory, is_not_started}
use Rattle.ct_turn.specs.Pass.{PassValue}
use Rattle.ct_turn.specs.Seen.{is_by}
use Rattle.ct_report.proofs.PutLemmas.{adds_none, adds_then_adds}
use Rattle.ct_worker.specs.Attempt.{AsksNone, AsksOnce, RunsAttempt}
use Rattle.ct_worker.specs.Gates.{AreRequests, SawAllTold, CountsUnstarted, IsAsked, MayMiss, SawTold, SeesTold, Sends, Terms, asked_run, ended_by, ended_lacking, ended_with_memory, is_unstarted, lacks_for, started_by, starts_of, unstarted_count}

-- runs that may be missing may still be missing if more runs may be
may_miss-more : (may also : Running → Bool) → ((run : Running) → may run ≡ true → also run ≡ true) → (runs kept : List Running) → MayMiss may runs kept → MayMiss also runs kept
may_miss-more may also more [] kept is = is
may_miss-more may also more (run ∷ runs) [] is = (more run is.0, may_miss-more may also more runs [] is.1)
may_miss-more may also more (run ∷ runs) (first ∷ kept) (inl (same, rest)) = inl (same, may_miss-more may also more runs kept rest)
may_miss-more may also more (run ∷ runs) (first ∷ kept) (inr (lacks, rest)) = inr (more run lacks, may_miss-more may also more runs (first ∷ kept) rest)

may_miss-append : (may : Running → Bool) (runs more kept others : List Running) → MayMiss may runs kept → MayMiss may more others → MayMiss may (runs ++ more) (kept ++ others)
may_miss-append may [] more kept others is rest = subst (λ (rs : List Running). MayMiss may more (rs ++ others)) (sym is) rest
may_miss-append may (run ∷ runs) more [] [] is rest = (is.0, may_miss-append may runs more [] [] is.1 rest)
may_miss-append may (run ∷ runs) more [] (other ∷ others) is rest = inr (is.0, may_miss-append may runs more [] (other ∷ others) is.1 rest)
may_miss-append may (run ∷ runs) more (first ∷ kept) others (inl (same, left)) rest = inl (same, may_miss-append may runs more kept others left rest)
may_miss-append may (run ∷ runs) more (first ∷ kept) others (inr (lacks, left)) rest = inr (lacks, may_miss-append may runs more (first ∷ kept) others left rest)

-- an attempt that lacked memory still did with more entries, behind or in front
lacking_stays : (es more : List Entry) (run : Running) → ended_lacking es run ≡ true → ended_lacking (es ++ more) run ≡ true
lacking_stays es more run is = list_any-append (lacks_for run) es more ∙ ap (λ (b : Bool). b || list_any (lacks_for run) more) is

lacking_behind : (es more : List Entry) (run : Running) → ended_lacking more run ≡ true → ended_lacking (es ++ more) run ≡ true
lacking_behind es more run is = list_any-append (lacks_for run) es more ∙ ap (λ (b : Bool). list_any (lacks_for run) es || b) is ∙ or-true (list_any (lacks_for run) es)

are_requests-append : (terms : Terms) (runs more : List Running) (requests others : List Request) → AreRequests terms runs requests → AreRequests terms more others → AreRequests terms (runs ++ more) (requests ++ others)
are_requests-append terms [] more [] others are rest = rest
are_requests-append terms [] more (request ∷ requests) others are rest = absurd are
are_requests-append terms (run ∷ runs) more [] others are rest = absurd are
are_requests-append terms (run ∷ runs) more (request ∷ requests) others are rest = (are.0, are_requests-append terms runs more requests others are.1 rest)

sends_then : (terms : Terms) (start old new : Option (List Request)) (runs more : List Running) → Becomes start old (Sends terms runs) → Becomes old new (Sends terms more) → Becomes start new (Sends terms (runs ++ more))
sends_then terms None old new runs more first second = tt
sends_then terms (Some before) None new runs more first second = absurd first
sends_then terms (Some before) (Some between) None runs more first second = absurd second
sends_then terms (Some before) (Some between) (Some now) runs more first second = record {
  requests = first.requests ++ second.requests;
  are = are_requests-append terms runs more first.requests second.requests first.are second.are;
  added = second.added ∙ ap (λ (rs : List Request). rs ++ second.requests) first.added ∙ append_assoc before first.requests second.requests;
}

sends_these : (terms : Terms) (old new : Option (List Request)) (runs : List Running) (requests : List Request) → AreRequests terms runs requests → Becomes old new (Adds requests) → Becomes old new (Sends terms runs)
sends_these terms None new runs requests are added = tt
sends_these terms (Some before) None runs requests are added = absurd added
sends_these terms (Some before) (Some now) runs requests are added = record { requests = requests; are = are; added = added }

are_told-append : (props : List Props) (world : List Told) (w : ℕ) (es more : List Entry) → SawAllTold props world w es → SawAllTold props world w more → SawAllTold props world w (es ++ more)
are_told-append props world w [] more one other = other
are_told-append props world w (e ∷ es) more one other = (one.0, are_told-append props world w es more one.1 other)

told_then : (props : List Props) (start old : Option (List Told)) (w : ℕ) (es more : List Entry) → old ≡ start → IfSome start (λ world. SawAllTold props world w es) → IfSome old (λ world. SawAllTold props world w more) → IfSome start (λ world. SawAllTold props world w (es ++ more))
told_then props None old w es more same one other = tt
told_then props (Some world) old w es more same one other =
    are_told-append props world w es more one (subst (λ (o : Option (List Told)). IfSome o (λ x. SawAllTold props x w more)) same other)

counts_then : (unstarted others start old new : ℕ) → CountsUnstarted unstarted start old → CountsUnstarted others old new → CountsUnstarted (unstarted + others) start new
counts_then unstarted others start old new first second =
    let was_later : start ≤ old = first.later in
    let later : old ≤ new = second.later in
    let was = first.rose in
    let rose = second.rose in
    record { later = omega arith; rose = omega (arith, was, rose); stays = λ none. second.stays (omega (arith, none)) ∙ first.stays (omega (arith, none)) }

-- if a gate was asked for some entries, and then for more, it was asked for all of them
pub asked_then : (terms : Terms) (w : ℕ) (start old new : GateTell) (es more : List Entry) → IsAsked terms w start old es → IsAsked terms w old new more → IsAsked terms w start new (es ++ more)
asked_then terms w start old new es more first second = record {
  told = told_then terms.props start.world old.world w es more first.world first.told second.told;
  runs = first.runs ++ second.runs;
  kept = subst (λ (rs : List Running). MayMiss (ended_lacking (es ++ more)) rs (first.runs ++ second.runs)) (sym (filter_map-append (started_by w) es more))
      (may_miss-append (ended_lacking (es ++ more)) (starts_of w es) (starts_of w more) first.runs second.runs
      (may_miss-more (ended_lacking es) (ended_lacking (es ++ more)) (λ run is. lacking_stays es more run is) (starts_of w es) first.runs first.kept)
      (may_miss-more (ended_lacking more) (ended_lacking (es ++ more)) (λ run is. lacking_behind es more run is) (starts_of w more) second.runs second.kept));
  asked = subst (λ (xs : List Asked). Becomes start.asked new.asked (Adds xs)) (sym (map-append asked_run first.runs second.runs)) (adds_then_adds start.asked old.asked new.asked (map asked_run first.runs) (map asked_run second.runs) first.asked second.asked);
  sent = sends_then terms start.sent old.sent new.sent first.runs second.runs first.sent second.sent;
  who = second.who ∙ first.who;
  world = second.world ∙ first.world;
  ended = map-append asked_run first.runs second.runs
      ∙ ap (λ (xs : List Asked). xs ++ map asked_run second.runs) first.ended
      ∙ ap (λ (xs : List Asked). ended_with_memory w es ++ xs) second.ended
      ∙ sym (filter_map-append (ended_by w) es more);
  unstarted =
      subst (λ (n : ℕ). CountsUnstarted n start.faults new.faults) (sym (sum_by-append (λ (e : Entry). cond (is_unstarted w e) 1 0) es more))
      (counts_then (unstarted_count w es) (unstarted_count w more) start.faults old.faults new.faults first.unstarted second.unstarted);
}

none_more : (m n : ℕ) → m ≡ n → 0 + m ≡ n
none_more m n is = omega (arith, is)

-- the entries are not the worker's
module _ (w : ℕ) where
  no_start : (e : Entry) → is_by w e ≡ false → started_by w e ≡ None
  no_start (Start t a v p) is = ap (λ (b : Bool). cond b (Some (record { test = t; attempt = a; worker = v; placement = p })) None) is
  no_start (End t a v s) is = refl
  no_start (Settle t c) is = refl
  no_start Stop is = refl

  no_starts : (es : List Entry) → list_any (is_by w) es ≡ false → starts_of w es ≡ []
  no_starts [] is = refl
  no_starts (e ∷ es) is = ap (λ (o : Option Running). cons_option o (starts_of w es)) (no_start e ((or_parts (is_by w e) (list_any (is_by w) es) is).0)) ∙ no_starts es ((or_parts (is_by w e) (list_any (is_by w) es) is).1)

  not_unstarted : (e : Entry) → is_by w e ≡ false → is_unstarted w e ≡ false
  not_unstarted (Start t a v p) is = refl
  not_unstarted (End t a v s) is = ap (λ (b : Bool). b && is_not_started s.how) is
  not_unstarted (Settle t c) is = refl
  not_unstarted Stop is = refl

  not_ended : (e : Entry) → is_by w e ≡ false → ended_by w e ≡ None
  not_ended (Start t a v p) is = refl
  not_ended (End t a v s) is = ap (λ (b : Bool). cond (b && not (is_no_memory s.how)) (Some (asked_for t a)) None) is
  not_ended (Settle t c) is = refl
  not_ended Stop is = refl

  none_ended : (es : List Entry) → list_any (is_by w) es ≡ false → ended_with_memory w es ≡ []
  none_ended [] is = refl
  none_ended (e ∷ es) is = ap (λ (o : Option Asked). cons_option o (ended_with_memory w es)) (not_ended e ((or_parts (is_by w e) (list_any (is_by w) es) is).0)) ∙ none_ended es ((or_parts (is_by w e) (list_any (is_by w) es) is).1)

  none_counted : (counts : Entry → Bool) → ((e : Entry) → is_by w e ≡ false → counts e ≡ false) → (es : List Entry) → list_any (is_by w) es ≡ false → count_by counts es ≡ 0
  none_counted counts never [] is = refl
  none_counted counts never (e ∷ es) is =
      sum_by-cons (λ (x : Entry). cond (counts x) 1 0) e es
      ∙ ap (λ (b : Bool). cond b 1 0 + count_by counts es) (never e ((or_parts (is_by w e) (list_any (is_by w) es) is).0))
      ∙ none_more (count_by counts es) 0 (none_counted counts never es ((or_parts (is_by w e) (list_any (is_by w) es) is).1))

  saw_none : (props : List Props) (world : List Told) (e : Entry) → is_by w e ≡ false → SawTold props world w e
  saw_none props world (Start t a v p) is = tt
  saw_none props world (End t a v s) is = λ same memory. absurd (no same)
    where
      no : v ≡ w → ⊥
      no same = let here : (v == w) ≡ true = ap (λ (x : ℕ). v == x) (sym same) ∙ eq_same v in let both : true ≡ false = sym here ∙ is in cc
  saw_none props world (Settle t c) is = tt
  saw_none props world Stop is = tt

  told_none : (props : List Props) (world : List Told) (es : List Entry) → list_any (is_by w) es ≡ false → SawAllTold props world w es
  told_none props world [] is = tt
  told_none props world (e ∷ es) is = (saw_none props world e ((or_parts (is_by w e) (list_any (is_by w) es) is).0), told_none props world es ((or_parts (is_by w e) (list_any (is_by w) es) is).1))

  -- for entries that are not the worker's its gate is not asked
  unasked : (terms : Terms) (tell : GateTell) (es : List Entry) → list_any (is_by w) es ≡ false → IsAsked terms w tell tell es
  unasked terms tell es is = record {
    told = by_world tell.world;
    runs = [];
    kept = subst (λ (rs : List Running). MayMiss (ended_lacking es) rs []) (sym (no_starts es is)) refl;
    ended = sym (none_ended es is);
    asked = adds_none tell.asked;
    sent = sends_these terms tell.sent tell.sent [] [] tt (adds_none tell.sent);
    who = refl;
    world = refl;
    unstarted = record { later = omega arith; rose = omega (arith, none_counted (is_unstarted w) not_unstarted es is); stays = λ none. refl };
  }
    where
      by_world : (o : Option (List Told)) → IfSome o (λ world. SawAllTold terms.props world w es)
      by_world None = tt
      by_world (Some world) = told_none terms.props world es is

-- how one attempt raises the count, by whether it was not started
counts_one : (failed : Bool) (old new : ℕ) → old ≤ new → (failed ≡ true → Rose old new) → (failed ≡ false → new ≡ old) → CountsUnstarted (cond failed 1 0) old new
counts_one true old new later rose stays = record { later = later; rose = rose refl; stays = λ one. absurd (omega (arith, one)) }
counts_one false old new later rose stays = record { later = later; rose = omega (arith, later); stays = λ none. stays refl }

-- an attempt that started and ended, with entries in between that are not the worker's
module _ (t a w : ℕ) (p : Option Placement) (seen : Seen) (mid : List Entry) (others : list_any (is_by w) mid ≡ false) where
  abbrev run : Running
  run = record { test = t; attempt = a; worker = w; placement = p }

  abbrev entries : List Entry
  entries = Start t a w p ∷ (mid ++ End t a w seen ∷ [])

  starts-one : starts_of w entries ≡ run ∷ []
  starts-one =
      ap (λ (b : Bool). cons_option (cond b (Some run) None) (starts_of w (mid ++ End t a w seen ∷ []))) (eq_same w)
      ∙ ap (λ (rs : List Running). run ∷ rs) (filter_map-append (started_by w) mid (End t a w seen ∷ []) ∙ append-nil (starts_of w mid) ∙ no_starts w mid others)

  lacking_now : is_no_memory seen.how ≡ true → ended_lacking entries run ≡ true
  lacking_now lacks = lacking_behind (Start t a w p ∷ mid) (End t a w seen ∷ []) run
      (ap (λ (b : Bool). (b && a == a) && is_no_memory seen.how || false) (eq_same t)
      ∙ ap (λ (b : Bool). b && is_no_memory seen.how || false) (eq_same a)
      ∙ ap (λ (b : Bool). b || false) lacks)

  -- a count without the Start and without entries of others is 1 if it counts the End, else 0
  counted : (counts : Entry → Bool) (b : Bool) → ((e : Entry) → is_by w e ≡ false → counts e ≡ false) → counts (Start t a w p) ≡ false → counts (End t a w seen) ≡ b → count_by counts entries ≡ cond b 1 0
  counted counts b never start end =
      sum_by-cons (λ (e : Entry). cond (counts e) 1 0) (Start t a w p) (mid ++ End t a w seen ∷ [])
      ∙ ap (λ (x : Bool). cond x 1 0 + count_by counts (mid ++ End t a w seen ∷ [])) start
      ∙ none_more (count_by counts (mid ++ End t a w seen ∷ [])) (cond b 1 0) behind
    where
      behind : count_by counts (mid ++ End t a w seen ∷ []) ≡ cond b 1 0
      behind =
          sum_by-append (λ (e : Entry). cond (counts e) 1 0) mid (End t a w seen ∷ [])
          ∙ ap (λ (n : ℕ). n + (0 + cond (counts (End t a w seen)) 1 0)) (none_counted w counts never mid others)
          ∙ none_more (0 + cond (counts (End t a w seen)) 1 0) (cond b 1 0) (none_more (cond (counts (End t a w seen)) 1 0) (cond b 1 0) (ap (λ (x : Bool). cond x 1 0) end))

  unstarted-one : unstarted_count w entries ≡ cond (is_not_started seen.how) 1 0
  unstarted-one = counted (is_unstarted w) (is_not_started seen.how) (not_unstarted w) refl (ap (λ (b : Bool). b && is_not_started seen.how) (eq_same w))

  ended-one : ended_with_memory w entries ≡ cond (not (is_no_memory seen.how)) (asked_run run ∷ []) []
  ended-one =
      filter_map-append (ended_by w) mid (End t a w seen ∷ [])
      ∙ ap (λ (xs : List Asked). xs ++ ended_with_memory w (End t a w seen ∷ [])) (none_ended w mid others)
      ∙ ap (λ (b : Bool). cons_option (cond (b && not (is_no_memory seen.how)) (Some (asked_for t a)) None) []) (eq_same w)
      ∙ by_memory (not (is_no_memory seen.how))
    where
      by_memory : (b : Bool) → cons_option (cond b (Some (asked_for t a)) None) [] ≡ cond b (asked_run run ∷ []) []
      by_memory true = refl
      by_memory false = refl

  asked_one : (terms : Terms) (pass : PassValue) (old new : GateTell) → RunsAttempt terms pass run seen old new → IsAsked terms w old new entries
  asked_one terms pass old new ran = by_calls ran.calls
    where
      by_world : (o : Option (List Told)) → (is_no_memory seen.how ≡ false → IfSome o (λ world. SeesTold terms.props world t a seen)) → IfSome o (λ world. SawAllTold terms.props world w entries)
      by_world None says = tt
      by_world (Some world) says = (tt, are_told-append terms.props world w mid (End t a w seen ∷ []) (told_none w terms.props world mid others) (λ here memory. says memory, tt))

      counts : CountsUnstarted (unstarted_count w entries) old.faults new.faults
      counts =
          subst (λ (n : ℕ). CountsUnstarted n old.faults new.faults) (sym unstarted-one)
          (counts_one (is_not_started seen.how) old.faults new.faults ran.cause.later ran.cause.failed ran.cause.unfailed)

      with_runs : (runs : List Running) (requests : List Request) → MayMiss (ended_lacking entries) (run ∷ []) runs → map asked_run runs ≡ ended_with_memory w entries → AreRequests terms runs requests → Becomes old.asked new.asked (Adds (map asked_run runs)) → Becomes old.sent new.sent (Adds requests) → IsAsked terms w old new entries
      with_runs runs requests missed ended are asked sent = record {
        told = by_world old.world ran.told;
        runs = runs;
        kept = subst (λ (rs : List Running). MayMiss (ended_lacking entries) rs runs) (sym starts-one) missed;
        ended = ended;
        asked = asked;
        sent = sends_these terms old.sent new.sent runs requests are sent;
        who = ran.who;
        world = ran.world;
        unstarted = counts;
      }

      by_calls : (AsksOnce terms pass run seen.how old new ⊎ AsksNone seen.how old new) → IsAsked terms w old new entries
      by_calls (inl once) =
          let ended : asked_run run ∷ [] ≡ ended_with_memory w entries = sym (ended-one ∙ ap (λ (b : Bool). cond (not b) (asked_run run ∷ []) []) once.had) in
          with_runs (run ∷ []) (once.request ∷ []) (inl (refl, refl)) ended (once.is, tt) once.asked once.sent
      by_calls (inr none) =
          let ended : [] ≡ ended_with_memory w entries = sym (ended-one ∙ ap (λ (b : Bool). cond (not b) (asked_run run ∷ []) []) none.lacks) in
          with_runs [] [] (lacking_now none.lacks, refl) ended tt none.asked none.sent

-- for no entries a gate is not asked
pub asked_none : (terms : Terms) (w : ℕ) (tell : GateTell) → IsAsked terms w tell tell []
asked_none terms w tell = unasked w terms tell [] refl

-- entries that are not the worker's leave what its gate was asked
pub asked_others : (terms : Terms) (w : ℕ) (start gate : GateTell) (es more : List Entry) → list_any (is_by w) more ≡ false → IsAsked terms w start gate es → IsAsked terms w start gate (es ++ more)
asked_others terms w start gate es more others was = asked_then terms w start gate gate es more was (unasked w terms gate more others)

-- a gate was asked for one more attempt, and other workers went on between its Start and its End
pub asked_attempt : (terms : Terms) (pass : PassValue) (w : ℕ) (start old new : GateTell) (es mid : List Entry) (t a : ℕ) (p : Option Placement) (seen : Seen) → list_any (is_by w) mid ≡ false → IsAsked terms w start old es → RunsAttempt terms pass (record { test = t; attempt = a; worker = w; placement = p }) seen old new → IsAsked terms w start new (es ++ (Start t a w p ∷ (mid ++ End t a w seen ∷ [])))
asked_attempt terms pass w start old new es mid t a p seen others was ran = asked_then terms w start old new es (Start t a w p ∷ (mid ++ End t a w seen ∷ [])) was (asked_one t a w p seen mid others terms pass old new ran)
