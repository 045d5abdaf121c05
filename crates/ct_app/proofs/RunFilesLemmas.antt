-- What the files of a run hold after each write.
use Rattle.std.proofs.Common.{◌≡◌, ◌≢◌, ◌∙◌, sym, ap, subst, Bool, true, false, ℕ, ◌+◌, ◌<◌, List, [], ◌∷◌, ◌++◌, length, get_or, take, inl, inr, refl, arith}
use Rattle.std.specs.Prelude.{Option, Some, None, Result, Ok, Err, IfSome, IsErrOf, option_map, cond, not, codes, decimal, filter, flat_map, ◌==◌}
use Rattle.std.specs.List.{list_any}
use Rattle.std.proofs.lemmas.Bool.{ne_eqb}
use Rattle.std.proofs.lemmas.Bool.Decides.{Decides-eqb}
use Rattle.std.proofs.lemmas.List.{append_cancel_left, length-append}
use Rattle.ct_base.specs.Bytes.{slash}
use Rattle.ct_base.specs.declared.files.FilesFault.{FilesFault}
use Rattle.ct_base.specs.declared.files.FilesFault.TheVariants as Files
use Rattle.ct_base.specs.Outside.{FailsToWrite, FilesTell, Held, LooksAt, SameHeld, Writes}
use Rattle.ct_history.specs.declared.plan.PlanTest.{PlanTest}
use Rattle.ct_history.specs.declared.plan.PlanParts.{PlanParts}
use Rattle.ct_history.specs.declared.history.Entry.{Entry}
use Rattle.ct_history.specs.Legal.{has_failing}
use Rattle.ct_history.specs.Verdicts.{is_failing_in, verdict_in}
use Rattle.ct_cost.specs.declared.cost_data.CostData.{CostData}
use Rattle.ct_cost.specs.After.{failed_log_text, logged}
use Rattle.ct_cost.specs.Costs.{costs_in}
use Rattle.ct_app.specs.declared.run_files.RunFileFault.{RunFileFault}
use Rattle.ct_app.specs.declared.run_files.RunFileFault.TheVariants as Fault
use Rattle.ct_app.specs.Rerun.{ReadsLog}
use Rattle.ct_app.specs.RunFiles.{FilesFail, FilesServe, FilesStay, Leaves, LeavesBoth, LeavesFor, LeavesPart, LeavesTorn, ReadsCosts, WritesFiles, WritesText, costs_of, costs_path, file_fault_at, last_costs, log_path, most_cost_bytes, new_costs}
use Rattle.ct_app.proofs.FrontLemmas.{made_of_front}
use Rattle.ct_app.proofs.ChangeLemmas.{fails_as, fails_then, same_then_fails, same_then_same, same_then_writes, serves_as, serves_then, stays, writes_then_same}

-- a text and its first bytes, one more than the limit, have the same cost data
pub costs_of_front : (held : Option (List ℕ)) → costs_of (option_map (take (most_cost_bytes + 1)) held) ≡ costs_of held
costs_of_front None = refl
costs_of_front (Some text) = made_of_front costs_in (costs_in []) most_cost_bytes text

-- the cost data that is read from the first bytes of its file is the cost data of the last run
pub reads_last : (dir path : List ℕ) (told : Option Held) (got : Option (List ℕ)) (costs : CostData) → path ≡ costs_path dir → IfSome told (λ held. got ≡ option_map (take (most_cost_bytes + 1)) (held path)) → costs ≡ costs_of got → IfSome told (λ held. costs ≡ last_costs dir held)
reads_last dir path None got costs named read is = tt
reads_last dir path (Some held) got costs named read is = is ∙ ap costs_of read ∙ costs_of_front (held path) ∙ ap (λ (p : List ℕ). costs_of (held p)) named

-- a file was read
module _ (path : List ℕ) (before now : FilesTell) (got : Option (List ℕ)) where
  no_fault : IsErrOf {T = Option (List ℕ)} {E = FilesFault} (Ok got) Files.Failed → ⊥
  no_fault is = cc

  pub looked : LooksAt path before now (Ok got) → FilesStay before now
  looked looks = record { held = looks.kept; unrefused = looks.asks.unrefused no_fault; unfailed = looks.asks.cause.unfailed no_fault }

-- a file was not read: the read failed, or memory ran out
module _ {T : Type 0} (path : List ℕ) (before now : FilesTell) where
  pub look_failed : LooksAt {T = T} path before now (Err Files.Failed) → FilesFail path SameHeld before now
  look_failed looks = record { held = looks.kept; told = looks.asks.told; last = looks.asks.refused refl; rose = looks.asks.cause.failed refl }

  pub look_lacked : LooksAt {T = T} path before now (Err Files.NoMemory) → FilesStay before now
  look_lacked looks = record { held = looks.kept; unrefused = looks.asks.unrefused (λ e. cc); unfailed = looks.asks.cause.unfailed (λ e. cc) }

  pub costs_unread : (dir : List ℕ) (fault : FilesFault) → path ≡ costs_path dir → LooksAt {T = T} path before now (Err fault) → ReadsCosts dir before now (Err (file_fault_at path fault))
  costs_unread dir Files.Failed named looks = (named, look_failed looks)
  costs_unread dir Files.NoMemory named looks = look_lacked looks

  pub log_unread : (dir : List ℕ) (fault : FilesFault) → path ≡ log_path dir → LooksAt {T = T} path before now (Err fault) → ReadsLog dir before now (Err (file_fault_at path fault))
  log_unread dir Files.Failed named looks = (named, look_failed looks)
  log_unread dir Files.NoMemory named looks = look_lacked looks

-- a write with an equal path and an equal text is the same write
pub writes_as : (path other text given : List ℕ) (before now : FilesTell) (result : Result (Unit {0}) RunFileFault) → path ≡ other → text ≡ given → WritesText path text before now result → WritesText other given before now result
writes_as path other text given before now result same said writes =
    subst (λ (p : List ℕ). WritesText p given before now result) same (subst (λ (t : List ℕ). WritesText path t before now result) said writes)

-- the cost file and the log have different paths
pub paths_differ : (dir : List ℕ) → costs_path dir ≢ log_path dir
paths_differ dir same =
    let names = append_cancel_left (dir ++ slash ∷ []) (codes "Testing/Temporary/CTestCostData.txt") (codes "Testing/Temporary/LastTestsFailed.log") same in
    let letters : 67 ≡ 76 = ap (λ name. get_or name 18 0) names in
    omega (arith, letters)

-- a log with a failed test is not empty
logs_some : (t : PlanTest) (rest : List ℕ) → (length (logged t ++ rest) == 0) ≡ false
logs_some t rest =
    let all = length-append (logged t) rest in
    let last = length-append (decimal t.number ++ codes ":" ++ t.name) (codes "\n") in
    let some : length (logged t ++ rest) ≢ 0 = λ none. omega (arith, all, last, none) in
    ne_eqb (length (logged t ++ rest)) 0 some

-- a log is empty exactly where no test failed
no_log : (fails : PlanTest → Bool) (ts : List PlanTest) → (length (flat_map logged (filter fails ts)) == 0) ≡ not (list_any fails ts)
no_log fails [] = refl
no_log fails (t ∷ ts) = by_test (fails t) refl (no_log fails ts)
  where
    by_test : (failed : Bool) → fails t ≡ failed → (length (flat_map logged (filter fails ts)) == 0) ≡ not (list_any fails ts) → (length (flat_map logged (filter fails (t ∷ ts))) == 0) ≡ not (list_any fails (t ∷ ts))
    by_test true failed rest = rw failed (logs_some t (flat_map logged (filter fails ts)))
    by_test false failed rest = rw failed rest

-- the log of a history is empty exactly where no test failed
module _ (plan : PlanParts) (entries : List Entry) (log : List ℕ) (is : log ≡ failed_log_text plan entries) where
  is_due : (empty : Bool) → (length log == 0) ≡ empty → not (has_failing plan entries) ≡ empty
  is_due empty said =
      sym (no_log (λ (t : PlanTest). is_failing_in (verdict_in plan.repeat t entries)) plan.tests) ∙ ap (λ (text : List ℕ). length text == 0) (sym is) ∙ said

  pub due_log : (length log == 0) ≡ false → has_failing plan entries ≡ true
  due_log said = by_cases (has_failing plan entries) (is_due false said)
    where
      by_cases : (failed : Bool) → not failed ≡ false → failed ≡ true
      by_cases true is = refl
      by_cases false is = cc

  pub no_due_log : (length log == 0) ≡ true → has_failing plan entries ≡ false
  no_due_log said = by_cases (has_failing plan entries) (is_due true said)
    where
      by_cases : (failed : Bool) → not failed ≡ true → failed ≡ false
      by_cases true is = cc
      by_cases false is = refl

-- a run of a plan without tests writes nothing
pub leaves_none : (plan : PlanParts) (entries : List Entry) (costs : CostData) (files : FilesTell) → (length plan.tests == 0) ≡ true → FilesServe (Leaves plan entries costs) files files
leaves_none plan entries costs files none = by_tests plan.tests none
  where
    by_tests : (tests : List PlanTest) → (length tests == 0) ≡ true → FilesServe (LeavesFor tests plan entries costs) files files
    by_tests [] none = stays files
    by_tests (t ∷ ts) none = let no = (Decides-eqb (length (t ∷ ts)) 0).0 none in absurd (omega (arith, no))

-- a plan without tests has no failed test
pub none_failing : (plan : PlanParts) (entries : List Entry) → (length plan.tests == 0) ≡ true → has_failing plan entries ≡ false
none_failing plan entries none = by_tests plan.tests none
  where
    by_tests : (tests : List PlanTest) → (length tests == 0) ≡ true → list_any (λ (t : PlanTest). is_failing_in (verdict_in plan.repeat t entries)) tests ≡ false
    by_tests [] none = refl
    by_tests (t ∷ ts) none = let no = (Decides-eqb (length (t ∷ ts)) 0).0 none in absurd (omega (arith, no))

-- files that stay meet `LeavesPart`
pub leaves_nothing : (plan : PlanParts) (entries : List Entry) (costs : CostData) (before now : FilesTell) → FilesStay before now → FilesServe (LeavesPart plan entries costs) before now
leaves_nothing plan entries costs before now stay = serves_as SameHeld (LeavesPart plan entries costs) (λ x y same. inl same) before now stay

module _ (plan : PlanParts) (entries : List Entry) (costs : CostData) (some : (length plan.tests == 0) ≡ false) where
  some_tests : 0 < length plan.tests
  some_tests = by_tests plan.tests some
    where
      by_tests : (tests : List PlanTest) → (length tests == 0) ≡ false → 0 < length tests
      by_tests [] none = absurd (let no : true ≡ false = none in cc)
      by_tests (t ∷ ts) many = omega arith

  leaves_both : (before now : Held) → LeavesBoth plan entries costs before now → Leaves plan entries costs before now
  leaves_both before now both = by_tests plan.tests some
    where
      by_tests : (tests : List PlanTest) → (length tests == 0) ≡ false → LeavesFor tests plan entries costs before now
      by_tests [] none = absurd (let no : true ≡ false = none in cc)
      by_tests (t ∷ ts) many = both

  -- the write of the cost file failed
  leaves_torn_costs : (path : List ℕ) (before now : FilesTell) → path ≡ costs_path plan.dir → FilesFail path (FailsToWrite (costs_path plan.dir) (new_costs plan entries costs)) before now → FilesFail path (LeavesTorn plan entries path costs) before now
  leaves_torn_costs path before now named fails =
      fails_as (FailsToWrite (costs_path plan.dir) (new_costs plan entries costs)) (LeavesTorn plan entries path costs)
      (λ x y torn. (some_tests, inl (record { named = named; torn = subst (λ (p : List ℕ). FailsToWrite p (new_costs plan entries costs) x y) (sym named) torn })))
      path before now fails

  -- where the cost file was not written, the files of the run were not written
  pub unwritten_costs : (fault : RunFileFault) (before now : FilesTell) → WritesText (costs_path plan.dir) (new_costs plan entries costs) before now (Err fault) → WritesFiles plan entries costs before now (Err fault)
  unwritten_costs (Fault.Failed path) before now torn = (inl (torn.0, some_tests), leaves_torn_costs path before now torn.0 torn.1)
  unwritten_costs Fault.NoMemory before now stay = leaves_nothing plan entries costs before now stay

  -- the cost file was written, and no log is due
  pub leaves_costs : (before now : FilesTell) → has_failing plan entries ≡ false → FilesServe (Writes (costs_path plan.dir) (new_costs plan entries costs)) before now → FilesServe (Leaves plan entries costs) before now
  leaves_costs before now passed serves =
      serves_as (Writes (costs_path plan.dir) (new_costs plan entries costs)) (Leaves plan entries costs)
      (λ x y writes. leaves_both x y (record {
        cost_file = writes.here;
        log = rw passed (writes.others (log_path plan.dir) (λ same. paths_differ plan.dir (sym same)));
        others = λ other no_costs no_log. writes.others other no_costs;
      }))
      before now serves

  module _ (failed : has_failing plan entries ≡ true) where
    -- the log was written behind the cost file
    leaves_log : (before between now : FilesTell) → FilesServe (Writes (costs_path plan.dir) (new_costs plan entries costs)) before between → FilesServe (Writes (log_path plan.dir) (failed_log_text plan entries)) between now → FilesServe (Leaves plan entries costs) before now
    leaves_log before between now first second =
        serves_then (Writes (costs_path plan.dir) (new_costs plan entries costs)) (Writes (log_path plan.dir) (failed_log_text plan entries)) (Leaves plan entries costs)
        (λ x y z writes logs. leaves_both x z (record {
          cost_file = logs.others (costs_path plan.dir) (paths_differ plan.dir) ∙ writes.here;
          log = rw failed logs.here;
          others = λ other no_costs no_log. logs.others other no_log ∙ writes.others other no_costs;
        }))
        before between now first second

    -- the write of the log failed behind the cost file
    leaves_torn_log : (path : List ℕ) (before between now : FilesTell) → path ≡ log_path plan.dir → FilesServe (Writes (costs_path plan.dir) (new_costs plan entries costs)) before between → FilesFail path (FailsToWrite (log_path plan.dir) (failed_log_text plan entries)) between now → FilesFail path (LeavesTorn plan entries path costs) before now
    leaves_torn_log path before between now named first second =
        fails_then (Writes (costs_path plan.dir) (new_costs plan entries costs)) (FailsToWrite (log_path plan.dir) (failed_log_text plan entries)) (LeavesTorn plan entries path costs)
        (λ x y z writes torn. (
          some_tests,
          inr (record {
            named = named;
            due = failed;
            between = y;
            written = writes;
            torn = subst (λ (p : List ℕ). FailsToWrite p (failed_log_text plan entries) y z) (sym named) torn;
          }),
        ))
        path before between now first second

    -- memory ran out for the log behind the cost file
    leaves_costs_alone : (before between now : FilesTell) → FilesServe (Writes (costs_path plan.dir) (new_costs plan entries costs)) before between → FilesStay between now → FilesServe (LeavesPart plan entries costs) before now
    leaves_costs_alone before between now first second =
        serves_then (Writes (costs_path plan.dir) (new_costs plan entries costs)) SameHeld (LeavesPart plan entries costs)
        (λ x y z writes same. inr (failed, writes_then_same (costs_path plan.dir) (new_costs plan entries costs) x y z writes same))
        before between now first second

    -- the log was written behind the cost file, or was not for a fault
    pub writes_log : (before between now : FilesTell) (result : Result (Unit {0}) RunFileFault) → FilesServe (Writes (costs_path plan.dir) (new_costs plan entries costs)) before between → WritesText (log_path plan.dir) (failed_log_text plan entries) between now result → WritesFiles plan entries costs before now result
    writes_log before between now (Ok done) first second = leaves_log before between now first second
    writes_log before between now (Err (Fault.Failed path)) first second = (inr (second.0, failed), leaves_torn_log path before between now second.0 first second.1)
    writes_log before between now (Err Fault.NoMemory) first second = leaves_costs_alone before between now first second

-- files that stay and are then written by a run are written by a run
pub leaves_behind : (plan : PlanParts) (entries : List Entry) (costs : CostData) (x y z : Held) → SameHeld x y → Leaves plan entries costs y z → Leaves plan entries costs x z
leaves_behind plan entries costs x y z same leaves = by_tests plan.tests leaves
  where
    by_tests : (tests : List PlanTest) → LeavesFor tests plan entries costs y z → LeavesFor tests plan entries costs x z
    by_tests [] kept = same_then_same x y z same kept
    by_tests (t ∷ ts) both = record {
      cost_file = both.cost_file;
      log = both.log ∙ ap (λ (old : Option (List ℕ)). cond (has_failing plan entries) (Some (failed_log_text plan entries)) old) (same (log_path plan.dir));
      others = λ other no_costs no_log. both.others other no_costs no_log ∙ same other;
    }

pub leaves_part_behind : (plan : PlanParts) (entries : List Entry) (costs : CostData) (x y z : Held) → SameHeld x y → LeavesPart plan entries costs y z → LeavesPart plan entries costs x z
leaves_part_behind plan entries costs x y z same (inl kept) = inl (same_then_same x y z same kept)
leaves_part_behind plan entries costs x y z same (inr (due, writes)) = inr (due, same_then_writes (costs_path plan.dir) (new_costs plan entries costs) x y z same writes)

pub leaves_torn_behind : (plan : PlanParts) (entries : List Entry) (path : List ℕ) (costs : CostData) (x y z : Held) → SameHeld x y → LeavesTorn plan entries path costs y z → LeavesTorn plan entries path costs x z
leaves_torn_behind plan entries path costs x y z same (some, inl torn) = (some, inl (record { named = torn.named; torn = same_then_fails path (new_costs plan entries costs) x y z same torn.torn }))
leaves_torn_behind plan entries path costs x y z same (some, inr torn) = (
  some,
  inr (record {
    named = torn.named;
    due = torn.due;
    between = torn.between;
    written = same_then_writes (costs_path plan.dir) (new_costs plan entries costs) x y torn.between same torn.written;
    torn = torn.torn;
  }),
)
