-- What each outcome of a call means, for the words of the call. This project's own.
use Rattle.std.specs.Prelude.{◌≡◌, ℕ, true, false}
use Rattle.ct_app.specs.declared.outcome.Outcome.{Outcome}
use Rattle.ct_app.specs.Calls.{Sides}
use Rattle.ct_app.specs.Lists.{AnswersList}
use Rattle.ct_app.specs.Reading.{ask_for_list}
use Rattle.ct_app.specs.Runs.{AnswersRun}

-- the outcome and the status are an answer for a list where the words ask for a list, else for a run
pub record Answers (s : Sides) (outcome : Outcome) (status : ℕ) : Type 0 where
  pub run : ask_for_list s.words ≡ false → AnswersRun s outcome status
  pub list : ask_for_list s.words ≡ true → AnswersList s outcome status
