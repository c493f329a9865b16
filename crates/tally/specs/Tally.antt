-- What a list of calls comes to, from the setup and the calls alone. Assumes nothing.
--     after_call s t c      the state after the call c in the state t
--     answer_to s t c       what it answers; of a choice also what the chosen run held
--     tally_from, answers_from   the same two for a list of calls, from any state
--     tally s cs            the state after the calls cs, from the opening on
--     answers s cs          what they answer, one after the other
use Rattle.std.specs.Prelude.{List, [], ◌∷◌, fold}
use Rattle.store.specs.Store.{find}
use Rattle.meaning.specs.Setup.{Setup, State, opening}
use Rattle.meaning.specs.Calls.{hand_in_answer, hand_in_after, look_answer, step_answer, step_after, run_answer, run_after}
use Rattle.tally.specs.declared.answers.Answer.{Answer}
use Rattle.tally.specs.declared.answers.Answer.TheVariants as answer
use Rattle.tally.specs.declared.calls.Call.{Call}
use Rattle.tally.specs.declared.calls.Call.TheVariants as call

module _ {R : Type 0} (s : Setup R) where
  abbrev pub after_call : State → Call → State
  after_call t (call.HandIn k vs) = hand_in_after s t k vs
  after_call t (call.Read id) = t
  after_call t call.Look = t
  after_call t call.Step = step_after s t
  after_call t (call.Run n) = run_after s t n
  after_call t call.ChooseAndFire = step_after s t
  after_call t call.ChooseAndLayAside = t

  abbrev pub answer_to : State → Call → Answer
  answer_to t (call.HandIn k vs) = answer.HandIn (hand_in_answer s t k vs)
  answer_to t (call.Read id) = answer.Read (find id t.facts)
  answer_to t call.Look = answer.Look (look_answer s t)
  answer_to t call.Step = answer.Step (step_answer s t)
  answer_to t (call.Run n) = answer.Run (run_answer s t n)
  answer_to t call.ChooseAndFire = answer.ChooseAndFire (look_answer s t) (step_answer s t)
  answer_to t call.ChooseAndLayAside = answer.ChooseAndLayAside (look_answer s t)

  abbrev pub tally_from : State → List Call → State
  tally_from t cs = fold after_call t cs

  abbrev pub answers_from : State → List Call → List Answer
  answers_from t [] = []
  answers_from t (c ∷ cs) = answer_to t c ∷ answers_from (after_call t c) cs

  abbrev pub tally : List Call → State
  tally cs = tally_from opening cs

  abbrev pub answers : List Call → List Answer
  answers cs = answers_from opening cs
