-- Each call does what is said of it in words, and so does any list of calls.
use Rattle.std.proofs.Common.{List, [], ◌∷◌}
use Rattle.meaning.specs.Setup.{Setup, State}
use Rattle.meaning.specs.Calls.{hand_in_answer, hand_in_after, look_answer, step_answer, step_after, run_answer, run_after}
use Rattle.tally.specs.declared.calls.Call.{Call}
use Rattle.tally.specs.declared.calls.Call.TheVariants as call
use Rattle.tally.specs.Tally.{after_call, answer_to, tally_from, answers_from}
use Rattle.tally.specs.Account.{Says, Told}
use Rattle.tally.specs.Account.Says.{hands_in, reads, looks, steps, runs, fires, lays_aside}
use Rattle.tally.specs.Account.Told.{all, next}
use Rattle.tally.proofs.Orderly.{Fit, Orderly, orderly_after_call}
use Rattle.tally.proofs.Steps.{looks_as_said, steps_by_said, runs_as_said}
use Rattle.tally.proofs.HandIns.{hands_in_as_said}

module _ {R : Type 0} {s : Setup R} where
  pub says_as_said : {t : State} → Fit s → Orderly t → (c : Call) → Says s t c (after_call s t c) (answer_to s t c)
  says_as_said {t} fit ok (call.HandIn k vs) = hands_in k vs (hand_in_after s t k vs) (hand_in_answer s t k vs) (hands_in_as_said s t k vs)
  says_as_said {t} fit ok (call.Read id) = reads id
  says_as_said {t} fit ok call.Look = looks (look_answer s t) (looks_as_said s fit t ok).sees
  says_as_said {t} fit ok call.Step = steps (step_after s t) (step_answer s t) (steps_by_said s fit t ok)
  says_as_said {t} fit ok (call.Run n) =
      let r = runs_as_said s fit t ok n in
      runs n (run_after s t n) (run_answer s t n) r.runs r.adds
  says_as_said {t} fit ok call.ChooseAndFire =
      fires (step_after s t) (look_answer s t) (step_answer s t) (looks_as_said s fit t ok).sees (steps_by_said s fit t ok)
  says_as_said {t} fit ok call.ChooseAndLayAside = lays_aside (look_answer s t) (looks_as_said s fit t ok).sees

  pub told_always : Fit s → (cs : List Call) (t : State) → Orderly t → Told s (tally_from s t cs) t cs (answers_from s t cs)
  told_always fit [] t ok = all
  told_always fit (c ∷ cs) t ok =
      next t (after_call s t c) c (answer_to s t c) cs (answers_from s (after_call s t c) cs) (says_as_said fit ok c)
      (told_always fit cs (after_call s t c) (orderly_after_call s t c ok))
