-- How a run with n counts. Assumes nothing.
--     answers_fired r      the step r fired, and the run goes on
--     ended_so k r         the answer of a run in which k steps fired and the last one answered r
--     ahead k c            the course c after k firings
use Rattle.std.specs.Prelude.{ℕ, ◌+◌, Bool, true, false, Ok, Err, Result}
use Rattle.meaning.specs.declared.answers.Ending.TheVariants as ending
use Rattle.meaning.specs.declared.answers.Ran.{Ran}
use Rattle.meaning.specs.declared.answers.Stepped.{Stepped}
use Rattle.meaning.specs.declared.answers.Stepped.TheVariants as stepped
use Rattle.meaning.specs.declared.refusal.Refusal.{Refusal}
use Rattle.meaning.specs.Calls.{Course}

abbrev pub answers_fired : Result Stepped Refusal → Bool
answers_fired (Ok stepped.Fired) = true
answers_fired (Ok stepped.Failed) = false
answers_fired (Ok stepped.Final) = false
answers_fired (Err r) = false

abbrev pub ended_so : ℕ → Result Stepped Refusal → Ran
ended_so k (Ok stepped.Fired) = record { firings = k; ending = ending.Final }
ended_so k (Ok stepped.Failed) = record { firings = k + 1; ending = ending.Failed }
ended_so k (Ok stepped.Final) = record { firings = k; ending = ending.Final }
ended_so k (Err r) = record { firings = k; ending = ending.Refused r }

abbrev pub ahead : ℕ → Course → Course
ahead k c = record { state = c.state; firings = k + c.firings; ending = c.ending }
