-- Refusals as they are printed. Assumes nothing.
--     refused_reading a        a record: the fault's number and its place
--     refused_hand_in p r      a goal fact whose record begins at p
--     refused_firing r         a firing: the rule stands in the place
--     outcome_of e             how a run ended that was to go on to its end
use Rattle.std.specs.Prelude.{ℕ}
use Rattle.records.specs.Faults.{fault_number}
use Rattle.week.specs.declared.week.At.{At}
use Rattle.meaning.specs.Refusals.{refusal_numbers}
use Rattle.meaning.specs.declared.refusal.Refusal.{Refusal}
use Rattle.meaning.specs.declared.answers.Ending.{Ending}
use Rattle.meaning.specs.declared.answers.Ending.TheVariants as ending
use Rattle.report.specs.declared.outcome.Outcome.{Outcome}
use Rattle.report.specs.declared.outcome.Outcome.TheVariants as outcome
use Rattle.report.specs.declared.outcome.Refused.{Refused}

abbrev pub refused_reading : At → Refused
refused_reading a = record { number = fault_number a.fault; place = a.place; fact = 0; working = 0; cause = 0 }

abbrev pub refused_at : ℕ → Refusal → Refused
refused_at p r = record {
  number = (refusal_numbers r).number;
  place = p;
  fact = (refusal_numbers r).fact;
  working = (refusal_numbers r).working;
  cause = (refusal_numbers r).cause;
}

abbrev pub refused_hand_in : ℕ → Refusal → Refused
refused_hand_in p r = refused_at p r

abbrev pub refused_firing : Refusal → Refused
refused_firing r = refused_at (refusal_numbers r).rule r

abbrev pub outcome_of : Ending → Outcome
outcome_of ending.Count = outcome.Final
outcome_of ending.Final = outcome.Final
outcome_of ending.Failed = outcome.Failed
outcome_of (ending.Refused r) = outcome.Refused (refused_firing r)
