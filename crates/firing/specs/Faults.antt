-- Faults on their way from the host to the run. Assumes nothing.
--     with_place n k r    r, its fault at the k-th working of the n-th body fact
--     in_rule n r         r, its fault with the rule n
--     working_fault x     the cause x at its place as the fault of a body
--     refused_body x      the fault x of a rule's body as a refusal
use Rattle.std.specs.Prelude.{ℕ, Ok, Err, Result}
use Rattle.host.specs.declared.types.Cause.{Cause}
use Rattle.meaning.specs.declared.refusal.Refusal.{Refusal}
use Rattle.meaning.specs.declared.refusal.Refusal.TheVariants as refusal
use Rattle.meaning.specs.declared.refusal.WorkingFault.{WorkingFault}
use Rattle.firing.specs.declared.faults.At.{At}
use Rattle.firing.specs.declared.faults.OfRule.{OfRule}

abbrev pub with_place : {A F : Type 0} → ℕ → ℕ → Result A F → Result A (At F)
with_place n k (Ok x) = Ok x
with_place n k (Err f) = Err (record { fact = n; working = k; fault = f })

abbrev pub in_rule : {A : Type 0} → ℕ → Result A WorkingFault → Result A OfRule
in_rule n (Ok x) = Ok x
in_rule n (Err f) = Err (record { rule = n; fault = f })

abbrev pub working_fault : At Cause → WorkingFault
working_fault x = record { fact = x.fact; working = x.working; cause = x.fault }

abbrev pub refused_body : OfRule → Refusal
refused_body x = refusal.Body x.rule x.fault
