-- What the contracts of causes cite.
--     cause_number c    the number that c goes by: 1 an operand, 2 the outcome
use Rattle.std.specs.Prelude.{ℕ}
use Rattle.host.specs.declared.types.Cause.{Cause}
use Rattle.host.specs.declared.types.Cause.TheVariants.{Operand, Outcome}

abbrev pub cause_number : Cause → ℕ
cause_number Operand = 1
cause_number Outcome = 2
