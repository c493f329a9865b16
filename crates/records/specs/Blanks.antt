-- What an unused position must hold. Assumes nothing.
--     operand_blank o      o is the constant 0
--     working_blank w      w is a copy of the constant 0, its own unused operand too
use Rattle.std.specs.Prelude.{Bool, false, ◌&&◌}
use Rattle.facts.specs.Positions.{is_zero}
use Rattle.records.specs.declared.parts.Operand.{Operand}
use Rattle.records.specs.declared.parts.Operand.TheVariants.{Constant, Variable}
use Rattle.records.specs.declared.parts.Operation.{Operation}
use Rattle.records.specs.declared.parts.Operation.TheVariants.{Copy, Sum, Difference}
use Rattle.records.specs.declared.parts.WorkingField.{WorkingField}

abbrev pub operand_blank : Operand → Bool
operand_blank (Constant n) = is_zero n
operand_blank (Variable v) = false

abbrev pub copies : Operation → Bool → Bool
copies Copy b = b
copies Sum b = false
copies Difference b = false

abbrev pub working_blank : WorkingField → Bool
working_blank w = copies w.operation (operand_blank w.first && operand_blank w.second)
