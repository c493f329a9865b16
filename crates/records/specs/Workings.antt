-- The working that a field of the file stands for. Assumes nothing.
--     working_of w     it, without the operand that a copy does not use
use Rattle.host.specs.declared.types.Working.{Working}
use Rattle.host.specs.declared.types.Working.TheVariants as working
use Rattle.records.specs.declared.parts.Operand.{Operand}
use Rattle.records.specs.declared.parts.Operation.{Operation}
use Rattle.records.specs.declared.parts.Operation.TheVariants as operation
use Rattle.records.specs.declared.parts.WorkingField.{WorkingField}

abbrev pub worked : Operation → Operand → Operand → Working Operand
worked operation.Copy a b = working.Copy a
worked operation.Sum a b = working.Sum a b
worked operation.Difference a b = working.Difference a b

abbrev pub working_of : WorkingField → Working Operand
working_of w = worked w.operation w.first w.second
