-- The faults of reading by their numbers. Assumes nothing.
--     fault_number f      the number that f goes by
use Rattle.std.specs.Prelude.{ℕ}
use Rattle.records.specs.declared.fault.Fault.{Fault}
use Rattle.records.specs.declared.fault.Fault.TheVariants as fault

abbrev pub fault_number : Fault → ℕ
fault_number fault.UnknownKindByte = 2
fault_number fault.Cut = 3
fault_number fault.MayNotFollow = 4
fault_number fault.OutOfRange = 5
fault_number fault.DeclaredTwice = 6
fault_number fault.NotDeclared = 7
fault_number fault.UnusedFilled = 8
fault_number fault.Unbound = 9
fault_number fault.TooMany = 10
fault_number fault.RuleOpen = 11
