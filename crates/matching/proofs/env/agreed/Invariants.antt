use Rattle.std.proofs.Common.{◌≡◌, length, drop}
use Rattle.meaning.specs.Enumeration.{agreed}
use Rattle.matching.proofs.env.agreed.Given as goal

abbrev pub invariant-loop-operand : goal.invariant-loop-operand
invariant-loop-operand l =
    (goal.iterator-loop-operand).can_next l.operand-iterator
    × (goal.iterator-loop-operand).is_finite l.operand-iterator
    × (agreed (drop (length l.yielded) l.fn.operands) (drop (length l.yielded) l.fn.values) l.bound ≡ agreed l.fn.operands l.fn.values l.fn.env)
