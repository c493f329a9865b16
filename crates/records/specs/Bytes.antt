-- What the bytes of a record mean. Assumes nothing.
--     byte bs i          the byte at place i
--     word bs            the number in the first four bytes, the lowest first; word_bytes, those four
--     record_kind b      the record that the kind byte b begins, if any
--     size k             the bytes of a record, its kind byte counted
--     begun bs           the kind of the whole record that the bytes begin with, or the fault
--     fields k bs        that record with its fields, or the fault
--     record_at k bs     the same; none where a field is out of its range
--     below, flag, comparator_of, operation_of, variable_of, value_at, operand_at, working_at, three_at    the fields
--     fact_kind_at, head_at, guard_at, body_at, end_at, goal_at                        the bodies
use Rattle.std.specs.Prelude.{ℕ, ℤ, ◌+◌, ◌*◌, Bool, true, false, cond, List, [], ◌∷◌, length, drop, Some, None, Ok, Err, Option, Result, ◌==◌, nat_lt, slice_index}
use Rattle.std.specs.Int.{w32}
use Rattle.std.proofs.Common.{to_z}
use Rattle.std.specs.Option.{ok_or}
use Rattle.host.specs.declared.types.Comparator.{Comparator}
use Rattle.host.specs.declared.types.Comparator.TheVariants as comparator
use Rattle.records.specs.declared.fault.Fault.{Fault}
use Rattle.records.specs.declared.fault.Fault.TheVariants as fault
use Rattle.records.specs.declared.kinds.RecordKind.{RecordKind}
use Rattle.records.specs.declared.kinds.RecordKind.TheVariants as kind
use Rattle.records.specs.declared.kinds.Record.{Record}
use Rattle.records.specs.declared.kinds.Record.TheVariants as record_of
use Rattle.records.specs.declared.parts.Operand.{Operand}
use Rattle.records.specs.declared.parts.Operand.TheVariants.{Constant, Variable}
use Rattle.records.specs.declared.parts.Operation.{Operation}
use Rattle.records.specs.declared.parts.Operation.TheVariants as operation
use Rattle.records.specs.declared.parts.Head.{Head}
use Rattle.records.specs.declared.parts.Guard.{Guard}
use Rattle.records.specs.declared.parts.WorkingField.{WorkingField}
use Rattle.records.specs.declared.parts.BodyField.{BodyField}
use Rattle.records.specs.declared.parts.Goal.{Goal}

abbrev pub byte : List ℕ → ℕ → ℕ
byte bs i = slice_index bs i

abbrev pub word : List ℕ → ℕ
word bs = byte bs 0 + byte bs 1 * 256 + byte bs 2 * 65536 + byte bs 3 * 16777216

abbrev pub word_bytes : List ℕ → List ℕ
word_bytes bs = byte bs 0 ∷ byte bs 1 ∷ byte bs 2 ∷ byte bs 3 ∷ []

-- Kinds and sizes

abbrev pub record_kind : ℕ → Option RecordKind
record_kind b =
    cond (b == 1) (Some kind.FactKind) (cond (b == 2) (Some kind.RuleBegins)
    (cond (b == 3) (Some kind.Head) (cond (b == 4) (Some kind.Guard)
    (cond (b == 5) (Some kind.BodyFact) (cond (b == 6) (Some kind.Fail)
    (cond (b == 7) (Some kind.RuleEnds) (cond (b == 8) (Some kind.GoalFact) None)))))))

abbrev pub size : RecordKind → ℕ
size kind.FactKind = 3
size kind.RuleBegins = 1
size kind.Head = 18
size kind.Guard = 12
size kind.BodyFact = 35
size kind.Fail = 1
size kind.RuleEnds = 7
size kind.GoalFact = 14

abbrev pub whole : Option RecordKind → ℕ → Result RecordKind Fault
whole None n = Err fault.UnknownKindByte
whole (Some k) n = cond (nat_lt n (size k)) (Err fault.Cut) (Ok k)

abbrev pub begun : List ℕ → Result RecordKind Fault
begun bs = cond (length bs == 0) (Err fault.Cut) (whole (record_kind (byte bs 0)) (length bs))

-- Fields: each a value, or none where it is out of its range

abbrev pub and_then : {A B : Type 0} → Option A → (A → Option B) → Option B
and_then None f = None
and_then (Some x) f = f x

abbrev pub below : ℕ → ℕ → Option ℕ
below n limit = cond (nat_lt n limit) (Some n) None

abbrev pub flag : ℕ → Option Bool
flag n = cond (n == 0) (Some false) (cond (n == 1) (Some true) None)

abbrev pub comparator_of : ℕ → Option Comparator
comparator_of n =
    cond (n == 0) (Some comparator.Equal) (cond (n == 1) (Some comparator.Unequal)
    (cond (n == 2) (Some comparator.Less) (cond (n == 3) (Some comparator.AtMost) None)))

abbrev pub operation_of : ℕ → Option Operation
operation_of n =
    cond (n == 0) (Some operation.Copy) (cond (n == 1) (Some operation.Sum)
    (cond (n == 2) (Some operation.Difference) None))

abbrev pub variable_of : ℕ → Option Operand
variable_of n = cond (nat_lt n 12) (Some (Variable n)) None

abbrev pub value_at : List ℕ → Option ℤ
value_at bs = Some (to_z w32 (word bs))

-- a byte 0 and a value, or a byte 1 and the number of a variable
abbrev pub operand_at : List ℕ → Option Operand
operand_at bs =
    cond (byte bs 0 == 0) (Some (Constant (to_z w32 (word (drop 1 bs)))))
    (cond (byte bs 0 == 1) (variable_of (word (drop 1 bs))) None)

abbrev pub working_at : List ℕ → Option WorkingField
working_at bs =
    and_then (operation_of (byte bs 0)) (λ o.
    and_then (operand_at (drop 1 bs)) (λ a.
    and_then (operand_at (drop 6 bs)) (λ b.
    Some (record { operation = o; first = a; second = b }))))

-- three fields of n bytes each, one after the other
abbrev pub three_at : {A : Type 0} → (List ℕ → Option A) → ℕ → List ℕ → Option (List A)
three_at read n bs =
    and_then (read bs) (λ a.
    and_then (read (drop n bs)) (λ b.
    and_then (read (drop n (drop n bs))) (λ c.
    Some (a ∷ b ∷ c ∷ []))))

-- Bodies

abbrev pub fact_kind_at : List ℕ → Option Record
fact_kind_at bs =
    and_then (below (byte bs 1) 32) (λ n.
    and_then (below (byte bs 2) 4) (λ a.
    Some (record_of.FactKind n a)))

abbrev pub head_at : List ℕ → Option Head
head_at bs =
    and_then (flag (byte bs 1)) (λ t.
    and_then (below (byte bs 2) 32) (λ k.
    and_then (three_at operand_at 5 (drop 3 bs)) (λ os.
    Some (record { taken = t; kind = k; operands = os }))))

abbrev pub guard_at : List ℕ → Option Guard
guard_at bs =
    and_then (comparator_of (byte bs 1)) (λ c.
    and_then (operand_at (drop 2 bs)) (λ a.
    and_then (operand_at (drop 7 bs)) (λ b.
    Some (record { comparator = c; left = a; right = b }))))

abbrev pub body_at : List ℕ → Option BodyField
body_at bs =
    and_then (below (byte bs 1) 32) (λ k.
    and_then (three_at working_at 11 (drop 2 bs)) (λ ws.
    Some (record { kind = k; workings = ws })))

abbrev pub end_at : List ℕ → Option Record
end_at bs = and_then (operand_at (drop 2 bs)) (λ r. Some (record_of.RuleEnds (byte bs 1) r))

abbrev pub goal_at : List ℕ → Option Goal
goal_at bs =
    and_then (below (byte bs 1) 32) (λ k.
    and_then (three_at value_at 4 (drop 2 bs)) (λ vs.
    Some (record { kind = k; values = vs })))

abbrev pub record_at : RecordKind → List ℕ → Option Record
record_at kind.FactKind bs = fact_kind_at bs
record_at kind.RuleBegins bs = Some record_of.RuleBegins
record_at kind.Head bs = and_then (head_at bs) (λ h. Some (record_of.Head h))
record_at kind.Guard bs = and_then (guard_at bs) (λ g. Some (record_of.Guard g))
record_at kind.BodyFact bs = and_then (body_at bs) (λ f. Some (record_of.BodyFact f))
record_at kind.Fail bs = Some record_of.Fail
record_at kind.RuleEnds bs = end_at bs
record_at kind.GoalFact bs = and_then (goal_at bs) (λ g. Some (record_of.GoalFact g))

abbrev pub fields : RecordKind → List ℕ → Result Record Fault
fields k bs = cond (nat_lt (length bs) (size k)) (Err fault.Cut) (ok_or (record_at k bs) fault.OutOfRange)
