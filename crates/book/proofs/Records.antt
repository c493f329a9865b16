-- The record that the fields of a kind give is of that kind, and the variables of a head are in
-- their range.
use Rattle.std.proofs.Common.{◌≡◌, ℕ, Bool, true, false, cond, eqb, ltb, List, length, drop, Some, None, Ok, Err, Option, sym, refl, ap, ◌∙◌, subst, w32, to_z}
use Rattle.std.proofs.lemmas.Option.{same_Some}
use Rattle.std.proofs.lemmas.Bool.{and_from}
use Rattle.std.specs.Option.{ok_or}
use Rattle.facts.specs.Positions.{all}
use Rattle.records.specs.Bytes.{below, byte, word, flag, variable_of, head_at, guard_at, body_at, goal_at, operand_at, three_at, record_at, size, fields}
use Rattle.records.specs.declared.fault.Fault.TheVariants as fault
use Rattle.records.specs.declared.kinds.RecordKind.{RecordKind}
use Rattle.records.specs.declared.kinds.RecordKind.TheVariants as kind
use Rattle.records.specs.declared.kinds.Record.{Record}
use Rattle.records.specs.declared.kinds.Record.TheVariants as record_of
use Rattle.records.specs.declared.parts.Head.{Head}
use Rattle.records.specs.declared.parts.Operand.{Operand}
use Rattle.records.specs.declared.parts.Operand.TheVariants.{Constant, Variable}
use Rattle.rules.specs.Rules.{in_range, head_in_range}
use Rattle.book.proofs.Cases.{some_then, ok_some}

abbrev pub kind_of : Record → RecordKind
kind_of (record_of.FactKind n a) = kind.FactKind
kind_of record_of.RuleBegins = kind.RuleBegins
kind_of (record_of.Head h) = kind.Head
kind_of (record_of.Guard g) = kind.Guard
kind_of (record_of.BodyFact f) = kind.BodyFact
kind_of record_of.Fail = kind.Fail
kind_of (record_of.RuleEnds b o) = kind.RuleEnds
kind_of (record_of.GoalFact g) = kind.GoalFact

abbrev pub ranged : Record → Bool
ranged (record_of.FactKind n a) = true
ranged record_of.RuleBegins = true
ranged (record_of.Head h) = head_in_range h
ranged (record_of.Guard g) = true
ranged (record_of.BodyFact f) = true
ranged record_of.Fail = true
ranged (record_of.RuleEnds b o) = true
ranged (record_of.GoalFact g) = true

operand_ranged : (bs : List ℕ) (o : Operand) → operand_at bs ≡ Some o → in_range o ≡ true
operand_ranged bs o e = go (eqb (byte bs 0) 0) (eqb (byte bs 0) 1) e
  where
    named : (n : ℕ) (b : Bool) → ltb n 12 ≡ b → cond b (Some (Variable n)) None ≡ Some o → in_range o ≡ true
    named n true k e = ap in_range (sym (same_Some _ _ e)) ∙ k
    named n false k e = absurd cc

    go : (b c : Bool) → cond b (Some (Constant (to_z w32 (word (drop 1 bs))))) (cond c (variable_of (word (drop 1 bs))) None) ≡ Some o → in_range o ≡ true
    go true c e = ap in_range (sym (same_Some _ _ e))
    go false true e = named (word (drop 1 bs)) (ltb (word (drop 1 bs)) 12) refl e
    go false false e = absurd cc

operands_ranged : (bs : List ℕ) (os : List Operand) → three_at operand_at 5 bs ≡ Some os → all in_range os ≡ true
operands_ranged bs os e =
    let a = some_then (operand_at bs) _ os e in
    let b = some_then (operand_at (drop 5 bs)) _ os a.1.1 in
    let c = some_then (operand_at (drop 5 (drop 5 bs))) _ os b.1.1 in
    ap (all in_range) (sym (same_Some _ _ c.1.1))
    ∙ and_from (in_range a.0) _ (operand_ranged bs a.0 a.1.0)
    (and_from (in_range b.0) _ (operand_ranged (drop 5 bs) b.0 b.1.0) (and_from (in_range c.0) true (operand_ranged (drop 5 (drop 5 bs)) c.0 c.1.0) refl))

head_ranged : (bs : List ℕ) (h : Head) → head_at bs ≡ Some h → head_in_range h ≡ true
head_ranged bs h e =
    let p = some_then (flag (byte bs 1)) _ h e in
    let q = some_then (below (byte bs 2) 32) _ h p.1.1 in
    let r = some_then (three_at operand_at 5 (drop 3 bs)) _ h q.1.1 in
    ap head_in_range (sym (same_Some _ _ r.1.1)) ∙ operands_ranged (drop 3 bs) r.0 r.1.0

-- what a record is, and that it is in range
abbrev pub Is : RecordKind → Record → Type 0
Is k r = (kind_of r ≡ k) × (ranged r ≡ true)

is_same : (k : RecordKind) {q r : Record} → Some q ≡ Some r → Is k q → Is k r
is_same k e i = subst (Is k) (same_Some _ _ e) i

record_is : (k : RecordKind) (bs : List ℕ) (r : Record) → record_at k bs ≡ Some r → Is k r
record_is kind.FactKind bs r e = let p = some_then (below (byte bs 1) 32) _ r e in let q = some_then (below (byte bs 2) 4) _ r p.1.1 in is_same kind.FactKind q.1.1 (refl, refl)
record_is kind.RuleBegins bs r e = is_same kind.RuleBegins e (refl, refl)
record_is kind.Head bs r e = let p = some_then (head_at bs) _ r e in is_same kind.Head p.1.1 (refl, head_ranged bs p.0 p.1.0)
record_is kind.Guard bs r e = let p = some_then (guard_at bs) _ r e in is_same kind.Guard p.1.1 (refl, refl)
record_is kind.BodyFact bs r e = let p = some_then (body_at bs) _ r e in is_same kind.BodyFact p.1.1 (refl, refl)
record_is kind.Fail bs r e = is_same kind.Fail e (refl, refl)
record_is kind.RuleEnds bs r e = let p = some_then (operand_at (drop 2 bs)) _ r e in is_same kind.RuleEnds p.1.1 (refl, refl)
record_is kind.GoalFact bs r e = let p = some_then (goal_at bs) _ r e in is_same kind.GoalFact p.1.1 (refl, refl)

pub fields_is : (k : RecordKind) (bs : List ℕ) (r : Record) → fields k bs ≡ Ok r → Is k r
fields_is k bs r e = record_is k bs r (go (ltb (length bs) (size k)) (record_at k bs) e)
  where
    go : (b : Bool) (o : Option Record) → cond b (Err fault.Cut) (ok_or o fault.OutOfRange) ≡ Ok r → o ≡ Some r
    go true o e = absurd cc
    go false o e = ok_some o fault.OutOfRange r e
