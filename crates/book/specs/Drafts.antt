-- What a draft does with a record. Assumes nothing.
--     Tables, Draft           kinds and rules; with the state, which record came last
--     follows s k             the state after a record of kind k, if it may follow in state s
--     entered t r             the tables with the record r in them, or the fault
--     with_head h r           the rule r with the head h put into it, or the fault; with_guard,
--                             with_fact, with_fail and with_end, the same of what else goes into it
--     opened t f              the tables with the open rule changed by f, or the fault
--     fresh                   the draft that has taken no record
--     taking d bs             the kind of the record that the bytes bs begin with, and the draft
--                             with it, or the fault; the first test that fails decides
--     taken_kind, taken_draft      what it answers, and the draft then: as it was where refused
--     is_open s               whether a rule is open
--     ended s rs, finished d  the rules that have ended
--     rules_sound s rs        what a draft keeps of its rules
use Rattle.std.specs.Prelude.{ℕ, ◌-◌, Bool, true, false, cond, ◌&&◌, List, [], ◌∷◌, ◌++◌, length, take, replicate, pos, is_some, Some, None, Ok, Err, Option, Result, nat_lt, slice_index_or, slice_set}
use Rattle.std.specs.Option.{ok_or}
use Rattle.facts.specs.Positions.{all, unused_clear}
use Rattle.records.specs.Blanks.{operand_blank, working_blank}
use Rattle.records.specs.Bytes.{begun, fields}
use Rattle.records.specs.Workings.{working_of}
use Rattle.records.specs.declared.fault.Fault.{Fault}
use Rattle.records.specs.declared.fault.Fault.TheVariants as fault
use Rattle.records.specs.declared.kinds.RecordKind.{RecordKind}
use Rattle.records.specs.declared.kinds.RecordKind.TheVariants as kind
use Rattle.records.specs.declared.kinds.Record.{Record}
use Rattle.records.specs.declared.kinds.Record.TheVariants as record_of
use Rattle.records.specs.declared.parts.Operand.{Operand}
use Rattle.records.specs.declared.parts.Operand.TheVariants.{Constant}
use Rattle.records.specs.declared.parts.Operation.{Operation}
use Rattle.records.specs.declared.parts.Operation.TheVariants as operation
use Rattle.records.specs.declared.parts.Head.{Head}
use Rattle.records.specs.declared.parts.Guard.{Guard}
use Rattle.records.specs.declared.parts.WorkingField.{WorkingField}
use Rattle.records.specs.declared.parts.BodyField.{BodyField}
use Rattle.book.specs.declared.draft.State.{State}
use Rattle.book.specs.declared.draft.State.TheVariants as state
use Rattle.rules.specs.declared.BodyFact.{BodyFact}
use Rattle.rules.specs.Results.{and_then, unless}
use Rattle.rules.specs.Rules.{Rule, arity_of, blank_rule, bound, guard_bound, fact_bound, parts_bound, headed, closed, small}

-- Which record may follow which

abbrev pub follows : State → RecordKind → Option State
follows state.Between kind.FactKind = Some state.Between
follows state.Between kind.RuleBegins = Some state.Begun
follows state.Between kind.Head = None
follows state.Between kind.Guard = None
follows state.Between kind.BodyFact = None
follows state.Between kind.Fail = None
follows state.Between kind.RuleEnds = None
follows state.Between kind.GoalFact = None
follows state.Begun kind.FactKind = None
follows state.Begun kind.RuleBegins = None
follows state.Begun kind.Head = Some state.Heads
follows state.Begun kind.Guard = None
follows state.Begun kind.BodyFact = None
follows state.Begun kind.Fail = None
follows state.Begun kind.RuleEnds = None
follows state.Begun kind.GoalFact = None
follows state.Heads kind.FactKind = None
follows state.Heads kind.RuleBegins = None
follows state.Heads kind.Head = Some state.Heads
follows state.Heads kind.Guard = Some state.Guards
follows state.Heads kind.BodyFact = Some state.Facts
follows state.Heads kind.Fail = Some state.Failing
follows state.Heads kind.RuleEnds = Some state.Between
follows state.Heads kind.GoalFact = None
follows state.Guards kind.FactKind = None
follows state.Guards kind.RuleBegins = None
follows state.Guards kind.Head = None
follows state.Guards kind.Guard = Some state.Guards
follows state.Guards kind.BodyFact = Some state.Facts
follows state.Guards kind.Fail = Some state.Failing
follows state.Guards kind.RuleEnds = Some state.Between
follows state.Guards kind.GoalFact = None
follows state.Facts kind.FactKind = None
follows state.Facts kind.RuleBegins = None
follows state.Facts kind.Head = None
follows state.Facts kind.Guard = None
follows state.Facts kind.BodyFact = Some state.Facts
follows state.Facts kind.Fail = None
follows state.Facts kind.RuleEnds = Some state.Between
follows state.Facts kind.GoalFact = None
follows state.Failing kind.FactKind = None
follows state.Failing kind.RuleBegins = None
follows state.Failing kind.Head = None
follows state.Failing kind.Guard = None
follows state.Failing kind.BodyFact = None
follows state.Failing kind.Fail = None
follows state.Failing kind.RuleEnds = Some state.Between
follows state.Failing kind.GoalFact = None

abbrev pub is_open : State → Bool
is_open state.Between = false
is_open state.Begun = true
is_open state.Heads = true
is_open state.Guards = true
is_open state.Facts = true
is_open state.Failing = true

-- Kinds

abbrev pub declaring : List (Option ℕ) → ℕ → ℕ → Result (List (Option ℕ)) Fault
declaring ks k a =
    cond (nat_lt k (length ks))
    (cond (is_some (arity_of ks k)) (Err fault.DeclaredTwice) (Ok (slice_set ks k (Some a))))
    (Err fault.OutOfRange)

abbrev pub declared : List (Option ℕ) → ℕ → Result ℕ Fault
declared ks k = ok_or (arity_of ks k) fault.NotDeclared

-- The open rule: each part tested for bound variables, then for room

abbrev pub with_head : Head → Rule → Result Rule Fault
with_head h r =
    and_then (unless (nat_lt (length r.heads) 4) fault.TooMany) (λ _.
    Ok (record { heads = r.heads ++ h ∷ []; guards = r.guards; facts = r.facts; fails = r.fails; band = r.band; rank = r.rank }))

abbrev pub with_guard : Guard → Rule → Result Rule Fault
with_guard g r =
    and_then (unless (guard_bound r.heads g) fault.Unbound) (λ _.
    and_then (unless (nat_lt (length r.guards) 8) fault.TooMany) (λ _.
    Ok (record { heads = r.heads; guards = r.guards ++ g ∷ []; facts = r.facts; fails = r.fails; band = r.band; rank = r.rank })))

abbrev pub with_fact : BodyFact → Rule → Result Rule Fault
with_fact f r =
    and_then (unless (fact_bound r.heads f) fault.Unbound) (λ _.
    and_then (unless (nat_lt (length r.facts) 4) fault.TooMany) (λ _.
    Ok (record { heads = r.heads; guards = r.guards; facts = r.facts ++ f ∷ []; fails = r.fails; band = r.band; rank = r.rank })))

abbrev pub with_fail : Rule → Result Rule Fault
with_fail r = Ok (record { heads = r.heads; guards = r.guards; facts = r.facts; fails = true; band = r.band; rank = r.rank })

abbrev pub with_end : ℕ → Operand → Rule → Result Rule Fault
with_end b o r =
    and_then (unless (bound r.heads o) fault.Unbound) (λ _.
    Ok (record { heads = r.heads; guards = r.guards; facts = r.facts; fails = r.fails; band = b; rank = o }))

-- Body facts: a copy's second operand is unused, and so is each working at or above the arity

abbrev pub copy_clear : Operation → Operand → Bool
copy_clear operation.Copy o = operand_blank o
copy_clear operation.Sum o = true
copy_clear operation.Difference o = true

abbrev pub field_clear : WorkingField → Bool
field_clear w = copy_clear w.operation w.second

abbrev pub body_clear : ℕ → List WorkingField → Bool
body_clear a ws = unused_clear working_blank a ws && all field_clear ws

abbrev pub body_fact : ℕ → BodyField → BodyFact
body_fact a f = record {
  kind = f.kind;
  arity = a;
  workings = working_of (slice_index_or f.workings 0 blank_field) ∷ working_of (slice_index_or f.workings 1 blank_field) ∷ working_of (slice_index_or f.workings 2 blank_field) ∷ [];
}
  where
    blank_field : WorkingField
    blank_field = record { operation = operation.Copy; first = Constant (pos 0); second = Constant (pos 0) }

-- The tables

pub record Tables : Type 0 where
  pub kinds : List (Option ℕ)
  pub rules : List Rule

abbrev pub open_rule : List Rule → Rule
open_rule rs = slice_index_or rs (length rs - 1) blank_rule

-- the open rule changed, or the fault; nothing that changes it may follow where there is no rule
abbrev pub opened : Tables → (Rule → Result Rule Fault) → Result Tables Fault
opened t f =
    and_then (unless (nat_lt 0 (length t.rules)) fault.MayNotFollow) (λ _.
    and_then (f (open_rule t.rules)) (λ r.
    Ok (record { kinds = t.kinds; rules = slice_set t.rules (length t.rules - 1) r })))

abbrev pub entered : Tables → Record → Result Tables Fault
entered t (record_of.FactKind n a) =
    and_then (declaring t.kinds n a) (λ ks. Ok (record { kinds = ks; rules = t.rules }))
entered t record_of.RuleBegins =
    and_then (unless (nat_lt (length t.rules) 64) fault.TooMany) (λ _.
    Ok (record { kinds = t.kinds; rules = t.rules ++ blank_rule ∷ [] }))
entered t (record_of.Head h) =
    and_then (declared t.kinds h.kind) (λ a.
    and_then (unless (unused_clear operand_blank a h.operands) fault.UnusedFilled) (λ _.
    opened t (with_head h)))
entered t (record_of.Guard g) = opened t (with_guard g)
entered t (record_of.BodyFact f) =
    and_then (declared t.kinds f.kind) (λ a.
    and_then (unless (body_clear a f.workings) fault.UnusedFilled) (λ _.
    opened t (with_fact (body_fact a f))))
entered t record_of.Fail = opened t with_fail
entered t (record_of.RuleEnds b o) = opened t (with_end b o)
entered t (record_of.GoalFact g) = Err fault.MayNotFollow

-- The draft

pub record Draft : Type 0 where
  pub state : State
  pub tables : Tables

abbrev pub fresh : Draft
fresh = record { state = state.Between; tables = record { kinds = replicate 32 None; rules = [] } }

abbrev pub taking : Draft → List ℕ → Result (RecordKind × Draft) Fault
taking d bs =
    and_then (begun bs) (λ k.
    and_then (ok_or (follows d.state k) fault.MayNotFollow) (λ s.
    and_then (fields k bs) (λ r.
    and_then (entered d.tables r) (λ t.
    Ok (k, record { state = s; tables = t })))))

abbrev pub taken_kind : Result (RecordKind × Draft) Fault → Result RecordKind Fault
taken_kind (Ok p) = Ok p.0
taken_kind (Err f) = Err f

abbrev pub taken_draft : Result (RecordKind × Draft) Fault → Draft → Draft
taken_draft (Ok p) d = p.1
taken_draft (Err f) d = d

-- the rules that have ended: all of them, or all but the last where one is open
abbrev pub ended : State → List Rule → List Rule
ended s rs = cond (is_open s) (take (length rs - 1) rs) rs

abbrev pub finished : Draft → List Rule
finished d = ended d.state d.tables.rules

-- What a draft keeps: every rule that has ended is closed, the parts of the open one are bound,
-- it has a head unless it has just begun, and all of them are small

abbrev pub sound : Rule → Bool
sound r = closed r && small r

abbrev pub open_sound : State → Rule → Bool
open_sound state.Between r = true
open_sound state.Begun r = parts_bound r && small r
open_sound state.Heads r = headed r && (parts_bound r && small r)
open_sound state.Guards r = headed r && (parts_bound r && small r)
open_sound state.Facts r = headed r && (parts_bound r && small r)
open_sound state.Failing r = headed r && (parts_bound r && small r)

abbrev pub rules_sound : State → List Rule → Bool
rules_sound s rs = all sound (ended s rs) && open_sound s (open_rule rs)
