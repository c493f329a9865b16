-- What a week file means. Assumes nothing.
--     At                    a fault, and the place of the byte where its record begins
--     Week                  the book, the place where the goal facts begin, the goal facts in file
--                           order, and the fault that ended them, if any
--     is_goal k             k is the goal fact; begins_goal, the same of what the bytes begin with
--     rules_end d bs        the rules end before bs: nothing is left, or a goal fact with no rule open
--     rules_from n p d bs   where the rules end, and the draft then, or the first fault: d takes the
--                           records of bs, which begin at place p; n is no less than their bytes
--     on_record p x on      one record of that: on with what was taken, or the fault at place p
--     ended_with r d        the same answer, from the place or fault r and the draft d
--     goal_at_front bs      the goal fact that bs begin with, or the fault; goal_of, of a record
--     Goals                 goal facts, and the fault that ended them, if any
--     goals_from n p bs     the goal facts of bs, which begin at place p, up to the first fault or the
--                           n-th of them; each has 14 bytes, so the i-th (from 0) begins at p + 14 i
--     on_goal p x rest      one goal fact of that and the rest, or the fault at place p
--     open_fault d bs       the fault of a rule open at the end of the file bs
--     with_goals b p gs     the week of the book b, the place p and the goal facts gs
--     closed_at bs x        the week of the file bs whose rules ended at a place with a draft, x
--     reading bs            the week that the file bs holds, or the first fault of its rules
--     first_bytes bs        the first 34,691 of the bytes bs
--     week_of w             the week that the data w holds; answer_of, the same of an answer
use Rattle.std.specs.Prelude.{ℕ, zero, suc, ◌+◌, Bool, true, false, cond, not, ◌&&◌, ◌||◌, List, [], ◌∷◌, length, take, drop, Some, None, Ok, Err, vec_items, Option, Result, ◌==◌}
use Rattle.records.specs.Bytes.{begun, fields, size}
use Rattle.records.specs.declared.fault.Fault.{Fault}
use Rattle.records.specs.declared.fault.Fault.TheVariants as fault_of
use Rattle.records.specs.declared.kinds.RecordKind.{RecordKind}
use Rattle.records.specs.declared.kinds.RecordKind.TheVariants as kind
use Rattle.records.specs.declared.kinds.Record.{Record}
use Rattle.records.specs.declared.kinds.Record.TheVariants as record_of
use Rattle.records.specs.declared.parts.Goal.{Goal}
use Rattle.rules.specs.Results.{and_then, unless}
use Rattle.book.specs.Books.{Book, book_of, closing}
use Rattle.book.specs.Drafts.{Draft, fresh, is_open, taking}
use Rattle.week.specs.declared.week.At.{At}
use Rattle.week.specs.declared.week.Week.{Week as WeekData}

-- The rules

abbrev pub is_goal : RecordKind → Bool
is_goal kind.FactKind = false
is_goal kind.RuleBegins = false
is_goal kind.Head = false
is_goal kind.Guard = false
is_goal kind.BodyFact = false
is_goal kind.Fail = false
is_goal kind.RuleEnds = false
is_goal kind.GoalFact = true

abbrev pub begins_goal : Result RecordKind Fault → Bool
begins_goal (Ok k) = is_goal k
begins_goal (Err f) = false

abbrev pub rules_end : Draft → List ℕ → Bool
rules_end d bs = length bs == 0 || (begins_goal (begun bs) && not (is_open d.state))

abbrev pub on_record : ℕ → Result (RecordKind × Draft) Fault → (RecordKind → Draft → Result (ℕ × Draft) At) → Result (ℕ × Draft) At
on_record p (Ok x) on = on x.0 x.1
on_record p (Err f) on = Err (record { place = p; fault = f })

abbrev pub rules_from : ℕ → ℕ → Draft → List ℕ → Result (ℕ × Draft) At
rules_from zero p d bs = Ok (p, d)
rules_from (suc n) p d bs =
    cond (rules_end d bs) (Ok (p, d))
    (on_record p (taking d bs) (λ k e. rules_from n (p + size k) e (drop (size k) bs)))

abbrev pub ended_with : Result ℕ At → Draft → Result (ℕ × Draft) At
ended_with (Ok p) d = Ok (p, d)
ended_with (Err a) d = Err a

-- The goal facts

abbrev pub goal_of : Record → Result Goal Fault
goal_of (record_of.FactKind n a) = Err fault_of.MayNotFollow
goal_of record_of.RuleBegins = Err fault_of.MayNotFollow
goal_of (record_of.Head h) = Err fault_of.MayNotFollow
goal_of (record_of.Guard g) = Err fault_of.MayNotFollow
goal_of (record_of.BodyFact f) = Err fault_of.MayNotFollow
goal_of record_of.Fail = Err fault_of.MayNotFollow
goal_of (record_of.RuleEnds b o) = Err fault_of.MayNotFollow
goal_of (record_of.GoalFact g) = Ok g

abbrev pub goal_at_front : List ℕ → Result Goal Fault
goal_at_front bs =
    and_then (begun bs) (λ k.
    and_then (unless (is_goal k) fault_of.MayNotFollow) (λ _.
    and_then (fields k bs) goal_of))

pub record Goals : Type 0 where
  pub goals : List Goal
  pub fault : Option At

abbrev pub on_goal : ℕ → Result Goal Fault → Goals → Goals
on_goal p (Ok g) rest = record { goals = g ∷ rest.goals; fault = rest.fault }
on_goal p (Err f) rest = record { goals = []; fault = Some (record { place = p; fault = f }) }

-- not an abbrev, nor are the first bytes below: at these numbers each would unfold too far to read
unfoldable pub goals_from : ℕ → ℕ → List ℕ → Goals
goals_from zero p bs = record { goals = []; fault = None }
goals_from (suc n) p bs =
    cond (length bs == 0) (record { goals = []; fault = None })
    (on_goal p (goal_at_front bs) (goals_from n (p + 14) (drop 14 bs)))

-- The week

pub record Week : Type 0 where
  pub book : Book
  pub start : ℕ
  pub goals : List Goal
  pub fault : Option At

abbrev pub with_goals : Book → ℕ → Goals → Week
with_goals b p gs = record { book = b; start = p; goals = gs.goals; fault = gs.fault }

-- a rule open where the rules end: then nothing of the file is left
abbrev pub open_fault : Draft → List ℕ → Result (Unit {0}) At
open_fault d bs = unless (not (is_open d.state)) (record { place = length bs; fault = fault_of.RuleOpen })

-- no run takes more than 1,024 hand-ins, so the refusal of the 1,025th is certain
abbrev pub closed_at : List ℕ → ℕ × Draft → Result Week At
closed_at bs x =
    and_then (open_fault x.1 bs) (λ _.
    Ok (with_goals (closing x.1) x.0 (goals_from 1025 x.0 (drop x.0 bs))))

abbrev pub reading : List ℕ → Result Week At
reading bs = and_then (rules_from (length bs) 0 fresh bs) (closed_at bs)

unfoldable pub first_bytes : List ℕ → List ℕ
first_bytes bs = take 34691 bs

-- The data

abbrev pub week_of : WeekData → Week
week_of w = record { book = book_of w.book; start = w.start; goals = vec_items w.goals; fault = w.fault }

abbrev pub answer_of : Result WeekData At → Result Week At
answer_of (Ok w) = Ok (week_of w)
answer_of (Err a) = Err a
