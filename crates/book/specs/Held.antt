-- The drafts that the data of a draft hold. Assumes nothing.
--     tables_of t        the kinds and rules in the data t
--     draft_of d         the draft in the data d
--     with_last t r      the data t with r for its last rule
--     Steps gives f      what gives says of a rule, an answer and the rule then is what f does; where
--                        f is a fault, the rule stays as it is
use Rattle.std.specs.Prelude.{◌-◌, Result, map, vec_items, vec_len}
use Rattle.std.specs.Vec.{with_item}
use Rattle.records.specs.declared.fault.Fault.{Fault}
use Rattle.book.specs.declared.draft.Draft.{Draft as DraftData}
use Rattle.book.specs.declared.draft.Tables.{Tables as TablesData}
use Rattle.rules.specs.declared.Rule.{Rule as RuleData}
use Rattle.rules.specs.Results.{Done}
use Rattle.rules.specs.Rules.{Rule, rule_of}
use Rattle.book.specs.Drafts.{Draft, Tables}

abbrev pub tables_of : TablesData → Tables
tables_of t = record { kinds = t.kinds.arities; rules = map rule_of (vec_items t.rules) }

abbrev pub draft_of : DraftData → Draft
draft_of d = record { state = d.state; tables = tables_of d.tables }

abbrev pub with_last : TablesData → RuleData → TablesData
with_last t r = record {
  kinds = t.kinds;
  rules = with_item t.rules (vec_len t.rules - 1) r;
  few = t.few;
  room = t.room;
}

abbrev pub Steps : (RuleData → Result (Unit {0}) Fault → RuleData → Type 0) → (Rule → Result Rule Fault) → Type 0
Steps gives f = (old new : RuleData) (r : Result (Unit {0}) Fault) → gives old r new → Done (f (rule_of old)) (rule_of old) r (rule_of new)
