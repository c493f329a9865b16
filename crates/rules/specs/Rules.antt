-- Rules and what makes one closed. Assumes nothing.
--     Rule               heads, guards, body facts, whether it fails, band and rank operand
--     rule_of r          the rule that the data r holds
--     blank_rule         a rule just begun
--     arity_of ks k      the arity of the kind k in the table ks, if it is declared
--     binds hs v         some head of hs has the variable v
--     bound hs o         o is a constant or a variable that some head binds
--     closed r           r has a head, and each variable in its guards, body facts and rank is bound
--     small r            r has at most four heads, and their variables have numbers below 12
use Rattle.std.specs.Prelude.{ℕ, Bool, true, false, ◌&&◌, List, [], length, pos, None, Option, ◌==◌, nat_le, nat_lt, slice_index_or}
use Rattle.std.specs.List.{list_any}
use Rattle.facts.specs.Positions.{all}
use Rattle.few.specs.Few.{listed}
use Rattle.host.specs.declared.types.Working.{Working}
use Rattle.host.specs.declared.types.Working.TheVariants as working
use Rattle.records.specs.declared.parts.Operand.{Operand}
use Rattle.records.specs.declared.parts.Operand.TheVariants.{Constant, Variable}
use Rattle.records.specs.declared.parts.Head.{Head}
use Rattle.records.specs.declared.parts.Guard.{Guard}
use Rattle.rules.specs.declared.BodyFact.{BodyFact}
use Rattle.rules.specs.declared.Rule.{Rule as RuleData}

pub record Rule : Type 0 where
  pub heads : List Head
  pub guards : List Guard
  pub facts : List BodyFact
  pub fails : Bool
  pub band : ℕ
  pub rank : Operand

abbrev pub rule_of : RuleData → Rule
rule_of r = record {
  heads = listed r.heads;
  guards = listed r.guards;
  facts = listed r.facts;
  fails = r.fails;
  band = r.band;
  rank = r.rank;
}

abbrev pub blank_rule : Rule
blank_rule = record { heads = []; guards = []; facts = []; fails = false; band = 0; rank = Constant (pos 0) }

abbrev pub arity_of : List (Option ℕ) → ℕ → Option ℕ
arity_of ks k = slice_index_or ks k None

-- Binding

abbrev pub any : {A : Type 0} → (A → Bool) → List A → Bool
any test xs = list_any test xs

abbrev pub names : ℕ → Operand → Bool
names v (Constant n) = false
names v (Variable w) = v == w

abbrev pub head_binds : ℕ → Head → Bool
head_binds v h = any (names v) h.operands

abbrev pub binds : List Head → ℕ → Bool
binds hs v = any (head_binds v) hs

abbrev pub bound : List Head → Operand → Bool
bound hs (Constant n) = true
bound hs (Variable v) = binds hs v

abbrev pub guard_bound : List Head → Guard → Bool
guard_bound hs g = bound hs g.left && bound hs g.right

abbrev pub working_bound : List Head → Working Operand → Bool
working_bound hs (working.Copy a) = bound hs a
working_bound hs (working.Sum a b) = bound hs a && bound hs b
working_bound hs (working.Difference a b) = bound hs a && bound hs b

abbrev pub fact_bound : List Head → BodyFact → Bool
fact_bound hs f = all (working_bound hs) f.workings

-- the parts that a rule has so far are bound
abbrev pub parts_bound : Rule → Bool
parts_bound r = all (guard_bound r.heads) r.guards && all (fact_bound r.heads) r.facts

abbrev pub headed : Rule → Bool
headed r = nat_lt 0 (length r.heads)

abbrev pub closed : Rule → Bool
closed r = headed r && (parts_bound r && bound r.heads r.rank)

-- Size

abbrev pub in_range : Operand → Bool
in_range (Constant n) = true
in_range (Variable v) = nat_lt v 12

abbrev pub head_in_range : Head → Bool
head_in_range h = all in_range h.operands

abbrev pub small : Rule → Bool
small r = nat_le (length r.heads) 4 && all head_in_range r.heads
