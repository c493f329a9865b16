-- The due instance as a function that can be run. Assumes nothing.
-- Bindings first, which a firing starts from too:
--     Env                   the number of each variable that is bound so far
--     unbound               no variable is bound
--     seen b v n e          e with the variable v at n, if b, its number so far, is none or n
--     agreed_one o n e      the same of an operand o
--     agreed os vs e        e with the operands os bound to the values vs, if they agree
--     worth e o             the number of an operand, 0 if unbound
-- Then the instances, and the due one among them:
--     among i is            i is one of is
--     extended h used e f   e with the head h matched by the fact f, which is not among those used
--     partners h used e fs  those of the facts fs that match the head h, each with its bindings
--     instances ..          the ways to match heads, each as ids in head order and bindings
--     fired roll n is       a firing of rule n with the ids is is on the roll
--     waiting n r m         the instance m of the rule r of number n, if it waits: none or one
--     all_waiting           every instance that waits, rule by rule
--     chosen best d         the better of the two, the first met where they are level
--     due_of s t            the due instance
use Rattle.std.specs.Prelude.{ℕ, suc, Bool, true, false, cond, not, ◌&&◌, List, [], ◌∷◌, ◌++◌, replicate, ℤ, pos, Some, None, fold, Option, ◌==◌, nat_eq, slice_index_or, slice_set}
use Rattle.std.specs.List.{flat_map}
use Rattle.std.specs.Option.{unwrap_or}
use Rattle.facts.specs.Positions.{all}
use Rattle.facts.specs.declared.Fact.{Fact}
use Rattle.host.specs.Numbers.{eqZ}
use Rattle.records.specs.Bytes.{and_then}
use Rattle.records.specs.declared.parts.Guard.{Guard}
use Rattle.records.specs.declared.parts.Head.{Head}
use Rattle.records.specs.declared.parts.Operand.{Operand}
use Rattle.records.specs.declared.parts.Operand.TheVariants.{Constant, Variable}
use Rattle.rules.specs.Rules.{Rule, any}
use Rattle.meaning.specs.declared.roll.Entry.{Entry}
use Rattle.meaning.specs.declared.roll.Entry.TheVariants.{HandedIn, Fired}
use Rattle.meaning.specs.declared.due.Due.{Due}
use Rattle.meaning.specs.Setup.{Setup, State}
use Rattle.meaning.specs.Instances.{padded}

-- Bindings

abbrev pub Env : Type 0
Env = List (Option ℤ)

abbrev pub unbound : Env
unbound = replicate 12 None

abbrev pub seen : Option ℤ → ℕ → ℤ → Env → Option Env
seen None v n e = Some (slice_set e v (Some n))
seen (Some m) v n e = cond (eqZ m n) (Some e) None

abbrev pub agreed_one : Operand → ℤ → Env → Option Env
agreed_one (Constant m) n e = cond (eqZ m n) (Some e) None
agreed_one (Variable v) n e = seen (slice_index_or e v None) v n e

abbrev pub agreed : List Operand → List ℤ → Env → Option Env
agreed [] [] e = Some e
agreed [] (n ∷ ns) e = None
agreed (o ∷ os) [] e = None
agreed (o ∷ os) (n ∷ ns) e = and_then (agreed_one o n e) (agreed os ns)

abbrev pub worth : Env → Operand → ℤ
worth e (Constant n) = n
worth e (Variable v) = unwrap_or (slice_index_or e v None) (pos 0)

-- Partners and instances

pub record Partner : Type 0 where
  pub id : ℕ
  pub env : Env

pub record Match : Type 0 where
  pub ids : List ℕ
  pub env : Env

abbrev pub among : ℕ → List ℕ → Bool
among i is = any (nat_eq i) is

abbrev pub extended : Head → List ℕ → Env → Fact → Option Env
extended h used e f =
    cond (f.kind == h.kind && not (among f.id used)) (agreed h.operands f.values e) None

abbrev pub partner_of : ℕ → Option Env → List Partner
partner_of i None = []
partner_of i (Some e) = record { id = i; env = e } ∷ []

abbrev pub partners : Head → List ℕ → Env → List Fact → List Partner
partners h used e live = flat_map (λ f. partner_of f.id (extended h used e f)) live

abbrev pub instances : List Fact → List Head → List ℕ → Env → List Match
instances live [] used e = record { ids = used; env = e } ∷ []
instances live (h ∷ hs) used e =
    flat_map (λ p. instances live hs (used ++ p.id ∷ []) p.env) (partners h used e live)

-- Waiting

abbrev pub same_ids : List ℕ → List ℕ → Bool
same_ids [] [] = true
same_ids [] (j ∷ js) = false
same_ids (i ∷ is) [] = false
same_ids (i ∷ is) (j ∷ js) = i == j && same_ids is js

abbrev pub fires : ℕ → List ℕ → Entry → Bool
fires n is (HandedIn f) = false
fires n is (Fired f) = f.rule == n && same_ids f.ids is

abbrev pub fired : List Entry → ℕ → List ℕ → Bool
fired roll n is = any (fires n is) roll

module _ {R : Type 0} (s : Setup R) (t : State) where
  abbrev pub applies : Env → Guard → Bool
  applies e g = s.says g.comparator (worth e g.left) (worth e g.right)

  abbrev pub instance_of : ℕ → Rule → Match → Due R
  instance_of n r m = record { rule = n; ids = padded m.ids; rank = s.rank r.band (worth m.env r.rank) }

  abbrev pub waiting : ℕ → Rule → Match → List (Due R)
  waiting n r m =
      cond (all (applies m.env) r.guards && not (fired t.roll n (padded m.ids)))
      (instance_of n r m ∷ []) []

  abbrev pub waiting_of : ℕ → Rule → List (Due R)
  waiting_of n r = flat_map (waiting n r) (instances t.facts r.heads [] unbound)

  abbrev pub waiting_from : ℕ → List Rule → List (Due R)
  waiting_from n [] = []
  waiting_from n (r ∷ rs) = waiting_of n r ++ waiting_from (suc n) rs

  abbrev pub all_waiting : List (Due R)
  all_waiting = waiting_from 1 s.rules

  -- The best

  abbrev pub improves : R → Option (Due R) → Bool
  improves r None = true
  improves r (Some d) = s.better r d.rank

  abbrev pub chosen : Option (Due R) → Due R → Option (Due R)
  chosen best d = cond (improves d.rank best) (Some d) best

  abbrev pub due_of : Option (Due R)
  due_of = fold chosen None all_waiting
