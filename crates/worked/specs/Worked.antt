-- The worked weeks. Assumes nothing.
--     depot, paths, split, replaces w      the books
--     firings roll                         the firings on a roll
--     under s gs                           the state after the hand-ins gs
--     after_steps s n t                    the state after n steps
--     Worked                               what each week comes to
use Rattle.std.specs.Prelude.{◌≡◌, ℕ, zero, suc, Bool, true, false, List, [], ◌∷◌, ℤ, pos, Some, None, Ok, Err, Option, int_lt}
use Rattle.facts.specs.declared.Fact.{Fact}
use Rattle.host.specs.Counts.{is_count, count_says, count_works}
use Rattle.host.specs.Serials.{is_serial, serial_says, serial_works}
use Rattle.host.specs.declared.types.Cause.TheVariants as cause
use Rattle.host.specs.declared.types.Comparator.TheVariants as comparator
use Rattle.host.specs.declared.types.Working.{Working}
use Rattle.host.specs.declared.types.Working.TheVariants as working
use Rattle.order.specs.Bands.{sooner}
use Rattle.order.specs.declared.banded.BandRank.{BandRank}
use Rattle.records.specs.declared.parts.Operand.{Operand}
use Rattle.records.specs.declared.parts.Operand.TheVariants.{Constant, Variable}
use Rattle.records.specs.declared.parts.Head.{Head}
use Rattle.rules.specs.declared.BodyFact.{BodyFact}
use Rattle.rules.specs.Rules.{Rule}
use Rattle.meaning.specs.declared.answers.Stepped.TheVariants as stepped
use Rattle.meaning.specs.declared.refusal.Refusal.TheVariants as refusal
use Rattle.meaning.specs.declared.refusal.Site.TheVariants as site
use Rattle.meaning.specs.declared.roll.Entry.{Entry}
use Rattle.meaning.specs.declared.roll.Entry.TheVariants.{HandedIn, Fired}
use Rattle.meaning.specs.declared.written.Written.{Written}
use Rattle.meaning.specs.Setup.{Setup, State, opening}
use Rattle.meaning.specs.Instances.{ids_of}
use Rattle.meaning.specs.Calls.{hand_in_after, step_answer, step_after}

-- Words to write books with

abbrev zero_at : Operand
zero_at = Constant (pos 0)

abbrev head : Bool → ℕ → Operand → Operand → Operand → Head
head taken k a b c = record { taken = taken; kind = k; operands = a ∷ b ∷ c ∷ [] }

abbrev writes : ℕ → ℕ → Working Operand → Working Operand → BodyFact
writes k arity a b = record { kind = k; arity = arity; workings = a ∷ b ∷ working.Copy zero_at ∷ [] }

abbrev copy : ℕ → Working Operand
copy v = working.Copy (Variable v)

abbrev given : ℕ → ℤ → ℤ → ℤ → Written
given k a b c = record { kind = k; values = a ∷ b ∷ c ∷ [] }

abbrev fact : ℕ → ℕ → ℤ → ℤ → Fact
fact i k a b = record { id = i; kind = k; values = a ∷ b ∷ pos 0 ∷ [] }

abbrev fired : ℕ → ℕ → ℕ → Entry
fired n i j = Fired (record { rule = n; ids = i ∷ j ∷ 0 ∷ 0 ∷ [] })

-- The hosts and orders

abbrev counted : List (Option ℕ) → List Rule → ℕ → Setup ℤ
counted ks rs rows = record { kinds = ks; rules = rs; rows = rows; value = is_count; says = count_says; works = count_works; rank = λ b v. v; better = int_lt }

abbrev banded : List (Option ℕ) → List Rule → ℕ → Setup BandRank
banded ks rs rows = record { kinds = ks; rules = rs; rows = rows; value = is_count; says = count_says; works = count_works; rank = λ b v. record { band = b; value = v }; better = sooner }

abbrev serial : List (Option ℕ) → List Rule → ℕ → Setup ℤ
serial ks rs rows = record { kinds = ks; rules = rs; rows = rows; value = is_serial; says = serial_says; works = serial_works; rank = λ b v. v; better = int_lt }

-- Calls, one after the other

module _ {R : Type 0} (s : Setup R) where
  abbrev pub under : List Written → State → State
  under [] t = t
  under (g ∷ gs) t = under gs (hand_in_after s t g.kind g.values)

  abbrev pub after_steps : ℕ → State → State
  after_steps zero t = t
  after_steps (suc n) t = after_steps n (step_after s t)

-- The firings on a roll
abbrev pub firings : List Entry → List Entry
firings [] = []
firings (HandedIn f ∷ es) = firings es
firings (Fired f ∷ es) = Fired f ∷ firings es

-- The depot: asks(M), free(B) are taken, holds(M, B) is written; rank B
abbrev pub depot : List Rule
depot = record {
  heads = head true 2 (Variable 0) zero_at zero_at ∷ head true 1 (Variable 1) zero_at zero_at ∷ [];
  guards = [];
  facts = writes 3 2 (copy 0) (copy 1) ∷ [];
  fails = false;
  band = 1;
  rank = Variable 1;
} ∷ []

abbrev depot_week : Setup ℤ
depot_week = counted (None ∷ Some 1 ∷ Some 1 ∷ Some 2 ∷ []) depot 1024

abbrev depot_facts : State
depot_facts = under depot_week (given 1 (pos 700) (pos 0) (pos 0) ∷ given 1 (pos 500) (pos 0) (pos 0) ∷ given 2 (pos 7) (pos 0) (pos 0) ∷ given 2 (pos 9) (pos 0) (pos 0) ∷ []) opening

-- Shortest paths: kinds 1 source(V), 2 edge(V, C, U), 3 dist(V, D)
abbrev pub paths : List Rule
paths =
    -- source(V) writes dist(V, 0)
    record {
      heads = head false 1 (Variable 0) zero_at zero_at ∷ [];
      guards = [];
      facts = writes 3 2 (copy 0) (working.Copy zero_at) ∷ [];
      fails = false;
      band = 1;
      rank = Constant (pos 1);
    }
    -- dist(V, D) is kept and dist(V, E) taken, where D is at most E
    ∷ record {
      heads = head false 3 (Variable 0) (Variable 1) zero_at ∷ head true 3 (Variable 0) (Variable 2) zero_at ∷ [];
      guards = record { comparator = comparator.AtMost; left = Variable 1; right = Variable 2 } ∷ [];
      facts = [];
      fails = false;
      band = 1;
      rank = Constant (pos 1);
    }
    -- dist(V, D), edge(V, C, U) write dist(U, D + C)
    ∷ record {
      heads = head false 3 (Variable 0) (Variable 1) zero_at ∷ head false 2 (Variable 0) (Variable 2) (Variable 3) ∷ [];
      guards = [];
      facts = writes 3 2 (copy 3) (working.Sum (Variable 1) (Variable 2)) ∷ [];
      fails = false;
      band = 2;
      rank = Variable 1;
    }
    ∷ []

abbrev paths_week : Setup BandRank
paths_week = banded (None ∷ Some 1 ∷ Some 3 ∷ Some 2 ∷ []) paths 1024

abbrev paths_facts : State
paths_facts = under paths_week (given 1 (pos 1) (pos 0) (pos 0) ∷ given 2 (pos 1) (pos 4) (pos 2) ∷ given 2 (pos 1) (pos 1) (pos 3) ∷ given 2 (pos 3) (pos 1) (pos 2) ∷ []) opening

abbrev equal_distances : State
equal_distances = under paths_week (given 3 (pos 1) (pos 0) (pos 0) ∷ given 3 (pos 1) (pos 0) (pos 0) ∷ []) opening

-- One fact is taken and two are written
abbrev pub split : List Rule
split = record {
  heads = head true 1 (Variable 0) zero_at zero_at ∷ [];
  guards = [];
  facts = writes 2 1 (copy 0) (working.Copy zero_at) ∷ writes 2 1 (copy 0) (working.Copy zero_at) ∷ [];
  fails = false;
  band = 0;
  rank = Variable 0;
} ∷ []

abbrev split_rows : ℕ → Setup ℤ
split_rows rows = counted (None ∷ Some 1 ∷ Some 1 ∷ []) split rows

abbrev split_facts : ℕ → State
split_facts rows = under (split_rows rows) (given 1 (pos 1) (pos 0) (pos 0) ∷ given 1 (pos 2) (pos 0) (pos 0) ∷ given 1 (pos 3) (pos 0) (pos 0) ∷ given 1 (pos 4) (pos 0) (pos 0) ∷ []) opening

-- One fact is taken, and a working of it written
abbrev pub replaces : Working Operand → List Rule
replaces w = record {
  heads = head true 1 (Variable 0) zero_at zero_at ∷ [];
  guards = [];
  facts = writes 1 1 w (working.Copy zero_at) ∷ [];
  fails = false;
  band = 0;
  rank = Constant (pos 0);
} ∷ []

abbrev grows : Setup ℤ
grows = counted (None ∷ Some 1 ∷ []) (replaces (working.Sum (Variable 0) (Constant (pos 1)))) 4

abbrev fixed : Setup ℤ
fixed = serial (None ∷ Some 1 ∷ []) (replaces (working.Copy (Constant (pos 1000000)))) 4

pub record Worked : Type 0 where
  -- the depot: machine 7 gets block 500 and machine 9 block 700, and then nothing is left
  pub depot_roll : (after_steps depot_week 2 depot_facts).roll
      ≡ HandedIn (fact 1 1 (pos 700) (pos 0)) ∷ HandedIn (fact 2 1 (pos 500) (pos 0)) ∷ HandedIn (fact 3 2 (pos 7) (pos 0)) ∷ HandedIn (fact 4 2 (pos 9) (pos 0))
      ∷ fired 1 3 2 ∷ fired 1 4 1 ∷ []
  pub depot_store : (after_steps depot_week 2 depot_facts).facts ≡ fact 5 3 (pos 7) (pos 500) ∷ fact 6 3 (pos 9) (pos 700) ∷ []
  pub depot_final : step_answer depot_week (after_steps depot_week 2 depot_facts) ≡ Ok stepped.Final
  -- shortest paths, with the banded order
  pub paths_roll : firings (after_steps paths_week 5 paths_facts).roll ≡ fired 1 1 0 ∷ fired 3 5 2 ∷ fired 3 5 3 ∷ fired 3 7 4 ∷ fired 2 8 6 ∷ []
  pub paths_live : ids_of (after_steps paths_week 5 paths_facts).facts ≡ 1 ∷ 2 ∷ 3 ∷ 4 ∷ 5 ∷ 7 ∷ 8 ∷ []
  pub paths_final : step_answer paths_week (after_steps paths_week 5 paths_facts) ≡ Ok stepped.Final
  -- of two equal distances the first stays
  pub equal_roll : firings (after_steps paths_week 1 equal_distances).roll ≡ fired 2 1 2 ∷ []
  pub equal_live : (after_steps paths_week 1 equal_distances).facts ≡ fact 1 3 (pos 1) (pos 0) ∷ []
  pub equal_final : step_answer paths_week (after_steps paths_week 1 equal_distances) ≡ Ok stepped.Final
  -- four live facts, one taken, two written: four rows are too few, and nothing is changed; five are enough
  pub four_rows : step_answer (split_rows 4) (split_facts 4) ≡ Err (refusal.NoRow (site.Rule 1))
  pub four_stay : step_after (split_rows 4) (split_facts 4) ≡ split_facts 4
  pub five_rows : step_answer (split_rows 5) (split_facts 5) ≡ Ok stepped.Fired
  pub five_live : ids_of (step_after (split_rows 5) (split_facts 5)).facts ≡ 2 ∷ 3 ∷ 4 ∷ 5 ∷ 6 ∷ []
  -- serials come round after 999,999
  pub round_less : serial_says comparator.Less (pos 999999) (pos 0) ≡ true
  pub half_less : serial_says comparator.Less (pos 0) (pos 499999) ≡ true
  pub half_not : serial_says comparator.Less (pos 0) (pos 500000) ≡ false
  pub half_nor : serial_says comparator.Less (pos 500000) (pos 0) ≡ false
  pub round_sum : serial_works (working.Sum (pos 999999) (pos 1)) ≡ Ok (pos 0)
  pub round_difference : serial_works (working.Difference (pos 0) (pos 1)) ≡ Ok (pos 999999)
  -- a sum beyond the counts, and a constant that is no serial, cannot be worked out
  pub overflow : step_answer grows (under grows (given 1 (pos 2147483647) (pos 0) (pos 0) ∷ []) opening) ≡ Err (refusal.Body 1 (record { fact = 1; working = 1; cause = cause.Outcome }))
  pub no_serial : step_answer fixed (under fixed (given 1 (pos 0) (pos 0) (pos 0) ∷ []) opening) ≡ Err (refusal.Body 1 (record { fact = 1; working = 1; cause = cause.Operand }))
