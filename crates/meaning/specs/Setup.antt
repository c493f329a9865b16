-- What a run is made of. Assumes nothing.
--     Setup R      what never changes: kinds and rules of the book, rows of the store, the host's
--                  answers, and the order's ranks, of a kind R of its own
--     State        what the calls change: live facts in rising id, roll, next id, whether failed
--     opening      the state in which a run opens
--     Lawful       no rank is better than itself, better chains, and two ranks of which neither is
--                  better stand alike to any third
use Rattle.std.specs.Prelude.{◌≡◌, ℕ, Bool, true, false, List, [], ℤ, Option, Result}
use Rattle.facts.specs.declared.Fact.{Fact}
use Rattle.host.specs.declared.types.Cause.{Cause}
use Rattle.host.specs.declared.types.Comparator.{Comparator}
use Rattle.host.specs.declared.types.Working.{Working}
use Rattle.rules.specs.Rules.{Rule}
use Rattle.meaning.specs.declared.roll.Entry.{Entry}

pub record Setup (R : Type 0) : Type 0 where
  -- the book: the arity of each kind, by its number, if it is declared; and the rules
  pub kinds : List (Option ℕ)
  pub rules : List Rule
  -- the store
  pub rows : ℕ
  -- the host: which numbers are values, what it says to a comparator, what it makes of a working
  pub value : ℤ → Bool
  pub says : Comparator → ℤ → ℤ → Bool
  pub works : Working ℤ → Result ℤ Cause
  -- the order: the rank of a band and a value, and whether one rank is better than another
  pub rank : ℕ → ℤ → R
  pub better : R → R → Bool

pub record State : Type 0 where
  pub facts : List Fact
  pub roll : List Entry
  pub next : ℕ
  pub failed : Bool

abbrev pub opening : State
opening = record { facts = []; roll = []; next = 1; failed = false }

pub record Lawful {R : Type 0} (better : R → R → Bool) : Type 0 where
  pub never : (a : R) → better a a ≡ false
  pub chains : (a b c : R) → better a b ≡ true → better b c ≡ true → better a c ≡ true
  pub level : (a b c : R) → better a b ≡ false → better b a ≡ false → (better c a ≡ better c b) × (better a c ≡ better b c)
