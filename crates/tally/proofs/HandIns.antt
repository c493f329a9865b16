-- What a hand-in does, in words, from the chain of tests that says it.
use Rattle.std.proofs.Common.{◌≡◌, ℕ, ◌<◌, Bool, true, false, cond, ltb, List, length, ℤ, Some, None, Ok, Option, Result, refl}
use Rattle.std.proofs.lemmas.Bool.{ltb-true, ltb-false}
use Rattle.facts.specs.Positions.{unused_clear, is_zero}
use Rattle.rules.specs.Results.{and_then, kept_or, unless}
use Rattle.rules.specs.Rules.{arity_of}
use Rattle.meaning.specs.declared.refusal.Refusal.{Refusal}
use Rattle.meaning.specs.declared.refusal.Refusal.TheVariants as refusal
use Rattle.meaning.specs.declared.refusal.Site.TheVariants as site
use Rattle.meaning.specs.Setup.{Setup, State}
use Rattle.meaning.specs.Firing.{roll_places, used_values, after_hand_in, ok_or}
use Rattle.meaning.specs.Calls.{TakesIn, hand_in_answer, hand_in_after}
use Rattle.meaning.specs.Calls.TurnsAway.{failed, out_of_range, not_declared, unused_filled, not_a_value, no_row, roll_full}

module _ {R : Type 0} (s : Setup R) (t : State) (k : ℕ) (vs : List ℤ) where
  -- what the outcome x of a hand-in leaves and answers is as said
  abbrev AsSaid : Result State Refusal → Type 0
  AsSaid x = TakesIn s t k vs (kept_or x t) (and_then x (λ u. Ok t.next))

  -- the chain from each of its tests on

  abbrev from_roll : Result State Refusal
  from_roll = and_then (unless (ltb (length t.roll) roll_places) (refusal.RollFull site.HandIn)) (λ _. Ok (after_hand_in s t k vs))

  abbrev from_row : Result State Refusal
  from_row = and_then (unless (ltb (length t.facts) s.rows) (refusal.NoRow site.HandIn)) (λ _. from_roll)

  abbrev from_used : ℕ → Result State Refusal
  from_used a = and_then (unless (used_values s t s.value a vs) refusal.NotAValue) (λ _. from_row)

  abbrev from_unused : ℕ → Result State Refusal
  from_unused a = and_then (unless (unused_clear is_zero a vs) refusal.UnusedFilled) (λ _. from_used a)

  abbrev from_arity : Result State Refusal
  from_arity = and_then (ok_or s t (arity_of s.kinds k) refusal.NotDeclared) from_unused

  abbrev from_range : Result State Refusal
  from_range = and_then (unless (ltb k 32) refusal.OutOfRange) (λ _. from_arity)

  -- each test in turn, the last one first

  module _ (unfailed : t.failed ≡ false) (in_range : k < 32) where
    module _ (a : ℕ) (declared : arity_of s.kinds k ≡ Some a) where
      by_roll : unused_clear is_zero a vs ≡ true → used_values s t s.value a vs ≡ true → length t.facts < s.rows
          → (b : Bool) → ltb (length t.roll) roll_places ≡ b
          → AsSaid (and_then (unless b (refusal.RollFull site.HandIn)) (λ _. Ok (after_hand_in s t k vs)))
      by_roll clear used row true e = record {
        unfailed = unfailed;
        in_range = in_range;
        arity = a;
        declared = declared;
        unused = clear;
        used = used;
        row = row;
        place = ltb-true (length t.roll) roll_places e;
        next = refl;
        after = refl;
      }
      by_roll clear used row false e = (roll_full unfailed in_range a declared clear used row (ltb-false (length t.roll) roll_places e), refl)

      by_row : unused_clear is_zero a vs ≡ true → used_values s t s.value a vs ≡ true → (b : Bool) → ltb (length t.facts) s.rows ≡ b
          → AsSaid (and_then (unless b (refusal.NoRow site.HandIn)) (λ _. from_roll))
      by_row clear used true e =
          by_roll clear used (ltb-true (length t.facts) s.rows e) (ltb (length t.roll) roll_places) refl
      by_row clear used false e = (no_row unfailed in_range a declared clear used (ltb-false (length t.facts) s.rows e), refl)

      by_used : unused_clear is_zero a vs ≡ true → (b : Bool) → used_values s t s.value a vs ≡ b
          → AsSaid (and_then (unless b refusal.NotAValue) (λ _. from_row))
      by_used clear true e = by_row clear e (ltb (length t.facts) s.rows) refl
      by_used clear false e = (not_a_value unfailed in_range a declared clear e, refl)

      by_unused : (b : Bool) → unused_clear is_zero a vs ≡ b → AsSaid (and_then (unless b refusal.UnusedFilled) (λ _. from_used a))
      by_unused true e = by_used e (used_values s t s.value a vs) refl
      by_unused false e = (unused_filled unfailed in_range a declared e, refl)

    by_arity : (o : Option ℕ) → arity_of s.kinds k ≡ o → AsSaid (and_then (ok_or s t o refusal.NotDeclared) from_unused)
    by_arity None e = (not_declared unfailed in_range e, refl)
    by_arity (Some a) e = by_unused a e (unused_clear is_zero a vs) refl

  by_range : t.failed ≡ false → (b : Bool) → ltb k 32 ≡ b → AsSaid (and_then (unless b refusal.OutOfRange) (λ _. from_arity))
  by_range f true e = by_arity f (ltb-true k 32 e) (arity_of s.kinds k) refl
  by_range f false e = (out_of_range f (ltb-false k 32 e), refl)

  by_failed : (b : Bool) → t.failed ≡ b → AsSaid (and_then (unless (cond b false true) refusal.Failed) (λ _. from_range))
  by_failed true f = (failed f, refl)
  by_failed false f = by_range f (ltb k 32) refl

  pub hands_in_as_said : TakesIn s t k vs (hand_in_after s t k vs) (hand_in_answer s t k vs)
  hands_in_as_said = by_failed t.failed refl
