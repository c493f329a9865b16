-- Every call keeps the ids of a run in order: they rise, and each is below the next one.
use Rattle.std.proofs.Common.{◌≡◌, ℕ, zero, suc, Bool, true, false, cond, List, [], ◌∷◌, ℤ, Some, None, Ok, Err, Option, Result, refl, subst, arith}
use Rattle.facts.specs.Positions.{all}
use Rattle.rules.specs.Results.{kept_or}
use Rattle.rules.specs.Rules.{Rule, closed, small}
use Rattle.store.specs.Store.{Above, Rising}
use Rattle.store.specs.Rises.{above_higher, above_push, rising_push}
use Rattle.meaning.specs.declared.answers.Stepped.{Stepped}
use Rattle.meaning.specs.declared.answers.Stepped.TheVariants as stepped
use Rattle.meaning.specs.declared.due.Due.{Due}
use Rattle.meaning.specs.declared.refusal.Refusal.{Refusal}
use Rattle.meaning.specs.declared.written.Written.{Written}
use Rattle.meaning.specs.Setup.{Setup, State, Lawful, opening}
use Rattle.meaning.specs.Enumeration.{due_of}
use Rattle.meaning.specs.Agreement.{Proper}
use Rattle.meaning.specs.Firing.{taken_ids, taking_off, rule_at, fire, after_firing, handed, after_hand_in, hand_in}
use Rattle.meaning.specs.Calls.{Course, onward, hand_in_after, firing_after, step_answer, step_after, course, run_after}
use Rattle.meaning.proofs.PublishedCalls.{made, handed_in}
use Rattle.meaning.proofs.Takings.{above_taking_off, rising_taking_off}
use Rattle.meaning.proofs.Writings.{above_written, rising_written}
use Rattle.tally.specs.declared.calls.Call.{Call}
use Rattle.tally.specs.declared.calls.Call.TheVariants as call
use Rattle.tally.specs.Tally.{after_call, tally_from, tally}

-- what every setup of a run has: lawful ranks, and a book of closed and small rules
pub record Fit {R : Type 0} (s : Setup R) : Type 0 where
  pub ranks : Lawful s.better
  pub bound : all closed s.rules ≡ true
  pub sizes : all small s.rules ≡ true

-- ids rise, and every live id is below the next
pub record Orderly (t : State) : Type 0 where
  pub rising : Rising t.facts
  pub below : Above t.next t.facts

pub proper : {R : Type 0} {s : Setup R} {t : State} → Fit s → Orderly t → Proper s t
proper fit ok = record { ranks = fit.ranks; ids = ok.rising; bound = fit.bound; sizes = fit.sizes }

pub orderly_opening : Orderly opening
orderly_opening = record { rising = tt; below = tt }

module _ {R : Type 0} (s : Setup R) where
  -- One hand-in, one firing

  orderly_after_hand_in : (t : State) (k : ℕ) (vs : List ℤ) → Orderly t → Orderly (after_hand_in s t k vs)
  orderly_after_hand_in t k vs ok = record {
    rising = rising_push t.facts (handed s t k vs) ok.rising ok.below;
    below = above_push t.facts (handed s t k vs) (suc t.next) (above_higher t.facts t.next (suc t.next) (omega arith) ok.below) (omega arith);
  }

  pub orderly_hand_in : (t : State) (k : ℕ) (vs : List ℤ) (u : State) → hand_in s t k vs ≡ Ok u → Orderly t → Orderly u
  orderly_hand_in t k vs u e ok = subst Orderly (handed_in s t k vs u e) (orderly_after_hand_in t k vs ok)

  orderly_after_firing : (t : State) (r : Rule) (n : ℕ) (is : List ℕ) (ws : List Written) → Orderly t → Orderly (after_firing s t r n is ws)
  orderly_after_firing t r n is ws ok =
      let taken = taken_ids r.heads is in
      let below = above_taking_off taken t.facts t.next ok.below in
      record {
        rising = rising_written ws (taking_off taken t.facts) t.next (rising_taking_off taken t.facts ok.rising) below;
        below = above_written (taking_off taken t.facts) ws t.next below;
      }

  pub orderly_fire : (t : State) (n : ℕ) (is : List ℕ) (u : State) → fire s t n is ≡ Ok u → Orderly t → Orderly u
  orderly_fire t n is u e ok =
      let m = made s t n is u e in
      subst Orderly m.state (orderly_after_firing t (rule_at s.rules n) n is m.body ok)

  -- What a call leaves, accepted or refused

  orderly_kept_or : (t : State) (x : Result State Refusal) → ((u : State) → x ≡ Ok u → Orderly u) → Orderly t → Orderly (kept_or x t)
  orderly_kept_or t (Ok u) h ok = h u refl
  orderly_kept_or t (Err r) h ok = ok

  pub orderly_hand_in_after : (t : State) (k : ℕ) (vs : List ℤ) → Orderly t → Orderly (hand_in_after s t k vs)
  orderly_hand_in_after t k vs ok = orderly_kept_or t (hand_in s t k vs) (λ u e. orderly_hand_in t k vs u e ok) ok

  orderly_firing_after : (t : State) (o : Option (Due R)) → Orderly t → Orderly (firing_after s t o)
  orderly_firing_after t None ok = ok
  orderly_firing_after t (Some d) ok = orderly_kept_or t (fire s t d.rule d.ids) (λ u e. orderly_fire t d.rule d.ids u e ok) ok

  pub orderly_step_after : (t : State) → Orderly t → Orderly (step_after s t)
  orderly_step_after t ok = go t.failed where
    go : (b : Bool) → Orderly (cond b t (firing_after s t (due_of s t)))
    go true = ok
    go false = orderly_firing_after t (due_of s t) ok

  orderly_onward : (a : Result Stepped Refusal) (u : State) (c : Course) → Orderly u → Orderly c.state → Orderly (onward a u c).state
  orderly_onward (Ok stepped.Fired) u c here there = there
  orderly_onward (Ok stepped.Failed) u c here there = here
  orderly_onward (Ok stepped.Final) u c here there = here
  orderly_onward (Err r) u c here there = here

  orderly_course : (n : ℕ) (t : State) → Orderly t → Orderly (course s n t).state
  orderly_course zero t ok = ok
  orderly_course (suc n) t ok =
      let next = orderly_step_after t ok in
      orderly_onward (step_answer s t) (step_after s t) (course s n (step_after s t)) next (orderly_course n (step_after s t) next)

  pub orderly_run_after : (t : State) (n : ℕ) → Orderly t → Orderly (run_after s t n)
  orderly_run_after t n ok = orderly_course n t ok

  -- Any call, and any list of calls

  pub orderly_after_call : (t : State) (c : Call) → Orderly t → Orderly (after_call s t c)
  orderly_after_call t (call.HandIn k vs) ok = orderly_hand_in_after t k vs ok
  orderly_after_call t (call.Read id) ok = ok
  orderly_after_call t call.Look ok = ok
  orderly_after_call t call.Step ok = orderly_step_after t ok
  orderly_after_call t (call.Run n) ok = orderly_run_after t n ok
  orderly_after_call t call.ChooseAndFire ok = orderly_step_after t ok
  orderly_after_call t call.ChooseAndLayAside ok = ok

  pub orderly_tally_from : (cs : List Call) (t : State) → Orderly t → Orderly (tally_from s t cs)
  orderly_tally_from [] t ok = ok
  orderly_tally_from (c ∷ cs) t ok = orderly_tally_from cs (after_call s t c) (orderly_after_call t c ok)

  pub orderly_tally : (cs : List Call) → Orderly (tally s cs)
  orderly_tally cs = orderly_tally_from cs opening orderly_opening
