-- The loop of a run with n: what is left of its course, after the firings so far, is the whole course.
use Rattle.std.proofs.Common.{◌≡◌, ℕ, suc, ◌+◌, ◌-◌, ◌<◌, ◌≤◌, true, false, Ok, Err, Result, sym, refl, ap, ◌∙◌, arith}
use Rattle.meaning.specs.declared.answers.Ending.{Ending}
use Rattle.meaning.specs.declared.answers.Ending.TheVariants as ending
use Rattle.meaning.specs.declared.answers.Ran.{Ran}
use Rattle.meaning.specs.declared.answers.Stepped.{Stepped}
use Rattle.meaning.specs.declared.answers.Stepped.TheVariants as stepped
use Rattle.meaning.specs.declared.refusal.Refusal.{Refusal}
use Rattle.meaning.specs.Setup.{Setup, State}
use Rattle.meaning.specs.Calls.{Course, one_more, course, step_answer, step_after}
use Rattle.tally.proofs.Steps.{course_more, course_fails, course_rests, course_refused}
use Rattle.run.specs.Counting.{answers_fired, ended_so, ahead}

abbrev pub ran_of : Course → Ran
ran_of c = record { firings = c.firings; ending = c.ending }

abbrev at_firings : Course → ℕ → Course
at_firings c k = record { state = c.state; firings = k; ending = c.ending }

pub fired_is : (r : Result Stepped Refusal) → true ≡ answers_fired r → r ≡ Ok stepped.Fired
fired_is (Ok stepped.Fired) e = refl
fired_is (Ok stepped.Failed) e = cc
fired_is (Ok stepped.Final) e = cc
fired_is (Err x) e = cc

ahead_one_more : (k : ℕ) (c : Course) → ahead k (one_more c) ≡ ahead (k + 1) c
ahead_one_more k c = let e : k + suc c.firings ≡ k + 1 + c.firings = omega arith in ap (at_firings c) e

module _ {R : Type 0} (s : Setup R) (n k : ℕ) (t : State) where
  -- the last step answered otherwise than fired
  pub record Ended (u : State) (r : Result Stepped Refusal) : Type 0 where
    pub state : u ≡ (ahead k (course s (n - k) t)).state
    pub answer : ended_so k r ≡ ran_of (ahead k (course s (n - k) t))

  left : k < n → n - k ≡ suc (n - (k + 1))
  left l = omega arith

  -- a step that fired
  pub counted_more : k < n → (u : State) → Ok stepped.Fired ≡ step_answer s t → u ≡ step_after s t
      → ahead k (course s (n - k) t) ≡ ahead (k + 1) (course s (n - (k + 1)) u)
  counted_more l u e a =
      ap (λ j. ahead k (course s j t)) (left l)
      ∙ ap (ahead k) (course_more s t (n - (k + 1)) (sym e))
      ∙ ahead_one_more k (course s (n - (k + 1)) (step_after s t))
      ∙ ap (λ v. ahead (k + 1) (course s (n - (k + 1)) v)) (sym a)

  ends_so : (m : ℕ) → n - k ≡ suc m → (c : Course) → course s (suc m) t ≡ c → (u : State) (r : Result Stepped Refusal)
      → u ≡ c.state → ended_so k r ≡ ran_of (ahead k c) → Ended u r
  ends_so m e c h u r p q = record {
    state = p ∙ ap (λ (x : Course). x.state) (sym h) ∙ ap (λ j. (course s j t).state) (sym e);
    answer = q ∙ ap (λ x. ran_of (ahead k x)) (sym h) ∙ ap (λ j. ran_of (ahead k (course s j t))) (sym e);
  }

  abbrev ran : ℕ → Ending → Ran
  ran j e = record { firings = j; ending = e }

  -- a step that answered otherwise
  pub counted_ends : k < n → (u : State) (r : Result Stepped Refusal) → answers_fired r ≡ false → r ≡ step_answer s t → u ≡ step_after s t → Ended u r
  counted_ends l u (Ok stepped.Fired) f e a = cc
  counted_ends l u (Ok stepped.Failed) f e a = ends_so (n - (k + 1)) (left l) _ (course_fails s t (n - (k + 1)) (sym e)) u (Ok stepped.Failed) a refl
  counted_ends l u (Ok stepped.Final) f e a =
      let z : k ≡ k + 0 = omega arith in
      ends_so (n - (k + 1)) (left l) _ (course_rests s t (n - (k + 1)) (sym e)) u (Ok stepped.Final) a (ap (λ j. ran j ending.Final) z)
  counted_ends l u (Err x) f e a =
      let z : k ≡ k + 0 = omega arith in
      ends_so (n - (k + 1)) (left l) _ (course_refused s t (n - (k + 1)) x (sym e)) u (Err x) a (ap (λ j. ran j (ending.Refused x)) z)

  -- n firings were made
  pub counted_all : n ≤ k → k ≤ n → (t ≡ (ahead k (course s (n - k) t)).state) × (ran n ending.Count ≡ ran_of (ahead k (course s (n - k) t)))
  counted_all l m =
      let e : 0 ≡ n - k = omega arith in
      let z : n ≡ k + 0 = omega arith in
      (ap (λ j. (course s j t).state) e, ap (λ j. ran j ending.Count) z ∙ ap (λ j. ran_of (ahead k (course s j t))) e)
