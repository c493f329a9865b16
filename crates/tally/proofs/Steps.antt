-- What look, step and run with a count do, in words, from the functions that say it.
use Rattle.std.proofs.Common.{◌≡◌, ℕ, zero, suc, Bool, true, false, cond, [], ◌∷◌, ◌++◌, map, Some, None, Ok, Err, Option, Result, sym, refl, ap, ◌∙◌, append_assoc, append-nil}
use Rattle.std.specs.Result.{result_err}
use Rattle.rules.specs.Results.{and_then, kept_or}
use Rattle.meaning.specs.declared.answers.Ending.{Ending}
use Rattle.meaning.specs.declared.answers.Ending.TheVariants as ending
use Rattle.meaning.specs.declared.answers.Stepped.{Stepped}
use Rattle.meaning.specs.declared.answers.Stepped.TheVariants as stepped
use Rattle.meaning.specs.declared.due.Due.{Due}
use Rattle.meaning.specs.declared.refusal.Refusal.{Refusal}
use Rattle.meaning.specs.declared.refusal.Refusal.TheVariants as refusal
use Rattle.meaning.specs.declared.roll.Entry.TheVariants.{Fired}
use Rattle.meaning.specs.declared.roll.Firing.{Firing}
use Rattle.meaning.specs.Setup.{Setup, State}
use Rattle.meaning.specs.Instances.{IsDue, DueIs}
use Rattle.meaning.specs.Enumeration.{due_of}
use Rattle.meaning.specs.Firing.{fire}
use Rattle.meaning.specs.Calls.{fired_or_failed, Course, one_more, onward, Adds, sighted, look_answer, Sees, LooksTo}
use Rattle.meaning.specs.Calls.{firing_answer, firing_after, step_answer, step_after, Fires, Refuses, Steps, StepsTo, StepsBy, course, run_answer, run_after, Runs, RunsTo}
use Rattle.meaning.specs.Calls.Refuses.{over, stays}
use Rattle.meaning.specs.Calls.ByNumber.{over as numbered_over, stays as numbered_stays}
use Rattle.meaning.specs.Calls.Runs.{counts, fires, fails, rests, refuses}
use Rattle.meaning.proofs.Agreement.{due_is}
use Rattle.meaning.proofs.PublishedCalls.{made}
use Rattle.tally.proofs.Orderly.{Fit, Orderly, orderly_step_after}
use Rattle.tally.proofs.Refused.{turned_down}

-- Records that firings add to a roll

adds_none : (t u : State) → u ≡ t → Adds 0 t u
adds_none t u e = record { firings = []; counted = refl; roll = ap (λ (x : State). x.roll) e ∙ sym (append-nil t.roll) }

adds_one_more : (t v u : State) (g : Firing) (k : ℕ) → v.roll ≡ t.roll ++ Fired g ∷ [] → Adds k v u → Adds (suc k) t u
adds_one_more t v u g k e a = record {
  firings = g ∷ a.firings;
  counted = ap suc a.counted;
  roll = a.roll ∙ ap (λ es. es ++ map Fired a.firings) e ∙ append_assoc t.roll (Fired g ∷ []) (map Fired a.firings);
}

module _ {R : Type 0} (s : Setup R) (t u : State) where
  -- the due instance of a firing as it stands on the roll
  abbrev pub firing_of : {b : Bool} → Fires s t u b → Firing
  firing_of f = record { rule = f.due.rule; ids = f.due.ids }

  pub fires_adds : (b : Bool) (f : Fires s t u b) → u.roll ≡ t.roll ++ Fired (firing_of f) ∷ []
  fires_adds b f = sym (ap (λ (x : State). x.roll) (made s t f.due.rule f.due.ids u f.fires).state)

-- The course of a run, by the answer of its first step

module _ {R : Type 0} (s : Setup R) (t : State) (n : ℕ) where
  by_first : (a : Result Stepped Refusal) → step_answer s t ≡ a → course s (suc n) t ≡ onward a (step_after s t) (course s n (step_after s t))
  by_first a e = ap (λ x. onward x (step_after s t) (course s n (step_after s t))) e

  pub course_more : step_answer s t ≡ Ok stepped.Fired → course s (suc n) t ≡ one_more (course s n (step_after s t))
  course_more e = by_first (Ok stepped.Fired) e

  pub course_fails : step_answer s t ≡ Ok stepped.Failed → course s (suc n) t ≡ record { state = step_after s t; firings = 1; ending = ending.Failed }
  course_fails e = by_first (Ok stepped.Failed) e

  pub course_rests : step_answer s t ≡ Ok stepped.Final → course s (suc n) t ≡ record { state = step_after s t; firings = 0; ending = ending.Final }
  course_rests e = by_first (Ok stepped.Final) e

  pub course_refused : (r : Refusal) → step_answer s t ≡ Err r → course s (suc n) t ≡ record { state = step_after s t; firings = 0; ending = ending.Refused r }
  course_refused r e = by_first (Err r) e

  -- a course goes on as its first step and what comes after it do
  runs_onward : (u : State) (c : Course) (a : Result Stepped Refusal) → StepsBy s t u a → Runs s c.state u n c.firings c.ending
      → Runs s (onward a u c).state t (suc n) (onward a u c).firings (onward a u c).ending
  runs_onward u c (Ok stepped.Fired) f r = fires t u n c.firings c.ending f r
  runs_onward u c (Ok stepped.Failed) f r = fails t n f
  runs_onward u c (Ok stepped.Final) f r = rests t n f
  runs_onward u c (Err e) f r = refuses t n e f

-- In words

refused_with : {A : Type 0} (x : Result A Refusal) (e : Refusal) → result_err x ≡ Some e → x ≡ Err e
refused_with (Ok a) e q = cc
refused_with (Err r) e q = let same : r ≡ e = cc in ap Err same

module _ {R : Type 0} (s : Setup R) (fit : Fit s) (t : State) (ok : Orderly t) where
  pub due_is_due : DueIs s t (due_of s t)
  due_is_due = due_is s t fit.ranks ok.rising fit.bound fit.sizes

  -- Look

  sees : (b : Bool) → t.failed ≡ b → (o : Option (Due R)) → DueIs s t o → Sees s t (cond b (Err refusal.Failed) (Ok (sighted s t o)))
  sees true f o d = record { failed = f; number = refl }
  sees false f None d = record { unfailed = f; none = d }
  sees false f (Some d) i = record {
    unfailed = f;
    due = d;
    rule = refl;
    ids = refl;
    is_due = i;
    refused = refl;
    by_number = λ e q. turned_down s t d.rule d.ids e (refused_with (fire s t d.rule d.ids) e q);
  }

  pub looks_as_said : LooksTo s t (look_answer s t)
  looks_as_said = record { value = refl; sees = sees t.failed refl (due_of s t) due_is_due }

  -- Step

  steps_by_outcome : t.failed ≡ false → (d : Due R) → IsDue s t d → (x : Result State Refusal) → fire s t d.rule d.ids ≡ x
      → StepsBy s t (kept_or x t) (and_then x (λ u. Ok (fired_or_failed u)))
  steps_by_outcome f d i (Err r) e = record { refuses = stays f d i e refl; number = numbered_stays f d i (turned_down s t d.rule d.ids r e) }
  steps_by_outcome f d i (Ok u) e = go u.failed refl where
    go : (b : Bool) → u.failed ≡ b → StepsBy s t u (Ok (cond b stepped.Failed stepped.Fired))
    go true g = record { live = f; due = d; is_due = i; fires = e; fails = g }
    go false g = record { live = f; due = d; is_due = i; fires = e; fails = g }

  steps_by_due : t.failed ≡ false → (o : Option (Due R)) → DueIs s t o → StepsBy s t (firing_after s t o) (firing_answer s t o)
  steps_by_due f None d = record { live = f; none = d; same = refl }
  steps_by_due f (Some d) i = steps_by_outcome f d i (fire s t d.rule d.ids) refl

  steps_by_failed : (b : Bool) → t.failed ≡ b
      → StepsBy s t (cond b t (firing_after s t (due_of s t))) (cond b (Err refusal.Failed) (firing_answer s t (due_of s t)))
  steps_by_failed true f = record { refuses = over f refl refl; number = numbered_over f refl }
  steps_by_failed false f = steps_by_due f (due_of s t) due_is_due

  pub steps_by_said : StepsBy s t (step_after s t) (step_answer s t)
  steps_by_said = steps_by_failed t.failed refl

  -- a refusal by its number is one
  refuses_only : (u : State) (x : Result Stepped Refusal) → StepsBy s t u x → Steps s t u x
  refuses_only u (Ok stepped.Fired) f = f
  refuses_only u (Ok stepped.Failed) f = f
  refuses_only u (Ok stepped.Final) f = f
  refuses_only u (Err r) f = f.refuses

  pub steps_as_said : StepsTo s t (step_after s t) (step_answer s t)
  steps_as_said = record { value = refl; after = refl; steps = refuses_only (step_after s t) (step_answer s t) steps_by_said }

-- Run with a count

module _ {R : Type 0} (s : Setup R) where
  refuses_same : (t u : State) (r : Refusal) → Refuses s t u r → u ≡ t
  refuses_same t u r (over f e same) = same
  refuses_same t u r (stays f d i e same) = same

  -- as many firings are on the roll as were made
  pub runs_add : (u t : State) (n k : ℕ) (e : Ending) → Runs s u t n k e → Adds k t u
  runs_add u t n k e (counts _ same) = adds_none t u same
  runs_add u t n k e (fires _ v m j _ f r) = adds_one_more t v u (firing_of s t v f) j (fires_adds s t v false f) (runs_add u v m j e r)
  runs_add u t n k e (fails _ m f) = adds_one_more t u u (firing_of s t u f) 0 (fires_adds s t u true f) (adds_none u u refl)
  runs_add u t n k e (rests _ m r) = adds_none t u r.same
  runs_add u t n k e (refuses _ m x r) = adds_none t u (refuses_same t u x r.refuses)

  module _ (fit : Fit s) where
    course_runs : (n : ℕ) (t : State) → Orderly t → Runs s (course s n t).state t n (course s n t).firings (course s n t).ending
    course_runs zero t ok = counts t refl
    course_runs (suc n) t ok =
        runs_onward s t n (step_after s t) (course s n (step_after s t)) (step_answer s t) (steps_by_said s fit t ok)
        (course_runs n (step_after s t) (orderly_step_after s t ok))

    pub runs_as_said : (t : State) (ok : Orderly t) (n : ℕ) → RunsTo s t n (run_after s t n) (run_answer s t n)
    runs_as_said t ok n =
        let r = course_runs n t ok in
        record { value = refl; after = refl; runs = r; adds = runs_add (course s n t).state t n (course s n t).firings (course s n t).ending r }
