-- What look and step answer, from what the search and the firing found.
use Rattle.std.proofs.Common.{◌≡◌, ℕ, suc, ◌+◌, ◌<◌, ◌≤◌, Bool, true, false, cond, ◌&&◌, leb, List, [], ◌∷◌, length, Some, None, Ok, Err, Option, Result, sym, refl, ap, ◌∙◌, subst, inl, inr, ⊎_elim, arith}
use Rattle.std.proofs.lemmas.Bool.{and_parts, leb-true}
use Rattle.facts.specs.Positions.{all}
use Rattle.rules.specs.Rules.{Rule, small, head_in_range}
use Rattle.meaning.specs.declared.answers.Sight.{Sight}
use Rattle.meaning.specs.declared.answers.Sight.TheVariants as sight
use Rattle.meaning.specs.declared.answers.Stepped.{Stepped}
use Rattle.meaning.specs.declared.answers.Stepped.TheVariants as stepped
use Rattle.meaning.specs.declared.due.Due.{Due}
use Rattle.meaning.specs.declared.refusal.Refusal.{Refusal}
use Rattle.meaning.specs.declared.roll.Firing.{Firing}
use Rattle.meaning.specs.declared.refusal.Refusal.TheVariants as refusal
use Rattle.meaning.specs.Setup.{Setup, State}
use Rattle.meaning.specs.Words.{Numbered}
use Rattle.meaning.specs.Instances.{DueIs, IsDue}
use Rattle.meaning.specs.Enumeration.{due_of}
use Rattle.meaning.specs.Calls.{firing_answer, firing_after, sighted, look_answer, step_answer, step_after}
use Rattle.meaning.proofs.TakenHeads.{waiting_taken}
use Rattle.tally.proofs.Orderly.{Fit, Orderly}
use Rattle.tally.proofs.Steps.{due_is_due}
use Rattle.run.specs.Clearing.{Fireable, FiresTo}

-- a numbered rule is in the book
numbered_within : (rs : List Rule) (n k : ℕ) (r : Rule) → Numbered n rs k r → (n ≤ k) × (k < n + length rs)
numbered_within [] n k r h = absurd h
numbered_within (q ∷ rs) n k r h =
    ⊎_elim (λ a. let e = a.0 in (omega arith, omega arith)) (λ b. let m = numbered_within rs (suc n) k r b in (omega arith, omega arith)) h

-- what holds of every rule holds of the one of a number
numbered_all : (test : Rule → Bool) (rs : List Rule) (n k : ℕ) (r : Rule) → all test rs ≡ true → Numbered n rs k r → test r ≡ true
numbered_all test [] n k r a h = absurd h
numbered_all test (q ∷ rs) n k r a (inl e) = ap test e.1 ∙ (and_parts (test q) (all test rs) a).0
numbered_all test (q ∷ rs) n k r a (inr h) = numbered_all test rs (suc n) k r ((and_parts (test q) (all test rs) a).1) h

abbrev firing : ℕ → List ℕ → Firing
firing n is = record { rule = n; ids = is }

same_firing : {n m : ℕ} {is js : List ℕ} → n ≡ m → is ≡ js → firing n is ≡ firing m js
same_firing p q = λ i. firing (p i) (q i)

-- the firing of an instance
abbrev pub firing_of : {R : Type 0} → Due R → Firing
firing_of d = record { rule = d.rule; ids = d.ids }

module _ {R : Type 0} (s : Setup R) (t : State) where
  pub over_answer : t.failed ≡ true → Err refusal.Failed ≡ step_answer s t
  over_answer f = ap (λ b. cond b (Err refusal.Failed) (firing_answer s t (due_of s t))) (sym f)

  pub over_after : t.failed ≡ true → t ≡ step_after s t
  over_after f = ap (λ b. cond b t (firing_after s t (due_of s t))) (sym f)

  pub over_look : t.failed ≡ true → Err refusal.Failed ≡ look_answer s t
  over_look f = ap (λ b. cond b (Err refusal.Failed) (Ok (sighted s t (due_of s t)))) (sym f)

  module _ (unfailed : t.failed ≡ false) (o : Option (Due R)) (e : o ≡ due_of s t) where
    pub found_answer : firing_answer s t o ≡ step_answer s t
    found_answer = ap (λ x. firing_answer s t x) e ∙ ap (λ b. cond b (Err refusal.Failed) (firing_answer s t (due_of s t))) (sym unfailed)

    pub found_after : firing_after s t o ≡ step_after s t
    found_after = ap (λ x. firing_after s t x) e ∙ ap (λ b. cond b t (firing_after s t (due_of s t))) (sym unfailed)

    pub found_look : Ok (sighted s t o) ≡ look_answer s t
    found_look = ap (λ x. Ok (sighted s t x)) e ∙ ap (λ b. cond b (Err refusal.Failed) (Ok (sighted s t (due_of s t)))) (sym unfailed)

  -- a firing of the due instance is a step
  pub fires_step : t.failed ≡ false → (d : Due R) → Some d ≡ due_of s t → (g : Firing) → g ≡ firing_of d
      → (u : State) (r : Result Stepped Refusal) → FiresTo s t g u r → (u ≡ step_after s t) × (r ≡ step_answer s t)
  fires_step f d e g named u r h =
      let k = subst (λ x. FiresTo s t x u r) named h in
      (k.after ∙ found_after f (Some d) e, k.value ∙ found_answer f (Some d) e)

  -- What look has answered says what a step will do.

  pub look_err : (x : Refusal) → Err x ≡ look_answer s t → (t ≡ step_after s t) × (Err x ≡ step_answer s t)
  look_err x h = by_failed t.failed refl h where
    by_failed : (b : Bool) → t.failed ≡ b → Err x ≡ cond b (Err refusal.Failed) (Ok (sighted s t (due_of s t))) → (t ≡ step_after s t) × (Err x ≡ step_answer s t)
    by_failed true f q = let k : x ≡ refusal.Failed = cc in (over_after f, ap Err k ∙ over_answer f)
    by_failed false f q = cc

  pub look_final : Ok sight.Final ≡ look_answer s t → (t ≡ step_after s t) × (Ok stepped.Final ≡ step_answer s t)
  look_final h = by_failed t.failed refl h where
    by_due : t.failed ≡ false → (o : Option (Due R)) → o ≡ due_of s t → ◌≡◌ {A = Result Sight Refusal} (Ok sight.Final) (Ok (sighted s t o)) → (t ≡ step_after s t) × (Ok stepped.Final ≡ step_answer s t)
    by_due f None e q = (found_after f None e, found_answer f None e)
    by_due f (Some d) e q = cc

    by_failed : (b : Bool) → t.failed ≡ b → Ok sight.Final ≡ cond b (Err refusal.Failed) (Ok (sighted s t (due_of s t))) → (t ≡ step_after s t) × (Ok stepped.Final ≡ step_answer s t)
    by_failed true f q = cc
    by_failed false f q = by_due f (due_of s t) refl q

  pub record Held (g : Firing) : Type 0 where
    pub unfailed : t.failed ≡ false
    pub due : Due R
    pub found : Some due ≡ due_of s t
    pub named : g ≡ firing_of due

  pub look_due : (n : ℕ) (is : List ℕ) (x : Option Refusal) → Ok (sight.Due n is x) ≡ look_answer s t → Held (record { rule = n; ids = is })
  look_due n is x h = by_failed t.failed refl h where
    by_due : t.failed ≡ false → (o : Option (Due R)) → o ≡ due_of s t → ◌≡◌ {A = Result Sight Refusal} (Ok (sight.Due n is x)) (Ok (sighted s t o)) → Held (record { rule = n; ids = is })
    by_due f None e q = cc
    by_due f (Some d) e q = record { unfailed = f; due = d; found = e; named = same_firing (let p : n ≡ d.rule = cc in p) (let p : is ≡ d.ids = cc in p) }

    by_failed : (b : Bool) → t.failed ≡ b → Ok (sight.Due n is x) ≡ cond b (Err refusal.Failed) (Ok (sighted s t (due_of s t))) → Held (record { rule = n; ids = is })
    by_failed true f q = cc
    by_failed false f q = by_due f (due_of s t) refl q

  -- the due instance may be fired or refused
  pub due_fireable : Fit s → Orderly t → (d : Due R) → Some d ≡ due_of s t → (g : Firing) → g ≡ firing_of d → Fireable s t g
  due_fireable fit ok d e g named =
      let is_due : IsDue s t d = subst (DueIs s t) (sym e) (due_is_due s fit t ok) in
      let w = is_due.waits in
      let m = numbered_within s.rules 1 d.rule w.rule w.numbered in
      let small_rule = numbered_all small s.rules 1 d.rule w.rule fit.sizes w.numbered in
      let few = leb-true (length w.rule.heads) 4 (and_parts (leb (length w.rule.heads) 4) (all head_in_range w.rule.heads) small_rule).0 in
      let fireable : Fireable s t (firing_of d) = record {
        from_one = omega (arith, m.0);
        in_book = omega (arith, m.1);
        taken = waiting_taken s t d w ok.rising few;
      } in
      subst (Fireable s t) (sym named) fireable
