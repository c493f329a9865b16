-- Every record on the roll was justified when it was made: what every call keeps.
use Rattle.std.proofs.Common.{◌≡◌, ℕ, zero, suc, ◌≤◌, Bool, true, false, cond, ◌⊎◌, List, [], ◌∷◌, ◌++◌, length, ℤ, Some, None, Ok, Err, Option, Result, sym, refl, ap, ◌∙◌, subst, inl, inr}
use Rattle.facts.specs.declared.Fact.{Fact}
use Rattle.rules.specs.Results.{kept_or}
use Rattle.rules.specs.Rules.{Rule, small}
use Rattle.meaning.specs.declared.answers.Stepped.{Stepped}
use Rattle.meaning.specs.declared.answers.Stepped.TheVariants as stepped
use Rattle.meaning.specs.declared.due.Due.{Due}
use Rattle.meaning.specs.declared.refusal.Refusal.{Refusal}
use Rattle.meaning.specs.declared.refusal.WorkingFault.{WorkingFault}
use Rattle.meaning.specs.declared.roll.Entry.{Entry}
use Rattle.meaning.specs.declared.roll.Entry.TheVariants.{HandedIn, Fired}
use Rattle.meaning.specs.declared.roll.Firing.{Firing}
use Rattle.meaning.specs.declared.written.Written.{Written}
use Rattle.meaning.specs.Setup.{Setup, State, opening}
use Rattle.meaning.specs.Words.{In, All, Different}
use Rattle.meaning.specs.Instances.{ids_of, padded, Waits, IsDue, DueIs}
use Rattle.meaning.specs.Enumeration.{due_of}
use Rattle.meaning.specs.Enumeration.{unbound}
use Rattle.meaning.specs.Firing.{bindings, of_rule, body_of, taken_ids, rule_at, after_firing, fire, handed, hand_in}
use Rattle.meaning.specs.Calls.{Course, course, onward, firing_after, hand_in_after, step_answer, step_after, run_after}
use Rattle.meaning.proofs.Lists.{all_at}
use Rattle.meaning.proofs.PublishedCalls.{made, handed_in}
use Rattle.meaning.proofs.PublishedRoll.{few_heads, numbered_in}
use Rattle.meaning.proofs.TakenHeads.{taken_live, taken_different, numbered_rule_at}
use Rattle.tally.specs.declared.calls.Call.{Call}
use Rattle.tally.specs.declared.calls.Call.TheVariants as call
use Rattle.tally.specs.Account.{as_posted, Accepted, FiredDue, state_at, EachHandIn, EachFiring}
use Rattle.tally.specs.Tally.{after_call, tally_from, tally}
use Rattle.tally.proofs.Ledgers.{Books, opening_books, hand_in_books, firing_books}
use Rattle.tally.proofs.Orderly.{Fit, Orderly, orderly_opening, orderly_hand_in, orderly_fire}
use Rattle.tally.proofs.Steps.{due_is_due}

-- An item of a list with one more at its end is that one, or stands in the list.

first_same : {A : Type 0} (x y : A) (xs ys : List A) → x ∷ xs ≡ y ∷ ys → x ≡ y
first_same x y xs ys e = cc

rest_same : {A : Type 0} (x y : A) (xs ys : List A) → x ∷ xs ≡ y ∷ ys → xs ≡ ys
rest_same x y xs ys e = cc

pub nothing_before : {A : Type 0} (before : List A) (y : A) (rest : List A) → [] ≡ before ++ y ∷ rest → ⊥
nothing_before [] y rest e = cc
nothing_before (b ∷ before) y rest e = cc

cons_same : {A : Type 0} (x y : A) (xs ys : List A) → x ≡ y → xs ≡ ys → x ∷ xs ≡ y ∷ ys
cons_same x y xs ys p q = cc

pub last_or_within : {A : Type 0} (xs before rest : List A) (x y : A) → xs ++ x ∷ [] ≡ before ++ y ∷ rest
    → ((before ≡ xs) × (y ≡ x)) ⊎ ((more : List A) × (xs ≡ before ++ y ∷ more))
last_or_within [] [] rest x y e = inl (refl, sym (first_same x y [] rest e))
last_or_within [] (b ∷ before) rest x y e = absurd (nothing_before before y rest (rest_same x b [] (before ++ y ∷ rest) e))
last_or_within (z ∷ xs) [] rest x y e = inr (xs, ap (λ w. w ∷ xs) (first_same z y (xs ++ x ∷ []) rest e))
last_or_within (z ∷ xs) (b ∷ before) rest x y e =
    let same = first_same z b (xs ++ x ∷ []) (before ++ y ∷ rest) e in
    elim (last_or_within xs before rest x y (rest_same z b (xs ++ x ∷ []) (before ++ y ∷ rest) e)) [
      | inl p ↦ inl (cons_same b z before xs (sym same) p.0, p.1)
      | inr p ↦ inr (p.0, cons_same z b xs (before ++ y ∷ p.0) same p.1)
    ]

same_fact : (f g : Fact) → HandedIn f ≡ HandedIn g → f ≡ g
same_fact f g e = cc

same_firing : (f g : Firing) → Fired f ≡ Fired g → f ≡ g
same_firing f g e = cc

handed_not_fired : (f : Fact) (g : Firing) → HandedIn f ≡ Fired g → ⊥
handed_not_fired f g e = cc

-- What a body that was worked out writes.
body_written : (n : ℕ) (fails : Bool) (x : Result (List Written) WorkingFault) (ws : List Written)
    → cond fails (Ok []) (of_rule n x) ≡ Ok ws → ws ≡ cond fails [] (kept_or x [])
body_written n true x ws e = cc
body_written n false (Ok vs) ws e = cc
body_written n false (Err f) ws e = cc

-- a course leaves the state of its first step, or of the rest
left_by_course : (P : State → Type 0) (r : Result Stepped Refusal) (u : State) (c : Course) → P u → P c.state → P (onward r u c).state
left_by_course P (Ok stepped.Fired) u c a b = b
left_by_course P (Ok stepped.Failed) u c a b = a
left_by_course P (Ok stepped.Final) u c a b = a
left_by_course P (Err e) u c a b = a

-- What firings of the due instance keep, steps and runs keep.
module _ {R : Type 0} (s : Setup R) (P : State → Type 0)
    (firing : (t u : State) (d : Due R) → t.failed ≡ false → due_of s t ≡ Some d → fire s t d.rule d.ids ≡ Ok u → P t → P u) where
  kept_by_firing : (t : State) → t.failed ≡ false → P t → (o : Option (Due R)) → due_of s t ≡ o → P (firing_after s t o)
  kept_by_firing t live p None due = p
  kept_by_firing t live p (Some d) due = go (fire s t d.rule d.ids) refl where
    go : (x : Result State Refusal) → fire s t d.rule d.ids ≡ x → P (kept_or x t)
    go (Ok u) e = firing t u d live due e p
    go (Err r) e = p

  pub kept_by_step : (t : State) → P t → P (step_after s t)
  kept_by_step t p = go t.failed refl where
    go : (b : Bool) → t.failed ≡ b → P (cond b t (firing_after s t (due_of s t)))
    go true f = p
    go false f = kept_by_firing t f p (due_of s t) refl

  pub kept_by_run : (n : ℕ) (t : State) → P t → P (run_after s t n)
  kept_by_run zero t p = p
  kept_by_run (suc n) t p =
      let after = kept_by_step t p in
      left_by_course P (step_answer s t) (step_after s t) (course s n (step_after s t)) after (kept_by_run n (step_after s t) after)

-- What accepted hand-ins keep too, every call keeps.
module _ {R : Type 0} (s : Setup R) (P : State → Type 0)
    (handing : (t u : State) (k : ℕ) (vs : List ℤ) → hand_in s t k vs ≡ Ok u → P t → P u)
    (firing : (t u : State) (d : Due R) → t.failed ≡ false → due_of s t ≡ Some d → fire s t d.rule d.ids ≡ Ok u → P t → P u) where
  pub kept_by_hand_in : (t : State) (k : ℕ) (vs : List ℤ) → P t → P (hand_in_after s t k vs)
  kept_by_hand_in t k vs p = go (hand_in s t k vs) refl where
    go : (x : Result State Refusal) → hand_in s t k vs ≡ x → P (kept_or x t)
    go (Ok u) e = handing t u k vs e p
    go (Err r) e = p

  pub kept_by_call : (t : State) (c : Call) → P t → P (after_call s t c)
  kept_by_call t (call.HandIn k vs) p = kept_by_hand_in t k vs p
  kept_by_call t (call.Read id) p = p
  kept_by_call t call.Look p = p
  kept_by_call t call.Step p = kept_by_step s P firing t p
  kept_by_call t (call.Run n) p = kept_by_run s P firing n t p
  kept_by_call t call.ChooseAndFire p = kept_by_step s P firing t p
  kept_by_call t call.ChooseAndLayAside p = p

  kept_from : (cs : List Call) (t : State) → P t → P (tally_from s t cs)
  kept_from [] t p = p
  kept_from (c ∷ cs) t p = kept_from cs (after_call s t c) (kept_by_call t c p)

  pub kept_by_calls : (cs : List Call) → P opening → P (tally s cs)
  kept_by_calls cs p = kept_from cs opening p

module _ {R : Type 0} (s : Setup R) where
  -- What is accepted or fired is posted.

  pub handed_is_posted : (t u : State) (k : ℕ) (vs : List ℤ) → hand_in s t k vs ≡ Ok u → u ≡ as_posted s t (HandedIn (handed s t k vs))
  handed_is_posted t u k vs e = sym (handed_in s t k vs u e)

  pub fired_is_posted : (t u : State) (n : ℕ) (is : List ℕ) → fire s t n is ≡ Ok u → u ≡ as_posted s t (Fired (record { rule = n; ids = is }))
  fired_is_posted t u n is e =
      let m = made s t n is u e in
      let r = rule_at s.rules n in
      sym m.state
      ∙ ap (λ ws. after_firing s t r n is ws)
      (body_written n r.fails (body_of s.works (bindings t.facts r.heads is unbound) r.facts 1) m.body m.worked)

  -- Over a roll with one more record.

  pub each_hand_in_more : (P : State → Fact → Type 0) (es : List Entry) (e : Entry) → EachHandIn s P es
      → ((f : Fact) → HandedIn f ≡ e → P (state_at s es) f) → EachHandIn s P (es ++ e ∷ [])
  each_hand_in_more P es e each last = λ before rest f q. elim (last_or_within es before rest e (HandedIn f) q) [
    | inl p ↦ subst (λ xs. P (state_at s xs) f) (sym p.0) (last f p.1)
    | inr p ↦ each before p.0 f p.1
  ]

  pub each_firing_more : (P : State → Firing → Type 0) (es : List Entry) (e : Entry) → EachFiring s P es
      → ((g : Firing) → Fired g ≡ e → P (state_at s es) g) → EachFiring s P (es ++ e ∷ [])
  each_firing_more P es e each last = λ before rest g q. elim (last_or_within es before rest e (Fired g) q) [
    | inl p ↦ subst (λ xs. P (state_at s xs) g) (sym p.0) (last g p.1)
    | inr p ↦ each before p.0 g p.1
  ]

  -- the roll accounts for the state, ids are in order, and each record was justified
  pub record Justly (t : State) : Type 0 where
    pub books : Books s.rules s.works t
    pub orderly : Orderly t
    pub hand_ins : EachHandIn s (Accepted s) t.roll
    pub firings : EachFiring s (FiredDue s) t.roll

  pub justly_opening : Justly opening
  justly_opening = record {
    books = opening_books s.rules s.works;
    orderly = orderly_opening;
    hand_ins = λ before rest f q. absurd (nothing_before before (HandedIn f) rest q);
    firings = λ before rest g q. absurd (nothing_before before (Fired g) rest q);
  }

  pub justly_hand_in : (t u : State) (k : ℕ) (vs : List ℤ) → hand_in s t k vs ≡ Ok u → Justly t → Justly u
  justly_hand_in t u k vs e j =
      let f = handed s t k vs in
      let p = handed_is_posted t u k vs e in
      let back = sym p in
      let accepted : Accepted s t f = record { as_said = e ∙ ap Ok p } in
      record {
        books = subst (Books s.rules s.works) back (hand_in_books s.rules s.works t f j.books refl);
        orderly = orderly_hand_in s t k vs u e j.orderly;
        hand_ins = subst (λ (v : State). EachHandIn s (Accepted s) v.roll) back
            (each_hand_in_more (Accepted s) t.roll (HandedIn f) j.hand_ins
            (λ g q. subst (λ v. Accepted s v g) j.books.replays (subst (Accepted s t) (sym (same_fact g f q)) accepted)));
        firings = subst (λ (v : State). EachFiring s (FiredDue s) v.roll) back
            (each_firing_more (FiredDue s) t.roll (HandedIn f) j.firings (λ g q. absurd (handed_not_fired f g (sym q))));
      }

  module _ (fit : Fit s) where
    -- What a due instance takes is live and different.

    few : (t : State) (d : Due R) (w : Waits s t d) → length w.rule.heads ≤ 4
    few t d w = few_heads w.rule (all_at small s.rules w.rule fit.sizes (numbered_in 1 s.rules d.rule w.rule w.numbered))

    -- what holds of the ids that the instance's rule takes, holds of those that its firing takes
    as_taken : (P : List ℕ → Type 0) (t : State) (d : Due R) (w : Waits s t d)
        → P (taken_ids w.rule.heads (padded (ids_of w.facts))) → P (taken_ids (rule_at s.rules d.rule).heads d.ids)
    as_taken P t d w p =
        subst (λ (r : Rule). P (taken_ids r.heads d.ids)) (sym (numbered_rule_at s.rules d.rule w.rule w.numbered))
        (subst (λ is. P (taken_ids w.rule.heads is)) (sym w.named) p)

    pub waiting_takes_live : (t : State) (d : Due R) → Waits s t d
        → All (λ i. In i (ids_of t.facts)) (taken_ids (rule_at s.rules d.rule).heads d.ids)
    waiting_takes_live t d w =
        as_taken (All (λ i. In i (ids_of t.facts))) t d w (taken_live t.facts w.rule.heads w.σ w.facts w.instance (few t d w))

    pub waiting_takes_different : (t : State) (d : Due R) → Waits s t d → Different (taken_ids (rule_at s.rules d.rule).heads d.ids)
    waiting_takes_different t d w =
        as_taken Different t d w (taken_different t.facts w.rule.heads w.σ w.facts w.instance (few t d w))

    pub justly_fire : (t u : State) (d : Due R) → t.failed ≡ false → IsDue s t d → fire s t d.rule d.ids ≡ Ok u → Justly t → Justly u
    justly_fire t u d live due e j =
        let g : Firing = record { rule = d.rule; ids = d.ids } in
        let p = fired_is_posted t u d.rule d.ids e in
        let back = sym p in
        let fired : FiredDue s t g = record { unfailed = live; due = d; named = refl; is_due = due; fires = e ∙ ap Ok p } in
        record {
          books = subst (Books s.rules s.works) back
              (firing_books s.rules s.works t g j.books (waiting_takes_live t d due.waits) (waiting_takes_different t d due.waits));
          orderly = orderly_fire s t d.rule d.ids u e j.orderly;
          hand_ins = subst (λ (v : State). EachHandIn s (Accepted s) v.roll) back
              (each_hand_in_more (Accepted s) t.roll (Fired g) j.hand_ins (λ f q. absurd (handed_not_fired f g q)));
          firings = subst (λ (v : State). EachFiring s (FiredDue s) v.roll) back
              (each_firing_more (FiredDue s) t.roll (Fired g) j.firings
              (λ h q. subst (λ v. FiredDue s v h) j.books.replays (subst (FiredDue s t) (sym (same_firing h g q)) fired)));
        }

    -- So every call keeps it.

    pub justly_due_fire : (t u : State) (d : Due R) → t.failed ≡ false → due_of s t ≡ Some d → fire s t d.rule d.ids ≡ Ok u
        → Justly t → Justly u
    justly_due_fire t u d live due e j = justly_fire t u d live (subst (DueIs s t) due (due_is_due s fit t j.orderly)) e j

    pub justly_after_call : (t : State) (c : Call) → Justly t → Justly (after_call s t c)
    justly_after_call t c j = kept_by_call s Justly justly_hand_in justly_due_fire t c j

    pub justly_tally : (cs : List Call) → Justly (tally s cs)
    justly_tally cs = kept_by_calls s Justly justly_hand_in justly_due_fire cs justly_opening
