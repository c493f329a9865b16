-- Firings and hand-ins that are accepted or refused, taken apart.
use Rattle.std.proofs.Common.{◌≡◌, ℕ, ◌+◌, ◌-◌, Bool, true, false, cond, ltb, leb, List, [], length, ℤ, Ok, Err, Result}
use Rattle.std.proofs.lemmas.Bool.{false≢true}
use Rattle.facts.specs.Positions.{unused_clear, is_zero}
use Rattle.rules.specs.Results.{and_then, unless}
use Rattle.rules.specs.Rules.{Rule, arity_of}
use Rattle.meaning.specs.declared.refusal.Refusal.{Refusal}
use Rattle.meaning.specs.declared.refusal.Refusal.TheVariants as refusal
use Rattle.meaning.specs.declared.refusal.Site.TheVariants as site
use Rattle.meaning.specs.declared.refusal.WorkingFault.{WorkingFault}
use Rattle.meaning.specs.declared.written.Written.{Written}
use Rattle.meaning.specs.Setup.{Setup, State}
use Rattle.meaning.specs.Enumeration.{unbound}
use Rattle.meaning.specs.Firing.{bindings, of_rule, body_of, taken_ids, rule_at, roll_places, after_firing, body_worked, fire, ok_or, used_values, after_hand_in, hand_in}
use Rattle.meaning.proofs.PublishedBody.{passed}

-- Refusals.

of_rule_err : {A : Type 0} (n : ℕ) (x : Result A WorkingFault) (e : Refusal) → of_rule n x ≡ Err e → (f : WorkingFault) × (e ≡ refusal.Body n f)
of_rule_err n (Ok a) e q = cc
of_rule_err n (Err f) e q = (f, cc)

allowed : {B : Type 0} (b : Bool) (r : Refusal) (f : Unit {0} → Result B Refusal) (y : B) → and_then (unless b r) f ≡ Ok y → f tt ≡ Ok y
allowed true r f y e = e
allowed false r f y e = cc

-- Firings and hand-ins.

module _ {R : Type 0} (s : Setup R) (t : State) where
  abbrev pub with_room : Rule → ℕ → List ℕ → List Written → Result State Refusal
  with_room r n is ws =
      and_then (unless (leb (length ws) (s.rows - length t.facts + length (taken_ids r.heads is))) (refusal.NoRow (site.Rule n))) (λ _.
      and_then (unless (ltb (length t.roll) roll_places) (refusal.RollFull (site.Rule n))) (λ _.
      Ok (after_firing s t r n is ws)))

  room_made : (r : Rule) (n : ℕ) (is : List ℕ) (ws : List Written) (u : State) → with_room r n is ws ≡ Ok u → after_firing s t r n is ws ≡ u
  room_made r n is ws u e =
      let a = allowed (leb (length ws) (s.rows - length t.facts + length (taken_ids r.heads is))) (refusal.NoRow (site.Rule n))
      (λ _. and_then (unless (ltb (length t.roll) roll_places) (refusal.RollFull (site.Rule n))) (λ _. Ok (after_firing s t r n is ws))) u e in
      let b = allowed (ltb (length t.roll) roll_places) (refusal.RollFull (site.Rule n)) (λ _. Ok (after_firing s t r n is ws)) u a in
      (cc)

  -- which never is for want of a body
  pub room_refused : (r : Rule) (n : ℕ) (is : List ℕ) (ws : List Written) (m : ℕ) (f : WorkingFault) → with_room r n is ws ≡ Err (refusal.Body m f) → ⊥
  room_refused r n is ws m f e =
      go (leb (length ws) (s.rows - length t.facts + length (taken_ids r.heads is))) (ltb (length t.roll) roll_places) e
    where
      go : (a b : Bool) → and_then (unless a (refusal.NoRow (site.Rule n))) (λ _. and_then (unless b (refusal.RollFull (site.Rule n))) (λ _. Ok (after_firing s t r n is ws)))
          ≡ Err (refusal.Body m f) → ⊥
      go true true e = cc
      go true false e = cc
      go false b e = cc

  -- what was written, and what it led to
  pub record Made (r : Rule) (n : ℕ) (is : List ℕ) (u : State) : Type 0 where
    pub body : List Written
    pub worked : body_worked s t r n is ≡ Ok body
    pub state : after_firing s t r n is body ≡ u

  pub made : (n : ℕ) (is : List ℕ) (u : State) → fire s t n is ≡ Ok u → Made (rule_at s.rules n) n is u
  made n is u e =
      let r = rule_at s.rules n in
      let p = passed (body_worked s t r n is) (with_room r n is) u e in
      record { body = p.0; worked = p.1; state = room_made r n is p.0 u p.2 }

  pub failing_writes_nothing : (r : Rule) (n : ℕ) (is : List ℕ) (ws : List Written) → r.fails ≡ true → body_worked s t r n is ≡ Ok ws → ws ≡ []
  failing_writes_nothing r n is ws f e = go r.fails f e where
    go : (b : Bool) → b ≡ true → cond b (Ok []) (of_rule n (body_of s.works (bindings t.facts r.heads is unbound) r.facts 1)) ≡ Ok ws → ws ≡ []
    go true f e = cc
    go false f e = absurd (false≢true f)

  -- a body that is not worked out is refused as such
  pub body_refused : (r : Rule) (n : ℕ) (is : List ℕ) (e : Refusal) → body_worked s t r n is ≡ Err e → (f : WorkingFault) × (e ≡ refusal.Body n f)
  body_refused r n is e q = go r.fails q where
    go : (b : Bool) → cond b (Ok []) (of_rule n (body_of s.works (bindings t.facts r.heads is unbound) r.facts 1)) ≡ Err e → (f : WorkingFault) × (e ≡ refusal.Body n f)
    go true q = cc
    go false q = of_rule_err n (body_of s.works (bindings t.facts r.heads is unbound) r.facts 1) e q

  pub handed_in : (k : ℕ) (vs : List ℤ) (u : State) → hand_in s t k vs ≡ Ok u → after_hand_in s t k vs ≡ u
  handed_in k vs u e =
      let a = allowed (cond t.failed false true) refusal.Failed _ u e in
      let b = allowed (ltb k 32) refusal.OutOfRange _ u a in
      let c = passed (ok_or s t (arity_of s.kinds k) refusal.NotDeclared) _ u b in
      let d = allowed (unused_clear is_zero c.0 vs) refusal.UnusedFilled _ u c.2 in
      let f = allowed (used_values s t s.value c.0 vs) refusal.NotAValue _ u d in
      let g = allowed (ltb (length t.facts) s.rows) (refusal.NoRow site.HandIn) _ u f in
      let h = allowed (ltb (length t.roll) roll_places) (refusal.RollFull site.HandIn) _ u g in
      (cc)
