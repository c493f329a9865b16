-- The moves of a run are transitions of the published semantics.
use Rattle.std.proofs.Common.{◌≡◌, ℕ, suc, ◌+◌, true, false, cond, List, [], ◌∷◌, ◌++◌, map, length, None, Ok, Err, Result, sym, refl, ap, ◌∙◌, subst, inl, inr, append_assoc, append-nil, arith}
use Rattle.facts.specs.declared.Fact.{Fact}
use Rattle.rules.specs.Results.{and_then}
use Rattle.rules.specs.Rules.{Rule}
use Rattle.meaning.specs.declared.due.Due.{Due}
use Rattle.meaning.specs.declared.refusal.Refusal.{Refusal}
use Rattle.meaning.specs.declared.refusal.Refusal.TheVariants as refusal
use Rattle.meaning.specs.declared.refusal.WorkingFault.{WorkingFault}
use Rattle.meaning.specs.declared.roll.Entry.TheVariants.{HandedIn, Fired}
use Rattle.meaning.specs.declared.roll.Firing.{Firing}
use Rattle.meaning.specs.declared.written.Written.{Written}
use Rattle.meaning.specs.Setup.{Setup, State}
use Rattle.meaning.specs.Words.{Both}
use Rattle.meaning.specs.Instances.{IsDue, DueIs}
use Rattle.meaning.specs.Enumeration.{due_of}
use Rattle.meaning.specs.Agreement.{Proper}
use Rattle.meaning.specs.Firing.{taken_ids, taking_off, numbered_from, rule_at, body_worked, fire, handed, hand_in}
use Rattle.meaning.specs.Published.{Constraint, fact, fail, Execution, identified, Introduces, Introduced, Writes, Applies, Stuck, history_of, as_published, asking, Shape, Shaped, Turn, firing_of, due_tuple, failing, Derives, Follows}
use Rattle.meaning.proofs.Lists.{in_either}
use Rattle.meaning.proofs.Agreement.{due_is}
use Rattle.meaning.proofs.PublishedRoll.{rule_numbered, history_append, one_firing, histories}
use Rattle.meaning.proofs.PublishedStore.{gains_push}
use Rattle.meaning.proofs.PublishedReady.{rival, waits_shape, turn_due, ready, midway, body_given, its_rule, applies, exec}
use Rattle.meaning.proofs.PublishedCalls.{with_room, room_refused, made, failing_writes_nothing, body_refused, handed_in}

-- Goals.

not_nil : {A : Type 0} (xs : List A) (y : A) (ys : List A) → [] ≡ xs ++ y ∷ ys → ⊥
not_nil [] y ys e = cc
not_nil (x ∷ xs) y ys e = cc

not_fact : (xs : List Constraint) (c : Written) (ys : List Constraint) → fail ∷ [] ≡ xs ++ fact c ∷ ys → ⊥
not_fact [] c ys e = cc
not_fact (x ∷ xs) c ys e = let q : [] ≡ xs ++ fact c ∷ ys = cc in not_nil xs (fact c) ys q

-- the facts of a goal are introduced in their order
introduced : (S : List Fact) (H : List (List ℕ)) (n : ℕ) (cs : List Written)
    → Introduced (exec (map fact cs) S H n) cs (exec [] (S ++ numbered_from n cs) H (n + length cs))
introduced S H n [] =
    let a = sym (append-nil S) in
    let b : n ≡ n + 0 = omega arith in
    λ i. exec [] (a i) H (b i)
introduced S H n (c ∷ cs) =
    let a = append_assoc S (identified n c ∷ []) (numbered_from (suc n) cs) in
    let b : suc n + length cs ≡ n + suc (length cs) = omega arith in (
      exec (map fact cs) (S ++ identified n c ∷ []) H (suc n),
      record {
        before = [];
        behind = map fact cs;
        given = refl;
        goal = refl;
        store = gains_push S (identified n c);
        history = refl;
        next = refl;
      },
      subst (Introduced (exec (map fact cs) (S ++ identified n c ∷ []) H (suc n)) cs) (λ i. exec [] (a i) H (b i))
          (introduced (S ++ identified n c ∷ []) H (suc n) cs),
    )

module _ {R : Type 0} (s : Setup R) where
  -- The moves.

  hands_in : (t u : State) (c : Written) → hand_in s t c.kind c.values ≡ Ok u
      → Introduces (asking (as_published s t) c) c (as_published s u)
  hands_in t u c e =
      subst (λ v. Introduces (asking (as_published s t) c) c (as_published s v)) (handed_in s t c.kind c.values u e)
      (record {
        before = cond t.failed (fail ∷ []) [];
        behind = [];
        given = refl;
        goal = sym (append-nil (cond t.failed (fail ∷ []) []));
        store = gains_push t.facts (identified t.next c);
        history = history_append s t.roll (HandedIn (handed s t c.kind c.values) ∷ []) ∙ append-nil (history_of s t.roll);
        next = refl;
      })

  module _ (t : State) (d : Due R) where
    abbrev x : List ℕ
    x = due_tuple s d

    abbrev r : Rule
    r = its_rule s t d

    abbrev left : List Fact
    left = taking_off (taken_ids r.heads d.ids) t.facts

    history_after : history_of s t.roll ++ x ∷ [] ≡ history_of s (t.roll ++ Fired (firing_of s d) ∷ [])
    history_after = sym (history_append s t.roll (Fired (firing_of s d) ∷ []))

    fires : (u : State) → Turn s t d → fire s t d.rule d.ids ≡ Ok u → failing s d ≡ false → Derives s t x u
    fires u turn e f =
        let m = made s t d.rule d.ids u e in
        let g = ap (λ b. cond b (fail ∷ []) (map fact m.body)) f in
        let h = sym (ap (λ b. cond b (fail ∷ []) []) f) in
        record {
          midway = exec (map fact m.body) left (history_of s t.roll ++ x ∷ []) t.next;
          body = m.body;
          applies = subst (λ goal. Applies s (as_published s t) x (exec goal left (history_of s t.roll ++ x ∷ []) t.next)) g
              (applies s t d turn m.body m.worked);
          goal = refl;
          introduced = subst (Introduced (exec (map fact m.body) left (history_of s t.roll ++ x ∷ []) t.next) m.body)
              ((λ i. exec (h i) (left ++ numbered_from t.next m.body) (history_after i) (t.next + length m.body)) ∙ ap (as_published s) m.state)
              (introduced left (history_of s t.roll ++ x ∷ []) t.next m.body);
        }

    fails : (u : State) → Turn s t d → fire s t d.rule d.ids ≡ Ok u → failing s d ≡ true → Applies s (as_published s t) x (as_published s u)
    fails u turn e f =
        let m = made s t d.rule d.ids u e in
        let none = failing_writes_nothing s t r d.rule d.ids m.body f m.worked in
        let g = ap (λ b. cond b (fail ∷ []) (map fact m.body)) f ∙ sym (ap (λ b. cond b (fail ∷ []) []) f) in
        let a = sym (ap (λ ws. left ++ numbered_from t.next ws) none ∙ append-nil left) in
        let k = ap length none in
        let n : t.next ≡ t.next + length m.body = omega arith in
        subst (Applies s (as_published s t) x)
        ((λ i. exec (g i) (a i) (history_after i) (n i)) ∙ ap (as_published s) m.state)
        (applies s t d turn m.body m.worked)

    short : (e : Refusal) → Turn s t d → fire s t d.rule d.ids ≡ Err e → ((n : ℕ) (f : WorkingFault) → e ≡ refusal.Body n f → ⊥)
        → (Q : Execution) × Applies s (as_published s t) x Q
    short e turn q other = go (body_worked s t r d.rule d.ids) refl q where
      go : (y : Result (List Written) Refusal) → body_worked s t r d.rule d.ids ≡ y
          → and_then y (with_room s t r d.rule d.ids) ≡ Err e → (Q : Execution) × Applies s (as_published s t) x Q
      go (Ok ws) p q = (midway s t d r ws, applies s t d turn ws p)
      go (Err f) p q =
          let b = body_refused s t r d.rule d.ids f p in
          let c : f ≡ e = cc in
          absurd (other d.rule b.0 (sym c ∙ b.1))

    -- what has this tuple is this instance, so that its body is worked out too
    applied_worked : Proper s t → IsDue s t d → (Q : Execution) → Applies s (as_published s t) x Q
        → (us : List Written) × (body_worked s t r d.rule d.ids ≡ Ok us)
    applied_worked p i Q a =
        let g = a.ready in
        let o = rival s t p.sizes g.number g.rule g.σ g.keeps g.removes g.applicable in
        let w = o.waits in
        let same = one_firing s (firing_of s o.due) (firing_of s d) p.sizes
        (waits_shape s t o.due w) (waits_shape s t d i.waits) (o.named ∙ sym g.named) in
        let b = body_given s t o.due p w a.body
        (λ f. subst (λ σ. Both (Writes s.works σ) w.rule.facts a.body) (sym o.numbers)
        (subst (λ (q : Rule). Both (Writes s.works g.σ) q.facts a.body) (sym o.rule) (a.worked (ap (λ (q : Rule). q.fails) (sym o.rule) ∙ f)))) in
        let c = rule_numbered s.rules o.due.rule w.rule w.numbered in (
          b.0,
          subst (λ (f : Firing). body_worked s t (rule_at s.rules f.rule) f.rule f.ids ≡ Ok b.0) same
              (subst (λ q. body_worked s t q o.due.rule o.due.ids ≡ Ok b.0) (sym c) b.1),
        )

    unworked : (n : ℕ) (f : WorkingFault) → Turn s t d → fire s t d.rule d.ids ≡ Err (refusal.Body n f)
        → (Q : Execution) → Applies s (as_published s t) x Q → ⊥
    unworked n f turn e Q a =
        let b = applied_worked turn.proper (turn_due s t d turn) Q a in
        room_refused s t r d.rule d.ids b.0 n f
        (subst (λ y. and_then y (with_room s t r d.rule d.ids) ≡ Err (refusal.Body n f)) b.1 e)

  -- No move is left.

  final : (t : State) → Proper s t → t.failed ≡ false → due_of s t ≡ None → Stuck s (as_published s t)
  final t p f none Q (inl m) =
      not_nil m.1.before (fact m.0) m.1.behind (sym (ap (λ b. cond b (fail ∷ []) []) f) ∙ m.1.given)
  final t p f none Q (inr m) =
      let g = m.1.ready in
      let o = rival s t p.sizes g.number g.rule g.σ g.keeps g.removes g.applicable in
      subst (DueIs s t) none (due_is s t p.ranks p.ids p.bound p.sizes) o.due o.waits

  ended : (t : State) → t.failed ≡ true → Stuck s (as_published s t)
  ended t f Q (inl m) =
      not_fact m.1.before m.0 m.1.behind (sym (ap (λ b. cond b (fail ∷ []) []) f) ∙ m.1.given)
  ended t f Q (inr m) =
      not_nil [] fail [] (sym m.1.ready.idle ∙ ap (λ b. cond b (fail ∷ []) []) f)

  -- The roll.

  hands_in_shaped : (t u : State) (c : Written) → Shaped s t → hand_in s t c.kind c.values ≡ Ok u → Shaped s u
  hands_in_shaped t u c shaped e =
      subst (Shaped s) (handed_in s t c.kind c.values u e)
      (λ f i. elim (in_either (Fired f) t.roll (HandedIn (handed s t c.kind c.values) ∷ []) i) [
        | inl j ↦ shaped f j
        | inr j ↦ elim j [ inl q ↦ cc | inr n ↦ absurd n ]
      ])

  fires_shaped : (t u : State) (d : Due R) → Turn s t d → fire s t d.rule d.ids ≡ Ok u → Shaped s u
  fires_shaped t u d turn e =
      subst (Shaped s) (made s t d.rule d.ids u e).state
      (λ f i. elim (in_either (Fired f) t.roll (Fired (firing_of s d) ∷ []) i) [
        | inl j ↦ turn.shaped f j
        | inr j ↦ elim j [
          | inl q ↦ let same : firing_of s d ≡ f = cc in subst (Shape s) same (waits_shape s t d (turn_due s t d turn).waits)
          | inr n ↦ absurd n
        ]
      ])

pub follows : (R : Type 0) → Follows R
follows R = record {
  opens = λ s. refl;
  hands_in = hands_in;
  fires = λ s t u d. fires s t d u;
  fails = λ s t u d. fails s t d u;
  refused = λ s t d e turn q. ready s t d turn (turn_due s t d turn);
  short = λ s t d e. short s t d e;
  unworked = λ s t d n f. unworked s t d n f;
  final = final;
  ended = ended;
  history = histories;
  opens_shaped = λ s f i. absurd i;
  hands_in_shaped = hands_in_shaped;
  fires_shaped = fires_shaped;
}
