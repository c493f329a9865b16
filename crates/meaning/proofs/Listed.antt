-- What waits is enumerated, and what is enumerated waits.
use Rattle.std.proofs.Common.{◌≡◌, ℕ, zero, suc, Bool, true, false, cond, not, ◌&&◌, eqb, leb, List, [], ◌∷◌, length, get_or, replicate, ℤ, pos, Some, None, Option, unwrap_or, sym, refl, ap, ◌∙◌, subst, subst₂, inl, inr}
use Rattle.std.proofs.lemmas.Bool.{eqb-true, eq-eqb, and_parts, and_from, cond-true, not-true, not_from_false, both_ways, false≢true}
use Rattle.facts.specs.Positions.{all}
use Rattle.records.specs.declared.parts.Guard.{Guard}
use Rattle.records.specs.declared.parts.Head.{Head}
use Rattle.records.specs.declared.parts.Operand.{Operand}
use Rattle.records.specs.declared.parts.Operand.TheVariants.{Constant, Variable}
use Rattle.rules.specs.Rules.{Rule, binds, bound, guard_bound, fact_bound, parts_bound, headed, closed, small, head_in_range}
use Rattle.meaning.specs.declared.roll.Entry.{Entry}
use Rattle.meaning.specs.declared.roll.Entry.TheVariants.{HandedIn, Fired}
use Rattle.meaning.specs.declared.due.Due.{Due}
use Rattle.meaning.specs.Setup.{Setup, State}
use Rattle.meaning.specs.Words.{In, All, Numbered}
use Rattle.meaning.specs.Instances.{number, padded, Yes, Waits}
use Rattle.meaning.specs.Enumeration.{Env, unbound, worth, Match, instances, same_ids, fires, fired, applies, instance_of, waiting, waiting_of, waiting_from, all_waiting}
use Rattle.meaning.proofs.Lists.{in_front, in_back, in_either, in_joined, source, all_at, any_at, passing, all_from}
use Rattle.meaning.proofs.Bindings.{none_some, at, reading, number_reading, Fits}
use Rattle.meaning.proofs.Members.{Found, found, Listed, listed_match}
use Rattle.meaning.proofs.Rows.{waiting_is}

-- The roll.

same_ids_true : (is js : List ℕ) → same_ids is js ≡ true → is ≡ js
same_ids_true [] [] t = refl
same_ids_true [] (j ∷ js) t = absurd (false≢true t)
same_ids_true (i ∷ is) [] t = absurd (false≢true t)
same_ids_true (i ∷ is) (j ∷ js) t =
    let p = and_parts (eqb i j) (same_ids is js) t in
    let a = eqb-true i j p.0 in
    let b = same_ids_true is js p.1 in
    (cc)

same_ids_self : (is : List ℕ) → same_ids is is ≡ true
same_ids_self [] = refl
same_ids_self (i ∷ is) = and_from (eqb i i) (same_ids is is) (eq-eqb i i refl) (same_ids_self is)

abbrev firing : ℕ → List ℕ → Entry
firing n is = Fired (record { rule = n; ids = is })

fires_is : (n : ℕ) (is : List ℕ) (e : Entry) → fires n is e ≡ true → firing n is ≡ e
fires_is n is (HandedIn f) t = absurd (false≢true t)
fires_is n is (Fired f) t =
    let p = and_parts (eqb f.rule n) (same_ids f.ids is) t in
    let a = eqb-true f.rule n p.0 in
    let b = same_ids_true f.ids is p.1 in
    λ i. firing (sym a i) (sym b i)

pub fired_on_roll : (roll : List Entry) (n : ℕ) (is : List ℕ) → fired roll n is ≡ true → In (firing n is) roll
fired_on_roll roll n is t =
    let p = passing (fires n is) roll t in
    subst (λ e. In e roll) (sym (fires_is n is p.item p.passes)) p.given

pub on_roll_fired : (roll : List Entry) (n : ℕ) (is : List ℕ) → In (firing n is) roll → fired roll n is ≡ true
on_roll_fired roll n is i =
    any_at (fires n is) roll (firing n is) i (and_from (eqb n n) (same_ids is is) (eq-eqb n n refl) (same_ids_self is))

not_fired : (roll : List Entry) (n : ℕ) (is : List ℕ) → (In (firing n is) roll → ⊥) → fired roll n is ≡ false
not_fired roll n is h = go (fired roll n is) refl where
  go : (b : Bool) → fired roll n is ≡ b → fired roll n is ≡ false
  go true t = absurd (h (fired_on_roll roll n is t))
  go false t = t

-- At the start nothing is bound.

nothing_at : (n v : ℕ) → ◌≡◌ {A = Option ℤ} (get_or (replicate n None) v None) None
nothing_at zero v = refl
nothing_at (suc n) zero = refl
nothing_at (suc n) (suc v) = nothing_at n v

fits_unbound : (σ : ℕ → ℤ) → Fits σ unbound
fits_unbound σ v n h = absurd (none_some n (sym (nothing_at 12 v) ∙ h))

-- an operand that the heads bind is worth what σ gives it
worth_bound : (hs : List Head) (σ : ℕ → ℤ) (e : Env) → ((v : ℕ) → binds hs v ≡ true → at e v ≡ Some (σ v)) → (o : Operand) → bound hs o ≡ true → worth e o ≡ number σ o
worth_bound hs σ e h (Constant n) b = refl
worth_bound hs σ e h (Variable v) b = ap (λ x. unwrap_or x (pos 0)) (h v b)

-- Rules by their numbers.

numbered_in : (n : ℕ) (rs : List Rule) (k : ℕ) (r : Rule) → Numbered n rs k r → In r rs
numbered_in n [] k r h = absurd h
numbered_in n (x ∷ rs) k r (inl h) = inl h.1
numbered_in n (x ∷ rs) k r (inr h) = inr (numbered_in (suc n) rs k r h)

module _ {R : Type 0} (s : Setup R) (t : State) where
  -- the rule of which an enumerated instance is one
  record Placed (n : ℕ) (rs : List Rule) (d : Due R) : Type 0 where
    number : ℕ
    rule : Rule
    numbered : Numbered n rs number rule
    made : In d (waiting_of s t number rule)

  placed : (n : ℕ) (rs : List Rule) (d : Due R) → In d (waiting_from s t n rs) → Placed n rs d
  placed n [] d i = absurd i
  placed n (r ∷ rs) d i = elim (in_either d (waiting_of s t n r) (waiting_from s t (suc n) rs) i) [
    | inl j ↦ record { number = n; rule = r; numbered = inl (refl, refl); made = j }
    | inr j ↦ let p = placed (suc n) rs d j in record { number = p.number; rule = p.rule; numbered = inr p.numbered; made = p.made }
  ]

  from_rule : (n : ℕ) (rs : List Rule) (k : ℕ) (r : Rule) (d : Due R) → Numbered n rs k r → In d (waiting_of s t k r) → In d (waiting_from s t n rs)
  from_rule n [] k r d h i = absurd h
  from_rule n (x ∷ rs) k r d (inl h) i =
      in_front d (waiting_of s t n x) (waiting_from s t (suc n) rs) (subst₂ (λ m y. In d (waiting_of s t m y)) h.0 h.1 i)
  from_rule n (x ∷ rs) k r d (inr h) i =
      in_back d (waiting_of s t n x) (waiting_from s t (suc n) rs) (from_rule (suc n) rs k r d h i)

  -- What is enumerated waits.

  waiting_tests : (n : ℕ) (r : Rule) (m : Match) (d : Due R) → In d (waiting s t n r m)
      → (all (applies s t m.env) r.guards && not (fired t.roll n (padded m.ids))) ≡ true
  waiting_tests n r m d i = go (all (applies s t m.env) r.guards && not (fired t.roll n (padded m.ids))) refl i where
    go : (b : Bool) → (all (applies s t m.env) r.guards && not (fired t.roll n (padded m.ids))) ≡ b
        → In d (cond b (instance_of s t n r m ∷ []) []) → (all (applies s t m.env) r.guards && not (fired t.roll n (padded m.ids))) ≡ true
    go true e i = e
    go false e i = absurd i

  match_waits : (n : ℕ) (r : Rule) (m : Match) → Numbered 1 s.rules n r → Found t.facts r.heads [] unbound m
      → (all (applies s t m.env) r.guards && not (fired t.roll n (padded m.ids))) ≡ true → Waits s t (instance_of s t n r m)
  match_waits n r m numbered f tests = record {
    rule = r;
    numbered = numbered;
    σ = reading m.env;
    facts = f.facts;
    instance = record { alive = f.alive; different = f.different; agree = f.agree m.env (λ v k h. h) };
    named = ap padded f.named;
    applicable = all_from (Yes s (reading m.env)) r.guards
        (λ g i. subst₂ (λ a b. s.says g.comparator a b ≡ true)
        (sym (number_reading m.env g.left)) (sym (number_reading m.env g.right))
        (all_at (applies s t m.env) r.guards g parts.0 i));
    unfired = λ i. both_ways (fired t.roll n (padded m.ids)) (not-true (fired t.roll n (padded m.ids)) parts.1)
        (on_roll_fired t.roll n (padded m.ids) i);
    ranked = ap (s.rank r.band) (sym (number_reading m.env r.rank));
  } where
    parts : (all (applies s t m.env) r.guards ≡ true) × (not (fired t.roll n (padded m.ids)) ≡ true)
    parts = and_parts (all (applies s t m.env) r.guards) (not (fired t.roll n (padded m.ids))) tests

  pub listed_waits : all small s.rules ≡ true → (d : Due R) → In d (all_waiting s t) → Waits s t d
  listed_waits few d i =
      let p = placed 1 s.rules d i in
      let r = p.rule in
      let size = all_at small s.rules r few (numbered_in 1 s.rules p.number r p.numbered) in
      let range = (and_parts (leb (length r.heads) 4) (all head_in_range r.heads) size).1 in
      let o = source (waiting s t p.number r) (instances t.facts r.heads [] unbound) d p.made in
      let m = o.item in
      let f = found t.facts r.heads [] unbound m refl range o.given in
      subst (Waits s t) (sym (waiting_is s t p.number r m d o.made))
      (match_waits p.number r m p.numbered f (waiting_tests p.number r m d o.made))

  -- What waits is enumerated.

  abbrev due_from : ℕ → List ℕ → R → Due R
  due_from n is k = record { rule = n; ids = is; rank = k }

  guards_apply : (σ : ℕ → ℤ) (e : Env) (hs : List Head) (gs : List Guard) → ((o : Operand) → bound hs o ≡ true → worth e o ≡ number σ o)
      → all (guard_bound hs) gs ≡ true → All (Yes s σ) gs → all (applies s t e) gs ≡ true
  guards_apply σ e hs [] h b a = refl
  guards_apply σ e hs (g ∷ gs) h b a =
      let p = and_parts (guard_bound hs g) (all (guard_bound hs) gs) b in
      let q = and_parts (bound hs g.left) (bound hs g.right) p.0 in
      and_from (applies s t e g) (all (applies s t e) gs)
      (subst₂ (λ x y. s.says g.comparator x y ≡ true) (sym (h g.left q.0)) (sym (h g.right q.1)) a.0)
      (guards_apply σ e hs gs h p.1 a.1)

  waits_of : (d : Due R) (w : Waits s t d) → closed w.rule ≡ true → Listed t.facts w.rule.heads [] unbound w.σ w.facts
      → In d (waiting_of s t d.rule w.rule)
  waits_of d w c l =
      in_joined (waiting s t d.rule r) (instances t.facts r.heads [] unbound) m d l.given
      (subst (In d) (sym (cond-true (all (applies s t m.env) r.guards && not (fired t.roll d.rule (padded m.ids))) (instance_of s t d.rule r m ∷ []) [] tests)) (inl same))
    where
      r : Rule
      r = w.rule

      m : Match
      m = l.it

      parts : (parts_bound r ≡ true) × (bound r.heads r.rank ≡ true)
      parts = and_parts (parts_bound r) (bound r.heads r.rank) (and_parts (headed r) (parts_bound r && bound r.heads r.rank) c).1

      worths : (o : Operand) → bound r.heads o ≡ true → worth m.env o ≡ number w.σ o
      worths = worth_bound r.heads w.σ m.env l.binding

      ids : d.ids ≡ padded m.ids
      ids = w.named ∙ ap padded (sym l.named)

      unfired : fired t.roll d.rule (padded m.ids) ≡ false
      unfired = subst (λ is. fired t.roll d.rule is ≡ false) ids (not_fired t.roll d.rule d.ids w.unfired)

      tests : (all (applies s t m.env) r.guards && not (fired t.roll d.rule (padded m.ids))) ≡ true
      tests = and_from (all (applies s t m.env) r.guards) (not (fired t.roll d.rule (padded m.ids)))
          (guards_apply w.σ m.env r.heads r.guards worths (and_parts (all (guard_bound r.heads) r.guards) (all (fact_bound r.heads) r.facts) parts.0).0 w.applicable)
          (not_from_false (fired t.roll d.rule (padded m.ids)) unfired)

      rank : d.rank ≡ s.rank r.band (worth m.env r.rank)
      rank = w.ranked ∙ ap (s.rank r.band) (sym (worths r.rank parts.1))

      same : d ≡ instance_of s t d.rule r m
      same = λ i. due_from d.rule (ids i) (rank i)

  pub waits_listed : all closed s.rules ≡ true → all small s.rules ≡ true → (d : Due R) → Waits s t d → In d (all_waiting s t)
  waits_listed shut few d w =
      let r = w.rule in
      let i = numbered_in 1 s.rules d.rule r w.numbered in
      let range = (and_parts (leb (length r.heads) 4) (all head_in_range r.heads) (all_at small s.rules r few i)).1 in
      from_rule 1 s.rules d.rule r d w.numbered
      (waits_of d w (all_at closed s.rules r shut i)
      (listed_match t.facts r.heads [] unbound w.σ w.facts refl range (fits_unbound w.σ)
      w.instance.alive w.instance.different (λ j u x. u) w.instance.agree))
