-- What waits is applicable and what is applicable waits; the due instance is ready and, where its
-- body is worked out, applied.
use Rattle.std.proofs.Common.{◌≡◌, ℕ, ◌≤◌, Bool, true, false, cond, ◌&&◌, leb, List, [], ◌∷◌, ◌++◌, map, length, ℤ, Ok, Err, Result, sym, refl, ap, ◌∙◌, subst, inl, inr, arith}
use Rattle.std.proofs.lemmas.List.{length-map, map-append}
use Rattle.std.proofs.lemmas.Bool.{and_parts}
use Rattle.facts.specs.Positions.{all}
use Rattle.facts.specs.declared.Fact.{Fact}
use Rattle.records.specs.declared.parts.Head.{Head}
use Rattle.rules.specs.Rules.{Rule, closed, small, headed, parts_bound, bound, guard_bound, fact_bound, head_in_range}
use Rattle.meaning.specs.declared.due.Due.{Due}
use Rattle.meaning.specs.declared.refusal.WorkingFault.{WorkingFault}
use Rattle.meaning.specs.declared.roll.Firing.{Firing}
use Rattle.meaning.specs.declared.written.Written.{Written}
use Rattle.meaning.specs.Setup.{Setup, State}
use Rattle.meaning.specs.Words.{In, Both, Different, Numbered}
use Rattle.meaning.specs.Instances.{Agrees, ids_of, padded, Waits, IsDue, DueIs}
use Rattle.meaning.specs.Enumeration.{Env, unbound}
use Rattle.meaning.specs.Agreement.{Proper}
use Rattle.meaning.specs.Firing.{bindings, of_rule, body_of, taken_ids, taking_off, rule_at, body_worked}
use Rattle.meaning.specs.Published.{Constraint, fact, fail, Execution, Loses, kept, removed, tuple, Writes, priority, Applicable, Ready, Applies, at_heads, heads_of, tuple_of, history_of, as_published, Shape, Shaped, Turn, firing_of, due_tuple}
use Rattle.meaning.proofs.Lists.{in_front, in_back, in_either, all_at, all_from}
use Rattle.meaning.proofs.Agreement.{due_is}
use Rattle.meaning.proofs.PublishedHeads.{both_long, all_in, padded_front, at_heads_map, at_heads_in, at_heads_padded, in_at_heads, different_parts, different_whole, agree_at_heads, Merged, merged}
use Rattle.meaning.proofs.PublishedRoll.{rule_numbered, numbered_in, few_heads, fired_in_history, history_fired}
use Rattle.meaning.proofs.PublishedBody.{fits_unbound, Binding, bindings_bind, body_under, under_body}
use Rattle.meaning.proofs.PublishedStore.{gains_push, taken_at_heads, loses_facts}

abbrev pub exec : List Constraint → List Fact → List (List ℕ) → ℕ → Execution
exec g s h n = record { goal = g; store = s; history = h; next = n }

of_rule_ok : {A : Type 0} (n : ℕ) (x : Result A WorkingFault) (y : A) → of_rule n x ≡ Ok y → x ≡ Ok y
of_rule_ok n (Ok a) y e = let q : a ≡ y = cc in ap Ok q
of_rule_ok n (Err f) y e = cc

abbrev firing : ℕ → List ℕ → Firing
firing n is = record { rule = n; ids = is }

module _ {R : Type 0} (s : Setup R) (t : State) where
  abbrev P : Execution
  P = as_published s t

  -- Instances and what is applicable.

  rule_small : all small s.rules ≡ true → (n : ℕ) (r : Rule) → Numbered 1 s.rules n r → small r ≡ true
  rule_small few n r h = all_at small s.rules r few (numbered_in 1 s.rules n r h)

  heads_are : (n : ℕ) (r : Rule) → Numbered 1 s.rules n r → heads_of s n ≡ r.heads
  heads_are n r h = ap (λ (x : Rule). x.heads) (rule_numbered s.rules n r h)

  -- the ids at the heads so marked
  ids_at : (marked : Head → Bool) (hs : List Head) (fs : List Fact) → length fs ≡ length hs → length hs ≤ 4
      → at_heads marked hs (padded (ids_of fs)) ≡ ids_of (at_heads marked hs fs)
  ids_at marked hs fs l few =
      at_heads_padded marked hs (ids_of fs) (length-map fs (λ f. f.id) ∙ l) few ∙ at_heads_map marked (λ f. f.id) hs fs

  ids_of_parts : (hs : List Head) (fs : List Fact)
      → ids_of (at_heads kept hs fs ++ at_heads removed hs fs) ≡ at_heads kept hs (ids_of fs) ++ at_heads removed hs (ids_of fs)
  ids_of_parts hs fs =
      let a = map-append (λ (f : Fact). f.id) (at_heads kept hs fs) (at_heads removed hs fs) in
      let b = at_heads_map kept (λ (f : Fact). f.id) hs fs in
      let c = at_heads_map removed (λ (f : Fact). f.id) hs fs in
      (cc)

  tuple_named : all small s.rules ≡ true → (n : ℕ) (r : Rule) (fs : List Fact) → Numbered 1 s.rules n r → length fs ≡ length r.heads
      → tuple_of s (firing n (padded (ids_of fs))) ≡ tuple (ids_of (at_heads kept r.heads fs)) (ids_of (at_heads removed r.heads fs)) n
  tuple_named few n r fs h l =
      let small_heads = few_heads r (rule_small few n r h) in
      let a = ids_at kept r.heads fs l small_heads in
      let b = ids_at removed r.heads fs l small_heads in
      ap (λ hs. tuple (at_heads kept hs (padded (ids_of fs))) (at_heads removed hs (padded (ids_of fs))) n) (heads_are n r h)
      ∙ (λ i. tuple (a i) (b i) n)

  -- what waits where a rule is applicable
  pub record Rival (n : ℕ) (r : Rule) (σ : ℕ → ℤ) (ks rs : List Fact) : Type 0 where
    pub due : Due R
    pub waits : Waits s t due
    pub rule : waits.rule ≡ r
    pub numbers : waits.σ ≡ σ
    pub ranked : due.rank ≡ priority s r σ
    pub named : due_tuple s due ≡ tuple (ids_of ks) (ids_of rs) n

  pub rival : all small s.rules ≡ true → (n : ℕ) (r : Rule) (σ : ℕ → ℤ) (ks rs : List Fact) → Applicable s P n r σ ks rs → Rival n r σ ks rs
  rival few n r σ ks rs a = record {
    due = record { rule = n; ids = padded (ids_of m.facts); rank = priority s r σ };
    waits = record {
      rule = r;
      numbered = a.rule;
      σ = σ;
      facts = m.facts;
      instance = record { alive = all_from (λ f. In f t.facts) m.facts alive; different = different; agree = m.agree };
      named = refl;
      applicable = a.guards;
      unfired = λ i. a.unfired (subst (λ x. In x (history_of s t.roll)) same (fired_in_history s t.roll (firing n (padded (ids_of m.facts))) i));
      ranked = refl;
    };
    rule = refl;
    numbers = refl;
    ranked = refl;
    named = same;
  } where
    m : Merged σ r.heads ks rs
    m = merged σ r.heads ks rs a.keeps a.removes

    long : length m.facts ≡ length r.heads
    long = both_long (Agrees σ) r.heads m.facts m.agree

    alive : (f : Fact) → In f m.facts → In f t.facts
    alive f i = all_in (λ f. In f t.facts) (ks ++ rs) f a.stored (elim (in_at_heads r.heads m.facts f long i) [
      | inl j ↦ in_front f ks rs (subst (In f) m.keeps j)
      | inr j ↦ in_back f ks rs (subst (In f) m.removes j)
    ])

    ids : ids_of (ks ++ rs) ≡ at_heads kept r.heads (ids_of m.facts) ++ at_heads removed r.heads (ids_of m.facts)
    ids = (λ i. ids_of (sym m.keeps i ++ sym m.removes i)) ∙ ids_of_parts r.heads m.facts

    different : Different (ids_of m.facts)
    different =
        different_whole r.heads (ids_of m.facts) (length-map m.facts (λ f. f.id) ∙ long) (subst Different ids a.different)

    same : tuple_of s (firing n (padded (ids_of m.facts))) ≡ tuple (ids_of ks) (ids_of rs) n
    same = tuple_named few n r m.facts a.rule long ∙ (λ i. tuple (ids_of (m.keeps i)) (ids_of (m.removes i)) n)

  module _ (d : Due R) where
    waits_long : (w : Waits s t d) → length w.facts ≡ length w.rule.heads
    waits_long w = both_long (Agrees w.σ) w.rule.heads w.facts w.instance.agree

    pub waits_shape : (w : Waits s t d) → Shape s (firing_of s d)
    waits_shape w = record {
      heads_ids = ids_of w.facts;
      long = length-map w.facts (λ f. f.id) ∙ waits_long w ∙ ap length (sym (heads_are d.rule w.rule w.numbered));
      ids = w.named;
    }

    abbrev keeps : Waits s t d → List Fact
    keeps w = at_heads kept w.rule.heads w.facts

    abbrev removes : Waits s t d → List Fact
    removes w = at_heads removed w.rule.heads w.facts

    pub waits_tuple : all small s.rules ≡ true → (w : Waits s t d) → tuple_of s (firing_of s d) ≡ tuple (ids_of (keeps w)) (ids_of (removes w)) d.rule
    waits_tuple few w =
        ap (λ is. tuple_of s (firing d.rule is)) w.named ∙ tuple_named few d.rule w.rule w.facts w.numbered (waits_long w)

    pub waits_applicable : all small s.rules ≡ true → Shaped s t → (w : Waits s t d) → Applicable s P d.rule w.rule w.σ (keeps w) (removes w)
    waits_applicable few shaped w = record {
      rule = w.numbered;
      stored = all_from (λ f. In f t.facts) (keeps w ++ removes w) (λ f i. all_in (λ f. In f t.facts) w.facts f w.instance.alive (elim (in_either f (keeps w) (removes w) i) [
        | inl j ↦ at_heads_in kept w.rule.heads w.facts f j
        | inr j ↦ at_heads_in removed w.rule.heads w.facts f j
      ]));
      different = subst Different (sym (ids_of_parts w.rule.heads w.facts)) (different_parts w.rule.heads (ids_of w.facts) w.instance.different);
      keeps = agree_at_heads kept w.σ w.rule.heads w.facts w.instance.agree;
      removes = agree_at_heads removed w.σ w.rule.heads w.facts w.instance.agree;
      guards = w.applicable;
      unfired = λ i. w.unfired (history_fired s t (firing_of s d) few shaped (waits_shape w)
          (subst (λ x. In x (history_of s t.roll)) (sym (waits_tuple few w)) i));
    }

    -- What is due is ready.

    pub turn_due : Turn s t d → IsDue s t d
    turn_due turn =
        let p = turn.proper in
        subst (DueIs s t) turn.due (due_is s t p.ranks p.ids p.bound p.sizes)

    abbrev pub ready : Turn s t d → IsDue s t d → Ready s P (tuple_of s (firing_of s d))
    ready turn i = record {
      number = d.rule;
      rule = i.waits.rule;
      σ = i.waits.σ;
      keeps = keeps i.waits;
      removes = removes i.waits;
      named = waits_tuple turn.proper.sizes i.waits;
      idle = ap (λ b. cond b (fail ∷ []) []) turn.unfailed;
      applicable = waits_applicable turn.proper.sizes turn.shaped i.waits;
      best = λ n r ρ ks rs a.
          let o = rival turn.proper.sizes n r ρ ks rs a in
          let b = i.best o.due o.waits in
          let c = o.ranked in
          let e = i.waits.ranked in
          subst (λ x. s.better (priority s r ρ) x ≡ false) e (subst (λ x. s.better x d.rank ≡ false) c b);
    }

    -- and with its body worked out it is applied.

    abbrev pub midway : Rule → List Written → Execution
    midway r ws =
        exec (cond r.fails (fail ∷ []) (map fact ws)) (taking_off (taken_ids r.heads d.ids) t.facts)
        (history_of s t.roll ++ tuple_of s (firing_of s d) ∷ []) t.next

    ids_removed : all small s.rules ≡ true → (w : Waits s t d) → taken_ids w.rule.heads d.ids ≡ ids_of (removes w)
    ids_removed few w =
        taken_at_heads w.rule.heads d.ids ∙ ap (at_heads removed w.rule.heads) w.named
        ∙ ids_at removed w.rule.heads w.facts (waits_long w) (few_heads w.rule (rule_small few d.rule w.rule w.numbered))

    store_loses : Proper s t → (w : Waits s t d) → Loses t.facts (removes w) (taking_off (taken_ids w.rule.heads d.ids) t.facts)
    store_loses p w =
        subst (λ is. Loses t.facts (removes w) (taking_off is t.facts)) (sym (ids_removed p.sizes w))
        (loses_facts t.facts (removes w) p.ids (λ f i. all_in (λ f. In f t.facts) w.facts f w.instance.alive (at_heads_in removed w.rule.heads w.facts f i)))

    abbrev found_by : Waits s t d → Env
    found_by w = bindings t.facts w.rule.heads d.ids unbound

    binds-σ : Proper s t → (w : Waits s t d) → Binding w.σ w.rule.heads unbound (found_by w)
    binds-σ p w =
        let size = rule_small p.sizes d.rule w.rule w.numbered in
        let few = few_heads w.rule size in
        let range = (and_parts (leb (length w.rule.heads) 4) (all head_in_range w.rule.heads) size).1 in
        let l = length-map w.facts (λ f. f.id) ∙ waits_long w in
        let z = padded_front (ids_of w.facts) (omega arith) in
        subst (λ is. Binding w.σ w.rule.heads unbound (bindings t.facts w.rule.heads is unbound)) (sym (w.named ∙ z.1))
        (bindings_bind t.facts w.σ w.rule.heads w.facts z.0 unbound p.ids refl range (fits_unbound w.σ) w.instance.alive w.instance.agree)

    facts_bound : Proper s t → (w : Waits s t d) → all (fact_bound w.rule.heads) w.rule.facts ≡ true
    facts_bound p w =
        let r = w.rule in
        let c = all_at closed s.rules r p.bound (numbered_in 1 s.rules d.rule r w.numbered) in
        let parts = and_parts (parts_bound r) (bound r.heads r.rank) (and_parts (headed r) (parts_bound r && bound r.heads r.rank) c).1 in
        (and_parts (all (guard_bound r.heads) r.guards) (all (fact_bound r.heads) r.facts) parts.0).1

    body_writes : Proper s t → (w : Waits s t d) (ws : List Written) → body_worked s t w.rule d.rule d.ids ≡ Ok ws
        → w.rule.fails ≡ false → Both (Writes s.works w.σ) w.rule.facts ws
    body_writes p w ws e f =
        body_under s.works w.σ w.rule.heads (found_by w) (binds-σ p w).binding w.rule.facts 1 ws (facts_bound p w)
        (of_rule_ok d.rule (body_of s.works (found_by w) w.rule.facts 1) ws
        (subst (λ b. cond b (Ok []) (of_rule d.rule (body_of s.works (found_by w) w.rule.facts 1)) ≡ Ok ws) f e))

    applied : Turn s t d → (i : IsDue s t d) (ws : List Written) → body_worked s t i.waits.rule d.rule d.ids ≡ Ok ws
        → Applies s P (tuple_of s (firing_of s d)) (midway i.waits.rule ws)
    applied turn i ws e = record {
      ready = ready turn i;
      body = ws;
      worked = body_writes turn.proper i.waits ws e;
      goal = refl;
      store = store_loses turn.proper i.waits;
      history = gains_push (history_of s t.roll) (tuple_of s (firing_of s d));
      next = refl;
    }

    pub body_given : Proper s t → (w : Waits s t d) (ws : List Written)
        → (w.rule.fails ≡ false → Both (Writes s.works w.σ) w.rule.facts ws)
        → (us : List Written) × (body_worked s t w.rule d.rule d.ids ≡ Ok us)
    body_given p w ws h = go w.rule.fails h where
      go : (b : Bool) → (b ≡ false → Both (Writes s.works w.σ) w.rule.facts ws)
          → (us : List Written) × (cond b (Ok []) (of_rule d.rule (body_of s.works (found_by w) w.rule.facts 1)) ≡ Ok us)
      go true h = ([], refl)
      go false h = (
        ws,
        ap (of_rule d.rule)
            (under_body s.works w.σ w.rule.heads (found_by w) (binds-σ p w).binding w.rule.facts 1 ws (facts_bound p w) (h refl)),
      )

    abbrev pub its_rule : Rule
    its_rule = rule_at s.rules d.rule

    pub applies : Turn s t d → (ws : List Written) → body_worked s t its_rule d.rule d.ids ≡ Ok ws
        → Applies s P (tuple_of s (firing_of s d)) (midway its_rule ws)
    applies turn =
        let i = turn_due turn in
        subst (λ r. (ws : List Written) → body_worked s t r d.rule d.ids ≡ Ok ws → Applies s P (tuple_of s (firing_of s d)) (midway r ws))
        (sym (rule_numbered s.rules d.rule i.waits.rule i.waits.numbered)) (applied turn i)
