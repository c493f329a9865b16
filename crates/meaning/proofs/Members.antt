-- What is enumerated is an instance, and every instance is enumerated.
use Rattle.std.proofs.Common.{◌≡◌, ℕ, Bool, true, false, cond, not, ◌&&◌, eqb, List, [], ◌∷◌, ◌++◌, length, ℤ, Some, None, Option, sym, refl, ap, ◌∙◌, subst, inl, inr, append_assoc, append-nil}
use Rattle.std.proofs.lemmas.Bool.{eqb-true, eq-eqb, and_parts, and_from, or_cases, cond-true, not-true, not_from_false, both_ways}
use Rattle.facts.specs.Positions.{all}
use Rattle.facts.specs.declared.Fact.{Fact}
use Rattle.records.specs.declared.parts.Head.{Head}
use Rattle.rules.specs.Rules.{binds, head_binds, head_in_range}
use Rattle.meaning.specs.Words.{In, All, Both, Different}
use Rattle.meaning.specs.Instances.{Agrees, ids_of}
use Rattle.meaning.specs.Enumeration.{Env, Partner, Match, among, agreed, extended, partner_of, partners, instances}
use Rattle.meaning.proofs.Lists.{in_front, in_back, in_either, in_joined, source, any_at, passing}
use Rattle.meaning.proofs.Bindings.{at, reading, Grows, Fits, Matched, matched, Bound, bound_by}

-- Ids used.

pub among_in : (i : ℕ) (is : List ℕ) → among i is ≡ true → In i is
among_in i is t =
    let p = passing (eqb i) is t in
    subst (λ j. In j is) (sym (eqb-true i p.item p.passes)) p.given

pub in_among : (i : ℕ) (is : List ℕ) → In i is → among i is ≡ true
in_among i is h = any_at (eqb i) is i h (eq-eqb i i refl)

not_among : (i : ℕ) (is : List ℕ) → (In i is → ⊥) → among i is ≡ false
not_among i is h = go (among i is) refl where
  go : (b : Bool) → among i is ≡ b → among i is ≡ false
  go true t = absurd (h (among_in i is t))
  go false t = t

-- Partners.

-- p is what the live fact f gives
pub record Met (live : List Fact) (h : Head) (used : List ℕ) (e : Env) (p : Partner) : Type 0 where
  pub fact : Fact
  pub alive : In fact live
  pub named : p.id ≡ fact.id
  pub kind : fact.kind ≡ h.kind
  pub fresh : In fact.id used → ⊥
  pub binds : agreed h.operands fact.values e ≡ Some p.env

met_fact : (live : List Fact) (h : Head) (used : List ℕ) (e : Env) (p : Partner) (f : Fact) → In f live → In p (partner_of f.id (extended h used e f)) → Met live h used e p
met_fact live h used e p f alive i = go (eqb f.kind h.kind && not (among f.id used)) refl i where
  made : (x : Option Env) → agreed h.operands f.values e ≡ x → (eqb f.kind h.kind && not (among f.id used)) ≡ true → In p (partner_of f.id x) → Met live h used e p
  made None q t i = absurd i
  made (Some env) q t (inl r) =
      let parts = and_parts (eqb f.kind h.kind) (not (among f.id used)) t in
      record {
        fact = f;
        alive = alive;
        named = ap (λ (x : Partner). x.id) r;
        kind = eqb-true f.kind h.kind parts.0;
        fresh = λ j. both_ways (among f.id used) (not-true (among f.id used) parts.1) (in_among f.id used j);
        binds = q ∙ ap (λ (x : Partner). Some x.env) (sym r);
      }
  made (Some env) q t (inr r) = absurd r

  go : (b : Bool) → (eqb f.kind h.kind && not (among f.id used)) ≡ b → In p (partner_of f.id (cond b (agreed h.operands f.values e) None)) → Met live h used e p
  go true t i = made (agreed h.operands f.values e) refl t i
  go false t i = absurd i

pub met : (live : List Fact) (h : Head) (used : List ℕ) (e : Env) (p : Partner) → In p (partners h used e live) → Met live h used e p
met live h used e p i =
    let s = source (λ f. partner_of f.id (extended h used e f)) live p i in
    met_fact live h used e p s.item s.given s.made

pub partner_there : (live : List Fact) (h : Head) (used : List ℕ) (e : Env) (f : Fact) (env : Env) → In f live → f.kind ≡ h.kind → (In f.id used → ⊥) → agreed h.operands f.values e ≡ Some env
    → In (record { id = f.id; env = env }) (partners h used e live)
partner_there live h used e f env alive kind fresh q =
    in_joined (λ g. partner_of g.id (extended h used e g)) live f (record { id = f.id; env = env }) alive
    (subst (λ x. In (record { id = f.id; env = env }) (partner_of f.id x)) (sym (tested ∙ q)) (inl refl))
  where
    tested : extended h used e f ≡ agreed h.operands f.values e
    tested = cond-true (eqb f.kind h.kind && not (among f.id used)) (agreed h.operands f.values e) None
        (and_from (eqb f.kind h.kind) (not (among f.id used)) (eq-eqb f.kind h.kind kind)
        (not_from_false (among f.id used) (not_among f.id used fresh)))

-- Matches.

-- m names, behind the ids used, live facts that match the heads under what m binds
pub record Found (live : List Fact) (hs : List Head) (used : List ℕ) (e : Env) (m : Match) : Type 0 where
  pub facts : List Fact
  pub named : m.ids ≡ used ++ ids_of facts
  pub alive : All (λ f. In f live) facts
  pub different : Different (ids_of facts)
  pub fresh : (i : ℕ) → In i used → In i (ids_of facts) → ⊥
  pub grows : Grows e m.env
  pub agree : (more : Env) → Grows m.env more → Both (Agrees (reading more)) hs facts

found_next : (live : List Fact) (h : Head) (hs : List Head) (used : List ℕ) (e : Env) (m : Match) (p : Partner) → length e ≡ 12 → head_in_range h ≡ true
    → Met live h used e p → Found live hs (used ++ p.id ∷ []) p.env m → Found live (h ∷ hs) used e m
found_next live h hs used e m p l r q rest = record {
  facts = f ∷ rest.facts;
  named =
      rest.named ∙ append_assoc used (p.id ∷ []) (ids_of rest.facts) ∙ ap (λ i. used ++ i ∷ ids_of rest.facts) q.named;
  alive = (q.alive, rest.alive);
  different =
      ((λ i. rest.fresh f.id (in_back f.id used (p.id ∷ []) (inl (sym q.named))) i), rest.different);
  fresh = fresh;
  grows = λ v n h'. rest.grows v n (now.grows v n h');
  agree = λ more g. (
    record { kind = q.kind; values = now.values more (λ v n h'. g v n (rest.grows v n h')) },
    rest.agree more g,
  );
} where
  f : Fact
  f = q.fact

  now : Matched h.operands f.values e p.env
  now = matched h.operands f.values e p.env l r q.binds

  fresh : (i : ℕ) → In i used → In i (f.id ∷ ids_of rest.facts) → ⊥
  fresh i u (inl x) = q.fresh (subst (λ j. In j used) x u)
  fresh i u (inr x) = rest.fresh i (in_front i used (p.id ∷ []) u) x

found_none : (live : List Fact) (used : List ℕ) (e : Env) (m : Match) → In m (instances live [] used e) → Found live [] used e m
found_none live used e m (inl q) =
    subst (Found live [] used e) (sym q)
    (record {
      facts = [];
      named = sym (append-nil used);
      alive = tt;
      different = tt;
      fresh = λ i u x. x;
      grows = λ v n h. h;
      agree = λ more g. tt;
    })
found_none live used e m (inr q) = absurd q

pub found : (live : List Fact) (hs : List Head) (used : List ℕ) (e : Env) (m : Match) → length e ≡ 12 → all head_in_range hs ≡ true
    → In m (instances live hs used e) → Found live hs used e m
found live [] used e m l r i = found_none live used e m i
found live (h ∷ hs) used e m l r i =
    let s = source (λ (p : Partner). instances live hs (used ++ p.id ∷ []) p.env) (partners h used e live) m i in
    let p = s.item in
    let q = met live h used e p s.given in
    let ranges = and_parts (head_in_range h) (all head_in_range hs) r in
    let now = matched h.operands q.fact.values e p.env l ranges.0 q.binds in
    found_next live h hs used e m p l ranges.0 q
    (found live hs (used ++ p.id ∷ []) p.env m (now.long ∙ l) ranges.1 s.made)

-- What agrees is enumerated.

-- a match that names the facts behind the ids used, and binds every variable of the heads as σ does
pub record Listed (live : List Fact) (hs : List Head) (used : List ℕ) (e : Env) (σ : ℕ → ℤ) (facts : List Fact) : Type 0 where
  pub it : Match
  pub given : In it (instances live hs used e)
  pub named : it.ids ≡ used ++ ids_of facts
  pub grows : Grows e it.env
  pub binding : (v : ℕ) → binds hs v ≡ true → at it.env v ≡ Some (σ v)

listed_next : (live : List Fact) (h : Head) (hs : List Head) (used : List ℕ) (e : Env) (σ : ℕ → ℤ) (f : Fact) (fs : List Fact) (now : Bound σ h.operands f.values e)
    → In f live → f.kind ≡ h.kind → (In f.id used → ⊥)
    → Listed live hs (used ++ f.id ∷ []) now.env σ fs → Listed live (h ∷ hs) used e σ (f ∷ fs)
listed_next live h hs used e σ f fs now alive kind fresh rest = record {
  it = rest.it;
  given = in_joined (λ (p : Partner). instances live hs (used ++ p.id ∷ []) p.env) (partners h used e live)
      (record { id = f.id; env = now.env }) rest.it
      (partner_there live h used e f now.env alive kind fresh now.value) rest.given;
  named = rest.named ∙ append_assoc used (f.id ∷ []) (ids_of fs);
  grows = λ v n q. rest.grows v n (now.grows v n q);
  binding = λ v t. elim (or_cases (head_binds v h) (binds hs v) t) [
    | inl q ↦ rest.grows v (σ v) (now.binds v q)
    | inr q ↦ rest.binding v q
  ];
}

pub listed_match : (live : List Fact) (hs : List Head) (used : List ℕ) (e : Env) (σ : ℕ → ℤ) (facts : List Fact)
    → length e ≡ 12 → all head_in_range hs ≡ true → Fits σ e
    → All (λ f. In f live) facts → Different (ids_of facts) → ((i : ℕ) → In i used → In i (ids_of facts) → ⊥) → Both (Agrees σ) hs facts
    → Listed live hs used e σ facts
listed_match live [] used e σ [] l r fits alive different fresh agree = record {
  it = record { ids = used; env = e };
  given = inl refl;
  named = sym (append-nil used);
  grows = λ v n h. h;
  binding = λ v t. absurd (both_ways false refl t);
}
listed_match live [] used e σ (f ∷ fs) l r fits alive different fresh agree = absurd agree
listed_match live (h ∷ hs) used e σ [] l r fits alive different fresh agree = absurd agree
listed_match live (h ∷ hs) used e σ (f ∷ fs) l r fits alive different fresh agree =
    let ranges = and_parts (head_in_range h) (all head_in_range hs) r in
    let now = bound_by σ h.operands f.values e l ranges.0 fits agree.0.values in
    listed_next live h hs used e σ f fs now alive.0 agree.0.kind (λ u. fresh f.id u (inl refl))
    (listed_match live hs (used ++ f.id ∷ []) now.env σ fs (now.long ∙ l) ranges.1 now.fits alive.1 different.1
    (λ i u x. elim (in_either i used (f.id ∷ []) u) [
      | inl j ↦ fresh i j (inr x)
      | inr j ↦ elim j [ inl q ↦ different.0 (subst (λ k. In k (ids_of fs)) q x) | inr q ↦ absurd q ]
    ])
    agree.1)
