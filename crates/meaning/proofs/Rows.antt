-- The enumeration comes in the order of rule number, then first id, second id and so on.
use Rattle.std.proofs.Common.{◌≡◌, ℕ, zero, suc, ◌<◌, ◌≤◌, Bool, true, false, cond, not, ◌&&◌, leb, List, [], ◌∷◌, ◌++◌, length, take, Some, None, Option, sym, refl, ap, ◌∙◌, subst₂, inl, inr, append_assoc, append-nil, arith}
use Rattle.std.proofs.lemmas.Bool.{and_parts, leb-true}
use Rattle.facts.specs.Positions.{all}
use Rattle.facts.specs.declared.Fact.{Fact}
use Rattle.records.specs.declared.parts.Head.{Head}
use Rattle.rules.specs.Rules.{Rule, small, head_in_range}
use Rattle.store.specs.Store.{Beneath, Rising}
use Rattle.meaning.specs.declared.due.Due.{Due}
use Rattle.meaning.specs.Setup.{Setup, State}
use Rattle.meaning.specs.Words.{In, Sooner}
use Rattle.meaning.specs.Instances.{padded, Earlier}
use Rattle.meaning.specs.Enumeration.{Env, unbound, Partner, Match, extended, partner_of, partners, instances, applies, fired, instance_of, waiting, waiting_of, waiting_from, all_waiting}
use Rattle.meaning.proofs.Lists.{source, in_either, Ordered, ordered_append, ordered_joined}

-- Ids.

sooner_after : (before xs ys : List ℕ) (i j : ℕ) → i < j → Sooner (before ++ i ∷ xs) (before ++ j ∷ ys)
sooner_after [] xs ys i j l = inl l
sooner_after (k ∷ before) xs ys i j l = inr (refl, sooner_after before xs ys i j l)

-- a front that is long enough shows it, whatever comes behind
sooner_front : (n : ℕ) (xs ys us vs : List ℕ) → length xs ≤ n → Sooner xs ys → Sooner (take n (xs ++ us)) (take n (ys ++ vs))
sooner_front zero [] ys us vs l s = absurd s
sooner_front zero (x ∷ xs) ys us vs l s = absurd (omega arith)
sooner_front (suc n) [] ys us vs l s = absurd s
sooner_front (suc n) (x ∷ xs) [] us vs l s = absurd s
sooner_front (suc n) (x ∷ xs) (y ∷ ys) us vs l (inl s) = inl s
sooner_front (suc n) (x ∷ xs) (y ∷ ys) us vs l (inr s) = inr (s.0, sooner_front n xs ys us vs (omega arith) s.1)

pub sooner_padded : (xs ys : List ℕ) → length xs ≤ 4 → Sooner xs ys → Sooner (padded xs) (padded ys)
sooner_padded xs ys l s = sooner_front 4 xs ys (0 ∷ 0 ∷ 0 ∷ 0 ∷ []) (0 ∷ 0 ∷ 0 ∷ 0 ∷ []) l s

-- Facts and partners.

beneath_in : (fs : List Fact) (id : ℕ) (f : Fact) → Beneath id fs → In f fs → id < f.id
beneath_in [] id f b i = absurd i
beneath_in (g ∷ fs) id f b (inl e) = let l = b.0 in let q = ap (λ (x : Fact). x.id) e in omega arith
beneath_in (g ∷ fs) id f b (inr i) = beneath_in fs id f b.1 i

abbrev Lower : Fact → Fact → Type 0
Lower f g = f.id < g.id

facts_ordered : (fs : List Fact) → Rising fs → Ordered Lower fs
facts_ordered [] r = tt
facts_ordered (f ∷ fs) r = ((λ g i. beneath_in fs f.id g r.0 i), facts_ordered fs r.1)

abbrev Lower_partner : Partner → Partner → Type 0
Lower_partner p q = p.id < q.id

partner_named : (i : ℕ) (x : Option Env) (p : Partner) → In p (partner_of i x) → p.id ≡ i
partner_named i None p h = absurd h
partner_named i (Some e) p (inl q) = ap (λ (x : Partner). x.id) q
partner_named i (Some e) p (inr q) = absurd q

partner_ordered : (i : ℕ) (x : Option Env) → Ordered Lower_partner (partner_of i x)
partner_ordered i None = tt
partner_ordered i (Some e) = ((λ p h. absurd h), tt)

partners_ordered : (live : List Fact) (h : Head) (used : List ℕ) (e : Env) → Rising live → Ordered Lower_partner (partners h used e live)
partners_ordered live h used e r =
    ordered_joined Lower Lower_partner (λ f. partner_of f.id (extended h used e f)) live
    (facts_ordered live r)
    (λ f i. partner_ordered f.id (extended h used e f))
    (λ f g p q k l i j.
    let a = partner_named f.id (extended h used e f) p i in
    let b = partner_named g.id (extended h used e g) q j in
    omega arith)

-- Matches.

-- the ids of a match are those used, and then one for each head
pub record Named (hs : List Head) (used : List ℕ) (m : Match) : Type 0 where
  pub rest : List ℕ
  pub ids : m.ids ≡ used ++ rest
  pub long : length rest ≡ length hs

pub named : (live : List Fact) (hs : List Head) (used : List ℕ) (e : Env) (m : Match) → In m (instances live hs used e) → Named hs used m
named live [] used e m (inl q) = record { rest = []; ids = ap (λ (x : Match). x.ids) q ∙ sym (append-nil used); long = refl }
named live [] used e m (inr q) = absurd q
named live (h ∷ hs) used e m i =
    let s = source (λ (p : Partner). instances live hs (used ++ p.id ∷ []) p.env) (partners h used e live) m i in
    let p = s.item in
    let n = named live hs (used ++ p.id ∷ []) p.env m s.made in
    record { rest = p.id ∷ n.rest; ids = n.ids ∙ append_assoc used (p.id ∷ []) n.rest; long = ap suc n.long }

abbrev Sooner_match : Match → Match → Type 0
Sooner_match m o = Sooner m.ids o.ids

matches_apart : (live : List Fact) (hs : List Head) (used : List ℕ) (p q : Partner) (m o : Match) → p.id < q.id
    → In m (instances live hs (used ++ p.id ∷ []) p.env) → In o (instances live hs (used ++ q.id ∷ []) q.env) → Sooner_match m o
matches_apart live hs used p q m o l i j =
    let a = named live hs (used ++ p.id ∷ []) p.env m i in
    let b = named live hs (used ++ q.id ∷ []) q.env o j in
    subst₂ Sooner
    (sym (a.ids ∙ append_assoc used (p.id ∷ []) a.rest))
    (sym (b.ids ∙ append_assoc used (q.id ∷ []) b.rest))
    (sooner_after used a.rest b.rest p.id q.id l)

instances_ordered : (live : List Fact) (hs : List Head) (used : List ℕ) (e : Env) → Rising live → Ordered Sooner_match (instances live hs used e)
instances_ordered live [] used e r = ((λ m i. absurd i), tt)
instances_ordered live (h ∷ hs) used e r =
    ordered_joined Lower_partner Sooner_match (λ (p : Partner). instances live hs (used ++ p.id ∷ []) p.env) (partners h used e live)
    (partners_ordered live h used e r)
    (λ p i. instances_ordered live hs (used ++ p.id ∷ []) p.env r)
    (λ p q m o k l i j. matches_apart live hs used p q m o l i j)

-- What waits.

module _ {R : Type 0} (s : Setup R) (t : State) where
  -- what waits of a match is the instance that it is
  pub waiting_is : (n : ℕ) (r : Rule) (m : Match) (d : Due R) → In d (waiting s t n r m) → d ≡ instance_of s t n r m
  waiting_is n r m d i = go (all (applies s t m.env) r.guards && not (fired t.roll n (padded m.ids))) i where
    go : (b : Bool) → In d (cond b (instance_of s t n r m ∷ []) []) → d ≡ instance_of s t n r m
    go true (inl q) = q
    go true (inr q) = absurd q
    go false q = absurd q

  waiting_ordered : (n : ℕ) (r : Rule) (m : Match) → Ordered Earlier (waiting s t n r m)
  waiting_ordered n r m = go (all (applies s t m.env) r.guards && not (fired t.roll n (padded m.ids))) where
    go : (b : Bool) → Ordered Earlier (cond b (instance_of s t n r m ∷ []) [])
    go true = ((λ d i. absurd i), tt)
    go false = tt

  -- all that waits of a rule, in the order of the ids
  waiting_of_ordered : (n : ℕ) (r : Rule) → small r ≡ true → Rising t.facts → Ordered Earlier (waiting_of s t n r)
  waiting_of_ordered n r few rising =
      ordered_joined Sooner_match Earlier (waiting s t n r) (instances t.facts r.heads [] unbound)
      (instances_ordered t.facts r.heads [] unbound rising)
      (λ m i. waiting_ordered n r m)
      apart
    where
      apart : (m o : Match) (d e : Due R) → In m (instances t.facts r.heads [] unbound) → Sooner_match m o
          → In d (waiting s t n r m) → In e (waiting s t n r o) → Earlier d e
      apart m o d e given sooner i j =
          let a = named t.facts r.heads [] unbound m given in
          let few' = leb-true (length r.heads) 4 (and_parts (leb (length r.heads) 4) (all head_in_range r.heads) few).0 in
          let same = ap length a.ids in
          let long = a.long in
          let l : length m.ids ≤ 4 = omega arith in
          subst₂ Earlier (sym (waiting_is n r m d i)) (sym (waiting_is n r o e j))
          (inr (refl, sooner_padded m.ids o.ids l sooner))

  pub numbered_of : (n : ℕ) (r : Rule) (d : Due R) → In d (waiting_of s t n r) → d.rule ≡ n
  numbered_of n r d i =
      let o = source (waiting s t n r) (instances t.facts r.heads [] unbound) d i in
      ap (λ (x : Due R). x.rule) (waiting_is n r o.item d o.made)

  numbered_from : (n : ℕ) (rs : List Rule) (d : Due R) → In d (waiting_from s t n rs) → n ≤ d.rule
  numbered_from n [] d i = absurd i
  numbered_from n (r ∷ rs) d i = elim (in_either d (waiting_of s t n r) (waiting_from s t (suc n) rs) i) [
    | inl j ↦ let e = numbered_of n r d j in omega arith
    | inr j ↦ let l = numbered_from (suc n) rs d j in omega arith
  ]

  waiting_from_ordered : (n : ℕ) (rs : List Rule) → all small rs ≡ true → Rising t.facts → Ordered Earlier (waiting_from s t n rs)
  waiting_from_ordered n [] few rising = tt
  waiting_from_ordered n (r ∷ rs) few rising =
      let parts = and_parts (small r) (all small rs) few in
      ordered_append Earlier (waiting_of s t n r) (waiting_from s t (suc n) rs)
      (waiting_of_ordered n r parts.0 rising)
      (waiting_from_ordered (suc n) rs parts.1 rising)
      (λ d e i j. inl (let a = numbered_of n r d i in let b = numbered_from (suc n) rs e j in omega arith))

  -- what waits comes rule by rule, and within a rule in the order of the ids
  pub all_waiting_ordered : all small s.rules ≡ true → Rising t.facts → Ordered Earlier (all_waiting s t)
  all_waiting_ordered few rising = waiting_from_ordered 1 s.rules few rising
