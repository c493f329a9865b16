-- Next and the walk over the facts of a kind in rising id: what next gives, and what it leaves.
use Rattle.std.proofs.Common.{◌≡◌, ℕ, ◌+◌, ◌<◌, ◌≤◌, Bool, true, false, cond, ◌&&◌, eqb, leb, List, [], ◌∷◌, ◌++◌, Some, None, Option, sym, refl, ap, ◌∙◌, zero-le, arith}
use Rattle.std.specs.List.{flat_map}
use Rattle.std.proofs.lemmas.Bool.{leb-true, leb-false, le-leb, lt-leb, eqb-true, ne_eqb, eq-eqb, cond-true, cond-false, and_from, and_left, and_right}
use Rattle.facts.specs.declared.Fact.{Fact}
use Rattle.store.specs.Store.{find, next_of, since, Above, AtLeast, Beneath, Rising}
use Rattle.store.specs.Rises.{find_beneath_over}

pub since_all : (fs : List Fact) (id low : ℕ) → id ≤ low + 1 → Beneath low fs → since id fs ≡ fs
since_all [] id low l b = refl
since_all (f ∷ fs) id low l b =
    let h = b.0 in
    cond-true (leb id f.id) (f ∷ since id fs) (since id fs) (le-leb id f.id (omega arith))
    ∙ ap (λ xs. f ∷ xs) (since_all fs id low l b.1)

pub since_zero : (fs : List Fact) → since 0 fs ≡ fs
since_zero [] = refl
since_zero (f ∷ fs) =
    cond-true (leb 0 f.id) (f ∷ since 0 fs) (since 0 fs) (le-leb 0 f.id zero-le)
    ∙ ap (λ xs. f ∷ xs) (since_zero fs)

since_skip : (f : Fact) (fs : List Fact) (id : ℕ) → f.id < id → since id (f ∷ fs) ≡ since id fs
since_skip f fs id l = cond-false (leb id f.id) (f ∷ since id fs) (since id fs) (lt-leb id f.id l)

find_skip : (f : Fact) (fs : List Fact) (id : ℕ) → f.id < id → find id (f ∷ fs) ≡ find id fs
find_skip f fs id l = cond-false (eqb f.id id) (Some f) (find id fs) (ne_eqb f.id id (λ e. omega arith))

-- Next.

-- what the first fact has to do with it
data First (f : Fact) (fs : List Fact) (kind from : ℕ) : Type 0 where
  under : f.id < from → next_of kind from (f ∷ fs) ≡ next_of kind from fs → First f fs kind from
  other : from ≤ f.id → eqb f.kind kind ≡ false → next_of kind from (f ∷ fs) ≡ next_of kind from fs → First f fs kind from
  here : from ≤ f.id → f.kind ≡ kind → next_of kind from (f ∷ fs) ≡ Some f.id → First f fs kind from

first : (f : Fact) (fs : List Fact) (kind from : ℕ) → First f fs kind from
first f fs kind from = by_id (leb from f.id) refl where
  by_kind : (b : Bool) → eqb f.kind kind ≡ b → leb from f.id ≡ true → First f fs kind from
  by_kind true k l =
      here (leb-true from f.id l) (eqb-true f.kind kind k)
      (cond-true (leb from f.id && eqb f.kind kind) (Some f.id) (next_of kind from fs) (and_from (leb from f.id) (eqb f.kind kind) l k))
  by_kind false k l =
      other (leb-true from f.id l) k
      (cond-false (leb from f.id && eqb f.kind kind) (Some f.id) (next_of kind from fs) (and_right (leb from f.id) (eqb f.kind kind) k))

  by_id : (b : Bool) → leb from f.id ≡ b → First f fs kind from
  by_id true l = by_kind (eqb f.kind kind) refl l
  by_id false l =
      under (leb-false from f.id l)
      (cond-false (leb from f.id && eqb f.kind kind) (Some f.id) (next_of kind from fs) (and_left (leb from f.id) (eqb f.kind kind) l))

pub next_at_least : (fs : List Fact) (kind from id : ℕ) → next_of kind from fs ≡ Some id → from ≤ id
next_at_least [] kind from id e = cc
next_at_least (f ∷ fs) kind from id e =
    elim (first f fs kind from) [
      | under l n ↦ next_at_least fs kind from id (sym n ∙ e)
      | other l k n ↦ next_at_least fs kind from id (sym n ∙ e)
      | here l k n ↦ let s : f.id ≡ id = cc in omega arith
    ]

pub next_bound : (fs : List Fact) (kind from : ℕ) → AtLeast from (next_of kind from fs)
next_bound fs kind from = go (next_of kind from fs) refl where
  go : (r : Option ℕ) → next_of kind from fs ≡ r → AtLeast from r
  go None e = tt
  go (Some id) e = next_at_least fs kind from id e

pub next_beneath : (fs : List Fact) (kind from id low : ℕ) → Beneath low fs → next_of kind from fs ≡ Some id → low < id
next_beneath [] kind from id low b e = cc
next_beneath (f ∷ fs) kind from id low b e =
    let h = b.0 in
    elim (first f fs kind from) [
      | under l n ↦ next_beneath fs kind from id low b.1 (sym n ∙ e)
      | other l k n ↦ next_beneath fs kind from id low b.1 (sym n ∙ e)
      | here l k n ↦ let s : f.id ≡ id = cc in omega arith
    ]

pub next_under : (fs : List Fact) (kind from id high : ℕ) → Above high fs → next_of kind from fs ≡ Some id → id < high
next_under [] kind from id high a e = cc
next_under (f ∷ fs) kind from id high a e =
    let h = a.0 in
    elim (first f fs kind from) [
      | under l n ↦ next_under fs kind from id high a.1 (sym n ∙ e)
      | other l k n ↦ next_under fs kind from id high a.1 (sym n ∙ e)
      | here l k n ↦ let s : f.id ≡ id = cc in omega arith
    ]

-- What next gives is the id of a live fact of the kind, at or above the one asked from.
pub record Met (fs : List Fact) (kind from id : ℕ) : Type 0 where
  pub fact : Fact
  pub found : find id fs ≡ Some fact
  pub named : fact.id ≡ id
  pub kinded : fact.kind ≡ kind
  pub at_least : from ≤ id

met_later : (f : Fact) (fs : List Fact) (kind from id : ℕ) → f.id < id → Met fs kind from id → Met (f ∷ fs) kind from id
met_later f fs kind from id l m =
    record { fact = m.fact; found = find_skip f fs id l ∙ m.found; named = m.named; kinded = m.kinded; at_least = m.at_least }

pub next_met : (fs : List Fact) (kind from id : ℕ) → Rising fs → next_of kind from fs ≡ Some id → Met fs kind from id
next_met [] kind from id r e = cc
next_met (f ∷ fs) kind from id r e =
    elim (first f fs kind from) [
      | under l n ↦ met_later f fs kind from id (next_beneath fs kind from id f.id r.0 (sym n ∙ e)) (next_met fs kind from id r.1 (sym n ∙ e))
      | other l k n ↦ met_later f fs kind from id (next_beneath fs kind from id f.id r.0 (sym n ∙ e)) (next_met fs kind from id r.1 (sym n ∙ e))
      | here l k n ↦
          let s : f.id ≡ id = cc in
          record { fact = f; found = cond-true (eqb f.id id) (Some f) (find id fs) (eq-eqb f.id id s); named = s; kinded = k; at_least = omega arith }
    ]

-- No smaller live id of the kind is at or above the one asked from.
pub next_smallest : (fs : List Fact) (kind from id i : ℕ) (g : Fact) → Rising fs → next_of kind from fs ≡ Some id → find i fs ≡ Some g → g.kind ≡ kind → from ≤ i → id ≤ i
next_smallest [] kind from id i g r e q k l = cc
next_smallest (f ∷ fs) kind from id i g r e q k l = go (eqb f.id i) refl q (next_smallest fs kind from id i g r.1) where
  go : (b : Bool) → eqb f.id i ≡ b → cond b (Some f) (find i fs) ≡ Some g
      → (next_of kind from fs ≡ Some id → find i fs ≡ Some g → g.kind ≡ kind → from ≤ i → id ≤ i) → id ≤ i
  go true t q rest =
      let h = eqb-true f.id i t in
      let s : f ≡ g = cc in
      elim (first f fs kind from) [
        | under u n ↦ absurd (omega arith)
        | other u v n ↦ absurd (let c = eq-eqb f.kind kind (ap (λ (x : Fact). x.kind) s ∙ k) in cc)
        | here u v n ↦ let w : f.id ≡ id = cc in omega arith
      ]
  go false t q rest =
      elim (first f fs kind from) [
        | under u n ↦ rest (sym n ∙ e) q k l
        | other u v n ↦ rest (sym n ∙ e) q k l
        | here u v n ↦ let w : f.id ≡ id = cc in let h = find_beneath_over fs i g f.id r.0 q in omega arith
      ]

-- Where next gives none, no live fact of the kind is at or above the one asked from.
pub next_none : (fs : List Fact) (kind from i : ℕ) (g : Fact) → next_of kind from fs ≡ None → find i fs ≡ Some g → g.kind ≡ kind → from ≤ i → ⊥
next_none [] kind from i g e q k l = cc
next_none (f ∷ fs) kind from i g e q k l = go (eqb f.id i) refl q (next_none fs kind from i g) where
  go : (b : Bool) → eqb f.id i ≡ b → cond b (Some f) (find i fs) ≡ Some g
      → (next_of kind from fs ≡ None → find i fs ≡ Some g → g.kind ≡ kind → from ≤ i → ⊥) → ⊥
  go true t q rest =
      let h = eqb-true f.id i t in
      let s : f ≡ g = cc in
      elim (first f fs kind from) [
        | under u n ↦ omega arith
        | other u v n ↦ let c = eq-eqb f.kind kind (ap (λ (x : Fact). x.kind) s ∙ k) in cc
        | here u v n ↦ cc
      ]
  go false t q rest =
      elim (first f fs kind from) [
        | under u n ↦ rest (sym n ∙ e) q k l
        | other u v n ↦ rest (sym n ∙ e) q k l
        | here u v n ↦ cc
      ]

-- The walk: a list made of a part for each fact of a kind, from an id on.

module _ {A : Type 0} (G : Fact → List A) (kind : ℕ) (others : (f : Fact) → eqb f.kind kind ≡ false → G f ≡ []) where
  -- the part of the fact that next gives, and the rest from the id after it
  pub walk_more : (fs : List Fact) (from id : ℕ) (fact : Fact) → Rising fs → next_of kind from fs ≡ Some id → find id fs ≡ Some fact → flat_map G (since from fs) ≡ G fact ++ flat_map G (since (id + 1) fs)
  walk_more [] from id fact r e q = cc
  walk_more (f ∷ fs) from id fact r e q =
      elim (first f fs kind from) [
        | under l n ↦
            let h = next_beneath fs kind from id f.id r.0 (sym n ∙ e) in
            ap (flat_map G) (since_skip f fs from l)
            ∙ walk_more fs from id fact r.1 (sym n ∙ e) (sym (find_skip f fs id h) ∙ q)
            ∙ ap (λ xs. G fact ++ flat_map G xs) (sym (since_skip f fs (id + 1) (omega arith)))
        | other l k n ↦
            let h = next_beneath fs kind from id f.id r.0 (sym n ∙ e) in
            ap (flat_map G) (cond-true (leb from f.id) (f ∷ since from fs) (since from fs) (le-leb from f.id l))
            ∙ ap (λ ys. ys ++ flat_map G (since from fs)) (others f k)
            ∙ walk_more fs from id fact r.1 (sym n ∙ e) (sym (find_skip f fs id h) ∙ q)
            ∙ ap (λ xs. G fact ++ flat_map G xs) (sym (since_skip f fs (id + 1) (omega arith)))
        | here l k n ↦
            let s : f.id ≡ id = cc in
            let t : f ≡ fact = cc (cond-true (eqb f.id id) (Some f) (find id fs) (eq-eqb f.id id s)) in
            ap (flat_map G) (cond-true (leb from f.id) (f ∷ since from fs) (since from fs) (le-leb from f.id l))
            ∙ ap (λ (x : Fact). G x ++ flat_map G (since from fs)) t
            ∙ ap (λ xs. G fact ++ flat_map G xs) (since_all fs from f.id (omega arith) r.0 ∙ sym (since_all fs (id + 1) f.id (omega arith) r.0) ∙ sym (since_skip f fs (id + 1) (omega arith)))
      ]

  -- nothing where next gives none
  pub walk_none : (fs : List Fact) (from : ℕ) → next_of kind from fs ≡ None → flat_map G (since from fs) ≡ []
  walk_none [] from e = refl
  walk_none (f ∷ fs) from e =
      elim (first f fs kind from) [
        | under l n ↦ ap (flat_map G) (since_skip f fs from l) ∙ walk_none fs from (sym n ∙ e)
        | other l k n ↦
            ap (flat_map G) (cond-true (leb from f.id) (f ∷ since from fs) (since from fs) (le-leb from f.id l))
            ∙ ap (λ ys. ys ++ flat_map G (since from fs)) (others f k)
            ∙ walk_none fs from (sym n ∙ e)
        | here l k n ↦ cc
      ]

  -- all the parts from 0
  pub walk_start : (fs : List Fact) → flat_map G (since 0 fs) ≡ flat_map G fs
  walk_start fs = ap (flat_map G) (since_zero fs)
