-- Places in a list of facts in rising id: what a search by halves goes by, and what stands there.
use Rattle.std.proofs.Common.{◌≡◌, ◌==◌, ◌||◌, inl, inr, ℕ, zero, suc, ◌+◌, ◌-◌, ◌<◌, ◌≤◌, Bool, true, false, cond, ◌&&◌, eqb, ltb, leb, List, [], ◌∷◌, ◌++◌, length, get_or, take, drop, Some, None, Option, Bor, sym, refl, ap, ◌∙◌, zero-le, arith}
use Rattle.std.specs.List as list
use Rattle.std.specs.List.{remove}
use Rattle.std.specs.List.Sorted.{IsNonDecreasingBy, IsPartitionedBy, IsPartitionPoint}
use Rattle.std.specs.Option.{option_map, MatchOption}
use Rattle.std.specs.Bool.{then_some}
use Rattle.std.proofs.lemmas.List.Sorted.{IsPartitionedBy-ltb}
use Rattle.std.proofs.lemmas.List.Sums.{prefix_len_passes, prefix_len_stops, prefix_len_is, prefix_len-le-length}
use Rattle.std.proofs.lemmas.List.{take_rest}
use Rattle.std.proofs.lemmas.Bool.{leb-true, leb-false, both_ways, and_from, and_parts, or_cases, eqb-true, ltb-true, ltb-false, lt-ltb, lt-leb, le-leb, ne_eqb, eq-eqb, cond-true, cond-false, and_left}
use Rattle.facts.specs.declared.Fact.{Fact}
use Rattle.store.specs.Store.{find, without, next_of, rises, Above, Beneath, Rising}
use Rattle.store.specs.Spots.{place, blank, Spot, Absent}
use Rattle.store.specs.Rises.{test_from_rising, rising_push, rising_without, beneath_lower, find_beneath, without_none}

pub beneath_getD : (fs : List Fact) (low i : ℕ) (d : Fact) → Beneath low fs → i < length fs → low < (get_or fs i d).id
beneath_getD [] low i d b l = absurd (omega arith)
beneath_getD (f ∷ fs) low zero d b l = b.0
beneath_getD (f ∷ fs) low (suc i) d b l = beneath_getD fs low i d b.1 (omega arith)

pub above_getD : (fs : List Fact) (id i : ℕ) (d : Fact) → Above id fs → i < length fs → (get_or fs i d).id < id
above_getD [] id i d a l = absurd (omega arith)
above_getD (f ∷ fs) id zero d a l = a.0
above_getD (f ∷ fs) id (suc i) d a l = above_getD fs id i d a.1 (omega arith)

rising_orders : (fs : List Fact) → Rising fs → IsNonDecreasingBy (λ (f : Fact). f.id) fs
rising_orders [] r i j d l h = absurd (omega arith)
rising_orders (f ∷ fs) r zero zero d l h = omega arith
rising_orders (f ∷ fs) r zero (suc j) d l h = let b = beneath_getD fs f.id j d r.0 (omega arith) in omega arith
rising_orders (f ∷ fs) r (suc i) zero d l h = absurd (omega arith)
rising_orders (f ∷ fs) r (suc i) (suc j) d l h = rising_orders fs r.1 i j d (omega arith) (omega arith)

-- the facts under an id stand before the others
pub rising_parts : (fs : List Fact) (id : ℕ) → Rising fs → IsPartitionedBy (λ (f : Fact). ltb f.id id) fs
rising_parts fs id r = IsPartitionedBy-ltb (λ (f : Fact). f.id) fs id (rising_orders fs r)

-- Place.

-- what stands before it has a smaller id
before_place : (fs : List Fact) (id i : ℕ) → i < place id fs → (get_or fs i blank).id < id
before_place fs id i l = ltb-true _ _ (prefix_len_passes (λ (f : Fact). ltb f.id id) fs i blank l)

-- and what stands there has not
at_place : (fs : List Fact) (id : ℕ) → place id fs < length fs → id ≤ (get_or fs (place id fs) blank).id
at_place fs id l = ltb-false _ _ (prefix_len_stops (λ (f : Fact). ltb f.id id) fs blank l)

-- a search by halves finds it
pub place_from_point : (fs : List Fact) (id at : ℕ) → at ≤ length fs → IsPartitionPoint (λ (f : Fact). ltb f.id id ≡ true) (λ (f : Fact). ltb f.id id ≡ false) fs at → at ≡ place id fs
place_from_point fs id at l p =
    sym (prefix_len_is (λ (f : Fact). ltb f.id id) fs at blank l (λ k h. p.0 k blank zero-le h) (λ h. p.1 at blank (omega arith) h))

-- Where it can be.

-- from a fact to a later one the id grows by as many places at least
spread : (fs : List Fact) (i j : ℕ) → Rising fs → i ≤ j → j < length fs → (get_or fs i blank).id + (j - i) ≤ (get_or fs j blank).id
spread [] i j r l h = absurd (omega arith)
spread (f ∷ fs) zero zero r l h = omega arith
spread (f ∷ fs) zero (suc j) r l h =
    let b = beneath_getD fs f.id 0 blank r.0 (omega arith) in
    let s = spread fs 0 j r.1 zero-le (omega arith) in omega arith
spread (f ∷ fs) (suc i) zero r l h = absurd (omega arith)
spread (f ∷ fs) (suc i) (suc j) r l h = let s = spread fs i j r.1 (omega arith) (omega arith) in omega arith

pub place_within : (fs : List Fact) (id : ℕ) → place id fs ≤ length fs
place_within fs id = prefix_len-le-length (λ (f : Fact). ltb f.id id) fs

-- no more facts stand before the place than ids lie between
pub place_most : (fs : List Fact) (id : ℕ) → Rising fs → place id fs ≤ id - (get_or fs 0 blank).id
place_most fs id r = go (place id fs) refl where
  go : (p : ℕ) → place id fs ≡ p → p ≤ id - (get_or fs 0 blank).id
  go zero e = zero-le
  go (suc k) e =
      let w = place_within fs id in
      let b = before_place fs id k (omega arith) in
      let s = spread fs 0 k r zero-le (omega arith) in omega arith

-- and no more from it on, up to a later fact, than up to that fact's id
pub place_least : (fs : List Fact) (id at : ℕ) → Rising fs → at < length fs → at - ((get_or fs at blank).id - id) ≤ place id fs
place_least fs id at r h = go (leb (place id fs) at) refl where
  go : (b : Bool) → leb (place id fs) at ≡ b → at - ((get_or fs at blank).id - id) ≤ place id fs
  go true e =
      let l = leb-true _ _ e in
      let a = at_place fs id (omega arith) in
      let s = spread fs (place id fs) at r l h in omega arith
  go false e = let l = leb-false _ _ e in omega arith

-- it is the last place where it can be, if the fact before that is below the id
pub place_is_last : (fs : List Fact) (id at : ℕ) → Rising fs → place id fs ≤ at → at ≤ length fs
    → (at == 0 || ltb (at - 1) (length fs) && ltb (get_or fs (at - 1) blank).id id) ≡ true → at ≡ place id fs
place_is_last fs id at r most within before =
    elim (or_cases (at == 0) (ltb (at - 1) (length fs) && ltb (get_or fs (at - 1) blank).id id) before) [
      | inl e ↦ let z = eqb-true at 0 e in omega arith
      | inr e ↦
          let p = and_parts (ltb (at - 1) (length fs)) (ltb (get_or fs (at - 1) blank).id id) e in
          reach (ltb (place id fs) at) refl (ltb-true (at - 1) (length fs) p.0) (ltb-true (get_or fs (at - 1) blank).id id p.1)
    ]
  where
    reach : (b : Bool) → ltb (place id fs) at ≡ b → at - 1 < length fs → (get_or fs (at - 1) blank).id < id → at ≡ place id fs
    reach true e w h =
        let l = ltb-true _ _ e in
        let a = at_place fs id (omega arith) in
        let o = rising_orders fs r (place id fs) (at - 1) blank (omega arith) w in absurd (omega arith)
    reach false e w h = let l = ltb-false _ _ e in omega arith

-- and the first, if the fact there is not below the id
pub place_is_first : (fs : List Fact) (id at : ℕ) → at ≤ place id fs → (leb (length fs) at || leb id (get_or fs at blank).id) ≡ true → at ≡ place id fs
place_is_first fs id at least there = go (ltb at (place id fs)) refl where
  go : (b : Bool) → ltb at (place id fs) ≡ b → at ≡ place id fs
  go true e =
      let l = ltb-true _ _ e in
      let w = place_within fs id in
      let b = before_place fs id at l in
      elim (or_cases (leb (length fs) at) (leb id (get_or fs at blank).id) there) [
        | inl q ↦ let k = leb-true _ _ q in absurd (omega arith)
        | inr q ↦ let k = leb-true _ _ q in absurd (omega arith)
      ]
  go false e = let l = ltb-false _ _ e in omega arith

-- The place in a part of the list that has it.

place_dropped : (fs : List Fact) (id low : ℕ) → low ≤ place id fs → low + place id (drop low fs) ≡ place id fs
place_dropped fs id zero l = omega arith
place_dropped [] id (suc low) l = absurd (omega arith)
place_dropped (f ∷ fs) id (suc low) l = go (ltb f.id id) (place_dropped fs id low) l where
  go : (b : Bool) → (low ≤ place id fs → low + place id (drop low fs) ≡ place id fs) → suc low ≤ cond b (1 + place id fs) 0
      → suc low + place id (drop low fs) ≡ cond b (1 + place id fs) 0
  go true e h = let q = e (omega arith) in omega arith
  go false e h = absurd (omega arith)

place_taken : (fs : List Fact) (id n : ℕ) → place id fs ≤ n → place id (take n fs) ≡ place id fs
place_taken [] id zero l = refl
place_taken [] id (suc n) l = refl
place_taken (f ∷ fs) id zero l = sym (go (place id (f ∷ fs)) l) where
  go : (p : ℕ) → p ≤ 0 → p ≡ 0
  go p h = omega arith
place_taken (f ∷ fs) id (suc n) l = go (ltb f.id id) (place_taken fs id n) l where
  go : (b : Bool) → (place id fs ≤ n → place id (take n fs) ≡ place id fs) → cond b (1 + place id fs) 0 ≤ suc n
      → cond b (1 + place id (take n fs)) 0 ≡ cond b (1 + place id fs) 0
  go true e h = ap (λ p. 1 + p) (e (omega arith))
  go false e h = refl

beneath_taken : (fs : List Fact) (id n : ℕ) → Beneath id fs → Beneath id (take n fs)
beneath_taken fs id zero b = tt
beneath_taken [] id (suc n) b = tt
beneath_taken (f ∷ fs) id (suc n) b = (b.0, beneath_taken fs id n b.1)

rising_taken : (fs : List Fact) (n : ℕ) → Rising fs → Rising (take n fs)
rising_taken fs zero r = tt
rising_taken [] (suc n) r = tt
rising_taken (f ∷ fs) (suc n) r = (beneath_taken fs f.id n r.0, rising_taken fs n r.1)

rising_dropped : (fs : List Fact) (n : ℕ) → Rising fs → Rising (drop n fs)
rising_dropped fs zero r = r
rising_dropped [] (suc n) r = tt
rising_dropped (f ∷ fs) (suc n) r = rising_dropped fs n r.1

-- such a part is in rising id too
pub rising_part : (fs : List Fact) (low n : ℕ) → Rising fs → Rising (take n (drop low fs))
rising_part fs low n r = rising_taken (drop low fs) n (rising_dropped fs low r)

-- and what is searched for in it is found for the whole
pub place_from_part : (fs : List Fact) (id low high at : ℕ) → low ≤ place id fs → place id fs ≤ high
    → at ≡ place id (take (high - low) (drop low fs)) → low + at ≡ place id fs
place_from_part fs id low high at least most e =
    let d = place_dropped fs id low least in
    let t = place_taken (drop low fs) id (high - low) (omega arith) in omega arith

above_from_each : (fs : List Fact) (id : ℕ) (d : Fact) → ((i : ℕ) → i < length fs → (get_or fs i d).id < id) → Above id fs
above_from_each [] id d h = tt
above_from_each (f ∷ fs) id d h = (h 0 (omega arith), above_from_each fs id d (λ i l. h (suc i) (omega arith)))

-- an id above the last is above all
pub above_from_last : (fs : List Fact) (id : ℕ) (d : Fact) → Rising fs → 0 < length fs → (get_or fs (length fs - 1) d).id < id → Above id fs
above_from_last fs id d r l h =
    above_from_each fs id d (λ i k. let m = rising_orders fs r i (length fs - 1) d (omega arith) (omega arith) in omega arith)

-- so a fact under such an id may follow
pub rises_push : (fs : List Fact) (f : Fact) → Rising fs → Above f.id fs → rises (fs ++ f ∷ []) ≡ true
rises_push fs f r a = test_from_rising (fs ++ f ∷ []) (rising_push fs f r a)

-- What stands at a place.

next_skips : (fs : List Fact) (kind from i : ℕ) → ((k : ℕ) → k < i → (get_or fs k blank).id < from) → next_of kind from (drop i fs) ≡ next_of kind from fs
next_skips fs kind from zero b = refl
next_skips [] kind from (suc i) b = refl
next_skips (f ∷ fs) kind from (suc i) b =
    next_skips fs kind from i (λ k l. b (suc k) (omega arith))
    ∙ sym (cond-false (leb from f.id && eqb f.kind kind) (Some f.id) (next_of kind from fs) (and_left (leb from f.id) (eqb f.kind kind) (lt-leb from f.id (b 0 (omega arith)))))

next_unbound : (fs : List Fact) (kind from i : ℕ) → ((k : ℕ) → i ≤ k → k < length fs → from ≤ (get_or fs k blank).id) → next_of kind 0 (drop i fs) ≡ next_of kind from (drop i fs)
next_unbound [] kind from zero h = refl
next_unbound [] kind from (suc i) h = refl
next_unbound (f ∷ fs) kind from zero h =
    ap (λ t. cond (t && eqb f.kind kind) (Some f.id) (next_of kind 0 fs)) (le-leb 0 f.id zero-le ∙ sym (le-leb from f.id (h 0 zero-le (omega arith))))
    ∙ ap (cond (leb from f.id && eqb f.kind kind) (Some f.id)) (next_unbound fs kind from zero (λ k l m. h (suc k) zero-le (omega arith)))
next_unbound (f ∷ fs) kind from (suc i) h = next_unbound fs kind from i (λ k l m. h (suc k) (omega arith) (omega arith))

-- from a place on all are at or above the id, and none before it is
pub next_from_place : (fs : List Fact) (kind from : ℕ) → Rising fs → next_of kind 0 (drop (place from fs) fs) ≡ next_of kind from fs
next_from_place fs kind from r =
    next_unbound fs kind from (place from fs) (λ k l m. let a = at_place fs from (omega arith) in let o = rising_orders fs r (place from fs) k blank l m in omega arith)
    ∙ next_skips fs kind from (place from fs) (before_place fs from)

pub record At (id : ℕ) (fs : List Fact) (i : ℕ) : Type 0 where
  pub found : find id fs ≡ Some (get_or fs i blank)
  pub rest : without id fs ≡ remove fs i

pub at_from_id : (fs : List Fact) (id i : ℕ) → Rising fs → i < length fs → (get_or fs i blank).id ≡ id → At id fs i
at_from_id [] id i r l e = absurd (omega arith)
at_from_id (f ∷ fs) id zero r l e =
    let t = eq-eqb f.id id e in
    let b = beneath_lower fs id f.id (omega arith) r.0 in
    record {
      found = cond-true (eqb f.id id) (Some f) (find id fs) t;
      rest = cond-true (eqb f.id id) (without id fs) (f ∷ without id fs) t ∙ without_none fs id (find_beneath fs id b);
    }
at_from_id (f ∷ fs) id (suc i) r l e =
    let low = beneath_getD fs f.id i blank r.0 (omega arith) in
    let t = ne_eqb f.id id (λ q. omega arith) in
    let s = at_from_id fs id i r.1 (omega arith) e in
    record {
      found = cond-false (eqb f.id id) (Some f) (find id fs) t ∙ s.found;
      rest = cond-false (eqb f.id id) (without id fs) (f ∷ without id fs) t ∙ ap (λ xs. f ∷ xs) s.rest;
    }

none_from_gap : (fs : List Fact) (id i : ℕ) → Rising fs → ((k : ℕ) → k < i → (get_or fs k blank).id < id) → (i < length fs → id < (get_or fs i blank).id) → find id fs ≡ None
none_from_gap [] id i r b n = refl
none_from_gap (f ∷ fs) id zero r b n =
    let l = n (omega arith) in
    find_beneath (f ∷ fs) id (l, beneath_lower fs id f.id (omega arith) r.0)
none_from_gap (f ∷ fs) id (suc i) r b n =
    let l = b 0 (omega arith) in
    cond-false (eqb f.id id) (Some f) (find id fs) (ne_eqb f.id id (λ q. omega arith))
    ∙ none_from_gap fs id i r.1 (λ k h. b (suc k) (omega arith)) (λ h. n (omega arith))

pub none_from_place : (fs : List Fact) (id : ℕ) → Rising fs → (place id fs < length fs → (get_or fs (place id fs) blank).id ≡ id → ⊥) → find id fs ≡ None
none_from_place fs id r n = none_from_gap fs id (place id fs) r (before_place fs id) (λ l. let k = at_place fs id l in let d = n l in omega arith)

-- the same of a place that was searched for, by the test of what stands there
pub spot_from_place : (fs : List Fact) (id at : ℕ) → Rising fs → at ≡ place id fs → MatchOption (then_some (ltb at (length fs) && eqb (get_or fs at blank).id id) at) (Absent id fs) (λ i. Spot id fs i)
spot_from_place fs id at r p = go (ltb at (length fs) && eqb (get_or fs at blank).id id) refl where
  go : (b : Bool) → (ltb at (length fs) && eqb (get_or fs at blank).id id) ≡ b → MatchOption (then_some b at) (Absent id fs) (λ i. Spot id fs i)
  go true t =
      let q = and_parts (ltb at (length fs)) (eqb (get_or fs at blank).id id) t in
      let l = ltb-true at (length fs) q.0 in
      let a = at_from_id fs id at r l (eqb-true (get_or fs at blank).id id q.1) in
      record {
        within = l;
        found = a.found;
        rest = a.rest;
        rising = rw (← a.rest) (test_from_rising (without id fs) (rising_without fs id r));
      }
  go false t =
      let none = none_from_place fs id r
      (rw p at (λ (l : at < length fs) (q : (get_or fs at blank).id ≡ id). both_ways _ t (and_from _ _ (lt-ltb at (length fs) l) (eq-eqb (get_or fs at blank).id id q)))) in
      record { found = none; rest = without_none fs id none }

-- what a scan from a place gives of the whole list
pub next_scanned : (fs : List Fact) (kind from at : ℕ) (r : Option ℕ) → Rising fs → at ≡ place from fs → r ≡ next_of kind 0 (take (length fs - at) (drop at fs)) → r ≡ next_of kind from fs
next_scanned fs kind from at r rising p q =
    q ∙ ap (next_of kind 0) (take_rest fs at) ∙ ap (λ i. next_of kind 0 (drop i fs)) p ∙ next_from_place fs kind from rising

-- A scan for a kind.

next_found : (fs : List Fact) (kind : ℕ) → option_map (λ (f : Fact). f.id) (list.find (λ (f : Fact). eqb f.kind kind) fs) ≡ next_of kind 0 fs
next_found [] kind = refl
next_found (f ∷ fs) kind = go (eqb f.kind kind) (next_found fs kind) ∙ ap (λ t. cond (t && eqb f.kind kind) (Some f.id) (next_of kind 0 fs)) (sym (le-leb 0 f.id zero-le)) where
  go : (b : Bool) → option_map (λ (f : Fact). f.id) (list.find (λ (f : Fact). eqb f.kind kind) fs) ≡ next_of kind 0 fs
      → option_map (λ (f : Fact). f.id) (cond b (Some f) (list.find (λ (f : Fact). eqb f.kind kind) fs)) ≡ cond b (Some f.id) (next_of kind 0 fs)
  go true e = refl
  go false e = e

-- so what the scan lends of the first gives the id
pub next_lent : (fs : List Fact) (kind : ℕ) (r : Option (Bor Fact)) → option_map (λ (b : Bor Fact). b.now) r ≡ list.find (λ (f : Fact). eqb f.kind kind) fs → option_map (λ (b : Bor Fact). b.now.id) r ≡ next_of kind 0 fs
next_lent fs kind None e = ap (option_map (λ (f : Fact). f.id)) e ∙ next_found fs kind
next_lent fs kind (Some b) e = ap (option_map (λ (f : Fact). f.id)) e ∙ next_found fs kind
