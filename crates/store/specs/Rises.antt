-- Lists of facts in rising id: what adding at the end and taking leave, and what find gives of them.
use Rattle.std.specs.Prelude.{◌≡◌, ℕ, suc, ◌+◌, ◌<◌, ◌≤◌, Bool, true, false, cond, List, [], ◌∷◌, ◌++◌, length, Some, None, ◌==◌, ◌≢◌, nat_lt, refl}
use Rattle.std.proofs.Common.{sym, ap, ◌∙◌, arith}
use Rattle.std.proofs.lemmas.Bool.{and_parts, and_from, ltb-true, lt-ltb, eqb-true, ne_eqb, eq-eqb, cond_both, cond-true, cond-false}
use Rattle.facts.specs.declared.Fact.{Fact}
use Rattle.store.specs.Store.{find, without, Above, Beneath, Rising, beneath, rises}

-- The tests agree with what they test.

pub beneath_from_test : (fs : List Fact) (id : ℕ) → beneath id fs ≡ true → Beneath id fs
beneath_from_test [] id e = tt
beneath_from_test (f ∷ fs) id e =
    let p = and_parts (nat_lt id f.id) (beneath id fs) e in
    (ltb-true id f.id p.0, beneath_from_test fs id p.1)

pub test_from_beneath : (fs : List Fact) (id : ℕ) → Beneath id fs → beneath id fs ≡ true
test_from_beneath [] id b = refl
test_from_beneath (f ∷ fs) id b =
    and_from (nat_lt id f.id) (beneath id fs) (lt-ltb id f.id b.0) (test_from_beneath fs id b.1)

pub rising_from_test : (fs : List Fact) → rises fs ≡ true → Rising fs
rising_from_test [] e = tt
rising_from_test (f ∷ fs) e =
    let p = and_parts (beneath f.id fs) (rises fs) e in
    (beneath_from_test fs f.id p.0, rising_from_test fs p.1)

pub test_from_rising : (fs : List Fact) → Rising fs → rises fs ≡ true
test_from_rising [] r = refl
test_from_rising (f ∷ fs) r =
    and_from (beneath f.id fs) (rises fs) (test_from_beneath fs f.id r.0) (test_from_rising fs r.1)

-- Bounds may be loosened.

pub beneath_lower : (fs : List Fact) (low id : ℕ) → low ≤ id → Beneath id fs → Beneath low fs
beneath_lower [] low id l b = tt
beneath_lower (f ∷ fs) low id l b = let h = b.0 in (omega arith, beneath_lower fs low id l b.1)

pub above_higher : (fs : List Fact) (id high : ℕ) → id ≤ high → Above id fs → Above high fs
above_higher [] id high l a = tt
above_higher (f ∷ fs) id high l a = let h = a.0 in (omega arith, above_higher fs id high l a.1)

-- One more at the end.

pub beneath_push : (fs : List Fact) (f : Fact) (id : ℕ) → Beneath id fs → id < f.id → Beneath id (fs ++ f ∷ [])
beneath_push [] f id b l = (l, tt)
beneath_push (g ∷ fs) f id b l = (b.0, beneath_push fs f id b.1 l)

pub above_push : (fs : List Fact) (f : Fact) (id : ℕ) → Above id fs → f.id < id → Above id (fs ++ f ∷ [])
above_push [] f id a l = (l, tt)
above_push (g ∷ fs) f id a l = (a.0, above_push fs f id a.1 l)

pub rising_push : (fs : List Fact) (f : Fact) → Rising fs → Above f.id fs → Rising (fs ++ f ∷ [])
rising_push [] f r a = (tt, tt)
rising_push (g ∷ fs) f r a =
    (beneath_push fs f g.id r.0 a.0, rising_push fs f r.1 a.1)

pub beneath_push_last : (fs : List Fact) (f : Fact) (id : ℕ) → Beneath id (fs ++ f ∷ []) → id < f.id
beneath_push_last [] f id b = b.0
beneath_push_last (g ∷ fs) f id b = beneath_push_last fs f id b.1

-- so a store that added a fact did so under an id above every live one
pub above_from_rising_push : (fs : List Fact) (f : Fact) → Rising (fs ++ f ∷ []) → Above f.id fs
above_from_rising_push [] f r = tt
above_from_rising_push (g ∷ fs) f r =
    (beneath_push_last fs f g.id r.0, above_from_rising_push fs f r.1)

-- An id that no fact has.

pub find_beneath : (fs : List Fact) (id : ℕ) → Beneath id fs → find id fs ≡ None
find_beneath [] id b = refl
find_beneath (f ∷ fs) id b =
    let h = b.0 in
    cond-false (f.id == id) (Some f) (find id fs) (ne_eqb f.id id (λ e. omega arith))
    ∙ find_beneath fs id b.1

pub find_above : (fs : List Fact) (id : ℕ) → Above id fs → find id fs ≡ None
find_above [] id a = refl
find_above (f ∷ fs) id a =
    let h = a.0 in
    cond-false (f.id == id) (Some f) (find id fs) (ne_eqb f.id id (λ e. omega arith))
    ∙ find_above fs id a.1

pub without_none : (fs : List Fact) (id : ℕ) → find id fs ≡ None → without id fs ≡ fs
without_none [] id e = refl
without_none (f ∷ fs) id e = go (f.id == id) refl e (without_none fs id) where
  go : (b : Bool) → (f.id == id) ≡ b → cond b (Some f) (find id fs) ≡ None
      → (find id fs ≡ None → without id fs ≡ fs) → cond (f.id == id) (without id fs) (f ∷ without id fs) ≡ f ∷ fs
  go true t e rest = cc
  go false t e rest = rw t (ap (λ xs. f ∷ xs) (rest e))

-- What find gives has that id.
pub find_id : (fs : List Fact) (id : ℕ) (f : Fact) → find id fs ≡ Some f → f.id ≡ id
find_id [] id f e = cc
find_id (g ∷ fs) id f e = go (g.id == id) refl e (find_id fs id f) where
  go : (b : Bool) → (g.id == id) ≡ b → cond b (Some g) (find id fs) ≡ Some f
      → (find id fs ≡ Some f → f.id ≡ id) → f.id ≡ id
  go true t e rest = let h = eqb-true g.id id t in let s : g ≡ f = cc in ap (λ x. x.id) (sym s) ∙ h
  go false t e rest = rest e

-- and keeps to the bounds of all
pub find_beneath_over : (fs : List Fact) (id : ℕ) (f : Fact) (low : ℕ) → Beneath low fs → find id fs ≡ Some f → low < id
find_beneath_over [] id f low b q = cc
find_beneath_over (g ∷ fs) id f low b q = go (g.id == id) refl q (find_beneath_over fs id f low b.1) where
  go : (t : Bool) → (g.id == id) ≡ t → cond t (Some g) (find id fs) ≡ Some f → (find id fs ≡ Some f → low < id) → low < id
  go true t q rest = let h = eqb-true g.id id t in let l = b.0 in omega arith
  go false t q rest = rest q

pub find_above_under : (fs : List Fact) (id : ℕ) (f : Fact) (high : ℕ) → Above high fs → find id fs ≡ Some f → id < high
find_above_under [] id f high a q = cc
find_above_under (g ∷ fs) id f high a q = go (g.id == id) refl q (find_above_under fs id f high a.1) where
  go : (t : Bool) → (g.id == id) ≡ t → cond t (Some g) (find id fs) ≡ Some f → (find id fs ≡ Some f → id < high) → id < high
  go true t q rest = let h = eqb-true g.id id t in let l = a.0 in omega arith
  go false t q rest = rest q

-- One fact taken.

pub beneath_without : (fs : List Fact) (id low : ℕ) → Beneath low fs → Beneath low (without id fs)
beneath_without [] id low b = tt
beneath_without (f ∷ fs) id low b =
    cond_both (f.id == id) (without id fs) (f ∷ without id fs) (Beneath low)
    (λ _. beneath_without fs id low b.1)
    (λ _. (b.0, beneath_without fs id low b.1))

pub above_without : (fs : List Fact) (id high : ℕ) → Above high fs → Above high (without id fs)
above_without [] id high a = tt
above_without (f ∷ fs) id high a =
    cond_both (f.id == id) (without id fs) (f ∷ without id fs) (Above high)
    (λ _. above_without fs id high a.1)
    (λ _. (a.0, above_without fs id high a.1))

pub rising_without : (fs : List Fact) (id : ℕ) → Rising fs → Rising (without id fs)
rising_without [] id r = tt
rising_without (f ∷ fs) id r =
    cond_both (f.id == id) (without id fs) (f ∷ without id fs) Rising
    (λ _. rising_without fs id r.1)
    (λ _. (beneath_without fs id f.id r.0, rising_without fs id r.1))

pub without_append : (fs gs : List Fact) (id : ℕ) → without id (fs ++ gs) ≡ without id fs ++ without id gs
without_append [] gs id = refl
without_append (f ∷ fs) gs id = go (f.id == id) (without_append fs gs id) where
  go : (b : Bool) → without id (fs ++ gs) ≡ without id fs ++ without id gs
      → cond b (without id (fs ++ gs)) (f ∷ without id (fs ++ gs)) ≡ cond b (without id fs) (f ∷ without id fs) ++ without id gs
  go true e = e
  go false e = ap (λ xs. f ∷ xs) e

pub length_without : (fs : List Fact) (id : ℕ) (f : Fact) → Rising fs → find id fs ≡ Some f → length (without id fs) + 1 ≡ length fs
length_without [] id f r e = cc
length_without (g ∷ fs) id f r e = go (g.id == id) refl e (length_without fs id f r.1) where
  go : (b : Bool) → (g.id == id) ≡ b → cond b (Some g) (find id fs) ≡ Some f
      → (find id fs ≡ Some f → length (without id fs) + 1 ≡ length fs)
      → length (cond (g.id == id) (without id fs) (g ∷ without id fs)) + 1 ≡ suc (length fs)
  go true t e rest =
      let h = eqb-true g.id id t in
      let b : Beneath id fs = beneath_lower fs id g.id (omega arith) r.0 in
      rw (t, without_none fs id (find_beneath fs id b)) (omega arith)
  go false t e rest = let n = rest e in rw t (omega arith)

pub find_without : (fs : List Fact) (id : ℕ) → find id (without id fs) ≡ None
find_without [] id = refl
find_without (f ∷ fs) id = go (f.id == id) refl (find_without fs id) where
  go : (b : Bool) → (f.id == id) ≡ b → find id (without id fs) ≡ None
      → find id (cond b (without id fs) (f ∷ without id fs)) ≡ None
  go true t e = e
  go false t e = cond-false (f.id == id) (Some f) (find id (without id fs)) t ∙ e

pub find_without_other : (fs : List Fact) (id i : ℕ) → (i ≢ id) → find i (without id fs) ≡ find i fs
find_without_other [] id i n = refl
find_without_other (f ∷ fs) id i n = go (f.id == id) refl (find_without_other fs id i n) where
  go : (b : Bool) → (f.id == id) ≡ b → find i (without id fs) ≡ find i fs
      → find i (cond b (without id fs) (f ∷ without id fs)) ≡ cond (f.id == i) (Some f) (find i fs)
  go true t e =
      let h = eqb-true f.id id t in
      e ∙ sym (cond-false (f.id == i) (Some f) (find i fs) (ne_eqb f.id i (λ q. n (sym q ∙ h))))
  go false t e = ap (cond (f.id == i) (Some f)) e

pub find_push_other : (fs : List Fact) (f : Fact) (i : ℕ) → (f.id ≢ i) → find i (fs ++ f ∷ []) ≡ find i fs
find_push_other [] f i n = cond-false (f.id == i) (Some f) None (ne_eqb f.id i n)
find_push_other (g ∷ fs) f i n = ap (cond (g.id == i) (Some g)) (find_push_other fs f i n)

pub find_push : (fs : List Fact) (f : Fact) → Above f.id fs → find f.id (fs ++ f ∷ []) ≡ Some f
find_push [] f a = cond-true (f.id == f.id) (Some f) None (eq-eqb f.id f.id refl)
find_push (g ∷ fs) f a =
    let h = a.0 in
    cond-false (g.id == f.id) (Some g) (find f.id (fs ++ f ∷ [])) (ne_eqb g.id f.id (λ e. omega arith))
    ∙ find_push fs f a.1
