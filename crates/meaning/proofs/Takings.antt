-- Facts taken off: ids keep rising and keep their bound, and each id that is taken makes a row free.
use Rattle.std.proofs.Common.{◌≡◌, ℕ, ◌+◌, Bool, true, false, cond, eqb, ◌⊎◌, List, [], ◌∷◌, length, Some, sym, refl, ◌∙◌, inl, inr, arith}
use Rattle.std.proofs.lemmas.Bool.{cond-true, eqb-true, eq-eqb}
use Rattle.facts.specs.declared.Fact.{Fact}
use Rattle.store.specs.Store.{find, without, Above, Rising}
use Rattle.store.specs.Rises.{above_without, rising_without, length_without}
use Rattle.meaning.specs.Words.{In, All, Different}
use Rattle.meaning.specs.Instances.{ids_of}
use Rattle.meaning.specs.Firing.{taking_off}

pub above_taking_off : (is : List ℕ) (fs : List Fact) (n : ℕ) → Above n fs → Above n (taking_off is fs)
above_taking_off [] fs n a = a
above_taking_off (i ∷ is) fs n a = above_taking_off is (without i fs) n (above_without fs i n a)

pub rising_taking_off : (is : List ℕ) (fs : List Fact) → Rising fs → Rising (taking_off is fs)
rising_taking_off [] fs r = r
rising_taking_off (i ∷ is) fs r = rising_taking_off is (without i fs) (rising_without fs i r)

-- a live id is found
pub live_found : (fs : List Fact) (i : ℕ) → In i (ids_of fs) → (f : Fact) × (find i fs ≡ Some f)
live_found [] i h = absurd h
live_found (g ∷ fs) i (inl e) = (g, cond-true (eqb g.id i) (Some g) (find i fs) (eq-eqb g.id i (sym e)))
live_found (g ∷ fs) i (inr h) = go (eqb g.id i) (live_found fs i h) where
  go : (b : Bool) → (f : Fact) × (find i fs ≡ Some f) → (f : Fact) × (cond b (Some g) (find i fs) ≡ Some f)
  go true p = (g, refl)
  go false p = p

-- and stays live where another is taken
pub live_without : (fs : List Fact) (i j : ℕ) → (i ≡ j → ⊥) → In j (ids_of fs) → In j (ids_of (without i fs))
live_without [] i j n h = h
live_without (g ∷ fs) i j n h = go (eqb g.id i) refl h (live_without fs i j n) where
  go : (b : Bool) → eqb g.id i ≡ b → (j ≡ g.id) ⊎ In j (ids_of fs) → (In j (ids_of fs) → In j (ids_of (without i fs)))
      → In j (ids_of (cond b (without i fs) (g ∷ without i fs)))
  go true t (inl e) rest = absurd (n (sym (e ∙ eqb-true g.id i t)))
  go true t (inr h) rest = rest h
  go false t (inl e) rest = inl e
  go false t (inr h) rest = inr (rest h)

pub all_live_without : (is : List ℕ) (fs : List Fact) (i : ℕ) → (In i is → ⊥) → All (λ j. In j (ids_of fs)) is → All (λ j. In j (ids_of (without i fs))) is
all_live_without [] fs i n a = tt
all_live_without (j ∷ is) fs i n a =
    (live_without fs i j (λ e. n (inl e)) a.0, all_live_without is fs i (λ h. n (inr h)) a.1)

pub length_taking_off : (is : List ℕ) (fs : List Fact) → Rising fs → All (λ i. In i (ids_of fs)) is → Different is → length (taking_off is fs) + length is ≡ length fs
length_taking_off [] fs r a d = omega arith
length_taking_off (i ∷ is) fs r a d =
    let p = live_found fs i a.0 in
    let one = length_without fs i p.0 r p.1 in
    let more = length_taking_off is (without i fs) (rising_without fs i r) (all_live_without is fs i d.0 a.1) d.1 in
    omega arith
