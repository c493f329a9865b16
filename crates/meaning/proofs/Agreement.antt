-- The due instance in words and as a function are one.
use Rattle.std.proofs.Common.{◌≡◌, ℕ, true, List, [], ◌∷◌, Some, None, Option, sym, refl, inl, inr, arith}
use Rattle.facts.specs.Positions.{all}
use Rattle.rules.specs.Rules.{closed, small}
use Rattle.store.specs.Store.{Rising}
use Rattle.meaning.specs.declared.due.Due.{Due}
use Rattle.meaning.specs.Setup.{Setup, State, Lawful}
use Rattle.meaning.specs.Words.{Sooner}
use Rattle.meaning.specs.Instances.{Waits, Earlier, IsDue, DueIs}
use Rattle.meaning.specs.Enumeration.{all_waiting, due_of}
use Rattle.meaning.specs.Agreement.{DueAgrees}
use Rattle.meaning.proofs.Firsts.{Answers, fold_answers}
use Rattle.meaning.proofs.Rows.{all_waiting_ordered}
pub use Rattle.meaning.proofs.Listed.{listed_waits, waits_listed}

-- Of two instances at most one is earlier.

not_both_sooner : (xs ys : List ℕ) → Sooner xs ys → Sooner ys xs → ⊥
not_both_sooner [] ys a b = a
not_both_sooner (x ∷ xs) [] a b = a
not_both_sooner (x ∷ xs) (y ∷ ys) (inl a) (inl b) = omega arith
not_both_sooner (x ∷ xs) (y ∷ ys) (inl a) (inr b) = let e = b.0 in omega arith
not_both_sooner (x ∷ xs) (y ∷ ys) (inr a) (inl b) = let e = a.0 in omega arith
not_both_sooner (x ∷ xs) (y ∷ ys) (inr a) (inr b) = not_both_sooner xs ys a.1 b.1

module _ {R : Type 0} where
  not_both_earlier : (d e : Due R) → Earlier d e → Earlier e d → ⊥
  not_both_earlier d e (inl a) (inl b) = omega arith
  not_both_earlier d e (inl a) (inr b) = let q = b.0 in omega arith
  not_both_earlier d e (inr a) (inl b) = let q = a.0 in omega arith
  not_both_earlier d e (inr a) (inr b) = not_both_sooner d.ids e.ids a.1 b.1

  pub one_due : (s : Setup R) (t : State) (d e : Due R) → IsDue s t d → IsDue s t e → d ≡ e
  one_due s t d e a b = elim (a.first e b.waits (b.best d a.waits)) [
    | inl q ↦ sym q
    | inr p ↦ elim (b.first d a.waits (a.best e b.waits)) [
      | inl q ↦ q
      | inr q ↦ absurd (not_both_earlier d e p q)
    ]
  ]

  due_from_answer : (s : Setup R) (t : State) (law : Lawful s.better) → all closed s.rules ≡ true → all small s.rules ≡ true
      → (o : Option (Due R)) → Answers s t law Earlier (all_waiting s t) o → DueIs s t o
  due_from_answer s t law shut few None a = λ d w. a d (waits_listed s t shut few d w)
  due_from_answer s t law shut few (Some d) a = record {
    waits = listed_waits s t few d a.given;
    best = λ e w. a.best e (waits_listed s t shut few e w);
    first = λ e w h. a.first e (waits_listed s t shut few e w) h;
  }

  pub due_is : (s : Setup R) (t : State) → Lawful s.better → Rising t.facts
      → all closed s.rules ≡ true → all small s.rules ≡ true → DueIs s t (due_of s t)
  due_is s t law rising shut few =
      due_from_answer s t law shut few (due_of s t)
      (fold_answers s t law Earlier (all_waiting s t) (all_waiting_ordered s t few rising))

  pub due_when_waiting : (s : Setup R) (t : State) → Lawful s.better → Rising t.facts
      → all closed s.rules ≡ true → all small s.rules ≡ true
      → (d : Due R) → Waits s t d → (e : Due R) × (due_of s t ≡ Some e)
  due_when_waiting s t law rising shut few d w = go (due_of s t) refl (due_is s t law rising shut few) where
    go : (o : Option (Due R)) → due_of s t ≡ o → DueIs s t o → (e : Due R) × (due_of s t ≡ Some e)
    go None q a = absurd (a d w)
    go (Some e) q a = (e, q)

pub due_agrees : (R : Type 0) → DueAgrees R
due_agrees R = record {
  value = λ s t p. due_is s t p.ranks p.ids p.bound p.sizes;
  one = one_due;
  some = λ s t p. due_when_waiting s t p.ranks p.ids p.bound p.sizes;
}
