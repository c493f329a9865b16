-- Facts that leave the store and join it, as sets.
use Rattle.std.proofs.Common.{◌≡◌, ℕ, Bool, true, false, cond, eqb, ◌⊎◌, List, [], ◌∷◌, ◌++◌, sym, refl, ap, ◌∙◌, subst, inl, inr}
use Rattle.std.proofs.lemmas.Bool.{eqb-true, eqb-false}
use Rattle.facts.specs.declared.Fact.{Fact}
use Rattle.records.specs.declared.parts.Head.{Head}
use Rattle.store.specs.Store.{find, without, Rising}
use Rattle.meaning.specs.Words.{In}
use Rattle.meaning.specs.Instances.{ids_of}
use Rattle.meaning.specs.Firing.{taken_ids, taking_off}
use Rattle.meaning.specs.Published.{Gains, Loses, removed, at_heads}
use Rattle.meaning.proofs.Lists.{in_front, in_back, in_either}
use Rattle.meaning.proofs.PublishedBody.{find_live}

-- Sets of items.

pub gains_push : {A : Type 0} (xs : List A) (x : A) → Gains xs x (xs ++ x ∷ [])
gains_push xs x y = (
  (λ i. elim (in_either y xs (x ∷ []) i) [
    | inl j ↦ inl j
    | inr j ↦ elim j [ inl e ↦ inr e | inr n ↦ absurd n ]
  ]),
  (λ i. elim i [ inl j ↦ in_front y xs (x ∷ []) j | inr e ↦ in_back y xs (x ∷ []) (inl e) ]),
)

in_ids : (fs : List Fact) (f : Fact) → In f fs → In f.id (ids_of fs)
in_ids [] f i = absurd i
in_ids (g ∷ fs) f (inl e) = inl (ap (λ (x : Fact). x.id) e)
in_ids (g ∷ fs) f (inr i) = inr (in_ids fs f i)

ids_in : (fs : List Fact) (i : ℕ) → In i (ids_of fs) → (g : Fact) × In g fs × (i ≡ g.id)
ids_in [] i u = absurd u
ids_in (g ∷ fs) i (inl e) = (g, inl refl, e)
ids_in (g ∷ fs) i (inr u) = let r = ids_in fs i u in (r.0, inr r.1, r.2)

one_live : (fs : List Fact) (f g : Fact) → Rising fs → In f fs → In g fs → f.id ≡ g.id → f ≡ g
one_live fs f g r i j e =
    let a = find_live fs f r i in
    let b = find_live fs g r j in
    let c = ap (λ n. find n fs) e in
    (cc)

-- Facts taken off.

in_without : (i : ℕ) (fs : List Fact) (f : Fact) → In f fs → (f.id ≡ i → ⊥) → In f (without i fs)
in_without i [] f u n = absurd u
in_without i (g ∷ fs) f u n = go (eqb g.id i) refl u (in_without i fs f) where
  go : (b : Bool) → eqb g.id i ≡ b → (f ≡ g) ⊎ In f fs → (In f fs → (f.id ≡ i → ⊥) → In f (without i fs)) → In f (cond b (without i fs) (g ∷ without i fs))
  go true q (inl e) rest = absurd (n (ap (λ (x : Fact). x.id) e ∙ eqb-true g.id i q))
  go true q (inr v) rest = rest v n
  go false q (inl e) rest = inl e
  go false q (inr v) rest = inr (rest v n)

without_in : (i : ℕ) (fs : List Fact) (f : Fact) → In f (without i fs) → In f fs × (f.id ≡ i → ⊥)
without_in i [] f u = absurd u
without_in i (g ∷ fs) f u = go (eqb g.id i) refl u (without_in i fs f) where
  go : (b : Bool) → eqb g.id i ≡ b → In f (cond b (without i fs) (g ∷ without i fs)) → (In f (without i fs) → In f fs × (f.id ≡ i → ⊥))
      → ((f ≡ g) ⊎ In f fs) × (f.id ≡ i → ⊥)
  go true q v rest = let r = rest v in (inr r.0, r.1)
  go false q (inl e) rest = (inl e, λ h. eqb-false g.id i q (ap (λ (x : Fact). x.id) (sym e) ∙ h))
  go false q (inr v) rest = let r = rest v in (inr r.0, r.1)

in_taking : (is : List ℕ) (fs : List Fact) (f : Fact) → In f fs → (In f.id is → ⊥) → In f (taking_off is fs)
in_taking [] fs f u n = u
in_taking (i ∷ is) fs f u n = in_taking is (without i fs) f (in_without i fs f u (λ e. n (inl e))) (λ v. n (inr v))

taking_in : (is : List ℕ) (fs : List Fact) (f : Fact) → In f (taking_off is fs) → In f fs × (In f.id is → ⊥)
taking_in [] fs f u = (u, λ v. v)
taking_in (i ∷ is) fs f u =
    let r = taking_in is (without i fs) f u in
    let w = without_in i fs f r.0 in
    (w.0, λ v. elim v [ inl e ↦ w.1 e | inr k ↦ r.1 k ])

pub taken_at_heads : (hs : List Head) (is : List ℕ) → taken_ids hs is ≡ at_heads removed hs is
taken_at_heads [] is = refl
taken_at_heads (h ∷ hs) [] = refl
taken_at_heads (h ∷ hs) (i ∷ is) = ap (λ js. cond h.taken (i ∷ js) js) (taken_at_heads hs is)

pub loses_facts : (live gone : List Fact) → Rising live → ((f : Fact) → In f gone → In f live) → Loses live gone (taking_off (ids_of gone) live)
loses_facts live gone rising alive f = (
  (λ u. let r = taking_in (ids_of gone) live f u in (r.0, λ v. r.1 (in_ids gone f v))),
  (λ p. in_taking (ids_of gone) live f p.0
      (λ u. let g = ids_in gone f.id u in p.1 (subst (λ h. In h gone) (sym (one_live live f g.0 rising p.0 (alive g.0 g.1) g.2)) g.1))),
)
