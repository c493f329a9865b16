-- Of the facts that came, those not taken are left, in order; so it stays as more is taken and new facts come.
use Rattle.std.proofs.Common.{◌≡◌, ℕ, suc, ◌<◌, ◌≤◌, Bool, true, false, cond, eqb, ◌⊎◌, List, [], ◌∷◌, ◌++◌, sym, refl, ap, ◌∙◌, subst, inl, inr, arith}
use Rattle.std.proofs.lemmas.Bool.{cond-false, eqb-true, ne_eqb, eq-eqb, false≢true}
use Rattle.facts.specs.declared.Fact.{Fact}
use Rattle.store.specs.Store.{without, Above}
use Rattle.store.specs.Rises.{without_append}
use Rattle.meaning.specs.declared.written.Written.{Written}
use Rattle.meaning.specs.Words.{In, All, Different}
use Rattle.meaning.specs.Instances.{ids_of}
use Rattle.meaning.specs.Firing.{taking_off, numbered_from}
use Rattle.meaning.proofs.Lists.{in_front, in_either}

-- Lists put together.

pub all_at_item : (P : ℕ → Type 0) (xs : List ℕ) (x : ℕ) → All P xs → In x xs → P x
all_at_item P [] x a h = absurd h
all_at_item P (y ∷ xs) x a (inl e) = subst P (sym e) a.0
all_at_item P (y ∷ xs) x a (inr h) = all_at_item P xs x a.1 h

pub different_append : (xs ys : List ℕ) → Different xs → Different ys → ((x : ℕ) → In x xs → In x ys → ⊥) → Different (xs ++ ys)
different_append [] ys d e apart = e
different_append (x ∷ xs) ys d e apart = (
  (λ h. elim (in_either x xs ys h) [ inl j ↦ d.0 j | inr j ↦ apart x (inl refl) j ]),
  different_append xs ys d.1 e (λ y i j. apart y (inr i) j),
)

pub ids_append : (fs gs : List Fact) → ids_of (fs ++ gs) ≡ ids_of fs ++ ids_of gs
ids_append [] gs = refl
ids_append (f ∷ fs) gs = ap (λ xs. f.id ∷ xs) (ids_append fs gs)

pub id_of_item : (fs : List Fact) (f : Fact) → In f fs → In f.id (ids_of fs)
id_of_item [] f h = absurd h
id_of_item (g ∷ fs) f (inl e) = inl (ap (λ x. x.id) e)
id_of_item (g ∷ fs) f (inr h) = inr (id_of_item fs f h)

-- Taking off.

pub taking_off_ids_append : (is js : List ℕ) (fs : List Fact) → taking_off (is ++ js) fs ≡ taking_off js (taking_off is fs)
taking_off_ids_append [] js fs = refl
taking_off_ids_append (i ∷ is) js fs = taking_off_ids_append is js (without i fs)

pub taking_off_append : (is : List ℕ) (fs gs : List Fact) → taking_off is (fs ++ gs) ≡ taking_off is fs ++ taking_off is gs
taking_off_append [] fs gs = refl
taking_off_append (i ∷ is) fs gs =
    ap (taking_off is) (without_append fs gs i) ∙ taking_off_append is (without i fs) (without i gs)

-- an id that no fact has
pub without_strange : (fs : List Fact) (i : ℕ) → (In i (ids_of fs) → ⊥) → without i fs ≡ fs
without_strange [] i n = refl
without_strange (f ∷ fs) i n =
    cond-false (eqb f.id i) (without i fs) (f ∷ without i fs) (ne_eqb f.id i (λ e. n (inl (sym e))))
    ∙ ap (λ xs. f ∷ xs) (without_strange fs i (λ h. n (inr h)))

pub taking_off_strange : (is : List ℕ) (fs : List Fact) → ((i : ℕ) → In i is → In i (ids_of fs) → ⊥) → taking_off is fs ≡ fs
taking_off_strange [] fs n = refl
taking_off_strange (i ∷ is) fs n =
    ap (taking_off is) (without_strange fs i (n i (inl refl))) ∙ taking_off_strange is fs (λ j h. n j (inr h))

-- What is left is what was there and was not taken.

pub left_without : (fs : List Fact) (i : ℕ) (f : Fact) → In f (without i fs) → In f fs × (f.id ≡ i → ⊥)
left_without [] i f h = absurd h
left_without (g ∷ fs) i f h = go (eqb g.id i) refl h (left_without fs i f) where
  go : (b : Bool) → eqb g.id i ≡ b → In f (cond b (without i fs) (g ∷ without i fs))
      → (In f (without i fs) → In f fs × (f.id ≡ i → ⊥)) → ((f ≡ g) ⊎ In f fs) × (f.id ≡ i → ⊥)
  go true t h rest = let p = rest h in (inr p.0, p.1)
  go false t (inl e) rest = (inl e, λ q. false≢true (sym t ∙ eq-eqb g.id i (ap (λ x. x.id) (sym e) ∙ q)))
  go false t (inr h) rest = let p = rest h in (inr p.0, p.1)

pub left_taking_off : (is : List ℕ) (fs : List Fact) (f : Fact) → In f (taking_off is fs) → In f fs × (In f.id is → ⊥)
left_taking_off [] fs f h = (h, λ x. x)
left_taking_off (i ∷ is) fs f h =
    let p = left_taking_off is (without i fs) f h in
    let q = left_without fs i f p.0 in
    (q.0, λ x. elim x [ inl e ↦ q.1 e | inr y ↦ p.1 y ])

pub kept_without : (fs : List Fact) (i : ℕ) (f : Fact) → In f fs → (f.id ≡ i → ⊥) → In f (without i fs)
kept_without [] i f h n = absurd h
kept_without (g ∷ fs) i f h n = go (eqb g.id i) refl h (λ j. kept_without fs i f j n) where
  go : (b : Bool) → eqb g.id i ≡ b → (f ≡ g) ⊎ In f fs → (In f fs → In f (without i fs))
      → In f (cond b (without i fs) (g ∷ without i fs))
  go true t (inl e) rest = absurd (n (ap (λ x. x.id) e ∙ eqb-true g.id i t))
  go true t (inr h) rest = rest h
  go false t (inl e) rest = inl e
  go false t (inr h) rest = inr (rest h)

pub kept_taking_off : (is : List ℕ) (fs : List Fact) (f : Fact) → In f fs → (In f.id is → ⊥) → In f (taking_off is fs)
kept_taking_off [] fs f h n = h
kept_taking_off (i ∷ is) fs f h n =
    kept_taking_off is (without i fs) f (kept_without fs i f h (λ e. n (inl e))) (λ x. n (inr x))

-- the same of ids
pub record Bearer (fs : List Fact) (i : ℕ) : Type 0 where
  pub fact : Fact
  pub given : In fact fs
  pub named : i ≡ fact.id

pub bearer : (fs : List Fact) (i : ℕ) → In i (ids_of fs) → Bearer fs i
bearer [] i h = absurd h
bearer (f ∷ fs) i (inl e) = record { fact = f; given = inl refl; named = e }
bearer (f ∷ fs) i (inr h) = let b = bearer fs i h in record { fact = b.fact; given = inr b.given; named = b.named }

pub left_ids : (is : List ℕ) (fs : List Fact) (i : ℕ) → In i (ids_of (taking_off is fs)) → In i (ids_of fs) × (In i is → ⊥)
left_ids is fs i h =
    let b = bearer (taking_off is fs) i h in
    let p = left_taking_off is fs b.fact b.given in (
      subst (λ k. In k (ids_of fs)) (sym b.named) (id_of_item fs b.fact p.0),
      λ x. p.1 (subst (λ k. In k is) b.named x),
    )

-- Ids below a bound, and new ones from it upward.

pub above_ids : (fs : List Fact) (n i : ℕ) → Above n fs → In i (ids_of fs) → i < n
above_ids [] n i a h = absurd h
above_ids (f ∷ fs) n i a (inl e) = let l = a.0 in omega arith
above_ids (f ∷ fs) n i a (inr h) = above_ids fs n i a.1 h

pub numbered_ids : (ws : List Written) (n i : ℕ) → In i (ids_of (numbered_from n ws)) → n ≤ i
numbered_ids [] n i h = absurd h
numbered_ids (w ∷ ws) n i (inl e) = omega arith
numbered_ids (w ∷ ws) n i (inr h) = let l = numbered_ids ws (suc n) i h in omega arith

pub numbered_different : (ws : List Written) (n : ℕ) → Different (ids_of (numbered_from n ws))
numbered_different [] n = tt
numbered_different (w ∷ ws) n =
    ((λ h. let l = numbered_ids ws (suc n) n h in omega arith), numbered_different ws (suc n))

-- The balance: of the facts that came, each under an id of its own, those that were not taken are
-- left, in order; each was taken at most once.

pub record Balanced (is : List ℕ) (cs left : List Fact) : Type 0 where
  pub once : Different is
  pub known : (i : ℕ) → In i is → In i (ids_of cs)
  pub own : Different (ids_of cs)
  pub list : left ≡ taking_off is cs

-- more is taken of what is left, and new facts come
module _ (is js : List ℕ) (cs ns left : List Fact) (b : Balanced is cs left)
    (alive : All (λ i. In i (ids_of left)) js) (apart : Different js)
    (own : Different (ids_of ns)) (new : (i : ℕ) → In i (ids_of cs) → In i (ids_of ns) → ⊥) where
  was_left : (i : ℕ) → In i js → In i (ids_of cs) × (In i is → ⊥)
  was_left i h =
      left_ids is cs i (subst (λ fs. In i (ids_of fs)) b.list (all_at_item (λ j. In j (ids_of left)) js i alive h))

  all_known : (i : ℕ) → In i (is ++ js) → In i (ids_of cs)
  all_known i h = elim (in_either i is js h) [ inl j ↦ b.known i j | inr j ↦ (was_left i j).0 ]

  pub balanced_after : Balanced (is ++ js) (cs ++ ns) (taking_off js left ++ ns)
  balanced_after = record {
    once = different_append is js b.once apart (λ i h j. (was_left i j).1 h);
    known = λ i h. subst (In i) (sym (ids_append cs ns)) (in_front i (ids_of cs) (ids_of ns) (all_known i h));
    own = subst Different (sym (ids_append cs ns)) (different_append (ids_of cs) (ids_of ns) b.own own new);
    list =
        ap (λ fs. taking_off js fs ++ ns) b.list
        ∙ ap (λ fs. fs ++ ns) (sym (taking_off_ids_append is js cs))
        ∙ ap (λ fs. taking_off (is ++ js) cs ++ fs) (sym (taking_off_strange (is ++ js) ns (λ i h j. new i (all_known i h) j)))
        ∙ sym (taking_off_append (is ++ js) cs ns);
  }
