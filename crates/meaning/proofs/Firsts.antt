-- A fold that keeps the better of two, over a list in an order, gives the first of the best ones:
-- from the three laws of ranks alone.
use Rattle.std.proofs.Common.{◌≡◌, Bool, true, false, cond, ◌⊎◌, List, [], ◌∷◌, Some, None, fold, Option, sym, refl, ap, ◌∙◌, subst, inl, inr}
use Rattle.std.proofs.lemmas.Bool.{both_ways}
use Rattle.meaning.specs.declared.due.Due.{Due}
use Rattle.meaning.specs.Setup.{Setup, State, Lawful}
use Rattle.meaning.specs.Words.{In}
use Rattle.meaning.specs.Enumeration.{chosen}
use Rattle.meaning.proofs.Lists.{Ordered}

module _ {R : Type 0} (better : R → R → Bool) (law : Lawful better) where
  -- what is better than a is better than b, unless b is better than a
  over : (a b c : R) → better c a ≡ true → better b a ≡ false → better c b ≡ true
  over a b c ca ba = go (better a b) refl where
    go : (t : Bool) → better a b ≡ t → better c b ≡ true
    go true ab = law.chains c a b ca ab
    go false ab = sym (law.level a b c ab ba).0 ∙ ca

  -- what is not better than b, with b not better than a, is not better than a
  under : (a b c : R) → better c b ≡ false → better b a ≡ false → better c a ≡ false
  under a b c cb ba = go (better c a) refl where
    go : (t : Bool) → better c a ≡ t → better c a ≡ false
    go true ca = absurd (both_ways (better c b) cb (over a b c ca ba))
    go false ca = ca

  -- what is better is not worse
  not_back : (a b : R) → better a b ≡ true → better b a ≡ false
  not_back a b ab = go (better b a) refl where
    go : (t : Bool) → better b a ≡ t → better b a ≡ false
    go true ba = absurd (both_ways (better a a) (law.never a) (law.chains a b a ab ba))
    go false ba = ba

module _ {R : Type 0} (s : Setup R) (t : State) (law : Lawful s.better) (Before : Due R → Due R → Type 0) where
  -- d is the first of the best among b and then xs
  pub record Best (b : Due R) (xs : List (Due R)) (d : Due R) : Type 0 where
    pub given : (d ≡ b) ⊎ In d xs
    pub head : (d ≡ b) ⊎ (s.better d.rank b.rank ≡ true)
    pub best : (x : Due R) → In x xs → s.better x.rank d.rank ≡ false
    pub rest : (x : Due R) → In x xs → (s.better d.rank x.rank ≡ true) ⊎ ((x ≡ d) ⊎ Before d x)

  head_best : (b : Due R) (xs : List (Due R)) (d : Due R) → Best b xs d → s.better b.rank d.rank ≡ false
  head_best b xs d m = elim m.head [
    | inl e ↦ ap (λ (x : Due R). s.better b.rank x.rank) e ∙ law.never b.rank
    | inr h ↦ not_back s.better law d.rank b.rank h
  ]

  -- the next one is better, and takes the place
  replaced : (b x : Due R) (xs : List (Due R)) (d : Due R) → s.better x.rank b.rank ≡ true → Best x xs d → Best b (x ∷ xs) d
  replaced b x xs d xb m = record {
    given = inr m.given;
    head = inr (elim m.head [
      | inl e ↦ ap (λ (y : Due R). s.better y.rank b.rank) e ∙ xb
      | inr h ↦ law.chains d.rank x.rank b.rank h xb
    ]);
    best = best;
    rest = rest;
  } where
    best : (y : Due R) → In y (x ∷ xs) → s.better y.rank d.rank ≡ false
    best y (inl e) = ap (λ (z : Due R). s.better z.rank d.rank) e ∙ head_best x xs d m
    best y (inr i) = m.best y i

    rest : (y : Due R) → In y (x ∷ xs) → (s.better d.rank y.rank ≡ true) ⊎ ((y ≡ d) ⊎ Before d y)
    rest y (inl e) = elim m.head [
      | inl q ↦ inr (inl (e ∙ sym q))
      | inr h ↦ inl (ap (λ (z : Due R). s.better d.rank z.rank) e ∙ h)
    ]
    rest y (inr i) = m.rest y i

  -- the next one is not better, and is passed over
  kept : (b x : Due R) (xs : List (Due R)) (d : Due R) → s.better x.rank b.rank ≡ false → Before b x → Best b xs d → Best b (x ∷ xs) d
  kept b x xs d xb before m = record {
    given = elim m.given [ inl e ↦ inl e | inr i ↦ inr (inr i) ];
    head = m.head;
    best = best;
    rest = rest;
  } where
    best : (y : Due R) → In y (x ∷ xs) → s.better y.rank d.rank ≡ false
    best y (inl e) =
        ap (λ (z : Due R). s.better z.rank d.rank) e
        ∙ under s.better law d.rank b.rank x.rank xb (head_best b xs d m)
    best y (inr i) = m.best y i

    rest : (y : Due R) → In y (x ∷ xs) → (s.better d.rank y.rank ≡ true) ⊎ ((y ≡ d) ⊎ Before d y)
    rest y (inl e) = elim m.head [
      | inl q ↦ inr (inr (subst (λ z. Before z y) (sym q) (subst (Before b) (sym e) before)))
      | inr h ↦ inl (ap (λ (z : Due R). s.better d.rank z.rank) e ∙ over s.better law b.rank x.rank d.rank h xb)
    ]
    rest y (inr i) = m.rest y i

  -- what the fold gives from b on
  pub record Kept (b : Due R) (xs : List (Due R)) : Type 0 where
    pub due : Due R
    pub value : fold (chosen s t) (Some b) xs ≡ Some due
    pub stands : Best b xs due

  from_one : (xs : List (Due R)) (b : Due R) → ((x : Due R) → In x xs → Before b x) → Ordered Before xs → Kept b xs
  from_one [] b first order = record {
    due = b;
    value = refl;
    stands = record { given = inl refl; head = inl refl; best = λ x i. absurd i; rest = λ x i. absurd i };
  }
  from_one (x ∷ xs) b first order =
      go (s.better x.rank b.rank) refl (from_one xs x order.0 order.1) (from_one xs b (λ y i. first y (inr i)) order.1) where
        go : (t' : Bool) → s.better x.rank b.rank ≡ t' → Kept x xs → Kept b xs → Kept b (x ∷ xs)
        go true e k l = record {
          due = k.due;
          value = ap (λ c. fold (chosen s t) (cond c (Some x) (Some b)) xs) e ∙ k.value;
          stands = replaced b x xs k.due e k.stands;
        }
        go false e k l = record {
          due = l.due;
          value = ap (λ c. fold (chosen s t) (cond c (Some x) (Some b)) xs) e ∙ l.value;
          stands = kept b x xs l.due e (first x (inl refl)) l.stands;
        }

  -- d is the first of the best of xs
  pub record First (xs : List (Due R)) (d : Due R) : Type 0 where
    pub given : In d xs
    pub best : (x : Due R) → In x xs → s.better x.rank d.rank ≡ false
    pub first : (x : Due R) → In x xs → s.better d.rank x.rank ≡ false → (x ≡ d) ⊎ Before d x

  -- an answer is the first of the best, or none of none
  abbrev pub Answers : List (Due R) → Option (Due R) → Type 0
  Answers xs None = (x : Due R) → In x xs → ⊥
  Answers xs (Some d) = First xs d

  first_of : (b : Due R) (xs : List (Due R)) (d : Due R) → Best b xs d → First (b ∷ xs) d
  first_of b xs d m = record { given = m.given; best = best; first = first } where
    best : (x : Due R) → In x (b ∷ xs) → s.better x.rank d.rank ≡ false
    best x (inl e) = ap (λ (z : Due R). s.better z.rank d.rank) e ∙ head_best b xs d m
    best x (inr i) = m.best x i

    first : (x : Due R) → In x (b ∷ xs) → s.better d.rank x.rank ≡ false → (x ≡ d) ⊎ Before d x
    first x (inl e) dx = elim m.head [
      | inl q ↦ inl (e ∙ sym q)
      | inr h ↦ absurd (both_ways (s.better d.rank x.rank) dx (ap (λ (z : Due R). s.better d.rank z.rank) e ∙ h))
    ]
    first x (inr i) dx = elim (m.rest x i) [
      | inl h ↦ absurd (both_ways (s.better d.rank x.rank) dx h)
      | inr h ↦ h
    ]

  pub fold_answers : (xs : List (Due R)) → Ordered Before xs → Answers xs (fold (chosen s t) None xs)
  fold_answers [] order = λ x i. i
  fold_answers (b ∷ xs) order =
      let k = from_one xs b order.0 order.1 in
      subst (Answers (b ∷ xs)) (sym k.value) (first_of b xs k.due k.stands)
