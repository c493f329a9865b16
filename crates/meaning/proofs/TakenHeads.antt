-- What a firing takes is live and different, and its rule is the one of its number.
use Rattle.std.proofs.Common.{◌≡◌, ℕ, suc, ◌+◌, ◌-◌, ◌≤◌, Bool, true, false, cond, ◌⊎◌, List, [], ◌∷◌, ◌++◌, length, get_or, take, ℤ, sym, refl, ap, ◌∙◌, subst, inl, inr, arith}
use Rattle.std.proofs.lemmas.List.{take-take, take-append-le, take_all, length-map}
use Rattle.facts.specs.declared.Fact.{Fact}
use Rattle.records.specs.declared.parts.Head.{Head}
use Rattle.rules.specs.Rules.{Rule, blank_rule}
use Rattle.store.specs.Store.{Rising}
use Rattle.meaning.specs.Words.{In, All, Both, Different, Numbered}
use Rattle.meaning.specs.Setup.{Setup, State}
use Rattle.meaning.specs.Instances.{Instance, Waits, ids_of, padded}
use Rattle.meaning.specs.declared.due.Due.{Due}
use Rattle.meaning.specs.Firing.{taken_ids, taking_off, rule_at}
use Rattle.meaning.proofs.Takings.{length_taking_off}

-- What is taken is among the ids of the heads.

pub all_taken : (P : ℕ → Type 0) (hs : List Head) (is : List ℕ) → All P (take (length hs) is) → All P (taken_ids hs is)
all_taken P [] is a = tt
all_taken P (h ∷ hs) [] a = tt
all_taken P (h ∷ hs) (i ∷ is) a = go h.taken (all_taken P hs is a.1) where
  go : (b : Bool) → All P (taken_ids hs is) → All P (cond b (i ∷ taken_ids hs is) (taken_ids hs is))
  go true rest = (a.0, rest)
  go false rest = rest

pub in_taken : (hs : List Head) (is : List ℕ) (i : ℕ) → In i (taken_ids hs is) → In i (take (length hs) is)
in_taken [] is i h = absurd h
in_taken (h ∷ hs) [] i x = absurd x
in_taken (h ∷ hs) (j ∷ is) i x = go h.taken x (in_taken hs is i) where
  go : (b : Bool) → In i (cond b (j ∷ taken_ids hs is) (taken_ids hs is)) → (In i (taken_ids hs is) → In i (take (length hs) is)) → (i ≡ j) ⊎ In i (take (length hs) is)
  go true (inl e) rest = inl e
  go true (inr x) rest = inr (rest x)
  go false x rest = inr (rest x)

pub different_taken : (hs : List Head) (is : List ℕ) → Different (take (length hs) is) → Different (taken_ids hs is)
different_taken [] is d = tt
different_taken (h ∷ hs) [] d = tt
different_taken (h ∷ hs) (i ∷ is) d = go h.taken (different_taken hs is d.1) where
  go : (b : Bool) → Different (taken_ids hs is) → Different (cond b (i ∷ taken_ids hs is) (taken_ids hs is))
  go true rest = ((λ x. d.0 (in_taken hs is i x)), rest)
  go false rest = rest

-- An instance has as many facts as heads, and its ids are theirs.

both_length : {A B : Type 0} (P : A → B → Type 0) (xs : List A) (ys : List B) → Both P xs ys → length xs ≡ length ys
both_length P [] [] b = refl
both_length P [] (y ∷ ys) b = absurd b
both_length P (x ∷ xs) [] b = absurd b
both_length P (x ∷ xs) (y ∷ ys) b = ap suc (both_length P xs ys b.1)

in_ids : (f : Fact) (fs : List Fact) → In f fs → In f.id (ids_of fs)
in_ids f [] h = absurd h
in_ids f (g ∷ fs) (inl e) = inl (ap (λ x. x.id) e)
in_ids f (g ∷ fs) (inr h) = inr (in_ids f fs h)

all_ids : (fs live : List Fact) → All (λ f. In f live) fs → All (λ i. In i (ids_of live)) (ids_of fs)
all_ids [] live a = tt
all_ids (f ∷ fs) live a = (in_ids f live a.0, all_ids fs live a.1)

pub front_padded : (is : List ℕ) (n : ℕ) → length is ≡ n → n ≤ 4 → take n (padded is) ≡ is
front_padded is n e l =
    take-take n 4 (is ++ 0 ∷ 0 ∷ 0 ∷ 0 ∷ []) l
    ∙ take-append-le n is (0 ∷ 0 ∷ 0 ∷ 0 ∷ []) (omega arith)
    ∙ take_all n is (omega arith)

module _ (live : List Fact) (heads : List Head) (σ : ℕ → ℤ) (facts : List Fact) (i : Instance live heads σ facts) (few : length heads ≤ 4) where
  front_is : take (length heads) (padded (ids_of facts)) ≡ ids_of facts
  front_is =
      front_padded (ids_of facts) (length heads) (length-map facts (λ f. f.id) ∙ sym (both_length _ heads facts i.agree)) few

  pub taken_live : All (λ j. In j (ids_of live)) (taken_ids heads (padded (ids_of facts)))
  taken_live =
      all_taken (λ j. In j (ids_of live)) heads (padded (ids_of facts))
      (subst (All (λ j. In j (ids_of live))) (sym front_is) (all_ids facts live i.alive))

  pub taken_different : Different (taken_ids heads (padded (ids_of facts)))
  taken_different = different_taken heads (padded (ids_of facts)) (subst Different (sym front_is) i.different)

-- The rule of a number

pub numbered_from_at : (rs : List Rule) (n k : ℕ) (r : Rule) → Numbered n rs k r → (n ≤ k) × (get_or rs (k - n) blank_rule ≡ r)
numbered_from_at [] n k r h = absurd h
numbered_from_at (x ∷ rs) n k r (inl p) =
    let e = p.0 in
    let z : k - n ≡ 0 = omega arith in
    (omega arith, ap (λ m. get_or (x ∷ rs) m blank_rule) z ∙ sym p.1)
numbered_from_at (x ∷ rs) n k r (inr h) =
    let p = numbered_from_at rs (suc n) k r h in
    let l = p.0 in
    let z : k - n ≡ suc (k - suc n) = omega arith in
    (omega arith, ap (λ m. get_or (x ∷ rs) m blank_rule) z ∙ p.1)

pub numbered_rule_at : (rs : List Rule) (k : ℕ) (r : Rule) → Numbered 1 rs k r → rule_at rs k ≡ r
numbered_rule_at rs k r h = (numbered_from_at rs 1 k r h).1

-- What waits takes as many facts as it says.
module _ {R : Type 0} (s : Setup R) (t : State) (d : Due R) (w : Waits s t d) (up : Rising t.facts) (few : length w.rule.heads ≤ 4) where
  pub waiting_taken : length (taking_off (taken_ids (rule_at s.rules d.rule).heads d.ids) t.facts) + length (taken_ids (rule_at s.rules d.rule).heads d.ids) ≡ length t.facts
  waiting_taken =
      subst (λ hs. length (taking_off (taken_ids hs d.ids) t.facts) + length (taken_ids hs d.ids) ≡ length t.facts)
      (ap (λ r. r.heads) (sym (numbered_rule_at s.rules d.rule w.rule w.numbered)))
      (subst (λ is. length (taking_off (taken_ids w.rule.heads is) t.facts) + length (taken_ids w.rule.heads is) ≡ length t.facts) (sym w.named)
      (length_taking_off (taken_ids w.rule.heads (padded (ids_of w.facts))) t.facts up
      (taken_live t.facts w.rule.heads w.σ w.facts w.instance few)
      (taken_different t.facts w.rule.heads w.σ w.facts w.instance few)))
