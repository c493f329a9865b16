-- The history as published and the roll: a tuple is in the one where its firing is on the other.
use Rattle.std.proofs.Common.{◌≡◌, ℕ, zero, suc, ◌-◌, ◌≤◌, true, leb, ◌↔◌, List, [], ◌∷◌, ◌++◌, length, get_or, sym, refl, ap, ◌∙◌, subst, inl, inr, arith}
use Rattle.std.proofs.lemmas.List.{same_from_push}
use Rattle.std.proofs.lemmas.Bool.{and_parts, leb-true}
use Rattle.facts.specs.Positions.{all}
use Rattle.rules.specs.Rules.{Rule, blank_rule, small, head_in_range}
use Rattle.meaning.specs.declared.roll.Entry.{Entry}
use Rattle.meaning.specs.declared.roll.Entry.TheVariants.{HandedIn, Fired}
use Rattle.meaning.specs.declared.roll.Firing.{Firing}
use Rattle.meaning.specs.Setup.{Setup, State}
use Rattle.meaning.specs.Words.{In, Numbered}
use Rattle.meaning.specs.Instances.{padded}
use Rattle.meaning.specs.Firing.{rule_at}
use Rattle.meaning.specs.Published.{kept, removed, at_heads, heads_of, tuple_of, history_of, Shape, Shaped}
use Rattle.meaning.proofs.PublishedHeads.{at_heads_padded, same_ids_from}

-- Rules by their numbers.

numbered_at : (n : ℕ) (rs : List Rule) (k : ℕ) (r : Rule) → Numbered n rs k r → (n ≤ k) × (get_or rs (k - n) blank_rule ≡ r)
numbered_at n [] k r h = absurd h
numbered_at n (x ∷ rs) k r (inl h) =
    let e = h.0 in
    let z : k - n ≡ 0 = omega arith in
    (omega arith, ap (λ m. get_or (x ∷ rs) m blank_rule) z ∙ sym h.1)
numbered_at n (x ∷ rs) k r (inr h) =
    let p = numbered_at (suc n) rs k r h in
    let l = p.0 in
    let z : k - n ≡ suc (k - suc n) = omega arith in
    (omega arith, ap (λ m. get_or (x ∷ rs) m blank_rule) z ∙ p.1)

pub rule_numbered : (rs : List Rule) (n : ℕ) (r : Rule) → Numbered 1 rs n r → rule_at rs n ≡ r
rule_numbered rs n r h = (numbered_at 1 rs n r h).1

pub numbered_in : (n : ℕ) (rs : List Rule) (k : ℕ) (r : Rule) → Numbered n rs k r → In r rs
numbered_in n [] k r h = absurd h
numbered_in n (x ∷ rs) k r (inl h) = inl h.1
numbered_in n (x ∷ rs) k r (inr h) = inr (numbered_in (suc n) rs k r h)

small_at : (rs : List Rule) (m : ℕ) → all small rs ≡ true → small (get_or rs m blank_rule) ≡ true
small_at [] m e = refl
small_at (r ∷ rs) zero e = (and_parts (small r) (all small rs) e).0
small_at (r ∷ rs) (suc m) e = small_at rs m (and_parts (small r) (all small rs) e).1

pub few_heads : (r : Rule) → small r ≡ true → length r.heads ≤ 4
few_heads r e = leb-true (length r.heads) 4 (and_parts (leb (length r.heads) 4) (all head_in_range r.heads) e).0

module _ {R : Type 0} (s : Setup R) where
  -- A firing is on the roll, its tuple in the history.

  pub history_append : (xs ys : List Entry) → history_of s (xs ++ ys) ≡ history_of s xs ++ history_of s ys
  history_append [] ys = refl
  history_append (HandedIn f ∷ xs) ys = history_append xs ys
  history_append (Fired f ∷ xs) ys = ap (λ h. tuple_of s f ∷ h) (history_append xs ys)

  pub fired_in_history : (roll : List Entry) (f : Firing) → In (Fired f) roll → In (tuple_of s f) (history_of s roll)
  fired_in_history [] f i = absurd i
  fired_in_history (HandedIn g ∷ es) f (inl e) = cc
  fired_in_history (HandedIn g ∷ es) f (inr i) = fired_in_history es f i
  fired_in_history (Fired g ∷ es) f (inl e) = let q : f ≡ g = cc in inl (ap (tuple_of s) q)
  fired_in_history (Fired g ∷ es) f (inr i) = inr (fired_in_history es f i)

  history_from : (roll : List Entry) (x : List ℕ) → In x (history_of s roll) → (f : Firing) × In (Fired f) roll × (x ≡ tuple_of s f)
  history_from [] x i = absurd i
  history_from (HandedIn g ∷ es) x i = let r = history_from es x i in (r.0, inr r.1, r.2)
  history_from (Fired g ∷ es) x (inl e) = (g, inl refl, e)
  history_from (Fired g ∷ es) x (inr i) = let r = history_from es x i in (r.0, inr r.1, r.2)

  -- No two firings have one tuple.

  abbrev firing : ℕ → List ℕ → Firing
  firing n is = record { rule = n; ids = is }

  same_shape : (n : ℕ) (is js : List ℕ) → length (heads_of s n) ≤ 4 → length is ≡ length (heads_of s n) → length js ≡ length (heads_of s n)
      → at_heads kept (heads_of s n) (padded is) ++ at_heads removed (heads_of s n) (padded is)
      ≡ at_heads kept (heads_of s n) (padded js) ++ at_heads removed (heads_of s n) (padded js) → is ≡ js
  same_shape n is js few l m e =
      let a = at_heads_padded kept (heads_of s n) is l few in
      let b = at_heads_padded removed (heads_of s n) is l few in
      let c = at_heads_padded kept (heads_of s n) js m few in
      let d = at_heads_padded removed (heads_of s n) js m few in
      same_ids_from (heads_of s n) is js l m (cc)

  same_firing : (n k : ℕ) (is js : List ℕ) → length (heads_of s n) ≤ 4 → length is ≡ length (heads_of s n) → length js ≡ length (heads_of s k)
      → tuple_of s (firing n (padded is)) ≡ tuple_of s (firing k (padded js)) → firing n (padded is) ≡ firing k (padded js)
  same_firing n k is js few l m e =
      let p = same_from_push
      (at_heads kept (heads_of s n) (padded is) ++ at_heads removed (heads_of s n) (padded is))
      (at_heads kept (heads_of s k) (padded js) ++ at_heads removed (heads_of s k) (padded js)) n k e in
      let q = sym p.1 in
      let same = same_shape n is js few l
      (subst (λ k. length js ≡ length (heads_of s k)) q m)
      (subst (λ k. at_heads kept (heads_of s n) (padded is) ++ at_heads removed (heads_of s n) (padded is)
      ≡ at_heads kept (heads_of s k) (padded js) ++ at_heads removed (heads_of s k) (padded js)) q p.0) in
      λ i. firing (p.1 i) (padded (same i))

  pub one_firing : (f g : Firing) → all small s.rules ≡ true → Shape s f → Shape s g → tuple_of s f ≡ tuple_of s g → f ≡ g
  one_firing f g few a b e =
      let p : f ≡ firing f.rule (padded a.heads_ids) = λ i. firing f.rule (a.ids i) in
      let q : g ≡ firing g.rule (padded b.heads_ids) = λ i. firing g.rule (b.ids i) in
      let same = same_firing f.rule g.rule a.heads_ids b.heads_ids
      (few_heads (rule_at s.rules f.rule) (small_at s.rules (f.rule - 1) few))
      a.long b.long (sym (ap (tuple_of s) p) ∙ e ∙ ap (tuple_of s) q) in
      p ∙ same ∙ sym q

  pub history_fired : (t : State) (f : Firing) → all small s.rules ≡ true → Shaped s t → Shape s f
      → In (tuple_of s f) (history_of s t.roll) → In (Fired f) t.roll
  history_fired t f few shaped shape i =
      let r = history_from t.roll (tuple_of s f) i in
      subst (λ g. In (Fired g) t.roll) (sym (one_firing f r.0 few shape (shaped r.0 r.1) r.2)) r.1

  pub histories : (t : State) (f : Firing) → all small s.rules ≡ true → Shaped s t → Shape s f
      → In (tuple_of s f) (history_of s t.roll) ↔ In (Fired f) t.roll
  histories t f few shaped shape = (history_fired t f few shaped shape, fired_in_history t.roll f)
