-- Rule by rule: what is left gives the due instance.
use Rattle.std.proofs.Common.{◌≡◌, ℕ, zero, suc, ◌+◌, ◌<◌, ◌≤◌, Bool, true, false, ◌&&◌, List, [], ◌∷◌, map, length, get_or, drop, Option, sym, refl, ap, ◌∙◌, subst, add-one, arith}
use Rattle.std.proofs.lemmas.Bool.{and_parts}
use Rattle.std.proofs.lemmas.List.{drop_more, drop_all}
use Rattle.facts.specs.Positions.{all}
use Rattle.rules.specs.Rules.{rule_of, closed, small, headed, parts_bound, bound}
use Rattle.rules.specs.declared.Rule.{Rule as RuleData}
use Rattle.meaning.specs.Enumeration.{chosen, instances, unbound, waiting_of, waiting_from, due_of}
use Rattle.meaning.specs.Instances.{DueIs}
use Rattle.meaning.specs.Setup.{Setup, State, Lawful}
use Rattle.meaning.proofs.Agreement.{due_is}
use Rattle.store.specs.Store.{Rising}
use Rattle.meaning.specs.declared.due.Due.{Due}
use Rattle.search.specs.Offers.{offered, sought}
use Rattle.search.proofs.Lists.{folded_append}

all_at : {A B : Type 0} (test : B → Bool) (f : A → B) (xs : List A) (i : ℕ) (x : A) → all test (map f xs) ≡ true → i < length xs → x ≡ get_or xs i x → test (f x) ≡ true
all_at test f [] i x e h g = absurd (omega arith)
all_at test f (y ∷ ys) zero x e h g = ap (λ z. test (f z)) g ∙ (and_parts (test (f y)) (all test (map f ys)) e).0
all_at test f (y ∷ ys) (suc i) x e h g = all_at test f ys i x ((and_parts (test (f y)) (all test (map f ys)) e).1) (omega arith) g

-- a rule of a book has a head
pub rule_headed : (rules : List RuleData) (i : ℕ) (rule : RuleData) → all closed (map rule_of rules) ≡ true → i < length rules → rule ≡ get_or rules i rule → headed (rule_of rule) ≡ true
rule_headed rules i rule e h g =
    (and_parts (headed (rule_of rule)) (parts_bound (rule_of rule) && bound (rule_of rule).heads (rule_of rule).rank) (all_at closed rule_of rules i rule e h g)).0

module _ {R : Type 0} (s : Setup R) (t : State) (rules : List RuleData) (i : ℕ) (best : Option (Due R)) (all_of : Option (Due R))
    (left : sought s t best (i + 1) (map rule_of (drop i rules)) ≡ all_of) where
  -- one rule more
  pub sought_more : (rule : RuleData) (more : Option (Due R)) → i < length rules → rule ≡ get_or rules i rule
      → more ≡ offered s t (i + 1) (rule_of rule) best (instances t.facts (rule_of rule).heads [] unbound)
      → sought s t more (i + 1 + 1) (map rule_of (drop (i + 1) rules)) ≡ all_of
  sought_more rule more h g e =
      ap (λ b. sought s t b (i + 1 + 1) (map rule_of (drop (i + 1) rules))) e
      ∙ ap (λ n. sought s t (offered s t (i + 1) (rule_of rule) best (instances t.facts (rule_of rule).heads [] unbound)) n (map rule_of (drop (i + 1) rules))) (add-one (i + 1))
      ∙ sym (folded_append (chosen s t) best (waiting_of s t (i + 1) (rule_of rule)) (waiting_from s t (suc (i + 1)) (map rule_of (drop (i + 1) rules))))
      ∙ ap (λ x. sought s t best (i + 1) (rule_of x ∷ map rule_of (drop (i + 1) rules))) g
      ∙ ap (λ xs. sought s t best (i + 1) (map rule_of xs)) (sym (drop_more rules i rule h))
      ∙ left

  -- no rule is left
  pub sought_all : length rules ≤ i → best ≡ all_of
  sought_all h = ap (λ xs. sought s t best (i + 1) (map rule_of xs)) (sym (drop_all i rules h)) ∙ left

-- what is found is the due instance in words
pub found_due : {R : Type 0} (s : Setup R) (t : State) (r : Option (Due R)) → r ≡ due_of s t → Lawful s.better → Rising t.facts
    → all closed s.rules ≡ true → all small s.rules ≡ true → DueIs s t r
found_due s t r e laws up c m = subst (DueIs s t) (sym e) (due_is s t laws up c m)
