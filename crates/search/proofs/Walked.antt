-- A walk from the first head until nothing is left has met every instance of the rule; so has one head alone.
use Rattle.std.proofs.Common.{◌≡◌, ℕ, ◌<◌, cond, true, List, [], ◌∷◌, length, get_or, nat_lt, Some, Option, sym, refl, ap, ◌∙◌, subst}
use Rattle.std.specs.Option.{option_to_list}
use Rattle.std.proofs.lemmas.Bool.{ltb-true}
use Rattle.rules.specs.Rules.{Rule, headed}
use Rattle.meaning.specs.Enumeration.{instances, unbound}
use Rattle.meaning.specs.Setup.{Setup, State}
use Rattle.meaning.specs.declared.due.Due.{Due}
use Rattle.search.specs.declared.walk.Level.{Level}
use Rattle.search.specs.Offers.{offered}
use Rattle.search.specs.Walks.{rest, first_level, Blank, Advanced}
use Rattle.search.proofs.Lists.{none_left}
use Rattle.search.proofs.Leftovers.{rest_next}

module _ {R : Type 0} (s : Setup R) (t : State) (n : ℕ) (r : Rule) (head : headed r ≡ true) (start best : Option (Due R)) where
  -- the first head has every instance to offer
  first_offers : instances t.facts r.heads [] unbound ≡ rest t.facts r.heads 0 first_level
  first_offers = rest_next t.facts r.heads 0 [] unbound first_level (ltb-true 0 (length r.heads) head) refl refl refl

  pub walked : (was is : List Level) → was ≡ cond (nat_lt 0 (length r.heads)) (first_level ∷ []) [] → (0 < length is → ⊥)
      → Advanced s t n r was is start best → best ≡ offered s t n r start (instances t.facts r.heads [] unbound)
  walked was is e none a =
      let b = subst (λ xs. Advanced s t n r xs is start best) (e ∙ ap (λ b. cond b (first_level ∷ []) []) head) a in
      let d = subst (λ xs. Advanced s t n r (first_level ∷ []) xs start best) (none_left is none) b in
      d.value (record { blank = refl }, tt)
      ∙ ap (offered s t n r start) (sym first_offers)

  -- what the one level has to offer is all
  pub one_head : (o : Option Level) (l : Level) (heads : ℕ) → option_to_list o ≡ cond (nat_lt 0 heads) (first_level ∷ []) [] → o ≡ Some l → heads ≡ length r.heads
      → (Blank 0 l → best ≡ offered s t n r start (rest t.facts r.heads 0 l)) → best ≡ offered s t n r start (instances t.facts r.heads [] unbound)
  one_head o l heads e some count found =
      let same : l ≡ first_level =
      ap (λ x. get_or (option_to_list x) 0 first_level) (sym some)
      ∙ ap (λ xs. get_or xs 0 first_level) (e ∙ ap (λ n. cond (nat_lt 0 n) (first_level ∷ []) []) count ∙ ap (λ b. cond b (first_level ∷ []) []) head) in
      found (subst (λ x. Blank 0 x) (sym same) (record { blank = refl }))
      ∙ ap (λ x. offered s t n r start (rest t.facts r.heads 0 x)) same
      ∙ ap (offered s t n r start) (sym first_offers)
