-- A loop that tests every item: what is left decides the whole.
use Rattle.std.proofs.Common.{◌≡◌, ℕ, ◌+◌, ◌<◌, ◌≤◌, Bool, true, false, ◌&&◌, List, length, get_or, drop, sym, ap, ◌∙◌}
use Rattle.std.proofs.lemmas.List.{at_drop_more, at_drop_all}
use Rattle.facts.specs.Positions.{all}

module _ {A : Type 0} (test : A → Bool) (xs : List A) (i : ℕ) where
  all_at : (d : A) → i < length xs → all test (drop i xs) ≡ test (get_or xs i d) && all test (drop (i + 1) xs)
  all_at d h = at_drop_more (all test) xs i d h

  -- the item passes: the rest decides
  pub all_more : (d : A) → i < length xs → true ≡ test (get_or xs i d)
      → all test (drop i xs) ≡ all test xs → all test (drop (i + 1) xs) ≡ all test xs
  all_more d h t k = ap (λ b. b && all test (drop (i + 1) xs)) t ∙ sym (all_at d h) ∙ k

  -- the item fails, and so does the whole
  pub all_fails : (d : A) → i < length xs → false ≡ test (get_or xs i d)
      → all test (drop i xs) ≡ all test xs → false ≡ all test xs
  all_fails d h t k = ap (λ b. b && all test (drop (i + 1) xs)) t ∙ sym (all_at d h) ∙ k

  -- nothing is left
  pub all_end : length xs ≤ i → all test (drop i xs) ≡ true
  all_end h = at_drop_all (all test) xs i h

  pub all_passed : length xs ≤ i → all test (drop i xs) ≡ all test xs → true ≡ all test xs
  all_passed h k = sym (all_end h) ∙ k
