-- Words on lists that the definitions use. Assumes nothing.
--     In x xs          x is an item of xs
--     All P xs         P holds of every item
--     Both P xs ys     xs and ys are equally long, and P holds of them place by place
--     Different xs     no item of xs comes twice
--     Sooner xs ys     at the first place where xs and ys differ, xs has the smaller number
--     Numbered n xs k x   x stands in xs at the place k, counted from n
use Rattle.std.specs.Prelude.{◌≡◌, ℕ, suc, ◌<◌, ◌⊎◌, List, [], ◌∷◌}

abbrev pub In : {A : Type 0} → A → List A → Type 0
In x [] = ⊥
In x (y ∷ ys) = (x ≡ y) ⊎ In x ys

abbrev pub All : {A : Type 0} → (A → Type 0) → List A → Type 0
All P [] = Unit {0}
All P (x ∷ xs) = P x × All P xs

abbrev pub Both : {A B : Type 0} → (A → B → Type 0) → List A → List B → Type 0
Both P [] [] = Unit {0}
Both P [] (y ∷ ys) = ⊥
Both P (x ∷ xs) [] = ⊥
Both P (x ∷ xs) (y ∷ ys) = P x y × Both P xs ys

abbrev pub Different : List ℕ → Type 0
Different [] = Unit {0}
Different (x ∷ xs) = (In x xs → ⊥) × Different xs

abbrev pub Sooner : List ℕ → List ℕ → Type 0
Sooner [] ys = ⊥
Sooner (x ∷ xs) [] = ⊥
Sooner (x ∷ xs) (y ∷ ys) = (x < y) ⊎ ((x ≡ y) × Sooner xs ys)

abbrev pub Numbered : {A : Type 0} → ℕ → List A → ℕ → A → Type 0
Numbered n [] k x = ⊥
Numbered n (y ∷ ys) k x = ((k ≡ n) × (x ≡ y)) ⊎ Numbered (suc n) ys k x
