-- Lists that are joined, and a list of which nothing is left.
use Rattle.std.proofs.Common.{◌≡◌, ◌<◌, List, [], ◌∷◌, ◌++◌, length, fold, Some, None, Option, sym, refl, ap, ◌∙◌, append_assoc, arith, length-append}
use Rattle.std.specs.List.{flat_map}
use Rattle.std.specs.Option.{option_to_list, IsSome}

pub joined_append : {A B : Type 0} (f : A → List B) (xs ys : List A) → flat_map f (xs ++ ys) ≡ flat_map f xs ++ flat_map f ys
joined_append f [] ys = refl
joined_append f (x ∷ xs) ys = ap (λ zs. f x ++ zs) (joined_append f xs ys) ∙ sym (append_assoc (f x) (flat_map f xs) (flat_map f ys))

pub folded_append : {A B : Type 0} (f : B → A → B) (b : B) (xs ys : List A) → fold f b (xs ++ ys) ≡ fold f (fold f b xs) ys
folded_append f b [] ys = refl
folded_append f b (x ∷ xs) ys = folded_append f (f b x) xs ys

-- nothing is left
pub none_left : {A : Type 0} (xs : List A) → (0 < length xs → ⊥) → xs ≡ []
none_left [] h = refl
none_left (x ∷ xs) h = absurd (h (omega arith))

-- nothing stands in the walk or beside it, where nothing stands beside it
pub nothing_left : {A : Type 0} (xs : List A) (o : Option A) → (0 < length xs → IsSome o) → o ≡ None → 0 < length (xs ++ option_to_list o) → ⊥
nothing_left xs None some none h = let s = some (omega (arith, length-append xs [])) in cc
nothing_left xs (Some x) some none h = cc
