-- Items of lists that are put together, tests over all and over some items, and lists in an order.
use Rattle.std.proofs.Common.{◌≡◌, Bool, true, ◌⊎◌, List, [], ◌∷◌, ◌++◌, sym, refl, ap, ◌∙◌, subst, inl, inr}
use Rattle.std.specs.List.{flat_map}
use Rattle.std.proofs.lemmas.Bool.{and_parts, or_cases, or_left, or_right, false≢true}
use Rattle.facts.specs.Positions.{all}
use Rattle.rules.specs.Rules.{any}
use Rattle.meaning.specs.Words.{In, All}

-- Items.

pub in_front : {A : Type 0} (x : A) (xs ys : List A) → In x xs → In x (xs ++ ys)
in_front x [] ys i = absurd i
in_front x (z ∷ xs) ys (inl e) = inl e
in_front x (z ∷ xs) ys (inr i) = inr (in_front x xs ys i)

pub in_back : {A : Type 0} (x : A) (xs ys : List A) → In x ys → In x (xs ++ ys)
in_back x [] ys i = i
in_back x (z ∷ xs) ys i = inr (in_back x xs ys i)

pub in_either : {A : Type 0} (x : A) (xs ys : List A) → In x (xs ++ ys) → In x xs ⊎ In x ys
in_either x [] ys i = inr i
in_either x (z ∷ xs) ys (inl e) = inl (inl e)
in_either x (z ∷ xs) ys (inr i) = elim (in_either x xs ys i) [ inl j ↦ inl (inr j) | inr j ↦ inr j ]

pub in_joined : {A B : Type 0} (f : A → List B) (xs : List A) (x : A) (y : B) → In x xs → In y (f x) → In y (flat_map f xs)
in_joined f [] x y i j = absurd i
in_joined f (z ∷ xs) x y (inl e) j = in_front y (f z) (flat_map f xs) (subst (λ w. In y (f w)) e j)
in_joined f (z ∷ xs) x y (inr i) j = in_back y (f z) (flat_map f xs) (in_joined f xs x y i j)

-- where an item of the joined lists comes from
pub record Source {A B : Type 0} (f : A → List B) (xs : List A) (y : B) : Type 0 where
  pub item : A
  pub given : In item xs
  pub made : In y (f item)

pub source : {A B : Type 0} (f : A → List B) (xs : List A) (y : B) → In y (flat_map f xs) → Source f xs y
source f [] y i = absurd i
source f (x ∷ xs) y i = elim (in_either y (f x) (flat_map f xs) i) [
  | inl j ↦ record { item = x; given = inl refl; made = j }
  | inr j ↦ let s = source f xs y j in record { item = s.item; given = inr s.given; made = s.made }
]

-- Tests.

pub all_at : {A : Type 0} (test : A → Bool) (xs : List A) (x : A) → all test xs ≡ true → In x xs → test x ≡ true
all_at test [] x t i = absurd i
all_at test (y ∷ xs) x t (inl e) = ap test e ∙ (and_parts (test y) (all test xs) t).0
all_at test (y ∷ xs) x t (inr i) = all_at test xs x (and_parts (test y) (all test xs) t).1 i

pub any_at : {A : Type 0} (test : A → Bool) (xs : List A) (x : A) → In x xs → test x ≡ true → any test xs ≡ true
any_at test [] x i t = absurd i
any_at test (y ∷ xs) x (inl e) t = or_left (test y) (any test xs) (ap test (sym e) ∙ t)
any_at test (y ∷ xs) x (inr i) t = or_right (test y) (any test xs) (any_at test xs x i t)

pub record Passing {A : Type 0} (test : A → Bool) (xs : List A) : Type 0 where
  pub item : A
  pub given : In item xs
  pub passes : test item ≡ true

pub passing : {A : Type 0} (test : A → Bool) (xs : List A) → any test xs ≡ true → Passing test xs
passing test [] t = absurd (false≢true t)
passing test (y ∷ xs) t = elim (or_cases (test y) (any test xs) t) [
  | inl e ↦ record { item = y; given = inl refl; passes = e }
  | inr e ↦ let p = passing test xs e in record { item = p.item; given = inr p.given; passes = p.passes }
]

-- What holds of every item, and lists in an order.

pub all_from : {A : Type 0} (P : A → Type 0) (xs : List A) → ((x : A) → In x xs → P x) → All P xs
all_from P [] h = tt
all_from P (x ∷ xs) h = (h x (inl refl), all_from P xs (λ y i. h y (inr i)))

-- every item comes before all those behind it
abbrev pub Ordered : {A : Type 0} → (A → A → Type 0) → List A → Type 0
Ordered Before [] = Unit {0}
Ordered Before (x ∷ xs) = ((y : _) → In y xs → Before x y) × Ordered Before xs

pub ordered_append : {A : Type 0} (Before : A → A → Type 0) (xs ys : List A) → Ordered Before xs → Ordered Before ys
    → ((x y : A) → In x xs → In y ys → Before x y) → Ordered Before (xs ++ ys)
ordered_append Before [] ys a b h = b
ordered_append Before (x ∷ xs) ys a b h = (
  (λ y i. elim (in_either y xs ys i) [ inl j ↦ a.0 y j | inr j ↦ h x y (inl refl) j ]),
  ordered_append Before xs ys a.1 b (λ z y i j. h z y (inr i) j),
)

pub ordered_joined : {A B : Type 0} (Prior : A → A → Type 0) (Before : B → B → Type 0) (f : A → List B) (xs : List A)
    → Ordered Prior xs → ((x : A) → In x xs → Ordered Before (f x))
    → ((x y : A) (u v : B) → In x xs → Prior x y → In u (f x) → In v (f y) → Before u v) → Ordered Before (flat_map f xs)
ordered_joined Prior Before f [] a b h = tt
ordered_joined Prior Before f (x ∷ xs) a b h =
    ordered_append Before (f x) (flat_map f xs) (b x (inl refl))
    (ordered_joined Prior Before f xs a.1 (λ y i. b y (inr i)) (λ y z u v k. h y z u v (inr k)))
    (λ u v i j. let s = source f xs v j in h x s.item u v (inl refl) (a.0 s.item s.given) i s.made)
