-- Positions in use and not. Assumes nothing.
--     all test xs               whether every item passes the test
--     unused_clear blank a xs   whether every position at or above the arity a is blank
--     is_zero n                 what an unused value must be
use Rattle.std.specs.Prelude.{ℕ, Bool, false, List, drop, ℤ, pos, negsuc, ◌==◌}
use Rattle.std.specs.List.{list_all}

abbrev pub all : {A : Type 0} → (A → Bool) → List A → Bool
all test xs = list_all test xs

abbrev pub unused_clear : {A : Type 0} → (A → Bool) → ℕ → List A → Bool
unused_clear blank arity xs = all blank (drop arity xs)

abbrev pub is_zero : ℤ → Bool
is_zero (pos n) = n == 0
is_zero (negsuc n) = false
