-- What the methods of a working cite.
--     ForOperands P w       each operand of w has P
--     Mapped R w v          v is a working of the same kind as w, with operands that R ties to those of w
--     Passed R w ok         ok is whether each operand of w passes a test with the answers R
--     Both R a b ok         the same of two operands, of which b is asked only if a passes
use Rattle.std.specs.Prelude.{◌≡◌, Bool, false, cond}
use Rattle.host.specs.declared.types.Working.{Working}
use Rattle.host.specs.declared.types.Working.TheVariants.{Copy, Sum, Difference}

abbrev pub ForOperands : {A : Type 0} → (A → Type 0) → Working A → Type 0
ForOperands P (Copy a) = P a
ForOperands P (Sum a b) = P a × P b
ForOperands P (Difference a b) = P a × P b

abbrev pub Mapped : {A B : Type 0} → (A → B → Type 0) → Working A → Working B → Type 0
Mapped {A} {B} R (Copy a) v = (x : B) × (v ≡ Copy x) × R a x
Mapped {A} {B} R (Sum a b) v = (x : B) × (y : B) × (v ≡ Sum x y) × R a x × R b y
Mapped {A} {B} R (Difference a b) v = (x : B) × (y : B) × (v ≡ Difference x y) × R a x × R b y

abbrev pub Both : {A : Type 0} → (A → Bool → Type 0) → A → A → Bool → Type 0
Both R a b ok = (first : Bool) × R a first × cond first (R b ok) (ok ≡ false)

abbrev pub Passed : {A : Type 0} → (A → Bool → Type 0) → Working A → Bool → Type 0
Passed R (Copy a) ok = R a ok
Passed R (Sum a b) ok = Both R a b ok
Passed R (Difference a b) ok = Both R a b ok
