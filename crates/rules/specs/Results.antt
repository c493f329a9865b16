-- Results one after the other. Assumes nothing.
--     and_then x f      what f makes of the value of x, or the fault of x
--     told x            x without its value
--     kept_or x y       the value of x, or y where x is a fault
--     unless b f        the fault f unless the test b holds
--     Done x y r z      a call on y that x describes: it answers r, the value of x or its fault, and leaves z,
--                       which is y where x is a fault
use Rattle.std.specs.Prelude.{◌≡◌, Bool, cond, Ok, Err, Result}

abbrev pub and_then : {A B E : Type 0} → Result A E → (A → Result B E) → Result B E
and_then (Ok x) f = f x
and_then (Err e) f = Err e

abbrev pub told : {A E : Type 0} → Result A E → Result (Unit {0}) E
told (Ok x) = Ok tt
told (Err e) = Err e

abbrev pub kept_or : {A E : Type 0} → Result A E → A → A
kept_or (Ok x) y = x
kept_or (Err e) y = y

abbrev pub unless : {E : Type 0} → Bool → E → Result (Unit {0}) E
unless b f = cond b (Ok tt) (Err f)

pub record Done {A E : Type 0} (x : Result A E) (y : A) (r : Result (Unit {0}) E) (z : A) : Type 0 where
  pub value : r ≡ told x
  pub after : z ≡ kept_or x y
