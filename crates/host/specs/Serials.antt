-- What serials mean: the numbers 0 to 999,999, which come round after the last.
--     is_serial n           whether n is a serial
--     modulo n              what is left of n modulo 1,000,000, a serial
--     ahead a b             whether b is 1 to 499,999 steps on from a
--     serial_says c a b     equal and unequal plainly; less and at most of two serials alone
--     serial_works w        the result modulo 1,000,000, or the cause that an operand is no serial
use Rattle.std.specs.Prelude.{Bool, cond, not, ◌&&◌, ◌||◌, ℤ, pos, ◌+ℤ◌, ◌-ℤ◌, Ok, Err, Result}
use Rattle.std.specs.Int.{int_rem_euclid}
use Rattle.host.specs.Numbers.{eqZ, between}
use Rattle.host.specs.declared.types.Cause.{Cause}
use Rattle.host.specs.declared.types.Cause.TheVariants.{Operand}
use Rattle.host.specs.declared.types.Comparator.{Comparator}
use Rattle.host.specs.declared.types.Comparator.TheVariants.{Equal, Unequal, Less, AtMost}
use Rattle.host.specs.declared.types.Working.{Working}
use Rattle.host.specs.declared.types.Working.TheVariants.{Copy, Sum, Difference}

abbrev pub is_serial : ℤ → Bool
is_serial n = between (pos 0) (pos 999999) n

abbrev pub modulo : ℤ → ℤ
modulo n = int_rem_euclid n (pos 1000000)

abbrev pub ahead : ℤ → ℤ → Bool
ahead a b = between (pos 1) (pos 499999) (modulo (b -ℤ a))

abbrev pub serial_says : Comparator → ℤ → ℤ → Bool
serial_says Equal a b = eqZ a b
serial_says Unequal a b = not (eqZ a b)
serial_says Less a b = is_serial a && is_serial b && ahead a b
serial_says AtMost a b = is_serial a && is_serial b && (eqZ a b || ahead a b)

abbrev pub serial_works : Working ℤ → Result ℤ Cause
serial_works (Copy a) = cond (is_serial a) (Ok a) (Err Operand)
serial_works (Sum a b) = cond (is_serial a && is_serial b) (Ok (modulo (a +ℤ b))) (Err Operand)
serial_works (Difference a b) = cond (is_serial a && is_serial b) (Ok (modulo (a -ℤ b))) (Err Operand)
