-- What counts mean: every signed 32-bit number, ordinary arithmetic and order.
--     is_count n            whether n is a count: from -2,147,483,648 to 2,147,483,647
--     count_says c a b      the ordinary comparison
--     counted n             n, or the cause that a result is no count
--     count_works w         the ordinary result of counts, or the cause why it is none
use Rattle.std.specs.Prelude.{Bool, cond, not, ◌&&◌, ℤ, pos, negsuc, ◌+ℤ◌, ◌-ℤ◌, Ok, Err, Result, int_le, int_lt}
use Rattle.host.specs.Numbers.{eqZ, between}
use Rattle.host.specs.declared.types.Cause.{Cause}
use Rattle.host.specs.declared.types.Cause.TheVariants.{Operand, Outcome}
use Rattle.host.specs.declared.types.Comparator.{Comparator}
use Rattle.host.specs.declared.types.Comparator.TheVariants.{Equal, Unequal, Less, AtMost}
use Rattle.host.specs.declared.types.Working.{Working}
use Rattle.host.specs.declared.types.Working.TheVariants.{Copy, Sum, Difference}

abbrev pub is_count : ℤ → Bool
is_count n = between (negsuc 2147483647) (pos 2147483647) n

abbrev pub count_says : Comparator → ℤ → ℤ → Bool
count_says Equal a b = eqZ a b
count_says Unequal a b = not (eqZ a b)
count_says Less a b = int_lt a b
count_says AtMost a b = int_le a b

abbrev pub counted : ℤ → Result ℤ Cause
counted n = cond (is_count n) (Ok n) (Err Outcome)

abbrev pub count_works : Working ℤ → Result ℤ Cause
count_works (Copy a) = cond (is_count a) (Ok a) (Err Operand)
count_works (Sum a b) = cond (is_count a && is_count b) (counted (a +ℤ b)) (Err Operand)
count_works (Difference a b) = cond (is_count a && is_count b) (counted (a -ℤ b)) (Err Operand)
