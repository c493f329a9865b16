-- What the hosts say of plain numbers.
--     eqZ a b             whether a and b are one number
--     between low high n  whether n lies from low to high, both included
use Rattle.std.specs.Prelude.{Bool, false, ◌&&◌, ℤ, pos, negsuc, ◌==◌, int_le}

abbrev pub eqZ : ℤ → ℤ → Bool
eqZ (pos a) (pos b) = a == b
eqZ (pos a) (negsuc b) = false
eqZ (negsuc a) (pos b) = false
eqZ (negsuc a) (negsuc b) = a == b

abbrev pub between : ℤ → ℤ → ℤ → Bool
between low high n = int_le low n && int_le n high
