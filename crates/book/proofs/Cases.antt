-- What a Result or an Option that came out well says of what it was made from.
use Rattle.std.proofs.Common.{◌≡◌, Bool, true, false, Some, None, Ok, Err, Option, Result, refl, sym}
use Rattle.std.specs.Option.{ok_or}
use Rattle.records.specs.Bytes as bytes
use Rattle.rules.specs.Results.{and_then, told, kept_or, unless}

-- What stands under a constructor

pub same_ok : {A E : Type 0} {x y : A} → ◌≡◌ {A = Result A E} (Ok x) (Ok y) → x ≡ y
same_ok e = cc

-- One after the other

pub some_then : {A B : Type 0} (x : Option A) (f : A → Option B) (b : B) → bytes.and_then x f ≡ Some b → (a : A) × ((x ≡ Some a) × (f a ≡ Some b))
some_then (Some a) f b e = (a, (refl, e))
some_then None f b e = absurd cc

pub ok_then : {A B E : Type 0} (x : Result A E) (f : A → Result B E) (b : B) → and_then x f ≡ Ok b → (a : A) × ((x ≡ Ok a) × (f a ≡ Ok b))
ok_then (Ok a) f b e = (a, (refl, e))
ok_then (Err d) f b e = absurd cc

pub ok_unless : {A E : Type 0} (t : Bool) (d : E) (x : Result A E) (a : A) → and_then (unless t d) (λ _. x) ≡ Ok a → (t ≡ true) × (x ≡ Ok a)
ok_unless true d x a e = (refl, e)
ok_unless false d x a e = absurd cc

pub ok_some : {A E : Type 0} (o : Option A) (d : E) (a : A) → ok_or o d ≡ Ok a → o ≡ Some a
ok_some (Some x) d a e = cc
ok_some None d a e = absurd cc

-- the same, as the clause of a call has it

pub or_some : {A E : Type 0} (o : Option A) (d : E) (a : A) → Ok a ≡ ok_or o d → o ≡ Some a
or_some o d a e = ok_some o d a (sym e)

pub or_none : {A E : Type 0} (o : Option A) (d c : E) → ◌≡◌ {A = Result A E} (Err c) (ok_or o d) → (c ≡ d) × (o ≡ None)
or_none (Some x) d c e = absurd cc
or_none None d c e = (cc, refl)

-- Told, and the value or the old one

pub told_ok : {A E : Type 0} (x : Result A E) (y : A) (u : Unit {0}) → told x ≡ Ok u → x ≡ Ok (kept_or x y)
told_ok (Ok a) y u e = refl
told_ok (Err d) y u e = absurd cc

pub told_err : {A E : Type 0} (x : Result A E) (d : E) → Err d ≡ told x → x ≡ Err d
told_err (Ok a) d e = absurd cc
told_err (Err c) d e = cc
