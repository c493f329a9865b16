-- What the banded order keeps, over its ranks.
use Rattle.std.specs.Prelude.{◌≡◌, false}
use Rattle.std.proofs.Common.{arith}
use Rattle.std.proofs.lemmas.Int.{ints}
use Rattle.order.specs.Bands.{sooner}
use Rattle.order.specs.declared.banded.BandRank.{BandRank}

-- Ranks of which neither is sooner have one band.
pub level_same_band : (a b : BandRank) → sooner a b ≡ false → sooner b a ≡ false → a.band ≡ b.band
level_same_band a b p q = grind (arith, ints)

-- Ranks of which neither is sooner have one value.
pub level_same_value : (a b : BandRank) → sooner a b ≡ false → sooner b a ≡ false → a.value ≡ b.value
level_same_value a b p q = grind (arith, ints)

-- Any third rank stands alike to two of which neither is sooner.
pub level_alike : (a b c : BandRank)
    → sooner a b ≡ false
    → sooner b a ≡ false
    → (sooner c a ≡ sooner c b) × (sooner a c ≡ sooner b c)
level_alike a b c p q =
    let bands = level_same_band a b p q in
    let values = level_same_value a b p q in
    ((cc), (cc))
