-- What the banded order cites.
--     sooner a b    a has the smaller band, or the same band and the smaller value
use Rattle.std.specs.Prelude.{Bool, ◌&&◌, ◌||◌, ◌==◌, int_lt, nat_lt}
use Rattle.order.specs.declared.banded.BandRank.{BandRank}

abbrev pub sooner : BandRank → BandRank → Bool
sooner a b = nat_lt a.band b.band || (a.band == b.band && int_lt a.value b.value)
