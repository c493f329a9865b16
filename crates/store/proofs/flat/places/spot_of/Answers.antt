use Rattle.store.specs.Rises.{rising_from_test}
use Rattle.store.proofs.Spots.{spot_from_place}
use Rattle.store.proofs.flat.places.spot_of.Goals as goal

pub returns : goal.returns
returns c = record { value = rw (c.then_some.ensures, c.stands_at.ensures.value) (spot_from_place _ _ _ (rising_from_test _ c.requires) c.place_of-at.ensures.value) }
