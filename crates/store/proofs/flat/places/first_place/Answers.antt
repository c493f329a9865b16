use Rattle.std.proofs.Common.{arith}
use Rattle.store.specs.Rises.{rising_from_test}
use Rattle.store.proofs.Spots.{place_least}
use Rattle.store.proofs.flat.places.first_place.Goals as goal

pub returns : goal.returns
returns c =
    let least = place_least c.args.facts.now c.args.id c.in-Some.last (rising_from_test _ c.requires.rising) (omega arith) in
    record { least = grind arith }
