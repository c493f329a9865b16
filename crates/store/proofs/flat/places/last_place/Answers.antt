use Rattle.std.proofs.Common.{arith}
use Rattle.store.specs.Rises.{rising_from_test}
use Rattle.store.proofs.Spots.{place_most, place_within}
use Rattle.store.proofs.flat.places.last_place.Goals as goal

pub returns-clause-most : goal.returns-clause-most
returns-clause-most c =
    let most = place_most c.args.facts.now c.args.id (rising_from_test _ c.requires) in
    let within = place_within c.args.facts.now c.args.id in
    grind arith
