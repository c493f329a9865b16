use Rattle.std.proofs.Common.{sym, subst}
use Rattle.store.specs.Store.{AtLeast}
use Rattle.store.specs.Rises.{rising_from_test}
use Rattle.store.proofs.Spots.{next_scanned}
use Rattle.store.proofs.Walks.{next_bound}
use Rattle.store.proofs.flat.places.next_in.Goals as goal

pub returns : goal.returns
returns c =
    let e = next_scanned _ _ _ _ _ (rising_from_test _ c.requires) c.place_of-at.ensures.value c.first_of.ensures.value in
    record { value = e; bound = subst (AtLeast c.args.from) (sym e) (next_bound c.args.facts.now c.args.kind c.args.from) }
