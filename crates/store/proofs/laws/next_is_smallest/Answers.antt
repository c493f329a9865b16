use Rattle.store.proofs.Walks.{next_smallest, next_none}
use Rattle.store.proofs.laws.next_is_smallest.Goals as goal

pub returns : goal.returns
returns c = record { smallest = record { smallest = next_smallest; none = next_none } }
