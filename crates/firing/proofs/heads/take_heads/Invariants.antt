use Rattle.std.proofs.Common.{◌≡◌}
use Rattle.std.specs.Iterator.Adapters.{zip_first, zip_second}
use Rattle.std.specs.Slice.Iter.{iter_rest}
use Rattle.meaning.specs.Firing.{taken_ids, taking_off}
use Rattle.firing.specs.Changes.{Changes}
use Rattle.firing.proofs.heads.take_heads.Given as goal

-- what is left to be taken off leaves what is to be left
abbrev pub invariant-loop-head : goal.invariant-loop-head
invariant-loop-head g l =
    Changes g.S.Store l.initial.store l.store (λ live.
    taking_off (taken_ids (iter_rest (zip_first l.head-iterator)) (iter_rest (zip_second l.head-iterator))) live
    ≡ taking_off (taken_ids l.heads l.fn.ids) (g.S.Store.live l.initial.store))
