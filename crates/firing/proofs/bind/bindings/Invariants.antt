use Rattle.std.proofs.Common.{◌≡◌}
use Rattle.std.specs.Iterator.Adapters.{zip_first, zip_second}
use Rattle.std.specs.Slice.Iter.{iter_rest}
use Rattle.meaning.specs.Enumeration.{unbound}
use Rattle.meaning.specs.Firing.{bindings}
use Rattle.firing.proofs.bind.bindings.Given as goal

-- the heads and ids that are left lead on to the bindings of all
abbrev pub invariant-loop-head : goal.invariant-loop-head
invariant-loop-head g l =
    g.S.Store.sound l.store
    → bindings (g.S.Store.live l.store) (iter_rest (zip_first l.head-iterator)) (iter_rest (zip_second l.head-iterator)) l.env
    ≡ bindings (g.S.Store.live l.store) l.heads l.fn.ids unbound
