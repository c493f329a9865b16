use Rattle.std.proofs.Common.{◌≡◌, ◌++◌, drop}
use Rattle.meaning.specs.Firing.{numbered_from}
use Rattle.firing.specs.Changes.{Changes}
use Rattle.firing.specs.Room.{Room}
use Rattle.firing.proofs.write.write_body.Given as goal

-- where there was room for all, there is room for what is left, and it ends as it should
abbrev pub invariant-loop-fact : goal.invariant-loop-fact
invariant-loop-fact g l =
    Changes g.S.Store l.initial.store l.store (λ live.
    Room (g.S.Store.live l.initial.store) (g.S.Store.rows l.initial.store) l.next l.facts
    → Room live (g.S.Store.rows l.store) l.id (drop l.fact-index l.facts)
    × (live ++ numbered_from l.id (drop l.fact-index l.facts) ≡ g.S.Store.live l.initial.store ++ numbered_from l.next l.facts))
