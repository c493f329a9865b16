use Rattle.std.proofs.Common.{◌≡◌, ◌-◌, ◌^◌, ◌≤◌}
use Rattle.meaning.specs.Enumeration.{partners}
use Rattle.store.specs.Store.{since}
use Rattle.matching.specs.Parts.{Ready}
use Rattle.matching.proofs.partner.next_partner.Given as goal

abbrev pub invariant-loop-id : goal.invariant-loop-id
invariant-loop-id g l =
    (l.from ≤ l.at)
    × (Ready g.S.Store l.store
    → partners l.head l.used l.env (since l.at (g.S.Store.live l.store)) ≡ partners l.head l.used l.env (since l.from (g.S.Store.live l.store)))

abbrev pub decreases-loop-id : goal.decreases-loop-id
decreases-loop-id g l = 2 ^ 32 - l.at
