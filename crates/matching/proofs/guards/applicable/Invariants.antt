use Rattle.std.proofs.Common.{◌≡◌, drop}
use Rattle.facts.specs.Positions.{all}
use Rattle.matching.specs.Parts.{yes}
use Rattle.matching.proofs.guards.applicable.Given as goal

abbrev pub invariant-loop-i : goal.invariant-loop-i
invariant-loop-i g l = all (yes (g.H.Host.says l.host) l.env) (drop l.i l.guards) ≡ all (yes (g.H.Host.says l.host) l.env) l.guards
