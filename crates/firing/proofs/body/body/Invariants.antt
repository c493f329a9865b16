use Rattle.std.proofs.Common.{◌≡◌, ◌+◌, length, drop}
use Rattle.few.specs.Few.{listed}
use Rattle.meaning.specs.Firing.{body_of}
use Rattle.firing.proofs.Bodies.{onward}
use Rattle.firing.proofs.body.body.Given as goal

-- what is done, then the facts that are left, is the whole body
abbrev pub invariant-loop-place : goal.invariant-loop-place
invariant-loop-place g l = record {
  counted : length (listed l.done) ≡ l.place;
  whole : onward (g.H.Host.works l.host) l.env (listed l.done) (drop l.place l.facts) (l.place + 1) ≡ body_of (g.H.Host.works l.host) l.env l.facts 1;
}
