use Rattle.std.proofs.Common.{◌≡◌, ◌-◌}
use Rattle.meaning.specs.Calls.{course}
use Rattle.run.specs.Counting.{ahead}
use Rattle.run.specs.Runs.{setup, state, Standing}
use Rattle.run.proofs.run.Run.run.Given as goal

-- the setup and the standing are kept, and what is left of the course, after the firings so far, is the
-- whole of it
abbrev pub invariant-loop-fired : goal.invariant-loop-fired
invariant-loop-fired g l = record {
  same : setup g.S.Store g.H.Host g.O.Order l.self ≡ setup g.S.Store g.H.Host g.O.Order l.initial.self;
  standing : Standing g.S.Store l.initial.self → Standing g.S.Store l.self;
  whole : Standing g.S.Store l.initial.self
      → course (setup g.S.Store g.H.Host g.O.Order l.initial.self) l.n (state g.S.Store l.initial.self)
      ≡ ahead l.fired (course (setup g.S.Store g.H.Host g.O.Order l.initial.self) (l.n - l.fired) (state g.S.Store l.self));
}
