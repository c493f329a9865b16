use Rattle.std.proofs.Common.{sym, ◌∙◌}
use Rattle.firing.proofs.Paired.{bound_more, bound_all}
use Rattle.firing.proofs.bind.bindings.Goals as goal

pub loop-head-preserved : goal.loop-head-preserved
loop-head-preserved g c = λ s.
    sym (bound_more c.loop-head.head-iterator c.next.new.self c.next.result c.next.ensures.steps _ _ _ (c.in-Some.head, c.in-Some.id) c.in-Some.is (c.bound_to-bound.ensures.value s)) ∙ c.loop-head.invariant s

pub returns : goal.returns
returns g c = record { value = λ s. sym (bound_all c.loop-head.head-iterator c.next.new.self c.next.result c.next.ensures.steps _ _ c.in-None.is) ∙ c.loop-head.invariant s }
