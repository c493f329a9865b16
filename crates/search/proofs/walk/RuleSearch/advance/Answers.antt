use Rattle.std.proofs.Common.{◌+◌, ◌<◌, length, ap, arith, rules}
use Rattle.few.specs.Few.{listed}
use Rattle.search.proofs.Steps.{step_done, step_back, step_more}
use Rattle.search.proofs.Weights.{lighter_pop, lighter_more}
use Rattle.search.proofs.walk.RuleSearch.advance.Goals as goal

pub returns-then-at-heads-clause-lighter : goal.returns-then-at-heads-clause-lighter
returns-then-at-heads-clause-lighter g c = lighter_pop _ _

pub returns-then-at-heads-clause-advanced : goal.returns-then-at-heads-clause-advanced
returns-then-at-heads-clause-advanced g c = λ ready.
    step_done _ _ _ _ _ c.as_slice-heads.ensures.value c.len-at.result _ _ c.len-at.ensures.value _ _ (c.completed.ensures.value ready)

pub returns-in_default-clause-advanced : goal.returns-in_default-clause-advanced
returns-in_default-clause-advanced g c = λ ready.
    step_back _ _ _ _ _ c.as_slice-heads.ensures.value _ _ _ c.len-at.ensures.value _ (c.in_default.ensures.found ready)

pub returns-in-Some-clause-lighter : goal.returns-in-Some-clause-lighter
returns-in-Some-clause-lighter g c =
    let four : length (listed c.args.walk.now) + 1 < 4 = search rules in
    rw (c.reach-in-Some.ensures.value, c.reach.ensures.value)
    (lighter_more _ _ c.in-Some.partner _ c.looking_from.ensures.value c.in-Some.ensures.later c.with_partner.result _ c.with_partner.ensures.value four)

pub returns-in-Some-clause-advanced : goal.returns-in-Some-clause-advanced
returns-in-Some-clause-advanced g c = λ ready. rw (c.reach-in-Some.ensures.value, c.reach.ensures.value)
    (step_more _ _ _ _ _ c.as_slice-heads.ensures.value _ _ _ c.len-at.ensures.value _ c.in-Some.partner _ c.looking_from.ensures.value (c.in-Some.ensures.found ready) c.with_partner.result c.with_partner.ensures.value (search rules) (omega (arith, ap length c.as_slice-heads.ensures.value)))
