use Rattle.matching.proofs.Tests.{all_more, all_fails, all_passed}
use Rattle.matching.proofs.guards.applicable.Goals as goal

pub returns-then-not-says_yes : goal.returns-then-not-says_yes
returns-then-not-says_yes g c = record {
  value = all_fails _ _ _ _ c.loop-i-test.true c.if-not-says_yes.ensures.value c.loop-i.invariant;
}

pub loop-i-preserved : goal.loop-i-preserved
loop-i-preserved g c = all_more _ _ _ _ c.loop-i-test.true c.if-not-says_yes.ensures.value c.loop-i.invariant

pub returns : goal.returns
returns g c = record { value = all_passed _ _ _ c.loop-i-test.false c.loop-i.invariant }
