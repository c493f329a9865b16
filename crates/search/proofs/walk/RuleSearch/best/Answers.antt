use Rattle.std.proofs.Common.{◌≡◌, [], None, rules}
use Rattle.rules.specs.Rules.{rule_of}
use Rattle.matching.specs.Grounds.{asking_of, seeing_of}
use Rattle.search.proofs.Lists.{nothing_left}
use Rattle.search.proofs.Walked.{walked, one_head}
use Rattle.search.proofs.walk.RuleSearch.best.Goals as goal

pub returns-then-heads-eq1 : goal.returns-then-heads-eq1
returns-then-heads-eq1 g c = record {
  value = λ ready head.
      one_head (asking_of g.H.Host g.O.Order c.args.self.now.grounds.now []) (seeing_of g.S.Store c.args.self.now.grounds.now) c.args.self.now.number (rule_of c.args.self.now.rule.now) head c.args.start c.completed.result
      c.started.result c.in-Some.first c.len-heads.result c.started.ensures.value (search rules) c.len-heads.ensures.value (c.completed.ensures.value ready);
}

pub returns : goal.returns
returns g c =
    let none : c.loop-deepest.deepest ≡ None = search rules in
    record {
      value = λ ready head. walked _ _ _ _ head _ _ _ _ (cc (c.started.ensures.value, c.len-heads.ensures.value)) (nothing_left _ _ c.loop-deepest.invariant.deepest none) (c.loop-deepest.invariant.advanced ready);
    }
