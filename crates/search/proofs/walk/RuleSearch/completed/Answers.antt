use Rattle.std.proofs.Common.{[], refl, rules}
use Rattle.rules.specs.Rules.{rule_of}
use Rattle.matching.specs.Grounds.{asking_of, seeing_of}
use Rattle.search.proofs.Steps.{completes}
use Rattle.search.proofs.walk.RuleSearch.completed.Goals as goal

pub loop-partner-preserved : goal.loop-partner-preserved
loop-partner-preserved g c = λ ready blank.
    rw c.consider-best.ensures.value
    (completes (asking_of g.H.Host g.O.Order c.args.self.now.grounds.now []) (seeing_of g.S.Store c.args.self.now.grounds.now) c.args.self.now.number (rule_of c.args.self.now.rule.now) _ c.as_slice.ensures.value
    c.args.at (record { ids = c.args.level.now.ids; env = c.args.level.now.env; from = c.loop-partner.from }) c.in-Some.partner _ refl (c.in-Some.ensures.found ready) c.with_partner-chosen.result c.with_partner-chosen.ensures.value (search rules)
    c.loop-partner.best _ c.requires.last (record { blank = blank.blank }) (c.loop-partner.invariant ready blank))
