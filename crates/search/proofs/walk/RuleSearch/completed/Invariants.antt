use Rattle.std.proofs.Common.{◌≡◌, ◌-◌, ◌^◌, []}
use Rattle.few.specs.Few.{listed}
use Rattle.rules.specs.Rules.{rule_of}
use Rattle.matching.specs.Grounds.{asking_of, seeing_of}
use Rattle.matching.specs.Parts.{Ready}
use Rattle.search.specs.Offers.{offered}
use Rattle.search.specs.Walks.{rest, Blank}
use Rattle.search.proofs.walk.RuleSearch.completed.Given as goal

-- what is left from here on gives the answer
abbrev pub invariant-loop-partner : goal.invariant-loop-partner
invariant-loop-partner g l =
    let s = asking_of g.H.Host g.O.Order l.self.grounds.now [] in
    let t = seeing_of g.S.Store l.self.grounds.now in
    let hs = listed l.self.rule.now.heads in
    Ready g.S.Store l.self.grounds.now.store.now → Blank l.at l.level
    → offered s t l.self.number (rule_of l.self.rule.now) l.best (rest t.facts hs l.at (record { ids = l.level.ids; env = l.level.env; from = l.from }))
    ≡ offered s t l.self.number (rule_of l.self.rule.now) l.initial.best (rest t.facts hs l.at l.level)

abbrev pub decreases-loop-partner : goal.decreases-loop-partner
decreases-loop-partner g l = 2 ^ 32 - l.from
