use Rattle.std.proofs.Common.{◌≡◌, ◌+◌, [], map, drop, None}
use Rattle.rules.specs.Rules.{rule_of}
use Rattle.matching.specs.Grounds.{asking_of, seeing_of}
use Rattle.matching.specs.Parts.{Ready}
use Rattle.search.specs.Offers.{sought}
use Rattle.search.proofs.due.due_instance.Given as goal

-- what is left gives the answer
abbrev pub invariant-loop-i : goal.invariant-loop-i
invariant-loop-i g l =
    let s = asking_of g.H.Host g.O.Order l.grounds [] in
    let t = seeing_of g.S.Store l.grounds in
    Ready g.S.Store l.grounds.store.now
    → sought s t l.best (l.i + 1) (map rule_of (drop l.i l.rules)) ≡ sought s t None 1 (map rule_of l.rules)
