use Rattle.std.proofs.Common.{◌≤◌, ◌<◌, ◌++◌, [], length}
use Rattle.std.specs.Option.{option_to_list, IsSome}
use Rattle.few.specs.Few.{listed}
use Rattle.rules.specs.Rules.{rule_of}
use Rattle.matching.specs.Grounds.{asking_of, seeing_of}
use Rattle.matching.specs.Parts.{Ready}
use Rattle.search.specs.Walks.{weight, Advanced}
use Rattle.search.proofs.walk.RuleSearch.best.Given as goal

-- the levels reached are those of the walk and the deepest; where there is no deepest, there is none
abbrev pub invariant-loop-deepest : goal.invariant-loop-deepest
invariant-loop-deepest g l = record {
  deepest : 0 < length (listed l.walk) → IsSome l.deepest;
  within : length (listed l.walk ++ option_to_list l.deepest) ≤ length (listed l.self.rule.now.heads);
  advanced : Ready g.S.Store l.self.grounds.now.store.now
      → Advanced (asking_of g.H.Host g.O.Order l.self.grounds.now []) (seeing_of g.S.Store l.self.grounds.now) l.self.number (rule_of l.self.rule.now) (option_to_list l.initial.deepest) (listed l.walk ++ option_to_list l.deepest) l.initial.best l.best;
}

abbrev pub decreases-loop-deepest : goal.decreases-loop-deepest
decreases-loop-deepest g l = weight 3 (listed l.walk ++ option_to_list l.deepest)
