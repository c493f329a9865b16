use Rattle.std.proofs.Common.{◌≡◌, true, List, [], None, ap, ◌∙◌, subst}
use Rattle.facts.specs.Positions.{all}
use Rattle.rules.specs.Rules.{Rule, closed, small}
use Rattle.book.specs.Books.{book_of}
use Rattle.matching.specs.Grounds.{asking_of, seeing_of}
use Rattle.matching.specs.Parts.{Ready}
use Rattle.meaning.specs.Setup.{Setup, State, Lawful}
use Rattle.meaning.specs.Enumeration.{due_of}
use Rattle.search.specs.Offers.{sought}
use Rattle.search.proofs.Sought.{rule_headed, sought_more, sought_all, found_due}
use Rattle.search.proofs.due.due_instance.Given as given
use Rattle.search.proofs.due.due_instance.Goals as goal

pub loop-i-preserved : goal.loop-i-preserved
loop-i-preserved g c = λ ready.
    sought_more (asking_of g.H.Host g.O.Order c.args.grounds.now []) (seeing_of g.S.Store c.args.grounds.now)
    c.rules-rules.result.now c.loop-i.i c.loop-i.best _ (c.loop-i.invariant ready) c.index-rules-i.result c.best-best.result
    c.loop-i-test.true c.index-rules-i.is
    (c.best-best.ensures.value ready (rule_headed c.rules-rules.result.now c.loop-i.i c.index-rules-i.result c.rules-rules.ensures.closed c.loop-i-test.true c.index-rules-i.is))

module _ (g : given.Over) (c : goal.After-loop-i g) (ready : Ready g.S.Store c.args.grounds.now.store.now) where
  abbrev rules : List Rule
  rules = (book_of c.args.book.now).rules

  abbrev s : List Rule → Setup g.row.O-Rank.Denot
  s = asking_of g.H.Host g.O.Order c.args.grounds.now

  abbrev t : State
  t = seeing_of g.S.Store c.args.grounds.now

  found : c.loop-i.best ≡ due_of (s rules) t
  found =
      sought_all (s []) t c.rules-rules.result.now c.loop-i.i c.loop-i.best _ (c.loop-i.invariant ready) c.loop-i-test.false
      ∙ ap (sought (s []) t None 1) c.rules-rules.ensures.value

  laws : Lawful (s rules).better
  laws = record {
    never = g.met.O.Order.never c.args.grounds.now.order.now;
    chains = g.met.O.Order.chains c.args.grounds.now.order.now;
    level = g.met.O.Order.level c.args.grounds.now.order.now;
  }

pub returns : goal.returns
returns g c = record {
  value = λ ready. found g c ready;
  due = λ ready.
      found_due (s g c ready (rules g c ready)) (t g c ready) c.loop-i.best (found g c ready) (laws g c ready) (g.met.S.Store.rising _ ready.kept)
      (subst (λ rs. all closed rs ≡ true) c.rules-rules.ensures.value c.rules-rules.ensures.closed)
      (subst (λ rs. all small rs ≡ true) c.rules-rules.ensures.value c.rules-rules.ensures.small);
}
