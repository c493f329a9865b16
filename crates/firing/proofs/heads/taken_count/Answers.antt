use Rattle.std.proofs.Common.{ℕ, rules, ◌∙◌}
use Rattle.std.proofs.lemmas.Iterator.{YieldsList-from_slice, YieldsList-from_zip}
use Rattle.std.proofs.lemmas.Iterator.Consumers.{YieldsList-from_filter, count_from_yields_List}
use Rattle.records.specs.declared.parts.Head.{Head}
use Rattle.firing.proofs.Paired.{taken_filtered}
use Rattle.firing.proofs.heads.taken_count.Goals as goal
use borrow.Author.Tests.{tests}

pub returns : goal.returns
returns c = record {
  value =
      count_from_yields_List c.filter.result c.count.result c.count.ensures.ran
      (YieldsList-from_filter _ (λ (p : Head × ℕ). p.0.taken) (YieldsList-from_zip (YieldsList-from_slice c.args.heads.now cc) (YieldsList-from_slice c.args.ids cc)) c.filter.ensures.closure (λ x r q k. search (rules, tests)))
      ∙ taken_filtered c.args.heads.now c.args.ids;
}
