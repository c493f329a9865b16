use Rattle.std.proofs.cmp.Tests.{ltb_from_iff}
use Rattle.book.proofs.OpenRules.{lent_same}
use Rattle.book.proofs.draft.Tables.open_rule.Goals as goal

pub returns : goal.returns
returns c = (lent_same _ c.args.self.now _ _ _ _, record { lends = tt; lends_facts = (ltb_from_iff c.last_mut.ensures.variant, c.last_mut.ensures.value) })
