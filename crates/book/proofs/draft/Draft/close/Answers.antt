use Rattle.std.proofs.Common.{◌-◌, cond, length, take, vec_items, ap, ◌∙◌, arith}
use Rattle.facts.specs.Positions.{all}
use Rattle.rules.specs.Rules.{closed, small}
use Rattle.book.specs.Held.{draft_of}
use Rattle.book.proofs.Soundness.{ended_closed, ended_small, ended_map}
use Rattle.book.proofs.draft.Draft.close.Goals as goal

pub invariant_of-result : goal.invariant_of-result
invariant_of-result c =
    let rs = vec_items c.args.self.tables.rules in
    let e = c.finished.ensures.items ∙ ap (λ o. cond o (take (length rs - 1) rs) rs) c.is_open-open.ensures.value in
    let m = ended_map c.args.self.state rs _ e in
    let all_rules = (draft_of c.args.self).tables.rules in record {
      few = omega arith;
      closed = ap (all closed) m ∙ ended_closed c.args.self.state all_rules c.args.self.sound;
      small = ap (all small) m ∙ ended_small c.args.self.state all_rules c.args.self.sound;
    }

pub returns : goal.returns
returns c =
    let rs = vec_items c.args.self.tables.rules in
    let e = c.finished.ensures.items ∙ ap (λ o. cond o (take (length rs - 1) rs) rs) c.is_open-open.ensures.value in
    record { value = ap (λ qs. record { kinds = c.args.self.tables.kinds.arities; rules = qs }) (ended_map c.args.self.state rs _ e) }
