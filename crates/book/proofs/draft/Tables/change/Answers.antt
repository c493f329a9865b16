use Rattle.std.proofs.Common.{◌≡◌, refl, sym, ap, ◌∙◌, Err, rules}
use Rattle.std.specs.Fn.{FnOnceReturnsAtMut}
use Rattle.rules.specs.Results.{told, kept_or}
use Rattle.records.specs.declared.fault.Fault.TheVariants as fault
use Rattle.book.specs.Held.{tables_of}
use Rattle.book.proofs.Cases.{or_some, or_none}
use Rattle.book.proofs.OpenRules.{opened_none, opened_told, opened_after}
use Rattle.book.proofs.draft.Tables.change.Goals as goal

pub returns-in_err-rule : goal.returns-in_err-rule
returns-in_err-rule g c =
    let e = or_none _ _ _ c.in_err-rule.ensures.value in
    let none = (rw e.1 at c.open_rule.ensures.lends_facts).0 in
    let refused : c.from_residual.result ≡ Err fault.MayNotFollow = search (rules, e.0) in record {
      done = λ f s. record {
        value = refused ∙ sym (ap told (opened_none c.args.self.now f none));
        after = sym (ap (λ x. kept_or x (tables_of c.args.self.now)) (opened_none c.args.self.now f none));
      };
    }

pub returns : goal.returns
returns g c =
    let t = c.args.self.now in
    let rule = c.in_ok-rule.rule in
    let e = or_some _ _ _ c.in_ok-rule.ensures.value in
    let l = rw e at c.open_rule.ensures.lends_facts in
    let gave : FnOnceReturnsAtMut g.F.FnOnce c.args.step rule.now c.step.result c.step.new.arg2 =
    record { shown = rule; shows = refl; left = _; met = c.step.ensures; leaves = refl } in record {
      done = λ f s.
          let step = s _ _ _ gave in record {
            value = step.value ∙ opened_told t rule.now l.0 l.1 f;
            after = opened_after t rule.now l.0 l.1 f c.step.new.arg2 step.after;
          };
    }
