use Rattle.std.proofs.Common.{sym, ap, ◌∙◌, subst}
use Rattle.tally.specs.declared.answers.Answer.TheVariants as answer
use Rattle.tally.specs.declared.calls.Call.TheVariants as call
use Rattle.run.specs.Runs.{setup, Does}
use Rattle.run.proofs.Standings.{does_standing}
use Rattle.perform.proofs.make.choose_and_lay_aside.Goals as goal

pub returns : goal.returns
returns g c = record {
  does =
      does_standing g.S.Store g.H.Host g.O.Order c.args.run call.ChooseAndLayAside c.lay_aside-run.result (answer.ChooseAndLayAside c.held-held.result)
      (ap (setup g.S.Store g.H.Host g.O.Order) (c.lay_aside-run.ensures.run ∙ c.choose-chosen.ensures.run))
      (λ b.
      subst (λ x. Does g.S.Store g.H.Host g.O.Order c.args.run call.ChooseAndLayAside c.lay_aside-run.result (answer.ChooseAndLayAside x)) (sym c.held-held.ensures.value)
      (subst (λ r. Does g.S.Store g.H.Host g.O.Order r call.ChooseAndLayAside c.lay_aside-run.result (answer.ChooseAndLayAside c.choose-chosen.result.held)) c.choose-chosen.ensures.run
      (c.lay_aside-run.ensures.does (c.choose-chosen.ensures.holds b))));
}
