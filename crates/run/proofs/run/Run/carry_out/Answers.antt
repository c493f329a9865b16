use Rattle.std.proofs.Common.{Ok, Err, sym, refl, ap, ◌∙◌}
use Rattle.std.proofs.lemmas.Result.{err_from_is_err_and}
use Rattle.meaning.specs.declared.answers.Stepped.TheVariants as stepped
use Rattle.run.specs.Runs.{setup, state, Standing}
use Rattle.run.proofs.Stepping.{look_err, look_final, look_due, fires_step}
use Rattle.run.proofs.Standings.{Laws, steps, fireable, does_step}
use Rattle.run.proofs.run.Run.carry_out.Given as given
use Rattle.run.proofs.run.Run.carry_out.Goals as goal

laws : (g : given.Over) → Laws g.S.Store g.O.Order
laws g = record { rising = g.met.S.Store.rising; never = g.met.O.Order.never; chains = g.met.O.Order.chains; level = g.met.O.Order.level }

pub returns-in_err-held-clause-does : goal.returns-in_err-held-clause-does
returns-in_err-held-clause-does g c = λ h.
    let r = c.args.self.now in
    let s = setup g.S.Store g.H.Host g.O.Order r in
    let t = state g.S.Store r in
    let p = err_from_is_err_and c.from_residual.result c.from_residual.ensures.1 in
    let both = look_err s t c.in_err-held.field-0.0 (sym c.in_err-held.was ∙ h) in
    does_step (laws g) r _ refl (λ b. record { kept = b.kept; below = b.below }) c.from_residual.result
    (λ b. steps (laws g) r b t c.from_residual.result (both.0, p.1 ∙ ap Err p.2 ∙ both.1))

pub returns-in-Final-clause-does : goal.returns-in-Final-clause-does
returns-in-Final-clause-does g c = λ h.
    let r = c.args.self.now in
    let s = setup g.S.Store g.H.Host g.O.Order r in
    let t = state g.S.Store r in
    does_step (laws g) r _ refl (λ b. record { kept = b.kept; below = b.below }) (Ok stepped.Final)
    (λ b. steps (laws g) r b t (Ok stepped.Final) (look_final s t (ap Ok (sym c.in-Final.is) ∙ sym c.in_ok-held.was ∙ h)))

pub returns-in-Due-clause-does : goal.returns-in-Due-clause-does
returns-in-Due-clause-does g c = λ h.
    let r = c.args.self.now in
    let s = setup g.S.Store g.H.Host g.O.Order r in
    let t = state g.S.Store r in
    let held = look_due s t c.in-Due.rule c.in-Due.ids c.in-Due.refusal (ap Ok (sym c.in-Due.is) ∙ sym c.in_ok-held.was ∙ h) in
    let ready = λ (b : Standing g.S.Store r). fireable (laws g) r b held.due held.found _ held.named in
    does_step (laws g) r c.fire.new.self c.fire.ensures.kept (λ b. c.fire.ensures.standing b (ready b)) c.fire.result
    (λ b.
    steps (laws g) r b (state g.S.Store c.fire.new.self) c.fire.result
    (fires_step s t held.unfailed held.due held.found _ held.named (state g.S.Store c.fire.new.self) c.fire.result (c.fire.ensures.fires b (ready b))))
