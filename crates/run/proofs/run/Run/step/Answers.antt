use Rattle.std.proofs.Common.{None, Ok, refl}
use Rattle.meaning.specs.declared.answers.Stepped.TheVariants as stepped
use Rattle.run.specs.Runs.{setup, state, Standing}
use Rattle.run.proofs.Stepping.{over_after, over_answer, found_after, found_answer, fires_step, firing_of}
use Rattle.run.proofs.Standings.{Laws, steps, fireable, does_step}
use Rattle.run.proofs.run.Run.step.Given as given
use Rattle.run.proofs.run.Run.step.Goals as goal

laws : (g : given.Over) → Laws g.S.Store g.O.Order
laws g = record { rising = g.met.S.Store.rising; never = g.met.O.Order.never; chains = g.met.O.Order.chains; level = g.met.O.Order.level }

pub returns-then-self-clause-does : goal.returns-then-self-clause-does
returns-then-self-clause-does g c =
    let r = c.args.self.now in
    let s = setup g.S.Store g.H.Host g.O.Order r in
    let t = state g.S.Store r in
    does_step (laws g) r _ refl (λ b. record { kept = b.kept; below = b.below }) _ (λ b. steps (laws g) r b t _ (over_after s t c.if-self.true, over_answer s t c.if-self.true))

pub returns-in-None : goal.returns-in-None
returns-in-None g c =
    let r = c.args.self.now in
    let s = setup g.S.Store g.H.Host g.O.Order r in
    let t = state g.S.Store r in
    let rests = λ (b : Standing g.S.Store r). steps (laws g) r b t (Ok stepped.Final) (found_after s t c.if-self.false None (c.in-None.ensures.value b), found_answer s t c.if-self.false None (c.in-None.ensures.value b)) in
    record { does = does_step (laws g) r _ refl (λ b. record { kept = b.kept; below = b.below }) _ rests; steps = rests }

pub returns-in-Some : goal.returns-in-Some
returns-in-Some g c =
    let r = c.args.self.now in
    let d = c.in-Some.due in
    let ready = λ (b : Standing g.S.Store r). fireable (laws g) r b d (c.in-Some.ensures.value b) (firing_of d) refl in
    let fires = λ (b : Standing g.S.Store r).
    steps (laws g) r b (state g.S.Store c.fire.new.self) c.fire.result
    (fires_step (setup g.S.Store g.H.Host g.O.Order r) (state g.S.Store r) c.if-self.false d (c.in-Some.ensures.value b) (firing_of d) refl (state g.S.Store c.fire.new.self) c.fire.result (c.fire.ensures.fires b (ready b))) in
    record { does = does_step (laws g) r c.fire.new.self c.fire.ensures.kept (λ b. c.fire.ensures.standing b (ready b)) c.fire.result fires; steps = fires }
