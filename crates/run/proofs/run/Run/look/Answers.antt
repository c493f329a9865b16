use Rattle.std.proofs.Common.{None, Some, Ok, refl, ap, ◌∙◌}
use Rattle.meaning.specs.declared.answers.Sight.TheVariants as sight
use Rattle.run.specs.Runs.{setup, state, Standing}
use Rattle.run.proofs.Stepping.{over_look, found_look, firing_of}
use Rattle.run.proofs.Standings.{Laws, looks, fireable, does_look}
use Rattle.run.proofs.run.Run.look.Given as given
use Rattle.run.proofs.run.Run.look.Goals as goal

laws : (g : given.Over) → Laws g.S.Store g.O.Order
laws g = record { rising = g.met.S.Store.rising; never = g.met.O.Order.never; chains = g.met.O.Order.chains; level = g.met.O.Order.level }

pub returns-then-self-clause-does : goal.returns-then-self-clause-does
returns-then-self-clause-does g c =
    let r = c.args.self.now in
    does_look (laws g) r _ (λ b. looks (laws g) r b _ (over_look (setup g.S.Store g.H.Host g.O.Order r) (state g.S.Store r) c.if-self.true))

pub returns-in-None : goal.returns-in-None
returns-in-None g c =
    let r = c.args.self.now in
    let seen = λ (b : Standing g.S.Store r). looks (laws g) r b (Ok sight.Final) (found_look (setup g.S.Store g.H.Host g.O.Order r) (state g.S.Store r) c.if-self.false None (c.in-None.ensures.value b)) in
    record { does = does_look (laws g) r _ seen; looks = seen }

pub returns-in-Some : goal.returns-in-Some
returns-in-Some g c =
    let r = c.args.self.now in
    let d = c.in-Some.due in
    let seen = λ (b : Standing g.S.Store r).
    looks (laws g) r b (Ok (sight.Due d.rule d.ids c.refusal_of.result))
    (ap (λ x. Ok (sight.Due d.rule d.ids x)) (c.refusal_of.ensures.value b (fireable (laws g) r b d (c.in-Some.ensures.value b) (firing_of d) refl))
    ∙ found_look (setup g.S.Store g.H.Host g.O.Order r) (state g.S.Store r) c.if-self.false (Some d) (c.in-Some.ensures.value b)) in
    record { does = does_look (laws g) r _ seen; looks = seen }
