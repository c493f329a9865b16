use Rattle.std.proofs.Common.{sym, ap, ◌∙◌, subst}
use Rattle.meaning.specs.declared.answers.Ending.TheVariants as ending
use Rattle.meaning.specs.declared.answers.Ran.{Ran}
use Rattle.meaning.specs.Calls.{Course, StepsTo}
use Rattle.run.specs.Runs.{setup, state, Standing}
use Rattle.run.proofs.Counted.{ran_of, fired_is, counted_more, counted_ends, counted_all}
use Rattle.run.proofs.Standings.{Laws, runs, does_run}
use Rattle.run.proofs.run.Run.run.Given as given
use Rattle.run.proofs.run.Run.run.Goals as goal

laws : (g : given.Over) → Laws g.S.Store g.O.Order
laws g = record { rising = g.met.S.Store.rising; never = g.met.O.Order.never; chains = g.met.O.Order.chains; level = g.met.O.Order.level }

-- the step, by the setup that the run was opened with
pub loop-fired-preserved : goal.loop-fired-preserved
loop-fired-preserved g c =
    let r₀ = c.args.self.now in
    let s = setup g.S.Store g.H.Host g.O.Order r₀ in
    let r = c.loop-fired.self in
    let q = c.step-stepped.new.self in
    let x = c.step-stepped.result in
    let inv = c.loop-fired.invariant in
    record {
      same = c.step-stepped.ensures.does.same ∙ inv.same;
      standing = λ b. c.step-stepped.ensures.does.standing (inv.standing b);
      whole = λ b.
          let here = subst (λ z. StepsTo z (state g.S.Store r) (state g.S.Store q) x) inv.same (c.step-stepped.ensures.steps (inv.standing b)) in
          inv.whole b
          ∙ counted_more s c.args.n c.loop-fired.fired (state g.S.Store r) c.loop-fired-test.true (state g.S.Store q)
          (sym (fired_is x c.if-not-has_fired.ensures.value) ∙ here.value) here.after;
    }

pub returns-then-not-has_fired : goal.returns-then-not-has_fired
returns-then-not-has_fired g c =
    let r₀ = c.args.self.now in
    let s = setup g.S.Store g.H.Host g.O.Order r₀ in
    let r = c.loop-fired.self in
    let q = c.step-stepped.new.self in
    let x = c.step-stepped.result in
    let inv = c.loop-fired.invariant in
    let ran = λ (b : Standing g.S.Store r₀).
    let here = subst (λ z. StepsTo z (state g.S.Store r) (state g.S.Store q) x) inv.same (c.step-stepped.ensures.steps (inv.standing b)) in
    let ended = counted_ends s c.args.n c.loop-fired.fired (state g.S.Store r) c.loop-fired-test.true (state g.S.Store q) x (sym c.if-not-has_fired.ensures.value) here.value here.after in
    runs (laws g) r₀ b c.args.n (state g.S.Store q) c.ended.result
    (ended.state ∙ ap (λ (y : Course). y.state) (sym (inv.whole b)), c.ended.ensures.value ∙ ended.answer ∙ ap ran_of (sym (inv.whole b))) in
    record {
      does = does_run (laws g) r₀ q (c.step-stepped.ensures.does.same ∙ inv.same) (λ b. c.step-stepped.ensures.does.standing (inv.standing b)) c.args.n c.ended.result ran;
      runs = ran;
    }

pub returns : goal.returns
returns g c =
    let r₀ = c.args.self.now in
    let s = setup g.S.Store g.H.Host g.O.Order r₀ in
    let inv = c.loop-fired.invariant in
    let all_made = counted_all s c.args.n c.loop-fired.fired (state g.S.Store c.loop-fired.self) c.loop-fired-test.false c.loop-fired.auto.fired-end in
    let made : Ran = record { firings = c.args.n; ending = ending.Count } in
    let ran = λ (b : Standing g.S.Store r₀).
    runs (laws g) r₀ b c.args.n (state g.S.Store c.loop-fired.self) made
    (all_made.0 ∙ ap (λ (y : Course). y.state) (sym (inv.whole b)), all_made.1 ∙ ap ran_of (sym (inv.whole b))) in
    record {
      does = does_run (laws g) r₀ c.loop-fired.self inv.same inv.standing c.args.n made ran;
      runs = ran;
    }
