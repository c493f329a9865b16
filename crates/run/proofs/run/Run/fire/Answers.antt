use Rattle.std.proofs.Common.{◌≡◌, ◌+◌, ◌≤◌, List, ◌++◌, length, Ok, vec_items, ap, ◌∙◌, arith, length-take}
use Rattle.few.specs.Few.{listed}
use Rattle.rules.specs.Rules.{Rule, rule_of}
use Rattle.meaning.specs.Setup.{Setup, State}
use Rattle.meaning.specs.Firing.{rule_at, taken_ids, taking_off, numbered_from}
use Rattle.meaning.specs.declared.written.Written.{Written}
use Rattle.run.specs.Clearing.{clearing, Fireable}
use Rattle.run.specs.Runs.{setup, state, Standing}
use Rattle.run.proofs.Firings.{as_cleared, as_changed, firing_room, firing_done, firing_below}
use Rattle.run.proofs.run.Run.fire.Given as given
use Rattle.run.proofs.run.Run.fire.Goals as goal

module _ (g : given.Over) (c : goal.After-answer g) (st : Standing g.S.Store c.args.self.now)
    (ok : Fireable (setup g.S.Store g.H.Host g.O.Order c.args.self.now) (state g.S.Store c.args.self.now) c.args.firing) where
  abbrev s : Setup g.row.O-Rank.Denot
  s = setup g.S.Store g.H.Host g.O.Order c.args.self.now

  abbrev t : State
  t = state g.S.Store c.args.self.now

  abbrev body : List Written
  body = listed c.in_ok-body.body

  rule_is : rule_of c.in-Some.rule.now ≡ rule_at s.rules c.args.firing.rule
  rule_is = c.in-Some.ensures.value ∙ ap (λ rs. rule_at rs c.args.firing.rule) c.rules.ensures.value

  cleared : Ok body ≡ clearing s.works t.facts (rule_at s.rules c.args.firing.rule) c.args.firing s.rows (length t.roll)
  cleared =
      as_cleared s t c.args.firing (rule_of c.in-Some.rule.now) c.len-rolled.result (Ok body) rule_is
      (c.len-rolled.ensures ∙ c.args.self.now.roll.ok.0) (c.in_ok-body.ensures.value st.kept)

  within : length t.facts ≤ s.rows
  within = g.met.S.Store.within _ st.kept

  few : length body ≤ 4
  few = omega (arith, length-take c.in_ok-body.body.len c.in_ok-body.body.items, c.in_ok-body.body.within)

  small : t.next ≤ 4097
  small = omega (arith, c.args.self.now.counted, c.args.self.now.few)

  live_is : g.S.Store.live c.change_store.new.store ≡ taking_off (taken_ids (rule_at s.rules c.args.firing.rule).heads c.args.firing.ids) t.facts ++ numbered_from t.next body
  live_is =
      as_changed s t c.args.firing (rule_of c.in-Some.rule.now) c.as_slice.result.now body (g.S.Store.live c.change_store.new.store) rule_is
      c.as_slice.ensures.value (c.change_store.ensures.changed.live st.kept)
      (firing_room s t c.args.firing ok body cleared st.below within few small)

  next_is : t.next + c.len.result ≡ t.next + length body
  next_is = ap (λ k. t.next + k) c.len.ensures.value

pub returns-clause-standing : goal.returns-clause-standing
returns-clause-standing g c = λ st ok. record {
  kept = c.change_store.ensures.changed.sound st.kept;
  below =
      firing_below (s g c st ok) (t g c st ok) c.args.firing ok (body g c st ok) (cleared g c st ok) st.below (within g c st ok) (few g c st ok) (small g c st ok)
      (g.S.Store.live c.change_store.new.store) _ (live_is g c st ok) (next_is g c st ok);
}

pub returns-clause-fires : goal.returns-clause-fires
returns-clause-fires g c = λ st ok.
    firing_done (s g c st ok) (t g c st ok) c.args.firing ok (body g c st ok) (cleared g c st ok) st.below (within g c st ok) (few g c st ok) (small g c st ok)
    (g.S.Store.live c.change_store.new.store) (vec_items c.push_reserved.new.self) _ c.in-Some.rule.now.fails c.answer.result
    (live_is g c st ok) c.push_reserved.ensures.items (next_is g c st ok) (ap (λ (r : Rule). r.fails) (rule_is g c st ok)) c.answer.ensures.value
