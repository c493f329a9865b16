-- Whether a firing may be made. Assumes nothing; works is what a host answers, live and rows
-- the live facts and the rows of a store, rolled how many entries a roll has; s is a setup, t a state and
-- g a firing.
--     working_out works live r g   the body facts of the firing g of the rule r, or the refusal of its body
--     clearing works live r g rows rolled   the same, or the firing's refusal: body, then rows, then roll
--     FiresTo s t g u r     the firing g answers r and leaves the state u
--     Fireable s t g        its rule is in the book, and the ids of its taken heads are those of
--                           different live facts
use Rattle.std.specs.Prelude.{◌≡◌, ℕ, ◌+◌, ◌-◌, ◌<◌, ◌≤◌, cond, List, [], length, ℤ, Ok, Result, nat_le, nat_lt}
use Rattle.facts.specs.declared.Fact.{Fact}
use Rattle.host.specs.declared.types.Cause.{Cause}
use Rattle.host.specs.declared.types.Working.{Working}
use Rattle.rules.specs.Results.{and_then, kept_or, unless}
use Rattle.rules.specs.Rules.{Rule}
use Rattle.meaning.specs.declared.refusal.Refusal.{Refusal}
use Rattle.meaning.specs.declared.refusal.Refusal.TheVariants as refusal
use Rattle.meaning.specs.declared.refusal.Site.TheVariants as site
use Rattle.meaning.specs.declared.roll.Firing.{Firing}
use Rattle.meaning.specs.declared.written.Written.{Written}
use Rattle.meaning.specs.Setup.{Setup, State}
use Rattle.meaning.specs.Enumeration.{unbound}
use Rattle.meaning.specs.Firing.{rule_at, bindings, of_rule, body_of, taken_ids, taking_off, roll_places, fire}
use Rattle.meaning.specs.Calls.{fired_or_failed}
use Rattle.meaning.specs.declared.answers.Stepped.{Stepped}

module _ (works : Working ℤ → Result ℤ Cause) (live : List Fact) (r : Rule) (g : Firing) where
  abbrev pub working_out : Result (List Written) Refusal
  working_out = cond r.fails (Ok []) (of_rule g.rule (body_of works (bindings live r.heads g.ids unbound) r.facts 1))

  abbrev pub clearing : ℕ → ℕ → Result (List Written) Refusal
  clearing rows rolled =
      and_then working_out (λ ws.
      and_then (unless (nat_le (length ws) (rows - length live + length (taken_ids r.heads g.ids))) (refusal.NoRow (site.Rule g.rule))) (λ _.
      and_then (unless (nat_lt rolled roll_places) (refusal.RollFull (site.Rule g.rule))) (λ _.
      Ok ws)))

pub record Fireable {R : Type 0} (s : Setup R) (t : State) (g : Firing) : Type 0 where
  pub from_one : 0 < g.rule
  pub in_book : g.rule ≤ length s.rules
  pub taken : length (taking_off (taken_ids (rule_at s.rules g.rule).heads g.ids) t.facts) + length (taken_ids (rule_at s.rules g.rule).heads g.ids) ≡ length t.facts

-- the firing g answers r and leaves the state u
pub record FiresTo {R : Type 0} (s : Setup R) (t : State) (g : Firing) (u : State) (r : Result Stepped Refusal) : Type 0 where
  pub value : r ≡ and_then (fire s t g.rule g.ids) (λ v. Ok (fired_or_failed v))
  pub after : u ≡ kept_or (fire s t g.rule g.ids) t
