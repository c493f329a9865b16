-- A firing that is cleared is made.
use Rattle.std.proofs.Common.{◌≡◌, ℕ, ◌+◌, ◌-◌, ◌≤◌, Bool, true, false, cond, ltb, leb, List, [], ◌∷◌, ◌++◌, length, Ok, Err, Result, sym, refl, ap, ◌∙◌, subst, arith}
use Rattle.std.proofs.lemmas.Bool.{leb-true}
use Rattle.facts.specs.declared.Fact.{Fact}
use Rattle.rules.specs.Results.{and_then, kept_or, unless}
use Rattle.rules.specs.Rules.{Rule}
use Rattle.store.specs.Store.{Above}
use Rattle.firing.specs.Room.{Room}
use Rattle.meaning.proofs.Takings.{above_taking_off}
use Rattle.meaning.proofs.Writings.{above_written}
use Rattle.meaning.specs.declared.answers.Stepped.{Stepped}
use Rattle.meaning.specs.declared.answers.Stepped.TheVariants as stepped
use Rattle.meaning.specs.declared.refusal.Refusal.{Refusal}
use Rattle.meaning.specs.declared.refusal.Refusal.TheVariants as refusal
use Rattle.meaning.specs.declared.refusal.Site.TheVariants as site
use Rattle.meaning.specs.declared.roll.Entry.{Entry}
use Rattle.meaning.specs.declared.roll.Firing.{Firing}
use Rattle.meaning.specs.declared.roll.Entry.TheVariants.{Fired}
use Rattle.meaning.specs.declared.written.Written.{Written}
use Rattle.meaning.specs.Setup.{Setup, State}
use Rattle.meaning.specs.Firing.{rule_at, body_worked, taken_ids, taking_off, numbered_from, after_firing, fire, roll_places}
use Rattle.meaning.specs.Calls.{fired_or_failed}
use Rattle.run.specs.Clearing.{working_out, clearing, Fireable, FiresTo}
use Rattle.run.proofs.States.{same_state}

module _ {R : Type 0} (s : Setup R) (t : State) (g : Firing) where
  abbrev rule : Rule
  rule = rule_at s.rules g.rule

  abbrev taken : List ℕ
  taken = taken_ids rule.heads g.ids

  abbrev cleared : Result (List Written) Refusal
  cleared = clearing s.works t.facts rule g s.rows (length t.roll)

  by_tests : (w : Result (List Written) Refusal) (k : List Written → Bool) (b : Bool) (e f : Refusal)
      → and_then w (λ ws. and_then (unless (k ws) e) (λ _. and_then (unless b f) (λ _. Ok (after_firing s t rule g.rule g.ids ws))))
      ≡ and_then (and_then w (λ ws. and_then (unless (k ws) e) (λ _. and_then (unless b f) (λ _. Ok ws)))) (λ ws. Ok (after_firing s t rule g.rule g.ids ws))
  by_tests (Err x) k b e f = refl
  by_tests (Ok ws) k b e f = by_rows (k ws) b where
    by_rows : (c d : Bool)
        → and_then (unless c e) (λ _. and_then (unless d f) (λ _. Ok (after_firing s t rule g.rule g.ids ws)))
        ≡ and_then (and_then (unless c e) (λ _. and_then (unless d f) (λ _. Ok ws))) (λ vs. Ok (after_firing s t rule g.rule g.ids vs))
    by_rows true true = refl
    by_rows true false = refl
    by_rows false true = refl
    by_rows false false = refl

  fire_cleared : fire s t g.rule g.ids ≡ and_then cleared (λ ws. Ok (after_firing s t rule g.rule g.ids ws))
  fire_cleared =
      by_tests (body_worked s t rule g.rule g.ids) (λ ws. leb (length ws) (s.rows - length t.facts + length taken)) (ltb (length t.roll) roll_places)
      (refusal.NoRow (site.Rule g.rule)) (refusal.RollFull (site.Rule g.rule))

  fires_ok : (ws : List Written) → Ok ws ≡ cleared → fire s t g.rule g.ids ≡ Ok (after_firing s t rule g.rule g.ids ws)
  fires_ok ws h = fire_cleared ∙ ap (λ x. and_then x (λ vs. Ok (after_firing s t rule g.rule g.ids vs))) (sym h)

  -- the rule and the length of the roll as the code has them
  pub as_cleared : (q : Rule) (k : ℕ) (x : Result (List Written) Refusal) → q ≡ rule → k ≡ length t.roll
      → x ≡ clearing s.works t.facts q g s.rows k → x ≡ cleared
  as_cleared q k x e l h =
      h ∙ ap (λ p. clearing s.works t.facts p g s.rows k) e ∙ ap (clearing s.works t.facts rule g s.rows) l

  pub as_changed : (q : Rule) (vs ws : List Written) (live : List Fact) → q ≡ rule → vs ≡ ws
      → (Room (taking_off (taken_ids q.heads g.ids) t.facts) s.rows t.next vs → live ≡ taking_off (taken_ids q.heads g.ids) t.facts ++ numbered_from t.next vs)
      → Room (taking_off taken t.facts) s.rows t.next ws → live ≡ taking_off taken t.facts ++ numbered_from t.next ws
  as_changed q vs ws live e f k =
      subst (λ (p : Rule). Room (taking_off (taken_ids p.heads g.ids) t.facts) s.rows t.next ws → live ≡ taking_off (taken_ids p.heads g.ids) t.facts ++ numbered_from t.next ws) e
      (subst (λ xs. Room (taking_off (taken_ids q.heads g.ids) t.facts) s.rows t.next xs → live ≡ taking_off (taken_ids q.heads g.ids) t.facts ++ numbered_from t.next xs) f k)

  -- the rows that are wanted are there
  roomy : (w : Result (List Written) Refusal) (rows : ℕ) (b : Bool) (e f : Refusal) (ws : List Written)
      → Ok ws ≡ and_then w (λ vs. and_then (unless (leb (length vs) rows) e) (λ _. and_then (unless b f) (λ _. Ok vs))) → length ws ≤ rows
  roomy (Err x) rows b e f ws h = cc
  roomy (Ok vs) rows b e f ws h = by_rows (leb (length vs) rows) refl b h where
    by_rows : (c : Bool) → leb (length vs) rows ≡ c → (d : Bool) → Ok ws ≡ and_then (unless c e) (λ _. and_then (unless d f) (λ _. Ok vs)) → length ws ≤ rows
    by_rows true k true g = let same : ws ≡ vs = cc in subst (λ xs. length xs ≤ rows) (sym same) (leb-true (length vs) rows k)
    by_rows true k false g = cc
    by_rows false k d g = cc

  wanted : (ws : List Written) → Ok ws ≡ cleared → length ws ≤ s.rows - length t.facts + length taken
  wanted ws h =
      roomy (working_out s.works t.facts rule g) (s.rows - length t.facts + length taken) (ltb (length t.roll) roll_places)
      (refusal.NoRow (site.Rule g.rule)) (refusal.RollFull (site.Rule g.rule)) ws h

  module _ (ok : Fireable s t g) (ws : List Written) (h : Ok ws ≡ cleared) (above : Above t.next t.facts) (within : length t.facts ≤ s.rows)
      (few : length ws ≤ 4) (small : t.next ≤ 4097) where
    pub firing_room : Room (taking_off taken t.facts) s.rows t.next ws
    firing_room = record {
      above = above_taking_off taken t.facts t.next above;
      free = omega (arith, wanted ws h, ok.taken);
      ids = omega arith;
    }

    pub firing_done : (live : List Fact) (roll : List Entry) (next : ℕ) (failed : Bool) (r : Stepped)
        → live ≡ taking_off taken t.facts ++ numbered_from t.next ws → roll ≡ t.roll ++ Fired g ∷ []
        → next ≡ t.next + length ws → failed ≡ rule.fails → r ≡ cond failed stepped.Failed stepped.Fired
        → FiresTo s t g (record { facts = live; roll = roll; next = next; failed = failed }) (Ok r)
    firing_done live roll next failed r a b c d e = record {
      value = ap Ok (e ∙ ap (λ x. cond x stepped.Failed stepped.Fired) d) ∙ ap (λ x. and_then x (λ (v : State). Ok (fired_or_failed v))) (sym (fires_ok ws h));
      after = same_state a b c d ∙ ap (λ x. kept_or x t) (sym (fires_ok ws h));
    }

    pub firing_below : (live : List Fact) (next : ℕ) → live ≡ taking_off taken t.facts ++ numbered_from t.next ws → next ≡ t.next + length ws → Above next live
    firing_below live next a c =
        subst (λ fs. Above next fs) (sym a)
        (subst (λ k. Above k (taking_off taken t.facts ++ numbered_from t.next ws)) (sym c)
        (above_written (taking_off taken t.facts) ws t.next (above_taking_off taken t.facts t.next above)))
