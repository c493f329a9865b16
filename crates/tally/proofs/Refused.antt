-- A firing that is refused is refused by the number of the first cause that holds: body, then rows, then roll.
use Rattle.std.proofs.Common.{◌≡◌, ℕ, ◌≤◌, Bool, true, false, ltb, leb, List, length, Ok, Err, Result, sym, refl, ap, ◌∙◌, subst}
use Rattle.std.proofs.lemmas.Bool.{leb-true, leb-false, ltb-false}
use Rattle.rules.specs.Results.{and_then, unless}
use Rattle.meaning.specs.declared.refusal.Refusal.{Refusal}
use Rattle.meaning.specs.declared.refusal.Refusal.TheVariants as refusal
use Rattle.meaning.specs.declared.refusal.Site.TheVariants as site
use Rattle.meaning.specs.declared.written.Written.{Written}
use Rattle.meaning.specs.Setup.{Setup, State}
use Rattle.meaning.specs.Firing.{rule_at, roll_places, after_firing, body_worked, fire}
use Rattle.meaning.specs.Refusals.{refusal_numbers}
use Rattle.meaning.specs.Calls.{rows_for, TurnsDown}
use Rattle.meaning.specs.Calls.TurnsDown.{body, no_row, roll_full}
use Rattle.meaning.proofs.PublishedCalls.{with_room, body_refused}

same_refusal : (q r : Refusal) → ◌≡◌ {A = Result State Refusal} (Err q) (Err r) → q ≡ r
same_refusal q r e = cc

made_not_refused : (u : State) (r : Refusal) → Ok u ≡ Err r → ⊥
made_not_refused u r e = cc

module _ {R : Type 0} (s : Setup R) (t : State) (n : ℕ) (is : List ℕ) where
  abbrev Down : Refusal → Type 0
  Down r = TurnsDown s t n is (refusal_numbers r)

  module _ (ws : List Written) (worked : body_worked s t (rule_at s.rules n) n is ≡ Ok ws) (r : Refusal) where
    by_roll : length ws ≤ rows_for s t n is → (b : Bool) → ltb (length t.roll) roll_places ≡ b
        → and_then (unless b (refusal.RollFull (site.Rule n))) (λ _. Ok (after_firing s t (rule_at s.rules n) n is ws)) ≡ Err r → Down r
    by_roll room true p e = absurd (made_not_refused (after_firing s t (rule_at s.rules n) n is ws) r e)
    by_roll room false p e =
        subst Down (same_refusal (refusal.RollFull (site.Rule n)) r e) (roll_full ws worked room (ltb-false (length t.roll) roll_places p))

    by_rows : (b : Bool) → leb (length ws) (rows_for s t n is) ≡ b
        → and_then (unless b (refusal.NoRow (site.Rule n))) (λ _.
        and_then (unless (ltb (length t.roll) roll_places) (refusal.RollFull (site.Rule n))) (λ _.
        Ok (after_firing s t (rule_at s.rules n) n is ws))) ≡ Err r → Down r
    by_rows true p e = by_roll (leb-true (length ws) (rows_for s t n is) p) (ltb (length t.roll) roll_places) refl e
    by_rows false p e =
        subst Down (same_refusal (refusal.NoRow (site.Rule n)) r e) (no_row ws worked (leb-false (length ws) (rows_for s t n is) p))

  by_body : (r : Refusal) (x : Result (List Written) Refusal) → body_worked s t (rule_at s.rules n) n is ≡ x
      → and_then x (with_room s t (rule_at s.rules n) n is) ≡ Err r → Down r
  by_body r (Ok ws) p e = by_rows ws p r (leb (length ws) (rows_for s t n is)) refl e
  by_body r (Err q) p e =
      let f = body_refused s t (rule_at s.rules n) n is q p in
      subst Down (sym f.1 ∙ same_refusal q r e) (body f.0 (p ∙ ap Err f.1))

  pub turned_down : (r : Refusal) → fire s t n is ≡ Err r → TurnsDown s t n is (refusal_numbers r)
  turned_down r e = by_body r (body_worked s t (rule_at s.rules n) n is) refl e
