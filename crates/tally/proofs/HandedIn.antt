-- The facts handed in on the roll are those that the calls handed in: accepted hand-ins, under the ids answered.
use Rattle.std.proofs.Common.{◌≡◌, ℕ, false, List, [], ◌∷◌, ◌++◌, ℤ, Some, Ok, Err, Result, sym, refl, ap, ◌∙◌, append_assoc, append-nil}
use Rattle.facts.specs.declared.Fact.{Fact}
use Rattle.rules.specs.Results.{and_then, kept_or}
use Rattle.meaning.specs.declared.due.Due.{Due}
use Rattle.meaning.specs.declared.refusal.Refusal.{Refusal}
use Rattle.meaning.specs.declared.roll.Entry.{Entry}
use Rattle.meaning.specs.declared.roll.Entry.TheVariants.{HandedIn, Fired}
use Rattle.meaning.specs.Setup.{Setup, State, opening}
use Rattle.meaning.specs.Enumeration.{due_of}
use Rattle.meaning.specs.Firing.{fire, handed, hand_in}
use Rattle.meaning.specs.Calls.{hand_in_answer, hand_in_after}
use Rattle.tally.specs.declared.calls.Call.{Call}
use Rattle.tally.specs.declared.calls.Call.TheVariants as call
use Rattle.tally.specs.Tally.{after_call, answer_to, tally_from, answers_from, tally, answers}
use Rattle.tally.specs.Account.{handed_in, under_id, accepted_one, accepted}
use Rattle.tally.proofs.Justified.{kept_by_step, kept_by_run, handed_is_posted, fired_is_posted}

handed_in_append : (es fs : List Entry) → handed_in (es ++ fs) ≡ handed_in es ++ handed_in fs
handed_in_append [] fs = refl
handed_in_append (HandedIn f ∷ es) fs = ap (λ xs. f ∷ xs) (handed_in_append es fs)
handed_in_append (Fired g ∷ es) fs = handed_in_append es fs

module _ {R : Type 0} (s : Setup R) where
  -- One hand-in, one firing

  handing_adds_it : (t u : State) (k : ℕ) (vs : List ℤ) → hand_in s t k vs ≡ Ok u
      → handed_in u.roll ≡ handed_in t.roll ++ handed s t k vs ∷ []
  handing_adds_it t u k vs e =
      ap (λ (v : State). handed_in v.roll) (handed_is_posted s t u k vs e) ∙ handed_in_append t.roll (HandedIn (handed s t k vs) ∷ [])

  firing_adds_none : (t u : State) (n : ℕ) (is : List ℕ) → fire s t n is ≡ Ok u → handed_in u.roll ≡ handed_in t.roll
  firing_adds_none t u n is e =
      ap (λ (v : State). handed_in v.roll) (fired_is_posted s t u n is e)
      ∙ handed_in_append t.roll (Fired (record { rule = n; ids = is }) ∷ [])
      ∙ append-nil (handed_in t.roll)

  -- Each call

  hand_in_adds : (t : State) (k : ℕ) (vs : List ℤ)
      → handed_in (hand_in_after s t k vs).roll ≡ handed_in t.roll ++ under_id k vs (hand_in_answer s t k vs)
  hand_in_adds t k vs = go (hand_in s t k vs) refl where
    go : (x : Result State Refusal) → hand_in s t k vs ≡ x
        → handed_in (kept_or x t).roll ≡ handed_in t.roll ++ under_id k vs (and_then x (λ u. Ok t.next))
    go (Ok u) e = handing_adds_it t u k vs e
    go (Err r) e = sym (append-nil (handed_in t.roll))

  -- the facts on the roll are these and no others
  abbrev Only : List Fact → State → Type 0
  Only fs u = handed_in u.roll ≡ fs ++ []

  firing_keeps_only : (fs : List Fact) (t u : State) (d : Due R) → t.failed ≡ false → due_of s t ≡ Some d → fire s t d.rule d.ids ≡ Ok u
      → Only fs t → Only fs u
  firing_keeps_only fs t u d live due e p = firing_adds_none t u d.rule d.ids e ∙ p

  pub call_hands_in : (t : State) (c : Call) → handed_in (after_call s t c).roll ≡ handed_in t.roll ++ accepted_one c (answer_to s t c)
  call_hands_in t (call.HandIn k vs) = hand_in_adds t k vs
  call_hands_in t (call.Read id) = sym (append-nil (handed_in t.roll))
  call_hands_in t call.Look = sym (append-nil (handed_in t.roll))
  call_hands_in t call.Step =
      let fs = handed_in t.roll in
      kept_by_step s (Only fs) (firing_keeps_only fs) t (sym (append-nil fs))
  call_hands_in t (call.Run n) =
      let fs = handed_in t.roll in
      kept_by_run s (Only fs) (firing_keeps_only fs) n t (sym (append-nil fs))
  call_hands_in t call.ChooseAndFire =
      let fs = handed_in t.roll in
      kept_by_step s (Only fs) (firing_keeps_only fs) t (sym (append-nil fs))
  call_hands_in t call.ChooseAndLayAside = sym (append-nil (handed_in t.roll))

  -- Any list of calls

  pub calls_hand_in : (cs : List Call) (t : State)
      → handed_in (tally_from s t cs).roll ≡ handed_in t.roll ++ accepted cs (answers_from s t cs)
  calls_hand_in [] t = sym (append-nil (handed_in t.roll))
  calls_hand_in (c ∷ cs) t =
      let u = after_call s t c in
      let more = accepted cs (answers_from s u cs) in
      calls_hand_in cs u
      ∙ ap (λ fs. fs ++ more) (call_hands_in t c)
      ∙ append_assoc (handed_in t.roll) (accepted_one c (answer_to s t c)) more

  pub tally_hands_in : (cs : List Call) → handed_in (tally s cs).roll ≡ accepted cs (answers s cs)
  tally_hands_in cs = calls_hand_in cs opening
