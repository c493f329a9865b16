-- The whole promise holds after any list of calls, and each call carries it on.
use Rattle.std.proofs.Common.{◌≡◌, suc, Bool, true, false, cond, List, [], ◌∷◌, ◌++◌, length, Some, None, Ok, Err, Option, Result, sym, refl, ap, ◌∙◌, subst}
use Rattle.std.proofs.lemmas.Bool.{false≢true}
use Rattle.meaning.specs.declared.answers.Sight.{Sight}
use Rattle.meaning.specs.declared.answers.Sight.TheVariants as sight
use Rattle.meaning.specs.declared.due.Due.{Due}
use Rattle.meaning.specs.declared.refusal.Refusal.{Refusal}
use Rattle.meaning.specs.declared.refusal.Refusal.TheVariants as refusal
use Rattle.meaning.specs.declared.roll.Firing.{Firing}
use Rattle.meaning.specs.Setup.{Setup, State, opening}
use Rattle.meaning.specs.Instances.{Waits, DueIs}
use Rattle.meaning.specs.Enumeration.{due_of}
use Rattle.meaning.specs.Calls.{sighted, look_answer}
use Rattle.meaning.proofs.PublishedHeads.{append_same}
use Rattle.tally.specs.declared.answers.Answer.{Answer}
use Rattle.tally.specs.declared.answers.Answer.TheVariants as answer
use Rattle.tally.specs.declared.calls.Call.{Call}
use Rattle.tally.specs.declared.calls.Call.TheVariants as call
use Rattle.tally.specs.Tally.{after_call, answer_to, tally_from, answers_from, tally, answers}
use Rattle.tally.specs.Account.{Says, state_at, FiredDue, NonePassedOver, Saw, FinalMeansFinal, Kept, Performs}
use Rattle.tally.proofs.Orderly.{Fit, Orderly, orderly_opening}
use Rattle.tally.proofs.HandedIn.{tally_hands_in}
use Rattle.tally.proofs.Justified.{justly_tally}
use Rattle.tally.proofs.Steps.{due_is_due}
use Rattle.tally.proofs.Telling.{says_as_said, told_always}

module _ {R : Type 0} (s : Setup R) where
  -- Look says final exactly when nothing waits.

  pub final_unfailed_none : (t : State) (b : Bool) (o : Option (Due R)) → cond b (Err refusal.Failed) (Ok (sighted s t o)) ≡ Ok sight.Final
      → (b ≡ false) × (o ≡ None)
  final_unfailed_none t true o e = cc
  final_unfailed_none t false None e = (refl, refl)
  final_unfailed_none t false (Some d) e = cc

  none_final : (t : State) (b : Bool) (o : Option (Due R)) → DueIs s t o → b ≡ false → ((d : Due R) → Waits s t d → ⊥)
      → cond b (Err refusal.Failed) (Ok (sighted s t o)) ≡ Ok sight.Final
  none_final t true o due f none = absurd (false≢true (sym f))
  none_final t false None due f none = refl
  none_final t false (Some d) due f none = absurd (none d due.waits)

  -- What was due was not worse than anything that waited.
  pub due_none_passed_over : (t : State) (g : Firing) → FiredDue s t g → NonePassedOver s t g
  due_none_passed_over t g f = record {
    rank = f.due.rank;
    waits = subst (λ (h : Firing). Waits s t (record { rule = h.rule; ids = h.ids; rank = f.due.rank })) (sym f.named) f.is_due.waits;
    none_better = f.is_due.best;
  }

  -- One call more.

  tally_more : (cs : List Call) (t : State) (c : Call) → tally_from s t (cs ++ c ∷ []) ≡ after_call s (tally_from s t cs) c
  tally_more [] t c = refl
  tally_more (d ∷ cs) t c = tally_more cs (after_call s t d) c

  answers_on : (cs : List Call) (t : State) (c : Call) (rest : List Call) → answers_from s t (cs ++ c ∷ rest)
      ≡ answers_from s t cs ++ answer_to s (tally_from s t cs) c ∷ answers_from s (after_call s (tally_from s t cs) c) rest
  answers_on [] t c rest = refl
  answers_on (d ∷ cs) t c rest = ap (λ xs. answer_to s t d ∷ xs) (answers_on cs (after_call s t d) c rest)

  as_many_answers : (cs : List Call) (t : State) → length (answers_from s t cs) ≡ length cs
  as_many_answers [] t = refl
  as_many_answers (c ∷ cs) t = ap suc (as_many_answers cs (after_call s t c))

  -- A look that was made was answered as a look in the state of the calls before it.

  same_look : (q r : Result Sight Refusal) (xs ys : List Answer) → answer.Look q ∷ xs ≡ answer.Look r ∷ ys → q ≡ r
  same_look q r xs ys e = cc

  look_answered : (before rest : List Call) (front back : List Answer) (r : Result Sight Refusal)
      → answers s (before ++ call.Look ∷ rest) ≡ front ++ answer.Look r ∷ back → length front ≡ length before → look_answer s (tally s before) ≡ r
  look_answered before rest front back r e l =
      let seen = look_answer s (tally s before) in
      let after = answers_from s (tally s before) rest in
      let same = append_same (answers s before) front (answer.Look seen ∷ after) (answer.Look r ∷ back)
      (as_many_answers before opening ∙ sym l) (sym (answers_on before opening call.Look rest) ∙ e) in
      same_look seen r after back same.1

module _ {R : Type 0} {s : Setup R} (fit : Fit s) where
  pub seen : (t : State) → Orderly t → Saw s t (look_answer s t)
  seen t o =
      let due = due_is_due s fit t o in
      record {
        final = λ e. subst (DueIs s t) (final_unfailed_none s t t.failed (due_of s t) e).1 due;
        nothing_else = none_final s t t.failed (due_of s t) due;
      }

  final_always : (cs : List Call) → FinalMeansFinal s cs (answers s cs)
  final_always cs = record {
    made = λ before rest front back r p q l.
        subst (Saw s (tally s before)) (look_answered s before rest front back r (ap (answers s) (sym p) ∙ q) l)
        (seen (tally s before) (justly_tally s fit before).orderly);
    makeable = λ before rest p. seen (tally s before) (justly_tally s fit before).orderly;
  }

  pub kept_always : (cs : List Call) → Kept s cs (tally s cs) (answers s cs)
  kept_always cs =
      let j = justly_tally s fit cs in
      record {
        state = refl;
        answered = refl;
        told = told_always fit cs opening orderly_opening;
        ledger = j.books.ledger;
        hand_ins = tally_hands_in s cs;
        hand_ins_accepted = j.hand_ins;
        firings_due = j.firings;
        none_passed_over = λ before rest g q. due_none_passed_over s (state_at s before) g (j.firings before rest g q);
        final_means_final = final_always cs;
        roll_decides = j.books.replays;
      }

  pub kept_opening : Kept s [] opening []
  kept_opening = kept_always []

  -- a call made after the calls cs
  kept_more : (cs : List Call) (t : State) (xs : List Answer) (c : Call) → t ≡ tally s cs → xs ≡ answers s cs
      → Kept s (cs ++ c ∷ []) (after_call s t c) (xs ++ answer_to s t c ∷ [])
  kept_more cs t xs c p q =
      subst (λ v. Kept s (cs ++ c ∷ []) (after_call s v c) (xs ++ answer_to s v c ∷ [])) (sym p)
      (subst (λ ys. Kept s (cs ++ c ∷ []) (after_call s (tally s cs) c) (ys ++ answer_to s (tally s cs) c ∷ [])) (sym q)
      (subst (λ v. Kept s (cs ++ c ∷ []) v (answers s cs ++ answer_to s (tally s cs) c ∷ [])) (tally_more s cs opening c)
      (subst (λ ys. Kept s (cs ++ c ∷ []) (tally s (cs ++ c ∷ [])) ys) (answers_on s cs opening c [])
      (kept_always (cs ++ c ∷ [])))))

  pub performs : {t u : State} {c : Call} {a : Answer} → Orderly t → u ≡ after_call s t c → a ≡ answer_to s t c → Performs s t c u a
  performs {t} {u} {c} {a} ok p q = record {
    after = p;
    value = q;
    says = subst (λ v. Says s t c v a) (sym p) (subst (λ b. Says s t c (after_call s t c) b) (sym q) (says_as_said fit ok c));
    carries = λ cs xs k.
        subst (λ v. Kept s (cs ++ c ∷ []) v (xs ++ a ∷ [])) (sym p)
        (subst (λ b. Kept s (cs ++ c ∷ []) (after_call s t c) (xs ++ b ∷ [])) (sym q)
        (kept_more cs t xs c k.state k.answered));
  }
