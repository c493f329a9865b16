-- The roll that any list of calls leaves is a derivation of the published semantics.
use Rattle.std.proofs.Common.{◌≡◌, ℕ, Bool, true, false, List, [], ◌∷◌, ◌++◌, ℤ, Some, Ok, sym, refl, ap, ◌∙◌, subst, inl, inr}
use Rattle.meaning.specs.declared.due.Due.{Due}
use Rattle.meaning.specs.declared.roll.Entry.{Entry}
use Rattle.meaning.specs.declared.roll.Entry.TheVariants.{HandedIn, Fired}
use Rattle.meaning.specs.Setup.{Setup, State, opening}
use Rattle.meaning.specs.Enumeration.{due_of}
use Rattle.meaning.specs.Firing.{fire, handed, hand_in}
use Rattle.meaning.specs.Published.{chr, Shaped, Turn, firing_of, due_tuple, failing}
use Rattle.meaning.proofs.Published.{follows}
use Rattle.tally.specs.declared.calls.Call.{Call}
use Rattle.tally.specs.Account.{state_at}
use Rattle.tally.specs.Derivation.{Applied, Transition, Derivation}
use Rattle.tally.specs.Tally.{tally}
use Rattle.tally.proofs.Orderly.{Fit, proper}
use Rattle.tally.proofs.Justified.{nothing_before, last_or_within, handed_is_posted, fired_is_posted, kept_by_calls, Justly, justly_opening, justly_hand_in, justly_due_fire}
use Rattle.tally.proofs.Keeping.{final_unfailed_none}

module _ {R : Type 0} (s : Setup R) where
  -- every record of a roll leads on from the state that those before it leave
  abbrev Entries : List Entry → Type 0
  Entries es = (before rest : List Entry) (e : Entry) → es ≡ before ++ e ∷ rest → Transition s (state_at s before) e (state_at s (before ++ e ∷ []))

  entries_more : (es : List Entry) (e : Entry) → Entries es → Transition s (state_at s es) e (state_at s (es ++ e ∷ [])) → Entries (es ++ e ∷ [])
  entries_more es e each last = λ before rest x q. elim (last_or_within es before rest e x q) [
    | inl p ↦ subst (λ xs. Transition s (state_at s xs) x (state_at s (xs ++ x ∷ []))) (sym p.0)
        (subst (λ y. Transition s (state_at s es) y (state_at s (es ++ y ∷ []))) (sym p.1) last)
    | inr p ↦ each before p.0 x p.1
  ]

  record Derived (t : State) : Type 0 where
    just : Justly s t
    shaped : Shaped s t
    entries : Entries t.roll

  -- one more record, which led from t to u
  derived_more : (t u : State) (e : Entry) → Derived t → Justly s u → Shaped s u → u.roll ≡ t.roll ++ e ∷ [] → Transition s t e u → Derived u
  derived_more t u e d just shaped q moved = record {
    just = just;
    shaped = shaped;
    entries = subst Entries (sym q)
        (entries_more t.roll e d.entries
        (subst (λ v. Transition s v e (state_at s (t.roll ++ e ∷ []))) d.just.books.replays
        (subst (λ v. Transition s t e v) (just.books.replays ∙ ap (state_at s) q) moved)));
  }

  derived_opening : Derived opening
  derived_opening = record {
    just = justly_opening s;
    shaped = (follows R).opens_shaped s;
    entries = λ before rest e q. absurd (nothing_before before e rest q);
  }

  derived_hand_in : (t u : State) (k : ℕ) (vs : List ℤ) → hand_in s t k vs ≡ Ok u → Derived t → Derived u
  derived_hand_in t u k vs e d =
      let f = handed s t k vs in
      derived_more t u (HandedIn f) d (justly_hand_in s t u k vs e d.just) ((follows R).hands_in_shaped s t u (chr f) d.shaped e)
      (ap (λ (v : State). v.roll) (handed_is_posted s t u k vs e))
      ((follows R).hands_in s t u (chr f) e)

module _ {R : Type 0} {s : Setup R} (fit : Fit s) where
  derived_fire : (t u : State) (d : Due R) → t.failed ≡ false → due_of s t ≡ Some d → fire s t d.rule d.ids ≡ Ok u → Derived s t → Derived s u
  derived_fire t u d live due e j =
      let turn : Turn s t d = record { proper = proper fit j.just.orderly; shaped = j.shaped; unfailed = live; due = due } in
      derived_more s t u (Fired (firing_of s d)) j (justly_due_fire s fit t u d live due e j.just) ((follows R).fires_shaped s t u d turn e)
      (ap (λ (v : State). v.roll) (fired_is_posted s t u d.rule d.ids e))
      (applied turn (failing s d) refl)
    where
      applied : Turn s t d → (b : Bool) → failing s d ≡ b → Applied s b t (due_tuple s d) u
      applied turn true q = (follows R).fails s t u d turn e q
      applied turn false q = (follows R).fires s t u d turn e q

  pub derivation_always : (cs : List Call) → Derivation s (tally s cs)
  derivation_always cs =
      let t = tally s cs in
      let d = kept_by_calls s (Derived s) (derived_hand_in s) derived_fire cs (derived_opening s) in
      record {
        entries = d.entries;
        stuck = λ e.
            let p = final_unfailed_none s t t.failed (due_of s t) e in
            (follows R).final s t (proper fit d.just.orderly) p.0 p.1;
        failed = (follows R).ended s t;
      }
