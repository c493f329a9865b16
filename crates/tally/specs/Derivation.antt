-- The roll of a run as a derivation of the priority semantics as published. Assumes nothing.
-- A hand-in puts its fact into the goal from outside; everything else is the semantics' own.
--     Applied s fails t x u   the firing with the tuple x leads from t to u: of a rule with fail one
--                             Apply, of another one Apply and then the Introduces of its body
--     Transition s t e u      the record e leads from t to u: a hand-in by one Introduce of what is put
--                             into the goal, a firing as said
--     Derivation s t          every record on the roll of t leads from the state that the records
--                             before it leave to the state that it leaves with them, and where look
--                             says final, or the run has failed, no transition is left
use Rattle.std.specs.Prelude.{◌≡◌, ℕ, Bool, true, false, List, [], ◌∷◌, ◌++◌, Ok}
use Rattle.meaning.specs.declared.answers.Sight.TheVariants as sight
use Rattle.meaning.specs.declared.roll.Entry.{Entry}
use Rattle.meaning.specs.declared.roll.Entry.TheVariants.{HandedIn, Fired}
use Rattle.meaning.specs.Setup.{Setup, State}
use Rattle.meaning.specs.Firing.{rule_at}
use Rattle.meaning.specs.Calls.{look_answer}
use Rattle.meaning.specs.Published.{chr, Introduces, Applies, Stuck, tuple_of, as_published, asking, Derives}
use Rattle.tally.specs.Account.{state_at}

module _ {R : Type 0} (s : Setup R) where
  abbrev pub Applied : Bool → State → List ℕ → State → Type 0
  Applied true t x u = Applies s (as_published s t) x (as_published s u)
  Applied false t x u = Derives s t x u

  abbrev pub Transition : State → Entry → State → Type 0
  Transition t (HandedIn f) u = Introduces (asking (as_published s t) (chr f)) (chr f) (as_published s u)
  Transition t (Fired g) u = Applied (rule_at s.rules g.rule).fails t (tuple_of s g) u

  pub record Derivation (t : State) : Type 0 where
    pub entries : (before rest : List Entry) (e : Entry) → t.roll ≡ before ++ e ∷ rest
        → Transition (state_at s before) e (state_at s (before ++ e ∷ []))
    pub stuck : look_answer s t ≡ Ok sight.Final → Stuck s (as_published s t)
    pub failed : t.failed ≡ true → Stuck s (as_published s t)
