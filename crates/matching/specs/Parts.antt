-- What the contracts of matching cite beside the definitions. Assumes nothing.
--     yes says e g               the answer to the guard g under the bindings e
--     matched h used e id live   the bindings with which the live fact of that id matches the head h
--     Ready st s                 the store s is sound, and there is an id after every live one
--     Later from r               the id to go on from is above the one asked from
--     Partnered .. from r        r is the first partner from an id on and where the others begin, or
--                                there is none
--     improving better r best    the rank r is better than that of the best so far, if there is one
--     considered s t r f e best  the better of the best so far and the firing f of the rule r, under the
--                                bindings e, if it waits
use Rattle.std.specs.Prelude.{◌≡◌, ℕ, ◌<◌, Bool, true, cond, not, ◌&&◌, List, [], ◌∷◌, ℤ, Some, None, Option}
use Rattle.facts.specs.Positions.{all}
use Rattle.facts.specs.declared.Fact.{Fact}
use Rattle.host.specs.declared.types.Comparator.{Comparator}
use Rattle.records.specs.declared.parts.Guard.{Guard}
use Rattle.records.specs.declared.parts.Head.{Head}
use Rattle.rules.specs.Rules.{Rule}
use Rattle.store.specs.declared.Store.{Ghosts as StoreMeaning}
use Rattle.store.specs.Store.{find, since, Above}
use Rattle.meaning.specs.Enumeration.{Env, worth, extended, partners, fired}
use Rattle.meaning.specs.Setup.{Setup, State}
use Rattle.meaning.specs.declared.due.Due.{Due}
use Rattle.meaning.specs.declared.roll.Firing.{Firing}
use Rattle.matching.specs.declared.partner.Partner.{Partner}

abbrev pub yes : (Comparator → ℤ → ℤ → Bool) → Env → Guard → Bool
yes says e g = says g.comparator (worth e g.left) (worth e g.right)

-- Partners

abbrev pub matched_by : Head → List ℕ → Env → Option Fact → Option Env
matched_by h used e None = None
matched_by h used e (Some f) = extended h used e f

abbrev pub matched : Head → List ℕ → Env → ℕ → List Fact → Option Env
matched h used e id live = matched_by h used e (find id live)

pub record Ready {S : Type 0} (st : StoreMeaning S) (s : S) : Type 0 where
  pub kept : st.sound s
  pub spare : Above 4294967295 (st.live s)

abbrev pub Later : ℕ → Option Partner → Type 0
Later from None = Unit {0}
Later from (Some p) = (from < p.after) × (p.after < 4294967296)

abbrev pub Partnered : Head → List ℕ → Env → List Fact → ℕ → Option Partner → Type 0
Partnered h used e live from None = partners h used e (since from live) ≡ []
Partnered h used e live from (Some p) =
    partners h used e (since from live) ≡ record { id = p.id; env = p.env } ∷ partners h used e (since p.after live)

-- The best

abbrev pub improving : {R : Type 0} → (R → R → Bool) → R → Option (Due R) → Bool
improving better r None = true
improving better r (Some d) = better r d.rank

module _ {R : Type 0} (s : Setup R) (t : State) where
  abbrev pub considered : Rule → Firing → Env → Option (Due R) → Option (Due R)
  considered r f e best =
      cond (improving s.better (s.rank r.band (worth e r.rank)) best && (all (yes s.says e) r.guards && not (fired t.roll f.rule f.ids)))
      (Some (record { rule = f.rule; ids = f.ids; rank = s.rank r.band (worth e r.rank) })) best
