-- What the contracts of a store cite. Assumes nothing.
--     find id facts             the fact with that id, or its absence
--     without id facts          the facts but the one with that id
--     next_of kind from facts   the first id of that kind at or above from, or its absence:
--                               the smallest, since ids rise
--     since id facts            the facts with ids at or above id
--     AtLeast from r            what next answers, if anything, is at or above from
--     Above id facts            id is above the id of every fact
--     Beneath id facts          id is below the id of every fact
--     Rising facts              ids rise along the list
--     beneath, rises            the same two as tests
--     Added fact facts rows ok after
--                               what adding to a store of so many rows answers and leaves
--     NextIsSmallest            what next_of gives is the smallest id of its kind at or above from
use Rattle.std.specs.Prelude.{◌≡◌, ℕ, ◌<◌, ◌≤◌, Bool, true, cond, ◌&&◌, List, [], ◌∷◌, ◌++◌, length, Some, None, Option, ◌==◌, nat_le, nat_lt}
use Rattle.facts.specs.declared.Fact.{Fact}

abbrev pub find : ℕ → List Fact → Option Fact
find id [] = None
find id (f ∷ fs) = cond (f.id == id) (Some f) (find id fs)

abbrev pub without : ℕ → List Fact → List Fact
without id [] = []
without id (f ∷ fs) = cond (f.id == id) (without id fs) (f ∷ without id fs)

abbrev pub next_of : ℕ → ℕ → List Fact → Option ℕ
next_of kind from [] = None
next_of kind from (f ∷ fs) =
    cond (nat_le from f.id && f.kind == kind) (Some f.id) (next_of kind from fs)

abbrev pub since : ℕ → List Fact → List Fact
since id [] = []
since id (f ∷ fs) = cond (nat_le id f.id) (f ∷ since id fs) (since id fs)

abbrev pub AtLeast : ℕ → Option ℕ → Type 0
AtLeast from None = Unit {0}
AtLeast from (Some id) = from ≤ id

abbrev pub Above : ℕ → List Fact → Type 0
Above id [] = Unit {0}
Above id (f ∷ fs) = (f.id < id) × Above id fs

abbrev pub Beneath : ℕ → List Fact → Type 0
Beneath id [] = Unit {0}
Beneath id (f ∷ fs) = (id < f.id) × Beneath id fs

abbrev pub Rising : List Fact → Type 0
Rising [] = Unit {0}
Rising (f ∷ fs) = Beneath f.id fs × Rising fs

abbrev pub beneath : ℕ → List Fact → Bool
beneath id [] = true
beneath id (f ∷ fs) = nat_lt id f.id && beneath id fs

abbrev pub rises : List Fact → Bool
rises [] = true
rises (f ∷ fs) = beneath f.id fs && rises fs

-- Under an id above every live one it is refused exactly when no row is free. Under another, which
-- no run gives, the answer is left free; certain is that a refusal leaves the list as it was, and
-- that ids rise after it as before, so that such a fact is not put in.
pub record Added (fact : Fact) (facts : List Fact) (rows : ℕ) (ok : Bool) (after : List Fact) : Type 0 where
  pub value : Above fact.id facts → ok ≡ nat_lt (length facts) rows
  pub live : after ≡ cond ok (facts ++ fact ∷ []) facts

pub record NextIsSmallest : Type 0 where
  pub smallest : (facts : List Fact) (kind from id i : ℕ) (fact : Fact) → Rising facts → next_of kind from facts ≡ Some id
      → find i facts ≡ Some fact → fact.kind ≡ kind → from ≤ i → id ≤ i
  pub none : (facts : List Fact) (kind from i : ℕ) (fact : Fact) → next_of kind from facts ≡ None
      → find i facts ≡ Some fact → fact.kind ≡ kind → from ≤ i → ⊥
