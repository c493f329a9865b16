-- Where the search stands in a rule, and what is left of it. Assumes nothing.
--     rest live hs j l        what the level l of the head at place j has still to offer
--     left-over live hs j ls  what the levels ls, the first of the head at place j, have still to
--                             offer: the deepest first
--     first_level             the level of the first head, with no partner chosen yet
--     level_after l j p       the level of the next head, with the partner p for the head at place j
--     Blank j l               the ids of l are those of the heads before place j, and 0 from there on
--     weight k ls             falls with every step of the search
--     Advanced ..             a step of the search: what is left gives the same answer
use Rattle.std.specs.Prelude.{◌≡◌, ℕ, suc, ◌+◌, ◌-◌, ◌*◌, ◌^◌, false, List, [], ◌∷◌, ◌++◌, take, drop, Option, slice_index_or, slice_set}
use Rattle.std.specs.List.{flat_map}
use Rattle.facts.specs.declared.Fact.{Fact}
use Rattle.records.specs.declared.parts.Head.{Head}
use Rattle.meaning.specs.Enumeration.{Match, instances, partners, unbound}
use Rattle.meaning.specs.Instances.{padded}
use Rattle.meaning.specs.Setup.{Setup, State}
use Rattle.meaning.specs.declared.due.Due.{Due}
use Rattle.rules.specs.Rules.{Rule}
use Rattle.matching.specs.declared.partner.Partner.{Partner}
use Rattle.store.specs.Store.{since}
use Rattle.search.specs.declared.walk.Level.{Level}
use Rattle.search.specs.Offers.{offered}

abbrev pub no_head : Head
no_head = record { taken = false; kind = 0; operands = [] }

abbrev pub head_at : List Head → ℕ → Head
head_at hs j = slice_index_or hs j no_head

abbrev pub rest : List Fact → List Head → ℕ → Level → List Match
rest live hs j l =
    flat_map (λ p. instances live (drop (suc j) hs) (take j l.ids ++ p.id ∷ []) p.env)
    (partners (head_at hs j) (take j l.ids) l.env (since l.from live))

abbrev pub left_over : List Fact → List Head → ℕ → List Level → List Match
left_over live hs j [] = []
left_over live hs j (l ∷ ls) = left_over live hs (suc j) ls ++ rest live hs j l

abbrev pub first_level : Level
first_level = record { ids = 0 ∷ 0 ∷ 0 ∷ 0 ∷ []; env = unbound; from = 0 }

abbrev pub level_after : Level → ℕ → Partner → Level
level_after l j p = record { ids = slice_set l.ids j p.id; env = p.env; from = 0 }

pub record Blank (j : ℕ) (l : Level) : Type 0 where
  pub blank : l.ids ≡ padded (take j l.ids)

abbrev pub Blanks : ℕ → List Level → Type 0
Blanks j [] = Unit {0}
Blanks j (l ∷ ls) = Blank j l × Blanks (suc j) ls

-- the ids still to be looked at, and one for the level itself
abbrev pub digit : Level → ℕ
digit l = suc (4294967296 - l.from)

abbrev pub weight : ℕ → List Level → ℕ
weight k [] = 0
weight k (l ∷ ls) = digit l * 4294967298 ^ k + weight (k - 1) ls

-- a step: what is left gives the same answer
pub record Advanced {R : Type 0} (s : Setup R) (t : State) (n : ℕ) (r : Rule) (was is : List Level) (best after : Option (Due R)) : Type 0 where
  pub blanks : Blanks 0 was → Blanks 0 is
  pub value : Blanks 0 was → offered s t n r after (left_over t.facts r.heads 0 is) ≡ offered s t n r best (left_over t.facts r.heads 0 was)
