-- What questions on facts that stand side by side in rising id cite. Assumes nothing.
--     place id facts    how many facts stand before the first id at or above id
--     blank             what a read past the end of a list counts as
--     Spot id facts i   at place i stands the fact with that id: it is what find gives, and its
--                       removal leaves the others, in rising id
--     Absent id facts   no fact has that id
use Rattle.std.specs.Prelude.{◌≡◌, ℕ, ◌<◌, true, List, [], length, Some, None, nat_lt, slice_index_or}
use Rattle.std.specs.List.{prefix_len, remove}
use Rattle.facts.specs.declared.Fact.{Fact}
use Rattle.store.specs.Store.{find, without, rises}

abbrev pub place : ℕ → List Fact → ℕ
place id facts = prefix_len (λ (f : Fact). nat_lt f.id id) facts

abbrev pub blank : Fact
blank = record { id = 0; kind = 0; values = [] }

pub record Spot (id : ℕ) (facts : List Fact) (i : ℕ) : Type 0 where
  pub within : i < length facts
  pub found : find id facts ≡ Some (slice_index_or facts i blank)
  pub rest : without id facts ≡ remove facts i
  pub rising : rises (remove facts i) ≡ true

pub record Absent (id : ℕ) (facts : List Fact) : Type 0 where
  pub found : find id facts ≡ None
  pub rest : without id facts ≡ facts
