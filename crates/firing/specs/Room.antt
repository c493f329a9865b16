-- Where body facts go. Assumes nothing.
--     numbered n w             the fact w under the id n
--     After n r                r is the id after n, or none where there is none
--     Room live rows next ws   next is above every live id, and there are rows and ids for the facts ws
use Rattle.std.specs.Prelude.{◌≡◌, ℕ, ◌+◌, ◌<◌, ◌≤◌, List, length, Some, None, Option}
use Rattle.facts.specs.declared.Fact.{Fact}
use Rattle.store.specs.Store.{Above}
use Rattle.meaning.specs.declared.written.Written.{Written}

abbrev pub numbered : ℕ → Written → Fact
numbered n w = record { id = n; kind = w.kind; values = w.values }

abbrev pub After : ℕ → Option ℕ → Type 0
After n None = n + 1 < 4294967296 → ⊥
After n (Some m) = m ≡ n + 1

pub record Room (live : List Fact) (rows next : ℕ) (ws : List Written) : Type 0 where
  pub above : Above next live
  pub free : length live + length ws ≤ rows
  pub ids : next + length ws < 4294967296
