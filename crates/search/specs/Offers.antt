-- What the search is held to. Assumes nothing.
--     sought s t best n rs          the best of `best` and what waits of the rules rs, the first of them rule n
--     offered s t n r best ms       the best of `best` and those of the matches ms of rule n that wait
use Rattle.std.specs.Prelude.{ℕ, List, fold, Option}
use Rattle.std.specs.List.{flat_map}
use Rattle.rules.specs.Rules.{Rule}
use Rattle.meaning.specs.Enumeration.{Match, chosen, waiting, waiting_from}
use Rattle.meaning.specs.Setup.{Setup, State}
use Rattle.meaning.specs.declared.due.Due.{Due}

module _ {R : Type 0} (s : Setup R) (t : State) (n : ℕ) (r : Rule) where
  abbrev pub offered : Option (Due R) → List Match → Option (Due R)
  offered best ms = fold (chosen s t) best (flat_map (waiting s t n r) ms)

abbrev pub sought : {R : Type 0} → Setup R → State → Option (Due R) → ℕ → List Rule → Option (Due R)
sought s t best n rs = fold (chosen s t) best (waiting_from s t n rs)
