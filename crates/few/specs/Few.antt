-- What the contracts of a short list cite. Assumes nothing.
--     listed f      the items of f, first to last
use Rattle.std.specs.Prelude.{ℕ, List, take}
use Rattle.few.specs.declared.Few.{Few}

abbrev pub listed : {T : Type 0} {N : ℕ} → Few T N → List T
listed f = take f.len f.items
