-- States, part by part.
use Rattle.std.proofs.Common.{◌≡◌, ℕ, Bool, List}
use Rattle.facts.specs.declared.Fact.{Fact}
use Rattle.meaning.specs.declared.roll.Entry.{Entry}
use Rattle.meaning.specs.Setup.{State}

abbrev state : List Fact → List Entry → ℕ → Bool → State
state fs rs n b = record { facts = fs; roll = rs; next = n; failed = b }

pub same_state : {fs gs : List Fact} {rs qs : List Entry} {n m : ℕ} {b c : Bool} → fs ≡ gs → rs ≡ qs → n ≡ m → b ≡ c
    → ◌≡◌ {A = State} (record { facts = fs; roll = rs; next = n; failed = b }) (record { facts = gs; roll = qs; next = m; failed = c })
same_state p q r s = λ i. state (p i) (q i) (r i) (s i)
