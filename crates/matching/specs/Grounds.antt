-- What a search goes by, as a setup and a state. Assumes nothing.
--     asking says rank better rs    a setup with these answers and rules; the search asks nothing else
--     seeing live roll              a state with these facts and this roll
-- st, ho and or are what a store, a host and an order mean, and g what a search goes by.
--     asking_of ho or g rs          the setup with its answers and ranks, and these rules
--     seeing_of st g                the state with its live facts and its roll
use Rattle.std.specs.Prelude.{ℕ, Bool, false, List, [], ℤ, Err}
use Rattle.facts.specs.declared.Fact.{Fact}
use Rattle.host.specs.declared.host.Host.{Ghosts as HostMeaning}
use Rattle.host.specs.declared.types.Cause.TheVariants.{Operand}
use Rattle.host.specs.declared.types.Comparator.{Comparator}
use Rattle.order.specs.declared.order.Order.{Ghosts as OrderMeaning}
use Rattle.rules.specs.Rules.{Rule}
use Rattle.store.specs.declared.Store.{Ghosts as StoreMeaning}
use Rattle.meaning.specs.Setup.{Setup, State}
use Rattle.meaning.specs.declared.roll.Entry.{Entry}
use Rattle.matching.specs.declared.grounds.Grounds.{Grounds}

abbrev pub asking : {R : Type 0} → (Comparator → ℤ → ℤ → Bool) → (ℕ → ℤ → R) → (R → R → Bool) → List Rule → Setup R
asking says rank better rs = record {
  kinds = [];
  rules = rs;
  rows = 0;
  value = λ n. false;
  says = says;
  works = λ w. Err Operand;
  rank = rank;
  better = better;
}

abbrev pub seeing : List Fact → List Entry → State
seeing live roll = record { facts = live; roll = roll; next = 0; failed = false }

module _ {S H O K : Type 0} (ho : HostMeaning H) (or : OrderMeaning O K) where
  abbrev pub asking_of : Grounds S H O K → List Rule → Setup K
  asking_of g rs = asking (ho.says g.host.now) (or.rank g.order.now) (or.better g.order.now) rs

module _ {S H O K : Type 0} (st : StoreMeaning S) where
  abbrev pub seeing_of : Grounds S H O K → State
  seeing_of g = seeing (st.live g.store.now) g.roll.now
