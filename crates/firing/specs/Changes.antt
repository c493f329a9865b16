-- What is made of a store. Assumes nothing; st is what stores mean.
--     Changes st s s' P    s' is sound where s is, has as many rows, and P holds of its live facts
--     Becomes st s s' fs   the same, and its live facts are fs
use Rattle.std.specs.Prelude.{◌≡◌, List}
use Rattle.facts.specs.declared.Fact.{Fact}
use Rattle.store.specs.declared.Store.{Ghosts as StoreMeaning}

module _ {S : Type 0} (st : StoreMeaning S) where
  pub record Changes (s s' : S) (P : List Fact → Type 0) : Type 0 where
    pub sound : st.sound s → st.sound s'
    pub rows : st.rows s' ≡ st.rows s
    pub live : st.sound s → P (st.live s')

  abbrev pub Becomes : S → S → List Fact → Type 0
  Becomes s s' fs = Changes s s' (λ live. live ≡ fs)
