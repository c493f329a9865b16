-- The heads of an instance with their ids: one more of them, and the end.
use Rattle.std.proofs.Common.{◌≡◌, ℕ, suc, Bool, true, false, cond, List, [], ◌∷◌, length, filter, Some, None, Option, Bor, sym, refl, ap, ◌∙◌, ⊎_elim}
use Rattle.std.proofs.iter.Yields.{fronts}
use Rattle.std.proofs.lemmas.Iterator.{zips}
use Rattle.std.proofs.lemmas.Slice.Zip.{Zip-more, either_empty_from_Zip}
use Rattle.std.specs.Iterator.Adapters.{zip_first, zip_second}
use Rattle.std.specs.List.{zip}
use Rattle.std.specs.Slice.Iter.{iter_rest}
use Rattle.std.specs.declared.iter.Zip.{Zip}
use Rattle.std.specs.declared.slice.Iter.{Iter}
use Rattle.facts.specs.declared.Fact.{Fact}
use Rattle.records.specs.declared.parts.Head.{Head}
use Rattle.store.specs.Store.{find, without}
use Rattle.meaning.specs.Enumeration.{Env}
use Rattle.meaning.specs.Firing.{bound_to, bindings, taken_ids, taking_off}

abbrev Pairs : Type 0
Pairs = Zip (Iter Head) (Iter ℕ)

abbrev heads_left : Pairs → List Head
heads_left s = iter_rest (zip_first s)

abbrev ids_left : Pairs → List ℕ
ids_left s = iter_rest (zip_second s)

-- a function of the heads and ids that are left, at one turn of a loop over both
module _ {Y : Type 0} (F : List Head → List ℕ → Y) (s t : Pairs) (r : Option (Bor Head × Bor ℕ)) (step : zips fronts fronts s r t) where
  left_more : (p : Bor Head × Bor ℕ) → r ≡ Some p → F (heads_left s) (ids_left s) ≡ F (p.0.now ∷ heads_left t) (p.1.now ∷ ids_left t)
  left_more p e =
      let m = Zip-more s t r p e step in
      ap (λ hs. F hs (ids_left s)) m.0 ∙ ap (F (p.0.now ∷ heads_left t)) m.1

  left_none : (y : Y) → ((is : List ℕ) → F [] is ≡ y) → ((hs : List Head) → F hs [] ≡ y) → r ≡ None → F (heads_left s) (ids_left s) ≡ y
  left_none y no_heads no_ids e =
      ⊎_elim (λ a. ap (λ hs. F hs (ids_left s)) a ∙ no_heads (ids_left s)) (λ b. ap (F (heads_left s)) b ∙ no_ids (heads_left s)) (either_empty_from_Zip s t r e step)

module _ (s t : Pairs) (r : Option (Bor Head × Bor ℕ)) (step : zips fronts fronts s r t) where
  -- bindings
  pub bound_more : (live : List Fact) (e b : Env) (p : Bor Head × Bor ℕ) → r ≡ Some p → b ≡ bound_to p.0.now (find p.1.now live) e
      → bindings live (heads_left s) (ids_left s) e ≡ bindings live (heads_left t) (ids_left t) b
  bound_more live e b p i q =
      left_more (λ hs is. bindings live hs is e) s t r step p i ∙ ap (bindings live (heads_left t) (ids_left t)) (sym q)

  pub bound_all : (live : List Fact) (e : Env) → r ≡ None → bindings live (heads_left s) (ids_left s) e ≡ e
  bound_all live e i = left_none (λ hs is. bindings live hs is e) s t r step e (λ is. refl) short i where
    short : (hs : List Head) → bindings live hs [] e ≡ e
    short [] = refl
    short (h ∷ hs) = refl

  -- heads that are taken
  pub off_more : (fs gs : List Fact) (p : Bor Head × Bor ℕ) → r ≡ Some p → gs ≡ cond p.0.now.taken (without p.1.now fs) fs
      → taking_off (taken_ids (heads_left s) (ids_left s)) fs ≡ taking_off (taken_ids (heads_left t) (ids_left t)) gs
  off_more fs gs p i q =
      left_more (λ hs is. taking_off (taken_ids hs is) fs) s t r step p i ∙ go p.0.now.taken p.1.now (taken_ids (heads_left t) (ids_left t)) q
    where
      go : (b : Bool) (j : ℕ) (js : List ℕ) → gs ≡ cond b (without j fs) fs → taking_off (cond b (j ∷ js) js) fs ≡ taking_off js gs
      go true j js q = ap (taking_off js) (sym q)
      go false j js q = ap (taking_off js) (sym q)

  pub off_all : (fs : List Fact) → r ≡ None → taking_off (taken_ids (heads_left s) (ids_left s)) fs ≡ fs
  off_all fs i = left_none (λ hs is. taking_off (taken_ids hs is) fs) s t r step fs (λ is. refl) short i where
    short : (hs : List Head) → taking_off (taken_ids hs []) fs ≡ fs
    short [] = refl
    short (h ∷ hs) = refl

-- counted
pub taken_filtered : (hs : List Head) (is : List ℕ) → length (filter (λ (p : Head × ℕ). p.0.taken) (zip hs is)) ≡ length (taken_ids hs is)
taken_filtered [] is = refl
taken_filtered (h ∷ hs) [] = refl
taken_filtered (h ∷ hs) (i ∷ is) = go h.taken (taken_filtered hs is) where
  go : (b : Bool) → length (filter (λ (p : Head × ℕ). p.0.taken) (zip hs is)) ≡ length (taken_ids hs is)
      → length (cond b ((h, i) ∷ filter (λ (p : Head × ℕ). p.0.taken) (zip hs is)) (filter (λ (p : Head × ℕ). p.0.taken) (zip hs is))) ≡ length (cond b (i ∷ taken_ids hs is) (taken_ids hs is))
  go true e = ap suc e
  go false e = e
