-- Body facts at the end of a list: ids keep rising, under a bound that has moved on.
use Rattle.std.proofs.Common.{◌≡◌, ℕ, suc, ◌+◌, ◌≤◌, List, [], ◌∷◌, ◌++◌, length, sym, refl, ap, ◌∙◌, subst, append_assoc, append-nil, arith, length-append}
use Rattle.facts.specs.declared.Fact.{Fact}
use Rattle.store.specs.Store.{Above, Rising}
use Rattle.store.specs.Rises.{above_higher, above_push, rising_push}
use Rattle.meaning.specs.declared.written.Written.{Written}
use Rattle.meaning.specs.Firing.{numbered_from}

pub length_numbered : (ws : List Written) (n : ℕ) → length (numbered_from n ws) ≡ length ws
length_numbered [] n = refl
length_numbered (w ∷ ws) n = ap suc (length_numbered ws (suc n))

pub above_append : (fs gs : List Fact) (n : ℕ) → Above n fs → Above n gs → Above n (fs ++ gs)
above_append [] gs n a b = b
above_append (f ∷ fs) gs n a b = (a.0, above_append fs gs n a.1 b)

pub above_numbered : (ws : List Written) (n high : ℕ) → n + length ws ≤ high → Above high (numbered_from n ws)
above_numbered [] n high l = tt
above_numbered (w ∷ ws) n high l = (omega arith, above_numbered ws (suc n) high (omega arith))

-- every id, of the facts that were there and of those written, is below the next
pub above_written : (fs : List Fact) (ws : List Written) (n : ℕ) → Above n fs → Above (n + length ws) (fs ++ numbered_from n ws)
above_written fs ws n a =
    above_append fs (numbered_from n ws) (n + length ws) (above_higher fs n (n + length ws) (omega arith) a) (above_numbered ws n (n + length ws) (omega arith))

abbrev numbered : ℕ → Written → Fact
numbered n w = record { id = n; kind = w.kind; values = w.values }

pub rising_written : (ws : List Written) (fs : List Fact) (n : ℕ) → Rising fs → Above n fs → Rising (fs ++ numbered_from n ws)
rising_written [] fs n r a = subst Rising (sym (append-nil fs)) r
rising_written (w ∷ ws) fs n r a =
    subst Rising (append_assoc fs (numbered n w ∷ []) (numbered_from (suc n) ws))
    (rising_written ws (fs ++ numbered n w ∷ []) (suc n) (rising_push fs (numbered n w) r a) (above_push fs (numbered n w) (suc n) (above_higher fs n (suc n) (omega arith) a) (omega arith)))
