-- Writing a body: there is room for each fact in its turn.
use Rattle.std.proofs.Common.{◌≡◌, ℕ, suc, ◌+◌, ◌<◌, true, List, [], ◌∷◌, ◌++◌, length, get_or, drop, sym, ap, ◌∙◌, subst, append_assoc, add-one, arith}
use Rattle.std.proofs.lemmas.List.{drop_more, at_drop_more, length_push}
use Rattle.facts.specs.declared.Fact.{Fact}
use Rattle.store.specs.Store.{Added}
use Rattle.store.specs.Rises.{above_higher, above_push}
use Rattle.meaning.specs.declared.written.Written.{Written}
use Rattle.meaning.specs.Firing.{numbered_from}
use Rattle.firing.specs.Room.{Room, numbered}

pub room_more : (fs : List Fact) (rows n : ℕ) (w : Written) (ws : List Written) → Room fs rows n (w ∷ ws) → Room (fs ++ numbered n w ∷ []) rows (n + 1) ws
room_more fs rows n w ws r =
    let len = length_push fs (numbered n w) in
    record {
      above = above_push fs (numbered n w) (n + 1) (above_higher fs n (n + 1) (omega arith) r.above) (omega arith);
      free = omega (arith, r.free);
      ids = omega (arith, r.ids);
    }

-- The loop over the facts: at the place i there is room for what is left

module _ (fs : List Fact) (rows n : ℕ) (ws : List Written) (i : ℕ) (d : Written) (l : i < length ws) (r : Room fs rows n (drop i ws)) where
  next_room : Room fs rows n (get_or ws i d ∷ drop (i + 1) ws)
  next_room = subst (Room fs rows n) (drop_more ws i d l) r

  pub write_room : (gs : List Fact) (after : ℕ) → Added (numbered n (get_or ws i d)) fs rows true gs → after ≡ n + 1 → Room gs rows after (drop (i + 1) ws)
  write_room gs after a e =
      subst (λ x. Room x rows after (drop (i + 1) ws)) (sym a.live)
      (subst (λ m. Room (fs ++ numbered n (get_or ws i d) ∷ []) rows m (drop (i + 1) ws)) (sym e) (room_more fs rows n (get_or ws i d) (drop (i + 1) ws) next_room))

  pub write_more : (gs : List Fact) (after : ℕ) → Added (numbered n (get_or ws i d)) fs rows true gs → after ≡ n + 1
      → gs ++ numbered_from after (drop (i + 1) ws) ≡ fs ++ numbered_from n (drop i ws)
  write_more gs after a e =
      ap (λ x. x ++ numbered_from after (drop (i + 1) ws)) a.live
      ∙ ap (λ m. (fs ++ numbered n (get_or ws i d) ∷ []) ++ numbered_from m (drop (i + 1) ws)) (e ∙ add-one n)
      ∙ append_assoc fs (numbered n (get_or ws i d) ∷ []) (numbered_from (suc n) (drop (i + 1) ws))
      ∙ sym (at_drop_more (λ xs. fs ++ numbered_from n xs) ws i d l)
