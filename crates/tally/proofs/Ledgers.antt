-- The roll accounts for the live facts, and ids were given in turn: at the opening, after a hand-in, and after a firing of live facts.
use Rattle.std.proofs.Common.{◌≡◌, ℕ, zero, suc, ◌+◌, ◌≤◌, List, [], ◌∷◌, ◌++◌, length, ℤ, fold, Result, sym, refl, ap, ◌∙◌, subst, inl, inr, append_assoc, append-nil, arith}
use Rattle.std.specs.List.{range_with_len}
use Rattle.facts.specs.declared.Fact.{Fact}
use Rattle.host.specs.declared.types.Cause.{Cause}
use Rattle.host.specs.declared.types.Working.{Working}
use Rattle.rules.specs.Rules.{Rule}
use Rattle.store.specs.Store.{Above}
use Rattle.store.specs.Rises.{above_higher, above_push}
use Rattle.meaning.specs.declared.roll.Entry.{Entry}
use Rattle.meaning.specs.declared.roll.Entry.TheVariants.{HandedIn, Fired}
use Rattle.meaning.specs.declared.roll.Firing.{Firing}
use Rattle.meaning.specs.declared.written.Written.{Written}
use Rattle.meaning.specs.Setup.{State, opening}
use Rattle.meaning.specs.Words.{In, All, Different}
use Rattle.meaning.specs.Instances.{ids_of}
use Rattle.meaning.specs.Firing.{taking_off, numbered_from}
use Rattle.meaning.proofs.Writings.{above_written}
use Rattle.tally.specs.Account.{wrote, took, posted, replayed, brought, came_from, came, taken, Ledger}
use Rattle.tally.proofs.CameTaken.{ids_append, left_taking_off, kept_taking_off, above_ids, numbered_ids, numbered_different, Balanced, balanced_after}

-- Ids in turn.

counting_append : (n m a b : ℕ) → b ≡ a + n → range_with_len a n ++ range_with_len b m ≡ range_with_len a (m + n)
counting_append zero m a b e =
    let same : b ≡ a = omega arith in
    let all : m ≡ m + 0 = omega arith in
    (λ i. range_with_len (same i) (all i))
counting_append (suc n) m a b e =
    let more : suc (m + n) ≡ m + suc n = omega arith in
    ap (λ is. a ∷ is) (counting_append n m (a + 1) b (omega arith)) ∙ ap (range_with_len a) more

length_facts_append : (fs gs : List Fact) → length (fs ++ gs) ≡ length gs + length fs
length_facts_append [] gs = omega arith
length_facts_append (f ∷ fs) gs = let l = length_facts_append fs gs in omega arith

length_numbered : (ws : List Written) (n : ℕ) → length (numbered_from n ws) ≡ length ws
length_numbered [] n = refl
length_numbered (w ∷ ws) n = ap suc (length_numbered ws (suc n))

numbered_in_turn : (ws : List Written) (n : ℕ) → ids_of (numbered_from n ws) ≡ range_with_len n (length (numbered_from n ws))
numbered_in_turn [] n = refl
numbered_in_turn (w ∷ ws) n =
    let one : suc n ≡ n + 1 = omega arith in
    ap (λ is. n ∷ is) (numbered_in_turn ws (suc n) ∙ ap (λ m. range_with_len m (length (numbered_from (suc n) ws))) one)

-- facts that come under the next ids go on in turn
in_turn_append : (fs gs : List Fact) (n : ℕ) → ids_of fs ≡ range_with_len 1 (length fs) → n ≡ suc (length fs) → ids_of gs ≡ range_with_len n (length gs)
    → ids_of (fs ++ gs) ≡ range_with_len 1 (length (fs ++ gs))
in_turn_append fs gs n p e q =
    ids_append fs gs
    ∙ (λ i. p i ++ q i)
    ∙ counting_append (length fs) (length gs) 1 n (omega arith)
    ∙ ap (range_with_len 1) (sym (length_facts_append fs gs))

module _ (rules : List Rule) (works : Working ℤ → Result ℤ Cause) where
  -- One more record on the roll.

  replayed_from_more : (es : List Entry) (t : State) (e : Entry)
      → fold (posted rules works) t (es ++ e ∷ []) ≡ posted rules works (fold (posted rules works) t es) e
  replayed_from_more [] t e = refl
  replayed_from_more (d ∷ es) t e = replayed_from_more es (posted rules works t d) e

  pub replayed_more : (es : List Entry) (e : Entry) → replayed rules works (es ++ e ∷ []) ≡ posted rules works (replayed rules works es) e
  replayed_more es e = replayed_from_more es opening e

  came_from_more : (es : List Entry) (t : State) (e : Entry)
      → came_from rules works t (es ++ e ∷ []) ≡ came_from rules works t es ++ brought rules works (fold (posted rules works) t es) e
  came_from_more [] t e = append-nil (brought rules works t e)
  came_from_more (d ∷ es) t e =
      ap (λ fs. brought rules works t d ++ fs) (came_from_more es (posted rules works t d) e)
      ∙ sym (append_assoc (brought rules works t d) (came_from rules works (posted rules works t d) es) (brought rules works (fold (posted rules works) (posted rules works t d) es) e))

  pub came_more : (es : List Entry) (e : Entry) → came rules works (es ++ e ∷ []) ≡ came rules works es ++ brought rules works (replayed rules works es) e
  came_more es e = came_from_more es opening e

  pub taken_hand_in : (es : List Entry) (f : Fact) → taken rules works (es ++ HandedIn f ∷ []) ≡ taken rules works es
  taken_hand_in [] f = refl
  taken_hand_in (HandedIn h ∷ es) f = taken_hand_in es f
  taken_hand_in (Fired h ∷ es) f = ap (λ is. took rules works h ++ is) (taken_hand_in es f)

  pub taken_firing : (es : List Entry) (g : Firing) → taken rules works (es ++ Fired g ∷ []) ≡ taken rules works es ++ took rules works g
  taken_firing [] g = append-nil (took rules works g)
  taken_firing (HandedIn h ∷ es) g = taken_firing es g
  taken_firing (Fired h ∷ es) g =
      ap (λ is. took rules works h ++ is) (taken_firing es g)
      ∙ sym (append_assoc (took rules works h) (taken rules works es) (took rules works g))

  -- The ledger is the balance of what came, its ids in turn, and what was taken.

  pub ledger_balanced : (es : List Entry) (live : List Fact) → Balanced (taken rules works es) (came rules works es) live
      → ids_of (came rules works es) ≡ range_with_len 1 (length (came rules works es)) → Ledger rules works es live
  ledger_balanced es live b turn = record {
    none_strange = λ f h. (left_taking_off (taken rules works es) (came rules works es) f (subst (In f) b.list h)).0;
    none_missing = λ f h n. subst (In f) (sym b.list) (kept_taking_off (taken rules works es) (came rules works es) f h n);
    taken_once = b.once;
    taken_gone = λ f h. (left_taking_off (taken rules works es) (came rules works es) f (subst (In f) b.list h)).1;
    taken_came = b.known;
    own_ids = b.own;
    in_turn = turn;
    list = b.list;
  }

  pub balanced_ledger : (es : List Entry) (live : List Fact) → Ledger rules works es live → Balanced (taken rules works es) (came rules works es) live
  balanced_ledger es live l = record { once = l.taken_once; known = l.taken_came; own = l.own_ids; list = l.list }

  -- The books of a state: its roll leads to it and accounts for its facts, and the next id is new and in turn.

  pub record Books (t : State) : Type 0 where
    pub replays : t ≡ replayed rules works t.roll
    pub ledger : Ledger rules works t.roll t.facts
    pub given : Above t.next (came rules works t.roll)
    pub counted : t.next ≡ suc (length (came rules works t.roll))

  pub opening_books : Books opening
  opening_books = record {
    replays = refl;
    ledger = ledger_balanced [] [] (record { once = tt; known = λ i h. absurd h; own = tt; list = refl }) refl;
    given = tt;
    counted = refl;
  }

  module _ (t : State) (b : Books t) where
    posted_replays : (e : Entry) → posted rules works t e ≡ replayed rules works (t.roll ++ e ∷ [])
    posted_replays e = ap (λ u. posted rules works u e) b.replays ∙ sym (replayed_more t.roll e)

    came_posted : (e : Entry) → came rules works (t.roll ++ e ∷ []) ≡ came rules works t.roll ++ brought rules works t e
    came_posted e =
        came_more t.roll e
        ∙ ap (λ u. came rules works t.roll ++ brought rules works u e) (sym b.replays)

    came_count : (e : Entry) → length (came rules works (t.roll ++ e ∷ [])) ≡ length (brought rules works t e) + length (came rules works t.roll)
    came_count e = ap length (came_posted e) ∙ length_facts_append (came rules works t.roll) (brought rules works t e)

    -- what is brought under the next ids and what is taken of the live facts is accounted for
    posted_ledger : (e : Entry) (js : List ℕ) → taken rules works (t.roll ++ e ∷ []) ≡ taken rules works t.roll ++ js
        → All (λ i. In i (ids_of t.facts)) js → Different js → Different (ids_of (brought rules works t e))
        → ((i : ℕ) → In i (ids_of (brought rules works t e)) → t.next ≤ i)
        → ids_of (brought rules works t e) ≡ range_with_len t.next (length (brought rules works t e))
        → Ledger rules works (t.roll ++ e ∷ []) (taking_off js t.facts ++ brought rules works t e)
    posted_ledger e js takes alive apart own new turn =
        ledger_balanced (t.roll ++ e ∷ []) (taking_off js t.facts ++ brought rules works t e)
        (subst (λ is. Balanced is (came rules works (t.roll ++ e ∷ [])) (taking_off js t.facts ++ brought rules works t e)) (sym takes)
        (subst (λ cs. Balanced (taken rules works t.roll ++ js) cs (taking_off js t.facts ++ brought rules works t e)) (sym (came_posted e))
        (balanced_after (taken rules works t.roll) js (came rules works t.roll) (brought rules works t e) t.facts
        (balanced_ledger t.roll t.facts b.ledger) alive apart own
        (λ i h j. let l = above_ids (came rules works t.roll) t.next i b.given h in let m = new i j in omega arith))))
        (subst (λ fs. ids_of fs ≡ range_with_len 1 (length fs)) (sym (came_posted e))
        (in_turn_append (came rules works t.roll) (brought rules works t e) t.next b.ledger.in_turn b.counted turn))

  pub hand_in_books : (t : State) (f : Fact) → Books t → f.id ≡ t.next → Books (posted rules works t (HandedIn f))
  hand_in_books t f b e = record {
    replays = posted_replays t b (HandedIn f);
    ledger =
        posted_ledger t b (HandedIn f) [] (taken_hand_in t.roll f ∙ sym (append-nil (taken rules works t.roll))) tt tt
        ((λ h. h), tt)
        (λ i h. elim h [ inl q ↦ omega arith | inr x ↦ absurd x ])
        (ap (λ i. i ∷ []) e);
    given =
        subst (Above (suc f.id)) (sym (came_posted t b (HandedIn f)))
        (above_push (came rules works t.roll) f (suc f.id)
        (above_higher (came rules works t.roll) t.next (suc f.id) (omega arith) b.given) (omega arith));
    counted = let l = came_count t b (HandedIn f) in let n = b.counted in omega arith;
  }

  pub firing_books : (t : State) (g : Firing) → Books t → All (λ i. In i (ids_of t.facts)) (took rules works g)
      → Different (took rules works g) → Books (posted rules works t (Fired g))
  firing_books t g b alive apart = record {
    replays = posted_replays t b (Fired g);
    ledger =
        posted_ledger t b (Fired g) (took rules works g) (taken_firing t.roll g) alive apart
        (numbered_different (wrote rules works t g) t.next)
        (numbered_ids (wrote rules works t g) t.next)
        (numbered_in_turn (wrote rules works t g) t.next);
    given =
        subst (Above (t.next + length (wrote rules works t g))) (sym (came_posted t b (Fired g)))
        (above_written (came rules works t.roll) (wrote rules works t g) t.next b.given);
    counted =
        let l = came_count t b (Fired g) in
        let m = length_numbered (wrote rules works t g) t.next in
        let n = b.counted in
        omega arith;
  }
