-- What is left after a step gives the same answer.
use Rattle.std.proofs.Common.{◌≡◌, ℕ, zero, suc, ◌+◌, ◌<◌, ◌≤◌, Bool, true, false, cond, not, ◌&&◌, List, [], ◌∷◌, ◌++◌, length, take, drop, set, Some, None, fold, Option, sym, refl, ap, ◌∙◌, subst, append_assoc, append-nil, add-zero, arith}
use Rattle.std.specs.List.{flat_map}
use Rattle.std.proofs.lemmas.List.{drop_more, drop_all}
use Rattle.facts.specs.Positions.{all}
use Rattle.facts.specs.declared.Fact.{Fact}
use Rattle.records.specs.declared.parts.Head.{Head}
use Rattle.rules.specs.Rules.{Rule}
use Rattle.store.specs.Store.{since}
use Rattle.store.proofs.Walks.{since_zero}
use Rattle.meaning.specs.Enumeration.{Env, Match, Partner, instances, partners, worth, waiting, chosen, improves, fired, applies, instance_of}
use Rattle.meaning.specs.Instances.{padded}
use Rattle.meaning.specs.Setup.{Setup, State}
use Rattle.meaning.specs.declared.due.Due.{Due}
use Rattle.matching.specs.Parts.{considered, improving}
use Rattle.search.specs.declared.walk.Level.{Level}
use Rattle.search.specs.Offers.{offered}
use Rattle.search.specs.Walks.{no_head, head_at, rest, left_over, Blank, Blanks}
use Rattle.search.proofs.Lists.{joined_append, folded_append}

-- Offers, one after the other

module _ {R : Type 0} (s : Setup R) (t : State) (n : ℕ) (r : Rule) where
  pub offered_append : (best : Option (Due R)) (ms ns : List Match) → offered s t n r best (ms ++ ns) ≡ offered s t n r (offered s t n r best ms) ns
  offered_append best ms ns =
      ap (fold (chosen s t) best) (joined_append (waiting s t n r) ms ns)
      ∙ folded_append (chosen s t) best (flat_map (waiting s t n r) ms) (flat_map (waiting s t n r) ns)

  improves_is : (k : R) (best : Option (Due R)) → improves s t k best ≡ improving s.better k best
  improves_is k None = refl
  improves_is k (Some d) = refl

  by_tests : (waits better : Bool) (d : Due R) (best : Option (Due R)) → improves s t d.rank best ≡ better
      → fold (chosen s t) best (cond waits (d ∷ []) [] ++ []) ≡ cond (better && waits) (Some d) best
  by_tests true true d best e = ap (λ b. cond b (Some d) best) e
  by_tests true false d best e = ap (λ b. cond b (Some d) best) e
  by_tests false true d best e = refl
  by_tests false false d best e = refl

  -- one match is considered
  pub offered_one : (best : Option (Due R)) (m : Match) → offered s t n r best (m ∷ []) ≡ considered s t r (record { rule = n; ids = padded m.ids }) m.env best
  offered_one best m =
      by_tests (all (applies s t m.env) r.guards && not (fired t.roll n (padded m.ids)))
      (improving s.better (s.rank r.band (worth m.env r.rank)) best)
      (instance_of s t n r m) best (improves_is (s.rank r.band (worth m.env r.rank)) best)

-- What the levels have still to offer

module _ (live : List Fact) (hs : List Head) where
  pub left_push : (j : ℕ) (ls : List Level) (l : Level) → left_over live hs j (ls ++ l ∷ []) ≡ rest live hs (j + length ls) l ++ left_over live hs j ls
  left_push j [] l = ap (λ i. rest live hs i l) (sym (add-zero j)) ∙ sym (append-nil (rest live hs (j + 0) l))
  left_push j (x ∷ ls) l =
      ap (λ ms. ms ++ rest live hs j x) (left_push (suc j) ls l)
      ∙ append_assoc (rest live hs (suc j + length ls) l) (left_over live hs (suc j) ls) (rest live hs j x)
      ∙ ap (λ i. rest live hs i l ++ (left_over live hs (suc j) ls ++ rest live hs j x)) (let e : suc j + length ls ≡ j + suc (length ls) = omega arith in e)

  abbrev deeper : ℕ → List ℕ → Partner → List Match
  deeper j used p = instances live (drop (suc j) hs) (used ++ p.id ∷ []) p.env

  module _ (j : ℕ) (l : Level) where
    -- no partner is left
    pub rest_none : partners (head_at hs j) (take j l.ids) l.env (since l.from live) ≡ [] → rest live hs j l ≡ []
    rest_none e = ap (flat_map (deeper j (take j l.ids))) e

    -- a partner, and the level looking on
    pub rest_found : (m : Level) (id : ℕ) (e : Env) → m.ids ≡ l.ids → m.env ≡ l.env
        → partners (head_at hs j) (take j l.ids) l.env (since l.from live) ≡ record { id = id; env = e } ∷ partners (head_at hs j) (take j l.ids) l.env (since m.from live)
        → rest live hs j l ≡ instances live (drop (suc j) hs) (take j l.ids ++ id ∷ []) e ++ rest live hs j m
    rest_found m id e same_ids same_env found =
        ap (flat_map (deeper j (take j l.ids))) found
        ∙ ap (λ is. instances live (drop (suc j) hs) (take j l.ids ++ id ∷ []) e ++ flat_map (deeper j (take j is)) (partners (head_at hs j) (take j is) l.env (since m.from live))) (sym same_ids)
        ∙ ap (λ v. instances live (drop (suc j) hs) (take j l.ids ++ id ∷ []) e ++ flat_map (deeper j (take j m.ids)) (partners (head_at hs j) (take j m.ids) v (since m.from live))) (sym same_env)

  -- after the last head nothing more is wanted
  pub rest_last : (j : ℕ) (used : List ℕ) (e : Env) → j + 1 ≡ length hs → instances live (drop (suc j) hs) used e ≡ record { ids = used; env = e } ∷ []
  rest_last j used e h =
      let k : length hs ≤ suc j = omega arith in
      ap (λ xs. instances live xs used e) (drop_all (suc j) hs k)

  -- the next head begins with all the live facts
  pub rest_next : (j : ℕ) (used : List ℕ) (e : Env) (c : Level) → j < length hs → take j c.ids ≡ used → c.env ≡ e → c.from ≡ 0
      → instances live (drop j hs) used e ≡ rest live hs j c
  rest_next j used e c h ids env start =
      let o : j + 1 ≡ suc j = omega arith in
      ap (λ xs. instances live xs used e) (drop_more hs j no_head h)
      ∙ ap (λ k. flat_map (λ (p : Partner). instances live (drop k hs) (used ++ p.id ∷ []) p.env) (partners (head_at hs j) used e live)) o
      ∙ ap (λ u. flat_map (deeper j u) (partners (head_at hs j) u e live)) (sym ids)
      ∙ ap (λ v. flat_map (deeper j (take j c.ids)) (partners (head_at hs j) (take j c.ids) v live)) (sym env)
      ∙ ap (λ fs. flat_map (deeper j (take j c.ids)) (partners (head_at hs j) (take j c.ids) c.env fs)) (sym (since_zero live))
      ∙ ap (λ i. flat_map (deeper j (take j c.ids)) (partners (head_at hs j) (take j c.ids) c.env (since i live))) (sym start)

-- The ids of a level

pub blanks_push : (j : ℕ) (ls : List Level) (l : Level) → Blanks j ls → Blank (j + length ls) l → Blanks j (ls ++ l ∷ [])
blanks_push j [] l b h = (let e : j + 0 ≡ j = omega arith in subst (λ i. Blank i l) e h, tt)
blanks_push j (x ∷ ls) l b h =
    (b.0, blanks_push (suc j) ls l b.1 (let e : j + suc (length ls) ≡ suc j + length ls = omega arith in subst (λ i. Blank i l) e h))

pub blanks_front : (j : ℕ) (ls : List Level) (l : Level) → Blanks j (ls ++ l ∷ []) → Blanks j ls
blanks_front j [] l b = tt
blanks_front j (x ∷ ls) l b = (b.0, blanks_front (suc j) ls l b.1)

pub blanks_last : (j : ℕ) (ls : List Level) (l : Level) → Blanks j (ls ++ l ∷ []) → Blank (j + length ls) l
blanks_last j [] l b = let e : j ≡ j + 0 = omega arith in subst (λ i. Blank i l) e b.0
blanks_last j (x ∷ ls) l b = let e : suc j + length ls ≡ j + suc (length ls) = omega arith in subst (λ i. Blank i l) e (blanks_last (suc j) ls l b.1)

pub padded_length : (is : List ℕ) → length (padded is) ≡ 4
padded_length [] = refl
padded_length (a ∷ []) = refl
padded_length (a ∷ b ∷ []) = refl
padded_length (a ∷ b ∷ c ∷ []) = refl
padded_length (a ∷ b ∷ c ∷ d ∷ is) = refl

-- an id put at the place after those chosen
pub padded_set : (j i : ℕ) (is : List ℕ) → j < 4 → is ≡ padded (take j is) → set is j i ≡ padded (take j is ++ i ∷ [])
padded_set j i is h b = ap (λ xs. set xs j i) b ∙ go j is h (ap length b ∙ padded_length (take j is)) where
  go : (j : ℕ) (is : List ℕ) → j < 4 → length is ≡ 4 → set (padded (take j is)) j i ≡ padded (take j is ++ i ∷ [])
  go zero is h l = refl
  go (suc zero) [] h l = absurd (omega (arith, l))
  go (suc zero) (a ∷ is) h l = refl
  go (suc (suc zero)) [] h l = absurd (omega (arith, l))
  go (suc (suc zero)) (a ∷ []) h l = absurd (omega (arith, l))
  go (suc (suc zero)) (a ∷ b ∷ is) h l = refl
  go (suc (suc (suc zero))) [] h l = absurd (omega (arith, l))
  go (suc (suc (suc zero))) (a ∷ []) h l = absurd (omega (arith, l))
  go (suc (suc (suc zero))) (a ∷ b ∷ []) h l = absurd (omega (arith, l))
  go (suc (suc (suc zero))) (a ∷ b ∷ c ∷ is) h l = refl
  go (suc (suc (suc (suc j)))) is h l = absurd (omega (arith, h))
