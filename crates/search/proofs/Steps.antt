-- The ways a step of the search can go: the deepest level is done with, or its partner opens the next
-- head; and what a partner of the last head does.
use Rattle.std.proofs.Common.{◌≡◌, ℕ, suc, ◌+◌, ◌<◌, List, [], ◌∷◌, ◌++◌, length, take, drop, set, Some, None, Option, sym, ap, ◌∙◌, subst, append_assoc, arith, length-append}
use Rattle.std.proofs.lemmas.List.{take_more_set}
use Rattle.records.specs.declared.parts.Head.{Head}
use Rattle.rules.specs.Rules.{Rule}
use Rattle.store.specs.Store.{since}
use Rattle.meaning.specs.Enumeration.{Match, instances, partners}
use Rattle.meaning.specs.Instances.{padded}
use Rattle.meaning.specs.Setup.{Setup, State}
use Rattle.meaning.specs.declared.due.Due.{Due}
use Rattle.matching.specs.Parts.{considered, Partnered}
use Rattle.matching.specs.declared.partner.Partner.{Partner}
use Rattle.search.specs.declared.walk.Level.{Level}
use Rattle.search.specs.Offers.{offered}
use Rattle.search.specs.Walks.{head_at, rest, left_over, level_after, Blank, Blanks, Advanced}
use Rattle.search.proofs.Leftovers.{offered_append, offered_one, left_push, rest_none, rest_found, rest_last, rest_next, blanks_push, blanks_front, blanks_last, padded_length, padded_set}

module _ {R : Type 0} (s : Setup R) (t : State) (n : ℕ) (r : Rule) (hs : List Head) (heads : hs ≡ r.heads) (at : ℕ) (l : Level) where
  -- what the head at this place has to offer
  here : (o : Option Partner) → Partnered (head_at hs at) (take at l.ids) l.env t.facts l.from o → Partnered (head_at r.heads at) (take at l.ids) l.env t.facts l.from o
  here o = subst (λ xs. Partnered (head_at xs at) (take at l.ids) l.env t.facts l.from o) heads

  abbrev offers : Level → List Match
  offers m = rest t.facts r.heads at m

  -- no partner is left
  pub offers_none : Partnered (head_at hs at) (take at l.ids) l.env t.facts l.from None → offers l ≡ []
  offers_none none = rest_none t.facts r.heads at l (here None none)

  module _ (p : Partner) (m : Level) (looks : m ≡ record { ids = l.ids; env = l.env; from = p.after })
      (found : Partnered (head_at hs at) (take at l.ids) l.env t.facts l.from (Some p))
      (c : Level) (next : c ≡ level_after l at p) (four : at < 4) where
    abbrev chosen_ids : List ℕ
    chosen_ids = take at l.ids ++ p.id ∷ []

    abbrev onward : List Match
    onward = instances t.facts (drop (suc at) r.heads) chosen_ids p.env

    same_ids : m.ids ≡ l.ids
    same_ids = ap (λ (x : Level). x.ids) looks

    -- what the partner opens comes first, then what the level has still to offer
    offers_split : offers l ≡ onward ++ offers m
    offers_split =
        rest_found t.facts r.heads at l m p.id p.env same_ids (ap (λ (x : Level). x.env) looks)
        (here (Some p) found ∙ ap (λ i. record { id = p.id; env = p.env } ∷ partners (head_at r.heads at) (take at l.ids) l.env (since i t.facts)) (sym (ap (λ (x : Level). x.from) looks)))

    ids_are : Blank at l → c.ids ≡ padded chosen_ids
    ids_are b = ap (λ (x : Level). x.ids) next ∙ padded_set at p.id l.ids four b.blank

    env_is : c.env ≡ p.env
    env_is = ap (λ (x : Level). x.env) next

    -- an instance is complete: what is left gives the answer
    pub completes : (best all : Option (Due R)) → at + 1 ≡ length r.heads → Blank at l → offered s t n r best (offers l) ≡ all
        → offered s t n r (considered s t r (record { rule = n; ids = c.ids }) p.env best) (offers m) ≡ all
    completes best all last b before =
        sym (
        ap (offered s t n r best) offers_split
        ∙ offered_append s t n r best onward (offers m)
        ∙ ap (λ ms. offered s t n r (offered s t n r best ms) (offers m)) (rest_last t.facts r.heads at chosen_ids p.env last)
        ∙ ap (λ x. offered s t n r x (offers m))
        (offered_one s t n r best (record { ids = chosen_ids; env = p.env })
        ∙ ap (λ is. considered s t r (record { rule = n; ids = is }) p.env best) (sym (ids_are b))))
        ∙ before

    used_are : Blank at l → take (suc at) c.ids ≡ chosen_ids
    used_are b =
        let o : suc at ≡ at + 1 = omega arith in
        let four_ids : length l.ids ≡ 4 = ap length b.blank ∙ padded_length (take at l.ids) in
        let h : at < length l.ids = omega arith in
        ap (λ is. take (suc at) is) (ap (λ (x : Level). x.ids) next)
        ∙ ap (λ k. take k (set l.ids at p.id)) o
        ∙ take_more_set l.ids at p.id h

    -- the next head is opened
    opens : at + 1 < length r.heads → Blank at l → offers l ≡ rest t.facts r.heads (suc at) c ++ offers m
    opens more b =
        let h : suc at < length r.heads = omega arith in
        offers_split
        ∙ ap (λ ms. ms ++ offers m) (rest_next t.facts r.heads (suc at) chosen_ids p.env c h (used_are b) env_is (ap (λ (x : Level). x.from) next))

    -- whose ids are those chosen so far
    blank_next : Blank at l → Blank (suc at) c
    blank_next b = record { blank = ids_are b ∙ ap padded (sym (used_are b)) }

  module _ (ls : List Level) (long : at ≡ length ls) (best : Option (Due R)) where
    abbrev left : List Level → List Match
    left xs = left_over t.facts r.heads 0 xs

    abbrev place : ℕ
    place = 0 + length ls

    place_is : place ≡ at
    place_is = omega arith

    -- the levels reached, the deepest first
    left_last : (m : Level) → left (ls ++ m ∷ []) ≡ offers m ++ left ls
    left_last m = left_push t.facts r.heads 0 ls m ∙ ap (λ j. rest t.facts r.heads j m ++ left ls) place_is

    last_blank : Blanks 0 (ls ++ l ∷ []) → Blank at l
    last_blank b = subst (λ j. Blank j l) place_is (blanks_last 0 ls l b)

    -- all that the level had to offer is considered
    pub step_done : (after : Option (Due R)) → (Blank at l → after ≡ offered s t n r best (offers l)) → Advanced s t n r (ls ++ l ∷ []) ls best after
    step_done after e = record {
      blanks = λ b. blanks_front 0 ls l b;
      value = λ b.
          ap (λ x. offered s t n r x (left ls)) (e (last_blank b))
          ∙ sym (ap (offered s t n r best) (left_last l) ∙ offered_append s t n r best (offers l) (left ls));
    }

    -- no partner is left
    pub step_back : Partnered (head_at hs at) (take at l.ids) l.env t.facts l.from None → Advanced s t n r (ls ++ l ∷ []) ls best best
    step_back none = step_done best (λ b. sym (ap (offered s t n r best) (offers_none none)))

    module _ (p : Partner) (m : Level) (looks : m ≡ record { ids = l.ids; env = l.env; from = p.after })
        (found : Partnered (head_at hs at) (take at l.ids) l.env t.facts l.from (Some p))
        (c : Level) (next : c ≡ level_after l at p) (four : at < 4) where
      with_last : Blanks 0 (ls ++ l ∷ []) → Blanks 0 (ls ++ m ∷ [])
      with_last b =
          let e = same_ids p m looks found c next four in
          blanks_push 0 ls m (blanks_front 0 ls l b)
          (record { blank = e ∙ (blanks_last 0 ls l b).blank ∙ ap (λ is. padded (take place is)) (sym e) })

      longer : 0 + length (ls ++ m ∷ []) ≡ suc at
      longer = omega (arith, length-append ls (m ∷ []))

      -- the next head is opened
      pub step_more : at + 1 < length r.heads → Advanced s t n r (ls ++ l ∷ []) ((ls ++ m ∷ []) ++ c ∷ []) best best
      step_more more = record {
        blanks = λ b.
            blanks_push 0 (ls ++ m ∷ []) c (with_last b)
            (subst (λ j. Blank j c) (sym longer) (blank_next p m looks found c next four (last_blank b)));
        value = λ b.
            ap (offered s t n r best)
            (left_push t.facts r.heads 0 (ls ++ m ∷ []) c
            ∙ ap (λ j. rest t.facts r.heads j c ++ left (ls ++ m ∷ [])) longer
            ∙ ap (λ ms. rest t.facts r.heads (suc at) c ++ ms) (left_last m)
            ∙ sym (append_assoc (rest t.facts r.heads (suc at) c) (offers m) (left ls))
            ∙ ap (λ ms. ms ++ left ls) (sym (opens p m looks found c next four more (last_blank b)))
            ∙ sym (left_last l));
      }
