-- The walk over the partners of a head: what next gives comes first, and the rest is left.
use Rattle.std.proofs.Common.{◌≡◌, ℕ, ◌+◌, ◌<◌, false, cond, not, ◌&&◌, eqb, List, [], ◌∷◌, ◌++◌, Some, None, Option, sym, ap, ◌∙◌, arith}
use Rattle.facts.specs.declared.Fact.{Fact}
use Rattle.records.specs.declared.parts.Head.{Head}
use Rattle.store.specs.Store.{next_of, since, Above, Rising}
use Rattle.store.proofs.Walks.{walk_more, walk_none, next_met, next_under}
use Rattle.meaning.specs.Enumeration.{Env, Partner, agreed, among, extended, partner_of, partners}
use Rattle.matching.specs.Parts.{matched, matched_by}

module _ (h : Head) (used : List ℕ) (e : Env) where
  abbrev part : Fact → List Partner
  part f = partner_of f.id (extended h used e f)

  -- a fact of another kind is no partner
  others : (f : Fact) → eqb f.kind h.kind ≡ false → part f ≡ []
  others f k = ap (λ b. partner_of f.id (cond (b && not (among f.id used)) (agreed h.operands f.values e) None)) k

  pub partners_none : (fs : List Fact) (from : ℕ) → next_of h.kind from fs ≡ None → partners h used e (since from fs) ≡ []
  partners_none fs from n = walk_none part h.kind others fs from n

  pub partners_more : (fs : List Fact) (from id : ℕ) (r : Option Env) → Rising fs → next_of h.kind from fs ≡ Some id
      → r ≡ matched h used e id fs
      → partners h used e (since from fs) ≡ partner_of id r ++ partners h used e (since (id + 1) fs)
  partners_more fs from id r up n m =
      let met = next_met fs h.kind from id up n in
      walk_more part h.kind others fs from id met.fact up n met.found
      ∙ ap (λ i. partner_of i (extended h used e met.fact) ++ partners h used e (since (id + 1) fs)) met.named
      ∙ ap (λ x. partner_of id x ++ partners h used e (since (id + 1) fs)) (sym (m ∙ ap (matched_by h used e) met.found))

  -- Steps of the walk from an id on, which has come to another

  module _ (fs : List Fact) (from at : ℕ) (left : partners h used e (since at fs) ≡ partners h used e (since from fs)) where
    pub walk_ends : None ≡ next_of h.kind at fs → partners h used e (since from fs) ≡ []
    walk_ends n = sym left ∙ partners_none fs at (sym n)

    pub walk_finds : (id after : ℕ) (b : Env) → Rising fs → Some id ≡ next_of h.kind at fs → Some b ≡ matched h used e id fs → after ≡ id + 1
        → partners h used e (since from fs) ≡ record { id = id; env = b } ∷ partners h used e (since after fs)
    walk_finds id after b up n m a =
        sym left ∙ partners_more fs at id (Some b) up (sym n) m ∙ ap (λ i. partner_of id (Some b) ++ partners h used e (since i fs)) (sym a)

    pub walk_passes : (id after : ℕ) → Rising fs → Some id ≡ next_of h.kind at fs → None ≡ matched h used e id fs → after ≡ id + 1
        → partners h used e (since after fs) ≡ partners h used e (since from fs)
    walk_passes id after up n m a =
        ap (λ i. partners h used e (since i fs)) a ∙ sym (partners_more fs at id None up (sym n) m) ∙ left

  -- there is an id after every live one
  pub next_spare : (fs : List Fact) (at id : ℕ) → Above 4294967295 fs → Some id ≡ next_of h.kind at fs → (id + 1 < 4294967296 → ⊥) → ⊥
  next_spare fs at id a n no-after = let l = next_under fs h.kind at id 4294967295 a (sym n) in no-after (omega arith)
