-- The weight of the levels falls with every step.
use Rattle.std.proofs.Common.{◌≡◌, ℕ, suc, ◌+◌, ◌-◌, ◌*◌, ◌^◌, ◌<◌, ◌≤◌, List, [], ◌∷◌, ◌++◌, length, Some, sym, ap, ◌∙◌, add_assoc, mul-le-mul_right, zero-lt-suc, add-mul, pow-suc, arith, length-append}
use native.Mathlib.Nat.{one-le-pow}
use Rattle.matching.specs.Parts.{Later}
use Rattle.matching.specs.declared.partner.Partner.{Partner}
use Rattle.search.specs.declared.walk.Level.{Level}
use Rattle.search.specs.Walks.{digit, level_after, weight}

abbrev base : ℕ
base = 4294967298

pub weight_push : (k : ℕ) (ls : List Level) (l : Level) → weight k (ls ++ l ∷ []) ≡ weight k ls + digit l * base ^ (k - length ls)
weight_push k [] l = let e : k - 0 ≡ k = omega arith in ap (λ x. digit l * base ^ x + 0) (sym e) ∙ omega arith
weight_push k (x ∷ ls) l =
    let e : k - 1 - length ls ≡ k - suc (length ls) = omega arith in
    ap (λ w. digit x * base ^ k + w) (weight_push (k - 1) ls l)
    ∙ ap (λ j. digit x * base ^ k + (weight (k - 1) ls + digit l * base ^ j)) e
    ∙ sym (add_assoc (digit x * base ^ k) (weight (k - 1) ls) (digit l * base ^ (k - suc (length ls))))

-- a power of the base is at least 1
power : (k : ℕ) → 1 ≤ base ^ k
power k = one-le-pow k base (zero-lt-suc 4294967297)

-- more of it weighs more
times : (a b p : ℕ) → 1 ≤ p → a < b → a * p + p ≤ b * p
times a b p h l = let m = mul-le-mul_right {m = a + 1} {n = b} p (omega arith) in omega (arith, add-mul a 1 p, m)

module _ (ls : List Level) (l : Level) where
  abbrev place : ℕ
  place = base ^ (3 - length ls)

  -- a level less
  pub lighter_pop : weight 3 ls < weight 3 (ls ++ l ∷ [])
  lighter_pop =
      let one = power (3 - length ls) in
      let t = times 0 (digit l) place one (zero-lt-suc _) in
      omega (arith, weight_push 3 ls l, t)

  module _ (p : Partner) (m : Level) (looks : m ≡ record { ids = l.ids; env = l.env; from = p.after }) (later : Later l.from (Some p)) where
    less : digit m < digit l
    less = omega (arith, later.0, later.1, ap (λ (x : Level). x.from) looks)

    -- the same level, looking on
    pub lighter_on : weight 3 (ls ++ m ∷ []) < weight 3 (ls ++ l ∷ [])
    lighter_on =
        let one = power (3 - length ls) in
        let t = times (digit m) (digit l) place one less in
        omega (arith, weight_push 3 ls l, weight_push 3 ls m, t)

    -- and a level more
    pub lighter_more : (c : Level) (at : ℕ) → c ≡ level_after l at p → length ls + 1 < 4 → weight 3 ((ls ++ m ∷ []) ++ c ∷ []) < weight 3 (ls ++ l ∷ [])
    lighter_more c at next h =
        let n : length (ls ++ m ∷ []) ≡ length ls + 1 = length-append ls (m ∷ []) ∙ omega arith in
        let k : 3 - length ls ≡ suc (3 - length (ls ++ m ∷ [])) = omega arith in
        let q = base ^ (3 - length (ls ++ m ∷ [])) in
        let e : base ^ (3 - length ls) ≡ base ^ (3 - length (ls ++ m ∷ [])) * base = ap (λ x. base ^ x) k ∙ pow-suc base (3 - length (ls ++ m ∷ [])) in
        let one = power (3 - length (ls ++ m ∷ [])) in
        let t = times (digit m) (digit l) place (power (3 - length ls)) less in
        let start : c.from ≡ 0 = ap (λ (x : Level). x.from) next in
        let d : digit c ≡ 4294967297 = omega arith in
        let u : digit c * q ≡ 4294967297 * q = ap (λ x. x * q) d in
        let v : q * base ≡ 4294967297 * q + q = omega arith in
        omega (arith, weight_push 3 ls l, weight_push 3 ls m, weight_push 3 (ls ++ m ∷ []) c, t, u, v, e, one)
