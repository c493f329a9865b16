-- Bindings and σ: what a match of operands with values binds, and that it is there when σ gives
-- the operands those values.
use Rattle.std.proofs.Common.{◌≡◌, ℕ, ◌<◌, Bool, true, false, cond, List, [], ◌∷◌, map, length, get_or, set, ℤ, pos, negsuc, Some, None, Option, unwrap_or, sym, refl, ap, ◌∙◌, subst, inl, inr, arith, length-set}
use Rattle.std.proofs.lemmas.List.{get_or-set_same, get_or-set_other}
use Rattle.std.proofs.lemmas.Bool.{eqb-true, eq-eqb, ltb-true, and_parts, or_cases, cond-true, cases_eq, false≢true}
use Rattle.facts.specs.Positions.{all}
use Rattle.host.specs.Numbers.{eqZ}
use Rattle.records.specs.Bytes.{and_then}
use Rattle.records.specs.declared.parts.Operand.{Operand}
use Rattle.records.specs.declared.parts.Operand.TheVariants.{Constant, Variable}
use Rattle.rules.specs.Rules.{any, names, in_range}
use Rattle.meaning.specs.Instances.{number}
use Rattle.meaning.specs.Enumeration.{Env, seen, agreed_one, agreed, worth}

-- Numbers.

pub eqZ_true : (a b : ℤ) → eqZ a b ≡ true → a ≡ b
eqZ_true (pos a) (pos b) t = ap pos (eqb-true a b t)
eqZ_true (pos a) (negsuc b) t = absurd (false≢true t)
eqZ_true (negsuc a) (pos b) t = absurd (false≢true t)
eqZ_true (negsuc a) (negsuc b) t = ap negsuc (eqb-true a b t)

eqZ_self : (a : ℤ) → eqZ a a ≡ true
eqZ_self (pos a) = eq-eqb a a refl
eqZ_self (negsuc a) = eq-eqb a a refl

pub eqZ_from : (a b : ℤ) → a ≡ b → eqZ a b ≡ true
eqZ_from a b e = subst (λ x. eqZ a x ≡ true) e (eqZ_self a)

pub none_some : {A : Type 0} (x : A) → ◌≡◌ {A = Option A} None (Some x) → ⊥
none_some x e = cc

some_same : {A : Type 0} (x y : A) → ◌≡◌ {A = Option A} (Some x) (Some y) → x ≡ y
some_same x y e = cc

-- what an environment has at a variable
abbrev pub at : Env → ℕ → Option ℤ
at e v = get_or e v None

-- σ read off an environment
abbrev pub reading : Env → ℕ → ℤ
reading e v = worth e (Variable v)

pub number_reading : (e : Env) (o : Operand) → number (reading e) o ≡ worth e o
number_reading e (Constant n) = refl
number_reading e (Variable v) = refl

-- every binding of e is one of e'
abbrev pub Grows : Env → Env → Type 0
Grows e e' = (v : ℕ) (n : ℤ) → at e v ≡ Some n → at e' v ≡ Some n

-- every binding of e is σ's
abbrev pub Fits : (ℕ → ℤ) → Env → Type 0
Fits σ e = (v : ℕ) (n : ℤ) → at e v ≡ Some n → σ v ≡ n

grows_set : (e : Env) (v : ℕ) (n : ℤ) → at e v ≡ None → Grows e (set e v (Some n))
grows_set e v n free w m h =
    get_or-set_other e v w (Some n) None (λ (q : w ≡ v). none_some m (sym free ∙ ap (at e) (sym q) ∙ h)) ∙ h

fits_set : (σ : ℕ → ℤ) (e : Env) (v : ℕ) (n : ℤ) → v < length e → σ v ≡ n → Fits σ e → Fits σ (set e v (Some n))
fits_set σ e v n l σv fits w m h = elim (cases_eq w v) [
  | inl q ↦ ap σ q ∙ σv ∙ some_same n m (sym (get_or-set_same e v (Some n) None l) ∙ ap (at (set e v (Some n))) (sym q) ∙ h)
  | inr q ↦ fits w m (sym (get_or-set_other e v w (Some n) None q) ∙ h)
]

-- What is matched is so.

-- e' has the bindings of e and those that make the operands the values
pub record Matched (os : List Operand) (vs : List ℤ) (e e' : Env) : Type 0 where
  pub long : length e' ≡ length e
  pub grows : Grows e e'
  pub values : (more : Env) → Grows e' more → map (number (reading more)) os ≡ vs

pub record Matched_one (o : Operand) (n : ℤ) (e e' : Env) : Type 0 where
  pub long : length e' ≡ length e
  pub grows : Grows e e'
  pub value : (more : Env) → Grows e' more → number (reading more) o ≡ n

seen_matched : (b : Option ℤ) (v : ℕ) (n : ℤ) (e e' : Env) → v < length e → at e v ≡ b → seen b v n e ≡ Some e' → Matched_one (Variable v) n e e'
seen_matched None v n e e' l free t =
    subst (Matched_one (Variable v) n e) (some_same (set e v (Some n)) e' t)
    (record {
      long = length-set e v (Some n);
      grows = grows_set e v n free;
      value = λ more g. ap (λ o. unwrap_or o (pos 0)) (g v n (get_or-set_same e v (Some n) None l));
    })
seen_matched (Some m) v n e e' l there t = go (eqZ m n) refl t where
  go : (b : Bool) → eqZ m n ≡ b → cond b (Some e) None ≡ Some e' → Matched_one (Variable v) n e e'
  go true q t =
      subst (Matched_one (Variable v) n e) (some_same e e' t)
      (record {
        long = refl;
        grows = λ w k h. h;
        value = λ more g. ap (λ o. unwrap_or o (pos 0)) (g v m there) ∙ eqZ_true m n q;
      })
  go false q t = absurd (none_some e' t)

one_matched : (o : Operand) (n : ℤ) (e e' : Env) → length e ≡ 12 → in_range o ≡ true → agreed_one o n e ≡ Some e' → Matched_one o n e e'
one_matched (Constant m) n e e' l r t = go (eqZ m n) refl t where
  go : (b : Bool) → eqZ m n ≡ b → cond b (Some e) None ≡ Some e' → Matched_one (Constant m) n e e'
  go true q t =
      subst (Matched_one (Constant m) n e) (some_same e e' t)
      (record { long = refl; grows = λ w k h. h; value = λ more g. eqZ_true m n q })
  go false q t = absurd (none_some e' t)
one_matched (Variable v) n e e' l r t =
    let k = ltb-true v 12 r in
    seen_matched (at e v) v n e e' (omega arith) refl t

pub matched : (os : List Operand) (vs : List ℤ) (e e' : Env) → length e ≡ 12 → all in_range os ≡ true → agreed os vs e ≡ Some e' → Matched os vs e e'
matched [] [] e e' l r t =
    subst (Matched [] [] e) (some_same e e' t) (record { long = refl; grows = λ v n h. h; values = λ more g. refl })
matched [] (n ∷ vs) e e' l r t = absurd (none_some e' t)
matched (o ∷ os) [] e e' l r t = absurd (none_some e' t)
matched (o ∷ os) (n ∷ vs) e e' l r t = go (agreed_one o n e) refl t (λ mid. matched os vs mid e') where
  ranges : (in_range o ≡ true) × (all in_range os ≡ true)
  ranges = and_parts (in_range o) (all in_range os) r

  go : (x : Option Env) → agreed_one o n e ≡ x → and_then x (agreed os vs) ≡ Some e'
      → ((mid : Env) → length mid ≡ 12 → all in_range os ≡ true → agreed os vs mid ≡ Some e' → Matched os vs mid e')
      → Matched (o ∷ os) (n ∷ vs) e e'
  go None q t rest = absurd (none_some e' t)
  go (Some mid) q t rest =
      let one = one_matched o n e mid l ranges.0 q in
      let others = rest mid (one.long ∙ l) ranges.1 t in
      record {
        long = others.long ∙ one.long;
        grows = λ v k h. others.grows v k (one.grows v k h);
        values = λ more g. let a = one.value more (λ v k h. g v k (others.grows v k h)) in let b = others.values more g in (cc);
      }

-- What σ says is matched.

-- e' has the bindings of e and those of the operands, all of them σ's
pub record Bound (σ : ℕ → ℤ) (os : List Operand) (vs : List ℤ) (e : Env) : Type 0 where
  pub env : Env
  pub value : agreed os vs e ≡ Some env
  pub long : length env ≡ length e
  pub grows : Grows e env
  pub fits : Fits σ env
  pub binds : (v : ℕ) → any (names v) os ≡ true → at env v ≡ Some (σ v)

pub record Bound_one (σ : ℕ → ℤ) (o : Operand) (n : ℤ) (e : Env) : Type 0 where
  pub env : Env
  pub value : agreed_one o n e ≡ Some env
  pub long : length env ≡ length e
  pub grows : Grows e env
  pub fits : Fits σ env
  pub binds : (v : ℕ) → names v o ≡ true → at env v ≡ Some (σ v)

seen_bound : (σ : ℕ → ℤ) (b : Option ℤ) (v : ℕ) (n : ℤ) (e : Env) → v < length e → Fits σ e → σ v ≡ n → at e v ≡ b → Bound_one σ (Variable v) n e
seen_bound σ None v n e l fits σv free = record {
  env = set e v (Some n);
  value = ap (λ b. seen b v n e) free;
  long = length-set e v (Some n);
  grows = grows_set e v n free;
  fits = fits_set σ e v n l σv fits;
  binds = λ w t. let q = eqb-true w v t in
      ap (at (set e v (Some n))) q ∙ get_or-set_same e v (Some n) None l ∙ ap Some (sym σv ∙ ap σ (sym q));
}
seen_bound σ (Some m) v n e l fits σv there = record {
  env = e;
  value = ap (λ b. seen b v n e) there ∙ cond-true (eqZ m n) (Some e) None (eqZ_from m n (sym (fits v m there) ∙ σv));
  long = refl;
  grows = λ w k h. h;
  fits = fits;
  binds = λ w t. let q = eqb-true w v t in ap (at e) q ∙ there ∙ ap Some (sym (fits v m there) ∙ ap σ (sym q));
}

one_bound : (σ : ℕ → ℤ) (o : Operand) (n : ℤ) (e : Env) → length e ≡ 12 → in_range o ≡ true → Fits σ e → number σ o ≡ n → Bound_one σ o n e
one_bound σ (Constant m) n e l r fits h = record {
  env = e;
  value = cond-true (eqZ m n) (Some e) None (eqZ_from m n h);
  long = refl;
  grows = λ w k q. q;
  fits = fits;
  binds = λ w t. absurd (false≢true t);
}
one_bound σ (Variable v) n e l r fits h =
    let k = ltb-true v 12 r in
    seen_bound σ (at e v) v n e (omega arith) fits h refl

cons_item : {A : Type 0} (x y : A) (xs ys : List A) → ◌≡◌ {A = List A} (x ∷ xs) (y ∷ ys) → x ≡ y
cons_item x y xs ys e = cc

cons_rest : {A : Type 0} (x y : A) (xs ys : List A) → ◌≡◌ {A = List A} (x ∷ xs) (y ∷ ys) → xs ≡ ys
cons_rest x y xs ys e = cc

nil_cons : {A : Type 0} (x : A) (xs : List A) → ◌≡◌ {A = List A} [] (x ∷ xs) → ⊥
nil_cons x xs e = cc

pub bound_by : (σ : ℕ → ℤ) (os : List Operand) (vs : List ℤ) (e : Env) → length e ≡ 12 → all in_range os ≡ true → Fits σ e → map (number σ) os ≡ vs → Bound σ os vs e
bound_by σ [] [] e l r fits h =
    record { env = e; value = refl; long = refl; grows = λ v n q. q; fits = fits; binds = λ v t. absurd (false≢true t) }
bound_by σ [] (n ∷ vs) e l r fits h = absurd (nil_cons n vs h)
bound_by σ (o ∷ os) [] e l r fits h = absurd (nil_cons (number σ o) (map (number σ) os) (sym h))
bound_by σ (o ∷ os) (n ∷ vs) e l r fits h =
    let ranges = and_parts (in_range o) (all in_range os) r in
    let one = one_bound σ o n e l ranges.0 fits (cons_item (number σ o) n (map (number σ) os) vs h) in
    let others = bound_by σ os vs one.env (one.long ∙ l) ranges.1 one.fits (cons_rest (number σ o) n (map (number σ) os) vs h) in
    record {
      env = others.env;
      value = ap (λ x. and_then x (agreed os vs)) one.value ∙ others.value;
      long = others.long ∙ one.long;
      grows = λ v k q. others.grows v k (one.grows v k q);
      fits = others.fits;
      binds = λ v t. elim (or_cases (names v o) (any (names v) os) t) [
        | inl q ↦ others.grows v (σ v) (one.binds v q)
        | inr q ↦ others.binds v q
      ];
    }
