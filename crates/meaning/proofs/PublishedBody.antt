-- The bindings of an instance are σ's numbers, so that its body is the body under σ.
use Rattle.std.proofs.Common.{◌≡◌, ℕ, zero, suc, ◌<◌, Bool, true, eqb, List, [], ◌∷◌, ◌++◌, length, get_or, take, replicate, ℤ, pos, Some, None, Ok, Err, Option, Result, unwrap_or, sym, refl, ap, ◌∙◌, subst, inl, inr, arith}
use Rattle.std.proofs.lemmas.Bool.{eq-eqb, ne_eqb, and_parts, and_from, or_cases, cond-true, cond-false, false≢true}
use Rattle.facts.specs.Positions.{all}
use Rattle.facts.specs.declared.Fact.{Fact}
use Rattle.host.specs.declared.types.Cause.{Cause}
use Rattle.host.specs.declared.types.Working.{Working}
use Rattle.host.specs.declared.types.Working.TheVariants.{Copy, Sum, Difference}
use Rattle.records.specs.declared.parts.Head.{Head}
use Rattle.records.specs.declared.parts.Operand.{Operand}
use Rattle.records.specs.declared.parts.Operand.TheVariants.{Constant, Variable}
use Rattle.rules.specs.declared.BodyFact.{BodyFact}
use Rattle.rules.specs.Results.{and_then}
use Rattle.rules.specs.Rules.{binds, head_binds, bound, working_bound, fact_bound, head_in_range}
use Rattle.store.specs.Store.{find, Beneath, Rising}
use Rattle.meaning.specs.declared.written.Written.{Written}
use Rattle.meaning.specs.Words.{In, All, Both}
use Rattle.meaning.specs.Instances.{number, Agrees, ids_of}
use Rattle.meaning.specs.Enumeration.{Env, unbound, worth}
use Rattle.meaning.specs.Firing.{bound_to, bindings, put, placed, filled, worked_out, written, body_of}
use Rattle.meaning.specs.Published.{working_under, Writes}
use Rattle.meaning.proofs.Bindings.{none_some, at, Grows, Fits, Bound, bound_by}

-- Live facts by their ids.

beneath_in : (fs : List Fact) (id : ℕ) (f : Fact) → Beneath id fs → In f fs → id < f.id
beneath_in [] id f b i = absurd i
beneath_in (g ∷ fs) id f b (inl e) = let l = b.0 in let q = ap (λ (x : Fact). x.id) e in omega arith
beneath_in (g ∷ fs) id f b (inr i) = beneath_in fs id f b.1 i

pub find_live : (fs : List Fact) (f : Fact) → Rising fs → In f fs → find f.id fs ≡ Some f
find_live [] f r i = absurd i
find_live (g ∷ fs) f r (inl e) =
    cond-true (eqb g.id f.id) (Some g) (find f.id fs) (eq-eqb g.id f.id (ap (λ (x : Fact). x.id) (sym e))) ∙ ap Some (sym e)
find_live (g ∷ fs) f r (inr i) =
    let l = beneath_in fs g.id f r.0 i in
    cond-false (eqb g.id f.id) (Some g) (find f.id fs) (ne_eqb g.id f.id (λ q. omega arith)) ∙ find_live fs f r.1 i

-- Bindings.

-- env has the bindings of e, and gives every variable of the heads σ's number
pub record Binding (σ : ℕ → ℤ) (hs : List Head) (e env : Env) : Type 0 where
  pub grows : Grows e env
  pub binding : (v : ℕ) → binds hs v ≡ true → at env v ≡ Some (σ v)

binding_next : (σ : ℕ → ℤ) (h : Head) (hs : List Head) (f : Fact) (e env : Env) (now : Bound σ h.operands f.values e)
    → Binding σ hs now.env env → Binding σ (h ∷ hs) e env
binding_next σ h hs f e env now rest = record {
  grows = λ v n q. rest.grows v n (now.grows v n q);
  binding = λ v t. elim (or_cases (head_binds v h) (binds hs v) t) [
    | inl q ↦ rest.grows v (σ v) (now.binds v q)
    | inr q ↦ rest.binding v q
  ];
}

nothing_at : (n v : ℕ) → ◌≡◌ {A = Option ℤ} (get_or (replicate n None) v None) None
nothing_at zero v = refl
nothing_at (suc n) zero = refl
nothing_at (suc n) (suc v) = nothing_at n v

pub fits_unbound : (σ : ℕ → ℤ) → Fits σ unbound
fits_unbound σ v n h = absurd (none_some n (sym (nothing_at 12 v) ∙ h))

pub bindings_bind : (live : List Fact) (σ : ℕ → ℤ) (hs : List Head) (fs : List Fact) (zs : List ℕ) (e : Env) → Rising live
    → length e ≡ 12 → all head_in_range hs ≡ true → Fits σ e → All (λ f. In f live) fs → Both (Agrees σ) hs fs
    → Binding σ hs e (bindings live hs (ids_of fs ++ zs) e)
bindings_bind live σ [] [] zs e rising l r fits alive agree = record { grows = λ v n h. h; binding = λ v t. absurd (false≢true t) }
bindings_bind live σ [] (f ∷ fs) zs e rising l r fits alive agree = absurd agree
bindings_bind live σ (h ∷ hs) [] zs e rising l r fits alive agree = absurd agree
bindings_bind live σ (h ∷ hs) (f ∷ fs) zs e rising l r fits alive agree =
    let ranges = and_parts (head_in_range h) (all head_in_range hs) r in
    let now = bound_by σ h.operands f.values e l ranges.0 fits agree.0.values in
    let same = ap (λ x. bound_to h x e) (find_live live f rising alive.0) ∙ ap (λ x. unwrap_or x e) now.value in
    subst (λ env. Binding σ (h ∷ hs) e (bindings live hs (ids_of fs ++ zs) env)) (sym same)
    (binding_next σ h hs f e (bindings live hs (ids_of fs ++ zs) now.env) now
    (bindings_bind live σ hs fs zs now.env rising (now.long ∙ l) ranges.1 now.fits alive.1 agree.1))

-- Results one after the other.

pub passed : {A B E : Type 0} (x : Result A E) (f : A → Result B E) (y : B) → and_then x f ≡ Ok y → (a : A) × (x ≡ Ok a) × (f a ≡ Ok y)
passed (Ok a) f y e = (a, refl, e)
passed (Err r) f y e = cc

placed_ok : (n k : ℕ) (x : Result ℤ Cause) (v : ℤ) → placed n k x ≡ Ok v → x ≡ Ok v
placed_ok n k (Ok w) v e = let q : w ≡ v = cc in ap Ok q
placed_ok n k (Err c) v e = cc

all_take : {A : Type 0} (test : A → Bool) (n : ℕ) (xs : List A) → all test xs ≡ true → all test (take n xs) ≡ true
all_take test zero xs t = refl
all_take test (suc n) [] t = refl
all_take test (suc n) (x ∷ xs) t =
    let p = and_parts (test x) (all test xs) t in
    and_from (test x) (all test (take n xs)) p.0 (all_take test n xs p.1)

-- The body.

abbrev fact_with : ℕ → List ℤ → Written
fact_with k vs = record { kind = k; values = vs }

module _ (works : Working ℤ → Result ℤ Cause) (σ : ℕ → ℤ) (hs : List Head) (e : Env) (binding : (v : ℕ) → binds hs v ≡ true → at e v ≡ Some (σ v)) where
  worth_is : (o : Operand) → bound hs o ≡ true → worth e o ≡ number σ o
  worth_is (Constant n) b = refl
  worth_is (Variable v) b = ap (λ x. unwrap_or x (pos 0)) (binding v b)

  put_is : (w : Working Operand) → working_bound hs w ≡ true → put e w ≡ working_under σ w
  put_is (Copy a) b = ap Copy (worth_is a b)
  put_is (Sum a c) b =
      let p = and_parts (bound hs a) (bound hs c) b in
      let x = worth_is a p.0 in
      let y = worth_is c p.1 in
      λ i. Sum (x i) (y i)
  put_is (Difference a c) b =
      let p = and_parts (bound hs a) (bound hs c) b in
      let x = worth_is a p.0 in
      let y = worth_is c p.1 in
      λ i. Difference (x i) (y i)

  worked_under : (ws : List (Working Operand)) (n k : ℕ) (vs : List ℤ) → all (working_bound hs) ws ≡ true
      → worked_out works e ws n k ≡ Ok vs → Both (λ w v. works (working_under σ w) ≡ Ok v) ws vs
  worked_under [] n k [] b q = tt
  worked_under [] n k (v ∷ vs) b q = cc
  worked_under (w ∷ ws) n k vs b q =
      let p = and_parts (working_bound hs w) (all (working_bound hs) ws) b in
      let one = passed (placed n k (works (put e w))) (λ v. and_then (worked_out works e ws n (suc k)) (λ us. Ok (v ∷ us))) vs q in
      let v = one.0 in
      let others = passed (worked_out works e ws n (suc k)) (λ us. Ok (v ∷ us)) vs one.2 in
      let same : v ∷ others.0 ≡ vs = cc others.2 in
      subst (Both (λ w v. works (working_under σ w) ≡ Ok v) (w ∷ ws)) same (
        ap works (sym (put_is w p.0)) ∙ placed_ok n k (works (put e w)) v one.1,
        worked_under ws n (suc k) others.0 p.1 others.1,
      )

  written_under : (f : BodyFact) (n : ℕ) (c : Written) → fact_bound hs f ≡ true → written works e f n ≡ Ok c → Writes works σ f c
  written_under f n c b q =
      let p = passed (worked_out works e (take f.arity f.workings) n 1) (λ vs. Ok (fact_with f.kind (filled vs))) c q in
      let same : fact_with f.kind (filled p.0) ≡ c = cc p.2 in
      record {
        kind = ap (λ (x : Written). x.kind) (sym same);
        used = p.0;
        worked = worked_under (take f.arity f.workings) n 1 p.0 (all_take (working_bound hs) f.arity f.workings b) p.1;
        values = ap (λ (x : Written). x.values) (sym same);
      }

  pub body_under : (fs : List BodyFact) (n : ℕ) (cs : List Written) → all (fact_bound hs) fs ≡ true
      → body_of works e fs n ≡ Ok cs → Both (Writes works σ) fs cs
  body_under [] n [] b q = tt
  body_under [] n (c ∷ cs) b q = cc
  body_under (f ∷ fs) n cs b q =
      let p = and_parts (fact_bound hs f) (all (fact_bound hs) fs) b in
      let one = passed (written works e f n) (λ w. and_then (body_of works e fs (suc n)) (λ ws. Ok (w ∷ ws))) cs q in
      let c = one.0 in
      let others = passed (body_of works e fs (suc n)) (λ ws. Ok (c ∷ ws)) cs one.2 in
      let same : c ∷ others.0 ≡ cs = cc others.2 in
      subst (Both (Writes works σ) (f ∷ fs)) same (
        written_under f n c p.0 one.1,
        body_under fs (suc n) others.0 p.1 others.1,
      )

  -- and the other way round

  under_worked : (ws : List (Working Operand)) (n k : ℕ) (vs : List ℤ) → all (working_bound hs) ws ≡ true
      → Both (λ w v. works (working_under σ w) ≡ Ok v) ws vs → worked_out works e ws n k ≡ Ok vs
  under_worked [] n k [] b h = refl
  under_worked [] n k (v ∷ vs) b h = absurd h
  under_worked (w ∷ ws) n k [] b h = absurd h
  under_worked (w ∷ ws) n k (v ∷ vs) b h =
      let p = and_parts (working_bound hs w) (all (working_bound hs) ws) b in
      ap (λ x. and_then (placed n k x) (λ v. and_then (worked_out works e ws n (suc k)) (λ us. Ok (v ∷ us)))) (ap works (put_is w p.0) ∙ h.0)
      ∙ ap (λ x. and_then x (λ us. Ok (v ∷ us))) (under_worked ws n (suc k) vs p.1 h.1)

  under_written : (f : BodyFact) (n : ℕ) (c : Written) → fact_bound hs f ≡ true → Writes works σ f c → written works e f n ≡ Ok c
  under_written f n c b h =
      let l = h.kind in
      let r = h.values in
      ap (λ x. and_then x (λ vs. Ok (fact_with f.kind (filled vs))))
      (under_worked (take f.arity f.workings) n 1 h.used (all_take (working_bound hs) f.arity f.workings b) h.worked)
      ∙ (λ i. Ok (fact_with (sym l i) (sym r i)))

  pub under_body : (fs : List BodyFact) (n : ℕ) (cs : List Written) → all (fact_bound hs) fs ≡ true
      → Both (Writes works σ) fs cs → body_of works e fs n ≡ Ok cs
  under_body [] n [] b h = refl
  under_body [] n (c ∷ cs) b h = absurd h
  under_body (f ∷ fs) n [] b h = absurd h
  under_body (f ∷ fs) n (c ∷ cs) b h =
      let p = and_parts (fact_bound hs f) (all (fact_bound hs) fs) b in
      ap (λ x. and_then x (λ w. and_then (body_of works e fs (suc n)) (λ ws. Ok (w ∷ ws)))) (under_written f n c p.0 h.0)
      ∙ ap (λ x. and_then x (λ ws. Ok (c ∷ ws))) (under_body fs (suc n) cs p.1 h.1)
