-- Items at the kept heads and items at the removed heads: together they are the items at all heads.
use Rattle.std.proofs.Common.{◌≡◌, ℕ, zero, suc, ◌≤◌, Bool, true, false, cond, not, ◌⊎◌, List, [], ◌∷◌, ◌++◌, map, length, take, ℤ, sym, refl, ap, ◌∙◌, subst, inl, inr, arith}
use Rattle.facts.specs.declared.Fact.{Fact}
use Rattle.records.specs.declared.parts.Head.{Head}
use Rattle.meaning.specs.declared.written.Written.{Written}
use Rattle.meaning.specs.Words.{In, All, Both, Different}
use Rattle.meaning.specs.Instances.{Agrees, padded}
use Rattle.meaning.specs.Published.{chr, kept, removed, heads_that, head_under, at_heads}
use Rattle.meaning.proofs.Lists.{in_front, in_back, in_either}

-- Lists put together.

pub both_long : {A B : Type 0} (P : A → B → Type 0) (xs : List A) (ys : List B) → Both P xs ys → length ys ≡ length xs
both_long P [] [] b = refl
both_long P [] (y ∷ ys) b = absurd b
both_long P (x ∷ xs) [] b = absurd b
both_long P (x ∷ xs) (y ∷ ys) b = ap suc (both_long P xs ys b.1)

pub append_same : {A : Type 0} (xs us ys vs : List A) → length xs ≡ length us → xs ++ ys ≡ us ++ vs → (xs ≡ us) × (ys ≡ vs)
append_same [] [] ys vs l e = (refl, e)
append_same [] (u ∷ us) ys vs l e = absurd (omega arith)
append_same (x ∷ xs) [] ys vs l e = absurd (omega arith)
append_same (x ∷ xs) (u ∷ us) ys vs l e =
    let a : x ≡ u = cc in
    let b : xs ++ ys ≡ us ++ vs = cc in
    let r = append_same xs us ys vs (omega arith) b in
    let c = r.0 in
    (cc, r.1)

pub all_in : {A : Type 0} (P : A → Type 0) (xs : List A) (x : A) → All P xs → In x xs → P x
all_in P [] x a i = absurd i
all_in P (y ∷ xs) x a (inl e) = subst P (sym e) a.0
all_in P (y ∷ xs) x a (inr i) = all_in P xs x a.1 i

-- what is behind a front that is short enough is left
front : (n : ℕ) (is us : List ℕ) → length is ≤ n → (zs : List ℕ) × (take n (is ++ us) ≡ is ++ zs)
front n [] us l = (take n us, refl)
front zero (i ∷ is) us l = absurd (omega arith)
front (suc n) (i ∷ is) us l = let r = front n is us (omega arith) in (r.0, ap (λ xs. i ∷ xs) r.1)

pub padded_front : (is : List ℕ) → length is ≤ 4 → (zs : List ℕ) × (padded is ≡ is ++ zs)
padded_front is l = front 4 is (0 ∷ 0 ∷ 0 ∷ 0 ∷ []) l

-- One head, marked or not.

cond_map : {A B : Type 0} (f : A → B) (b : Bool) (x : A) (ys : List A) → cond b (f x ∷ map f ys) (map f ys) ≡ map f (cond b (x ∷ ys) ys)
cond_map f true x ys = refl
cond_map f false x ys = refl

cond_maps : {A B C : Type 0} (f : A → C) (g : B → C) (b : Bool) (x : A) (y : B) (xs : List A) (ys : List B)
    → f x ≡ g y → map f xs ≡ map g ys → map f (cond b (x ∷ xs) xs) ≡ map g (cond b (y ∷ ys) ys)
cond_maps f g true x y xs ys p q = cc
cond_maps f g false x y xs ys p q = q

cond_long : {A B : Type 0} (b : Bool) (x : A) (y : B) (xs : List A) (ys : List B)
    → length xs ≡ length ys → length (cond b (x ∷ xs) xs) ≡ length (cond b (y ∷ ys) ys)
cond_long true x y xs ys l = ap suc l
cond_long false x y xs ys l = l

module _ {A : Type 0} (x y : A) where
  from_cond : (b : Bool) (ys : List A) → In x (cond b (y ∷ ys) ys) → (x ≡ y) ⊎ In x ys
  from_cond true ys i = i
  from_cond false ys i = inr i

  behind_cond : (b : Bool) (ys : List A) → In x ys → In x (cond b (y ∷ ys) ys)
  behind_cond true ys i = inr i
  behind_cond false ys i = i

  one_cond : (b : Bool) (K T : List A) → x ≡ y → In x (cond (not b) (y ∷ K) K) ⊎ In x (cond b (y ∷ T) T)
  one_cond true K T e = inr (inl e)
  one_cond false K T e = inl (inl e)

  same_cond : (b : Bool) (K T L U : List A) → cond (not b) (x ∷ K) K ≡ cond (not b) (y ∷ L) L
      → cond b (x ∷ T) T ≡ cond b (y ∷ U) U → (x ≡ y) × (K ≡ L) × (T ≡ U)
  same_cond true K T L U p q = (cc, p, cc)
  same_cond false K T L U p q = (cc, cc, q)

-- no item is in both
abbrev pub Apart : List ℕ → List ℕ → Type 0
Apart xs ys = (i : ℕ) → In i xs → In i ys → ⊥

cond_different : (b : Bool) (x : ℕ) (ys : List ℕ) → (In x ys → ⊥) → Different ys → Different (cond b (x ∷ ys) ys)
cond_different true x ys n d = (n, d)
cond_different false x ys n d = d

cond_apart : (b : Bool) (x : ℕ) (K T : List ℕ) → (In x K → ⊥) → (In x T → ⊥) → Apart K T → Apart (cond (not b) (x ∷ K) K) (cond b (x ∷ T) T)
cond_apart true x K T k t a i u (inl e) = k (subst (λ j. In j K) e u)
cond_apart true x K T k t a i u (inr v) = a i u v
cond_apart false x K T k t a i (inl e) v = t (subst (λ j. In j T) e v)
cond_apart false x K T k t a i (inr u) v = a i u v

-- what two lists that are different and apart say of those behind their first
record Fresh (x : ℕ) (K T : List ℕ) : Type 0 where
  off_kept : In x K → ⊥
  off_removed : In x T → ⊥
  kept_different : Different K
  removed_different : Different T
  apart : Apart K T

fresh : (b : Bool) (x : ℕ) (K T : List ℕ) → Different (cond (not b) (x ∷ K) K) → Different (cond b (x ∷ T) T)
    → Apart (cond (not b) (x ∷ K) K) (cond b (x ∷ T) T) → Fresh x K T
fresh true x K T k t a = record {
  off_kept = λ i. a x i (inl refl);
  off_removed = t.0;
  kept_different = k;
  removed_different = t.1;
  apart = λ i u v. a i u (inr v);
}
fresh false x K T k t a = record {
  off_kept = k.0;
  off_removed = λ i. a x (inl refl) i;
  kept_different = k.1;
  removed_different = t;
  apart = λ i u v. a i (inr u) v;
}

-- All heads.

module _ {A : Type 0} (marked : Head → Bool) where
  pub at_heads_front : (hs : List Head) (xs zs : List A) → length xs ≡ length hs → at_heads marked hs (xs ++ zs) ≡ at_heads marked hs xs
  at_heads_front [] xs zs l = refl
  at_heads_front (h ∷ hs) [] zs l = absurd (omega arith)
  at_heads_front (h ∷ hs) (x ∷ xs) zs l =
      ap (λ ys. cond (marked h) (x ∷ ys) ys) (at_heads_front hs xs zs (omega arith))

  pub at_heads_map : {B : Type 0} (f : A → B) (hs : List Head) (xs : List A) → at_heads marked hs (map f xs) ≡ map f (at_heads marked hs xs)
  at_heads_map f [] xs = refl
  at_heads_map f (h ∷ hs) [] = refl
  at_heads_map f (h ∷ hs) (x ∷ xs) =
      ap (λ ys. cond (marked h) (f x ∷ ys) ys) (at_heads_map f hs xs) ∙ cond_map f (marked h) x (at_heads marked hs xs)

  pub at_heads_in : (hs : List Head) (xs : List A) (x : A) → In x (at_heads marked hs xs) → In x xs
  at_heads_in [] xs x i = absurd i
  at_heads_in (h ∷ hs) [] x i = i
  at_heads_in (h ∷ hs) (y ∷ xs) x i = elim (from_cond x y (marked h) (at_heads marked hs xs) i) [
    | inl e ↦ inl e
    | inr j ↦ inr (at_heads_in hs xs x j)
  ]

  at_heads_long : (hs : List Head) (xs : List A) → length xs ≡ length hs → length (at_heads marked hs xs) ≡ length (heads_that marked hs)
  at_heads_long [] xs l = refl
  at_heads_long (h ∷ hs) [] l = absurd (omega arith)
  at_heads_long (h ∷ hs) (x ∷ xs) l =
      cond_long (marked h) x h (at_heads marked hs xs) (heads_that marked hs) (at_heads_long hs xs (omega arith))

pub at_heads_padded : (marked : Head → Bool) (hs : List Head) (is : List ℕ) → length is ≡ length hs → length hs ≤ 4
    → at_heads marked hs (padded is) ≡ at_heads marked hs is
at_heads_padded marked hs is l small =
    let p = padded_front is (omega arith) in
    ap (at_heads marked hs) p.1 ∙ at_heads_front marked hs is p.0 l

-- every item is at a kept head or at a removed one
pub in_at_heads : {A : Type 0} (hs : List Head) (xs : List A) (x : A) → length xs ≡ length hs → In x xs
    → In x (at_heads kept hs xs) ⊎ In x (at_heads removed hs xs)
in_at_heads [] [] x l i = absurd i
in_at_heads [] (y ∷ xs) x l i = absurd (omega arith)
in_at_heads (h ∷ hs) [] x l i = absurd i
in_at_heads (h ∷ hs) (y ∷ xs) x l (inl e) = one_cond x y h.taken (at_heads kept hs xs) (at_heads removed hs xs) e
in_at_heads (h ∷ hs) (y ∷ xs) x l (inr i) = elim (in_at_heads hs xs x (omega arith) i) [
  | inl j ↦ inl (behind_cond x y (kept h) (at_heads kept hs xs) j)
  | inr j ↦ inr (behind_cond x y (removed h) (at_heads removed hs xs) j)
]

same_parts : {A : Type 0} (hs : List Head) (xs ys : List A) → length xs ≡ length hs → length ys ≡ length hs
    → at_heads kept hs xs ≡ at_heads kept hs ys → at_heads removed hs xs ≡ at_heads removed hs ys → xs ≡ ys
same_parts [] [] [] l m p q = refl
same_parts [] [] (y ∷ ys) l m p q = absurd (omega arith)
same_parts [] (x ∷ xs) ys l m p q = absurd (omega arith)
same_parts (h ∷ hs) [] ys l m p q = absurd (omega arith)
same_parts (h ∷ hs) (x ∷ xs) [] l m p q = absurd (omega arith)
same_parts (h ∷ hs) (x ∷ xs) (y ∷ ys) l m p q =
    let r = same_cond x y h.taken (at_heads kept hs xs) (at_heads removed hs xs) (at_heads kept hs ys) (at_heads removed hs ys) p q in
    let a = r.0 in
    let b = same_parts hs xs ys (omega arith) (omega arith) r.1 r.2 in
    (cc)

-- kept before removed: for the heads of one rule no two lists of ids give the same
pub same_ids_from : (hs : List Head) (is js : List ℕ) → length is ≡ length hs → length js ≡ length hs
    → at_heads kept hs is ++ at_heads removed hs is ≡ at_heads kept hs js ++ at_heads removed hs js → is ≡ js
same_ids_from hs is js l m e =
    let r = append_same (at_heads kept hs is) (at_heads kept hs js) (at_heads removed hs is) (at_heads removed hs js)
    (at_heads_long kept hs is l ∙ sym (at_heads_long kept hs js m)) e in
    same_parts hs is js l m r.0 r.1

-- Different ids.

different_append : (xs ys : List ℕ) → Different xs → Different ys → Apart xs ys → Different (xs ++ ys)
different_append [] ys a b c = b
different_append (x ∷ xs) ys a b c = (
  (λ i. elim (in_either x xs ys i) [ inl j ↦ a.0 j | inr j ↦ c x (inl refl) j ]),
  different_append xs ys a.1 b (λ i u v. c i (inr u) v),
)

different_front : (xs ys : List ℕ) → Different (xs ++ ys) → Different xs
different_front [] ys d = tt
different_front (x ∷ xs) ys d = ((λ i. d.0 (in_front x xs ys i)), different_front xs ys d.1)

different_back : (xs ys : List ℕ) → Different (xs ++ ys) → Different ys
different_back [] ys d = d
different_back (x ∷ xs) ys d = different_back xs ys d.1

different_apart : (xs ys : List ℕ) → Different (xs ++ ys) → Apart xs ys
different_apart [] ys d i u v = u
different_apart (x ∷ xs) ys d i (inl e) v = d.0 (in_back x xs ys (subst (λ j. In j ys) e v))
different_apart (x ∷ xs) ys d i (inr u) v = different_apart xs ys d.1 i u v

different_at_heads : (marked : Head → Bool) (hs : List Head) (is : List ℕ) → Different is → Different (at_heads marked hs is)
different_at_heads marked [] is d = tt
different_at_heads marked (h ∷ hs) [] d = tt
different_at_heads marked (h ∷ hs) (i ∷ is) d =
    cond_different (marked h) i (at_heads marked hs is) (λ j. d.0 (at_heads_in marked hs is i j)) (different_at_heads marked hs is d.1)

apart_at_heads : (hs : List Head) (is : List ℕ) → Different is → Apart (at_heads kept hs is) (at_heads removed hs is)
apart_at_heads [] is d j u v = u
apart_at_heads (h ∷ hs) [] d j u v = u
apart_at_heads (h ∷ hs) (i ∷ is) d j u v =
    cond_apart h.taken i (at_heads kept hs is) (at_heads removed hs is)
    (λ k. d.0 (at_heads_in kept hs is i k)) (λ k. d.0 (at_heads_in removed hs is i k)) (apart_at_heads hs is d.1) j u v

pub different_parts : (hs : List Head) (is : List ℕ) → Different is → Different (at_heads kept hs is ++ at_heads removed hs is)
different_parts hs is d =
    different_append (at_heads kept hs is) (at_heads removed hs is)
    (different_at_heads kept hs is d) (different_at_heads removed hs is d) (apart_at_heads hs is d)

different_from : (hs : List Head) (is : List ℕ) → length is ≡ length hs → Different (at_heads kept hs is) → Different (at_heads removed hs is)
    → Apart (at_heads kept hs is) (at_heads removed hs is) → Different is
different_from [] [] l k t a = tt
different_from [] (i ∷ is) l k t a = absurd (omega arith)
different_from (h ∷ hs) [] l k t a = tt
different_from (h ∷ hs) (i ∷ is) l k t a =
    let f = fresh h.taken i (at_heads kept hs is) (at_heads removed hs is) k t a in (
      (λ j. elim (in_at_heads hs is i (omega arith) j) [ inl u ↦ f.off_kept u | inr u ↦ f.off_removed u ]),
      different_from hs is (omega arith) f.kept_different f.removed_different f.apart,
    )

pub different_whole : (hs : List Head) (is : List ℕ) → length is ≡ length hs
    → Different (at_heads kept hs is ++ at_heads removed hs is) → Different is
different_whole hs is l d =
    different_from hs is l
    (different_front (at_heads kept hs is) (at_heads removed hs is) d)
    (different_back (at_heads kept hs is) (at_heads removed hs is) d)
    (different_apart (at_heads kept hs is) (at_heads removed hs is) d)

-- Facts that match.

abbrev written_of : ℕ → List ℤ → Written
written_of k vs = record { kind = k; values = vs }

matches_agree : (σ : ℕ → ℤ) (h : Head) (f : Fact) → chr f ≡ head_under σ h → Agrees σ h f
matches_agree σ h f e = record { kind = ap (λ (c : Written). c.kind) e; values = sym (ap (λ (c : Written). c.values) e) }

agree_matches : (σ : ℕ → ℤ) (h : Head) (f : Fact) → Agrees σ h f → chr f ≡ head_under σ h
agree_matches σ h f a = λ i. written_of (a.kind i) (sym a.values i)

pub agree_at_heads : (marked : Head → Bool) (σ : ℕ → ℤ) (hs : List Head) (fs : List Fact) → Both (Agrees σ) hs fs
    → map chr (at_heads marked hs fs) ≡ map (head_under σ) (heads_that marked hs)
agree_at_heads marked σ [] [] b = refl
agree_at_heads marked σ [] (f ∷ fs) b = absurd b
agree_at_heads marked σ (h ∷ hs) [] b = absurd b
agree_at_heads marked σ (h ∷ hs) (f ∷ fs) b =
    cond_maps chr (head_under σ) (marked h) f h (at_heads marked hs fs) (heads_that marked hs)
    (agree_matches σ h f b.0) (agree_at_heads marked σ hs fs b.1)

-- facts for all heads, of which those at the kept heads and those at the removed ones are given
pub record Merged (σ : ℕ → ℤ) (hs : List Head) (ks rs : List Fact) : Type 0 where
  pub facts : List Fact
  pub agree : Both (Agrees σ) hs facts
  pub keeps : at_heads kept hs facts ≡ ks
  pub removes : at_heads removed hs facts ≡ rs

merged_none : (σ : ℕ → ℤ) (ks rs : List Fact) → map chr ks ≡ [] → map chr rs ≡ [] → Merged σ [] ks rs
merged_none σ [] [] p q = record { facts = []; agree = tt; keeps = refl; removes = refl }
merged_none σ [] (r ∷ rs) p q = cc
merged_none σ (k ∷ ks) rs p q = cc

with_removed : (σ : ℕ → ℤ) (h : Head) (hs : List Head) (f : Fact) (ks rs : List Fact) → h.taken ≡ true → Agrees σ h f
    → Merged σ hs ks rs → Merged σ (h ∷ hs) ks (f ∷ rs)
with_removed σ h hs f ks rs e a m = record {
  facts = f ∷ m.facts;
  agree = (a, m.agree);
  keeps = ap (λ x. cond (not x) (f ∷ at_heads kept hs m.facts) (at_heads kept hs m.facts)) e ∙ m.keeps;
  removes = ap (λ x. cond x (f ∷ at_heads removed hs m.facts) (at_heads removed hs m.facts)) e ∙ ap (λ xs. f ∷ xs) m.removes;
}

with_kept : (σ : ℕ → ℤ) (h : Head) (hs : List Head) (f : Fact) (ks rs : List Fact) → h.taken ≡ false → Agrees σ h f
    → Merged σ hs ks rs → Merged σ (h ∷ hs) (f ∷ ks) rs
with_kept σ h hs f ks rs e a m = record {
  facts = f ∷ m.facts;
  agree = (a, m.agree);
  keeps = ap (λ x. cond (not x) (f ∷ at_heads kept hs m.facts) (at_heads kept hs m.facts)) e ∙ ap (λ xs. f ∷ xs) m.keeps;
  removes = ap (λ x. cond x (f ∷ at_heads removed hs m.facts) (at_heads removed hs m.facts)) e ∙ m.removes;
}

merged_next : (σ : ℕ → ℤ) (h : Head) (hs : List Head) (b : Bool) (ks rs : List Fact) → h.taken ≡ b
    → map chr ks ≡ map (head_under σ) (cond (not b) (h ∷ heads_that kept hs) (heads_that kept hs))
    → map chr rs ≡ map (head_under σ) (cond b (h ∷ heads_that removed hs) (heads_that removed hs))
    → ((ks rs : List Fact) → map chr ks ≡ map (head_under σ) (heads_that kept hs) → map chr rs ≡ map (head_under σ) (heads_that removed hs) → Merged σ hs ks rs)
    → Merged σ (h ∷ hs) ks rs
merged_next σ h hs true ks [] e p q rest = cc
merged_next σ h hs true ks (f ∷ rs) e p q rest =
    with_removed σ h hs f ks rs e (matches_agree σ h f (cc)) (rest ks rs p (cc))
merged_next σ h hs false [] rs e p q rest = cc
merged_next σ h hs false (f ∷ ks) rs e p q rest =
    with_kept σ h hs f ks rs e (matches_agree σ h f (cc)) (rest ks rs (cc) q)

pub merged : (σ : ℕ → ℤ) (hs : List Head) (ks rs : List Fact) → map chr ks ≡ map (head_under σ) (heads_that kept hs)
    → map chr rs ≡ map (head_under σ) (heads_that removed hs) → Merged σ hs ks rs
merged σ [] ks rs p q = merged_none σ ks rs p q
merged σ (h ∷ hs) ks rs p q = merged_next σ h hs h.taken ks rs refl p q (merged σ hs)
