-- What the bytes say of their first record depends on the first 35 of them.
use Rattle.std.proofs.Common.{◌≡◌, ℕ, zero, suc, ◌<◌, ◌≤◌, cond, not, ◌&&◌, ◌||◌, eqb, ltb, List, [], ◌∷◌, length, take, Some, None, Ok, Err, Option, sym, refl, ap, ◌∙◌, ⊎_elim, arith, lit≤}
use Rattle.std.proofs.lemmas.List.{take_all, length-take-le, get_or-take}
use Rattle.std.proofs.lemmas.Bool.{le-ltb, ne_eqb, cases_lt}
use Rattle.std.specs.Option.{ok_or}
use Rattle.records.specs.Bytes.{begun, fields, record_at, record_kind, byte, whole, size}
use Rattle.records.specs.declared.fault.Fault.TheVariants as fault_of
use Rattle.records.specs.declared.kinds.RecordKind.{RecordKind}
use Rattle.records.specs.declared.kinds.RecordKind.TheVariants as kind
use Rattle.rules.specs.Results.{and_then, unless}
use Rattle.book.specs.Drafts.{Draft, taking, follows, entered, is_open}
use Rattle.week.specs.Weeks.{goal_at_front, is_goal, goal_of, begins_goal, rules_end}

-- P of any two lists that begin with the same n bytes
abbrev AfterSame : ℕ → (List ℕ → List ℕ → Type 0) → Type 0
AfterSame zero P = (xs ys : List ℕ) → P xs ys
AfterSame (suc n) P = (b : ℕ) → AfterSame n (λ xs ys. P (b ∷ xs) (b ∷ ys))

same_front : (n : ℕ) (bs : List ℕ) (m : ℕ) (P : List ℕ → List ℕ → Type 0) → n ≤ length bs → n ≤ m → AfterSame n P → P bs (take m bs)
same_front zero bs m P l k h = h bs (take m bs)
same_front (suc n) [] m P l k h = absurd (omega arith)
same_front (suc n) (b ∷ bs) zero P l k h = absurd (omega arith)
same_front (suc n) (b ∷ bs) (suc m) P l k h = same_front n bs m (λ xs ys. P (b ∷ xs) (b ∷ ys)) (omega arith) (omega arith) (h b)

-- every field of a record lies within its size
same_fields : (k : RecordKind) → AfterSame (size k) (λ xs ys. record_at k xs ≡ record_at k ys)
same_fields kind.FactKind = λ _ _ _ xs ys. refl
same_fields kind.RuleBegins = λ _ xs ys. refl
same_fields kind.Head = λ _ _ _ _ _ _ _ _ _ _ _ _ _ _ _ _ _ _ xs ys. refl
same_fields kind.Guard = λ _ _ _ _ _ _ _ _ _ _ _ _ xs ys. refl
same_fields kind.BodyFact = λ _ _ _ _ _ _ _ _ _ _ _ _ _ _ _ _ _ _ _ _ _ _ _ _ _ _ _ _ _ _ _ _ _ _ _ xs ys. refl
same_fields kind.Fail = λ _ xs ys. refl
same_fields kind.RuleEnds = λ _ _ _ _ _ _ _ xs ys. refl
same_fields kind.GoalFact = λ _ _ _ _ _ _ _ _ _ _ _ _ _ _ xs ys. refl

size_small : (k : RecordKind) → size k ≤ 35
size_small kind.FactKind = lit≤ tt
size_small kind.RuleBegins = lit≤ tt
size_small kind.Head = lit≤ tt
size_small kind.Guard = lit≤ tt
size_small kind.BodyFact = lit≤ tt
size_small kind.Fail = lit≤ tt
size_small kind.RuleEnds = lit≤ tt
size_small kind.GoalFact = lit≤ tt

-- two numbers of bytes, neither of which cuts a record
whole_long : (o : Option RecordKind) (m n : ℕ) → 35 ≤ m → 35 ≤ n → whole o m ≡ whole o n
whole_long None m n a b = refl
whole_long (Some k) m n a b =
    let s = size_small k in
    ap (λ t. cond t (Err fault_of.Cut) (Ok k)) (le-ltb m (size k) (omega arith) ∙ sym (le-ltb n (size k) (omega arith)))

module _ (bs : List ℕ) (m : ℕ) (long : 35 ≤ m) where
  -- bs are no more than m bytes, or more
  pub by_length : {A : Type 0} (f : List ℕ → A) → (m < length bs → f bs ≡ f (take m bs)) → f bs ≡ f (take m bs)
  by_length f h = ⊎_elim h (λ l. ap f (sym (take_all m bs l))) (cases_lt m (length bs))

  length_front : m < length bs → length (take m bs) ≡ m
  length_front l = length-take-le m bs (omega arith)

  pub empty_front : eqb (length bs) 0 ≡ eqb (length (take m bs)) 0
  empty_front = by_length (λ xs. eqb (length xs) 0) (λ l.
      let e = length_front l in
      ne_eqb (length bs) 0 (λ z. omega arith) ∙ sym (ne_eqb (length (take m bs)) 0 (λ z. omega arith)))

  pub begun_front : begun bs ≡ begun (take m bs)
  begun_front = by_length begun (λ l.
      let e = length_front l in
      ap (λ t. cond t (Err fault_of.Cut) (whole (record_kind (byte bs 0)) (length bs))) empty_front
      ∙ ap (λ b. cond (eqb (length (take m bs)) 0) (Err fault_of.Cut) (whole (record_kind b) (length bs))) (sym (get_or-take m bs 0 0 (omega arith)))
      ∙ ap (λ w. cond (eqb (length (take m bs)) 0) (Err fault_of.Cut) w) (whole_long (record_kind (byte (take m bs) 0)) (length bs) (length (take m bs)) (omega arith) (omega arith)))

  pub fields_front : (k : RecordKind) → fields k bs ≡ fields k (take m bs)
  fields_front k = by_length (fields k) (λ l.
      let e = length_front l in
      let s = size_small k in
      ap (λ t. cond t (Err fault_of.Cut) (ok_or (record_at k bs) fault_of.OutOfRange)) (le-ltb (length bs) (size k) (omega arith) ∙ sym (le-ltb (length (take m bs)) (size k) (omega arith)))
      ∙ ap (λ o. cond (ltb (length (take m bs)) (size k)) (Err fault_of.Cut) (ok_or o fault_of.OutOfRange)) (same_front (size k) bs m (λ xs ys. record_at k xs ≡ record_at k ys) (omega arith) (omega arith) (same_fields k)))

  pub taking_front : (d : Draft) → taking d bs ≡ taking d (take m bs)
  taking_front d = λ i.
      and_then (begun_front i) (λ k.
      and_then (ok_or (follows d.state k) fault_of.MayNotFollow) (λ s.
      and_then (fields_front k i) (λ r.
      and_then (entered d.tables r) (λ t.
      Ok (k, record { state = s; tables = t })))))

  pub rules_end_front : (d : Draft) → rules_end d bs ≡ rules_end d (take m bs)
  rules_end_front d = λ i. empty_front i || (begins_goal (begun_front i) && not (is_open d.state))

  pub goal_front : goal_at_front bs ≡ goal_at_front (take m bs)
  goal_front = λ i.
      and_then (begun_front i) (λ k.
      and_then (unless (is_goal k) fault_of.MayNotFollow) (λ _.
      and_then (fields_front k i) goal_of))
