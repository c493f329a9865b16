-- Reading place by place: what is left of the file gives the whole answer.
use Rattle.std.proofs.Common.{◌≡◌, ℕ, zero, suc, ◌+◌, ◌-◌, ◌<◌, ◌≤◌, Bool, true, false, cond, eqb, ltb, List, [], ◌∷◌, ◌++◌, length, drop, Some, None, Ok, Err, Option, Result, sym, refl, ap, ◌∙◌, subst, arith, lit<}
use Rattle.std.proofs.lemmas.List.{drop-drop, length-drop, append_assoc, append-nil, nil_from_length, length_push}
use Rattle.std.proofs.lemmas.Bool.{ltb-false, ne_eqb}
use Rattle.std.specs.Option.{ok_or}
use Rattle.records.specs.Bytes.{begun, fields, size, whole, record_kind, byte}
use Rattle.records.specs.declared.fault.Fault.{Fault}
use Rattle.records.specs.declared.fault.Fault.TheVariants as fault_of
use Rattle.records.specs.declared.kinds.RecordKind.{RecordKind}
use Rattle.records.specs.declared.kinds.RecordKind.TheVariants as kind
use Rattle.records.specs.declared.parts.Goal.{Goal}
use Rattle.book.proofs.Cases.{ok_then, same_ok}
use Rattle.book.specs.Drafts.{Draft, taking, taken_kind, taken_draft, follows, entered}
use Rattle.week.specs.Weeks.{Goals, rules_end, rules_from, on_record, on_goal, goal_at_front, goals_from, is_goal, goal_of}
use Rattle.rules.specs.Results.{and_then, unless}

-- A whole record lies within the bytes

pub size_positive : (k : RecordKind) → 0 < size k
size_positive kind.FactKind = lit< tt
size_positive kind.RuleBegins = lit< tt
size_positive kind.Head = lit< tt
size_positive kind.Guard = lit< tt
size_positive kind.BodyFact = lit< tt
size_positive kind.Fail = lit< tt
size_positive kind.RuleEnds = lit< tt
size_positive kind.GoalFact = lit< tt

pub begun_within : (bs : List ℕ) (k : RecordKind) → begun bs ≡ Ok k → size k ≤ length bs
begun_within bs k e = go (eqb (length bs) 0) (record_kind (byte bs 0)) e
  where
    long : (j : RecordKind) (b : Bool) → ltb (length bs) (size j) ≡ b → cond b (Err fault_of.Cut) (Ok j) ≡ Ok k → size k ≤ length bs
    long j true h e = absurd cc
    long j false h e = subst (λ (i : RecordKind). size i ≤ length bs) (same_ok e) (ltb-false (length bs) (size j) h)

    go : (b : Bool) (o : Option RecordKind) → cond b (Err fault_of.Cut) (whole o (length bs)) ≡ Ok k → size k ≤ length bs
    go true o e = absurd cc
    go false None e = absurd cc
    go false (Some j) e = long j (ltb (length bs) (size j)) refl e

pub taken_begun : (d : Draft) (bs : List ℕ) (k : RecordKind) (a : Draft) → taking d bs ≡ Ok (k, a) → begun bs ≡ Ok k
taken_begun d bs k a e =
    let p = ok_then (begun bs) _ (k, a) e in
    let q = ok_then (ok_or (follows d.state p.0) fault_of.MayNotFollow) _ (k, a) p.1.1 in
    let r = ok_then (fields p.0 bs) _ (k, a) q.1.1 in
    let s = ok_then (entered d.tables r.0) _ (k, a) r.1.1 in
    p.1.0 ∙ ap Ok (ap (λ (x : RecordKind × Draft). x.0) (same_ok s.1.1))

-- what a draft answers and holds then, put together
pub taken_both : (x : Result (RecordKind × Draft) Fault) (k : RecordKind) (d e : Draft) → Ok k ≡ taken_kind x → e ≡ taken_draft x d → x ≡ Ok (k, e)
taken_both (Ok y) k d e p q = let h : y.0 ≡ k = cc in λ i. Ok (h i, sym q i)
taken_both (Err f) k d e p q = absurd cc

pub taken_not : (x : Result (RecordKind × Draft) Fault) (f : Fault) → Err f ≡ taken_kind x → x ≡ Err f
taken_not (Ok y) f p = absurd cc
taken_not (Err g) f p = cc

-- The rules end, or go on with a record

pub rules_stop : (n p : ℕ) (d : Draft) (bs : List ℕ) → true ≡ rules_end d bs → rules_from n p d bs ≡ Ok (p, d)
rules_stop zero p d bs e = refl
rules_stop (suc n) p d bs e = ap (λ b. cond b (Ok (p, d)) (on_record p (taking d bs) (λ k a. rules_from n (p + size k) a (drop (size k) bs)))) (sym e)

pub rules_go : (n p : ℕ) (d : Draft) (bs : List ℕ) → false ≡ rules_end d bs → rules_from (suc n) p d bs ≡ on_record p (taking d bs) (λ k a. rules_from n (p + size k) a (drop (size k) bs))
rules_go n p d bs e = ap (λ b. cond b (Ok (p, d)) (on_record p (taking d bs) (λ k a. rules_from n (p + size k) a (drop (size k) bs)))) (sym e)

pub nothing_ends : (d : Draft) (bs : List ℕ) → length bs ≤ 0 → true ≡ rules_end d bs
nothing_ends d bs l = sym (ap (rules_end d) (nil_from_length bs (omega arith)))

pub true_is_false : {P : Type 0} → true ≡ false → P
true_is_false e = absurd cc

-- The rules: the fuel left is no less than the bytes left

module _ (first : Draft) (file : List ℕ) where
  abbrev pub Ahead : ℕ → Draft → Type 0
  Ahead p d = (p ≤ length file) × ((n : ℕ) × ((length file - p ≤ n) × (rules_from (length file) 0 first file ≡ rules_from n p d (drop p file))))

  module _ (p : ℕ) (d : Draft) (h : Ahead p d) where
    pub ahead_end : true ≡ rules_end d (drop p file) → Ok (p, d) ≡ rules_from (length file) 0 first file
    ahead_end e = sym (h.1.1.1 ∙ rules_stop h.1.0 p d (drop p file) e)

    -- where the rules do not end there is a record to take
    ahead_step : false ≡ rules_end d (drop p file) → (n : ℕ) × ((length file - p ≤ suc n) × (rules_from (length file) 0 first file ≡ on_record p (taking d (drop p file)) (λ k a. rules_from n (p + size k) a (drop (size k) (drop p file)))))
    ahead_step e = go h.1.0 h.1.1.0 h.1.1.1
      where
        go : (n : ℕ) → length file - p ≤ n → rules_from (length file) 0 first file ≡ rules_from n p d (drop p file)
            → (n : ℕ) × ((length file - p ≤ suc n) × (rules_from (length file) 0 first file ≡ on_record p (taking d (drop p file)) (λ k a. rules_from n (p + size k) a (drop (size k) (drop p file)))))
        go zero l w = let m : length (drop p file) ≤ 0 = simp length-drop (omega arith) in true_is_false (nothing_ends d (drop p file) m ∙ sym e)
        go (suc n) l w = (n, (l, w ∙ rules_go n p d (drop p file) e))

    pub ahead_fault : (f : Fault) → false ≡ rules_end d (drop p file) → Err f ≡ taken_kind (taking d (drop p file)) → Err (record { place = p; fault = f }) ≡ rules_from (length file) 0 first file
    ahead_fault f e t =
        let s = ahead_step e in
        sym (s.1.1 ∙ ap (λ x. on_record p x (λ k a. rules_from s.0 (p + size k) a (drop (size k) (drop p file)))) (taken_not (taking d (drop p file)) f t))

    pub ahead_within : (k : RecordKind) → Ok k ≡ taken_kind (taking d (drop p file)) → p + size k ≤ length file
    ahead_within k t =
        let x = taken_both (taking d (drop p file)) k d (taken_draft (taking d (drop p file)) d) t refl in
        let w = begun_within (drop p file) k (taken_begun d (drop p file) k _ x) in
        let v : size k ≤ length file - p = rw length-drop at w in
        let l = h.0 in
        omega arith

    pub ahead_more : (k : RecordKind) (a : Draft) → false ≡ rules_end d (drop p file) → Ok k ≡ taken_kind (taking d (drop p file)) → a ≡ taken_draft (taking d (drop p file)) d → Ahead (p + size k) a
    ahead_more k a e t u =
        let s = ahead_step e in
        let x = taken_both (taking d (drop p file)) k d a t u in
        let o = size_positive k in (
          ahead_within k t,
          (
            s.0,
            (
              omega (arith, s.1.0),
              s.1.1
                  ∙ ap (λ y. on_record p y (λ k a. rules_from s.0 (p + size k) a (drop (size k) (drop p file)))) x
                  ∙ ap (rules_from s.0 (p + size k) a) (drop-drop (size k) p file),
            ),
          ),
        )

-- The goal facts: those listed, and what is left

abbrev pub after_goals : List Goal → Goals → Goals
after_goals gs rest = record { goals = gs ++ rest.goals; fault = rest.fault }

-- a goal fact has 14 bytes
pub goal_within : (bs : List ℕ) (g : Goal) → goal_at_front bs ≡ Ok g → 14 ≤ length bs
goal_within bs g e =
    let p = ok_then (begun bs) _ g e in
    go p.0 p.1.0 p.1.1
  where
    go : (k : RecordKind) → begun bs ≡ Ok k → and_then (unless (is_goal k) fault_of.MayNotFollow) (λ _. and_then (fields k bs) goal_of) ≡ Ok g → 14 ≤ length bs
    go kind.FactKind b e = absurd cc
    go kind.RuleBegins b e = absurd cc
    go kind.Head b e = absurd cc
    go kind.Guard b e = absurd cc
    go kind.BodyFact b e = absurd cc
    go kind.Fail b e = absurd cc
    go kind.RuleEnds b e = absurd cc
    go kind.GoalFact b e = begun_within bs kind.GoalFact b

goals_end : (n p : ℕ) (bs : List ℕ) → length bs ≡ 0 → goals_from n p bs ≡ record { goals = []; fault = None }
unfolding goals_from
goals_end zero p bs e = refl
goals_end (suc n) p bs e =
    ap (λ (cs : List ℕ). goals_from (suc n) p cs) (nil_from_length bs e)

goals_step : (n p : ℕ) (bs : List ℕ) → 0 < length bs → goals_from (suc n) p bs ≡ on_goal p (goal_at_front bs) (goals_from n (p + 14) (drop 14 bs))
unfolding goals_from
goals_step n p bs h = ap (λ b. cond b (record { goals = []; fault = None }) (on_goal p (goal_at_front bs) (goals_from n (p + 14) (drop 14 bs)))) (ne_eqb (length bs) 0 (λ e. omega arith))

goals_nil : (p : ℕ) (bs : List ℕ) → goals_from 0 p bs ≡ record { goals = []; fault = None }
unfolding goals_from
goals_nil p bs = refl

module _ (start : ℕ) (file : List ℕ) where
  abbrev pub GoalsAhead : List Goal → ℕ → Type 0
  GoalsAhead gs p = (p ≤ length file) × (after_goals gs (goals_from (1025 - length gs) p (drop p file)) ≡ goals_from 1025 start (drop start file))

  module _ (gs : List Goal) (p : ℕ) (h : GoalsAhead gs p) where
    goals_none : goals_from (1025 - length gs) p (drop p file) ≡ record { goals = []; fault = None } → record { goals = gs; fault = None } ≡ goals_from 1025 start (drop start file)
    goals_none e =
        ap (λ (xs : List Goal). record { goals = xs; fault = None }) (sym (append-nil gs))
        ∙ sym (ap (after_goals gs) e) ∙ h.1

    pub goals_full : 1025 ≤ length gs → record { goals = gs; fault = None } ≡ goals_from 1025 start (drop start file)
    goals_full l =
        let z : 1025 - length gs ≡ 0 = omega arith in
        goals_none (ap (λ n. goals_from n p (drop p file)) z ∙ goals_nil p (drop p file))

    pub goals_over : length file ≤ p → record { goals = gs; fault = None } ≡ goals_from 1025 start (drop start file)
    goals_over l = goals_none (goals_end (1025 - length gs) p (drop p file) (simp length-drop (omega arith)))

    goals_on : length gs < 1025 → p < length file
        → after_goals gs (on_goal p (goal_at_front (drop p file)) (goals_from (1025 - (length gs + 1)) (p + 14) (drop 14 (drop p file)))) ≡ goals_from 1025 start (drop start file)
    goals_on l m =
        let n : 1025 - length gs ≡ suc (1025 - (length gs + 1)) = omega arith in
        let o : 0 < length (drop p file) = simp length-drop (omega arith) in
        sym (ap (after_goals gs) (ap (λ n. goals_from n p (drop p file)) n ∙ goals_step (1025 - (length gs + 1)) p (drop p file) o)) ∙ h.1

    pub goals_fault : (f : Fault) → length gs < 1025 → p < length file → Err f ≡ goal_at_front (drop p file)
        → record { goals = gs; fault = Some (record { place = p; fault = f }) } ≡ goals_from 1025 start (drop start file)
    goals_fault f l m e =
        ap (λ (xs : List Goal). record { goals = xs; fault = Some (record { place = p; fault = f }) }) (sym (append-nil gs))
        ∙ ap (λ x. after_goals gs (on_goal p x (goals_from (1025 - (length gs + 1)) (p + 14) (drop 14 (drop p file))))) e
        ∙ goals_on l m

    pub goals_more : (g : Goal) (hs : List Goal) → length gs < 1025 → p < length file → Ok g ≡ goal_at_front (drop p file) → hs ≡ gs ++ g ∷ [] → GoalsAhead hs (p + 14)
    goals_more g hs l m e x =
        let w = goal_within (drop p file) g (sym e) in
        let v : 14 ≤ length file - p = rw length-drop at w in
        let rest : Goals = goals_from (1025 - (length gs + 1)) (p + 14) (drop 14 (drop p file)) in (
          omega arith,
          ap (λ (xs : List Goal). after_goals xs (goals_from (1025 - length xs) (p + 14) (drop (p + 14) file))) x
              ∙ ap (λ n. after_goals (gs ++ g ∷ []) (goals_from (1025 - n) (p + 14) (drop (p + 14) file))) (length_push gs g)
              ∙ ap (λ bs. after_goals (gs ++ g ∷ []) (goals_from (1025 - (length gs + 1)) (p + 14) bs)) (sym (drop-drop 14 p file))
              ∙ ap (λ (xs : List Goal). record { goals = xs; fault = rest.fault }) (append_assoc gs (g ∷ []) rest.goals)
              ∙ ap (λ y. after_goals gs (on_goal p y rest)) e
              ∙ goals_on l m,
        )
