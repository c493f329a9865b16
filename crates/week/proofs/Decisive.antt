-- The first 34,691 bytes of any file decide: the rules end within 20,320 bytes, 1,024 goal facts more
-- are 34,656, and the next record has at most 35.
use Rattle.std.proofs.Common.{◌≡◌, ℕ, zero, suc, ◌+◌, ◌-◌, ◌*◌, ◌<◌, ◌≤◌, Bool, true, false, cond, not, ◌&&◌, eqb, List, [], length, take, drop, None, Ok, Err, Result, sym, refl, ap, ◌∙◌, subst, ⊎_elim, arith, lit≤}
use Rattle.std.proofs.lemmas.List.{drop-take, length-drop}
use Rattle.std.proofs.lemmas.Bool.{and_parts, eqb-true, or_cases}
use Rattle.records.specs.Bytes.{begun, size}
use Rattle.records.specs.declared.fault.Fault.{Fault}
use Rattle.records.specs.declared.fault.Fault.TheVariants as fault_of
use Rattle.records.specs.declared.kinds.RecordKind.{RecordKind}
use Rattle.rules.specs.Results.{and_then, unless}
use Rattle.book.proofs.Cases.{same_ok}
use Rattle.book.specs.Books.{closing}
use Rattle.book.specs.Drafts.{Draft, fresh, is_open, taking}
use Rattle.week.specs.declared.week.At.{At}
use Rattle.week.specs.Weeks.{begins_goal, rules_end, on_record, rules_from, on_goal, goals_from, with_goals, closed_at, reading, first_bytes}
use Rattle.week.proofs.Budgets.{budget, fresh_budget, taking_uses}
use Rattle.week.proofs.Fronts.{by_length, empty_front, taking_front, rules_end_front, goal_front}
use Rattle.week.proofs.Places.{size_positive, rules_stop, rules_go, nothing_ends, true_is_false}

-- a front of the bytes, without its own front
drop_front : (n c : ℕ) (bs : List ℕ) → n ≤ c → drop n (take c bs) ≡ take (c - n) (drop n bs)
drop_front n c bs l =
    let e : c ≡ n + (c - n) = omega arith in
    ap (λ m. drop n (take m bs)) e ∙ drop-take n (c - n) bs

-- The rules

abbrev after_record : ℕ → ℕ → List ℕ → RecordKind → Draft → Result (ℕ × Draft) At
after_record n p bs k a = rules_from n (p + size k) a (drop (size k) bs)

-- where the rules end: no more bytes were used than the draft could take, and if a rule is open
-- nothing is left
pub record Ended (p : ℕ) (d : Draft) (bs : List ℕ) (q : ℕ) (a : Draft) : Type 0 where
  pub within : q + budget a ≤ p + budget d
  pub whole : is_open a.state ≡ true → p + length bs ≤ q

open_end : (d : Draft) (bs : List ℕ) → true ≡ rules_end d bs → is_open d.state ≡ true → length bs ≡ 0
open_end d bs e o =
    ⊎_elim (eqb-true (length bs) 0)
    (λ h. true_is_false (sym (and_parts (begins_goal (begun bs)) (not (is_open d.state)) h).1 ∙ ap not o))
    (or_cases (eqb (length bs) 0) (begins_goal (begun bs) && not (is_open d.state)) (sym e))

ended_here : (p : ℕ) (d : Draft) (bs : List ℕ) (q : ℕ) (a : Draft) → true ≡ rules_end d bs → ◌≡◌ {A = Result (ℕ × Draft) At} (Ok (p, d)) (Ok (q, a)) → Ended p d bs q a
ended_here p d bs q a t e = subst (λ (y : ℕ × Draft). Ended p d bs y.0 y.1) (same_ok e) (record { within = omega arith; whole = λ o. let z = open_end d bs t o in omega arith })

rules_ended : (n p : ℕ) (d : Draft) (bs : List ℕ) (q : ℕ) (a : Draft) → length bs ≤ n → rules_from n p d bs ≡ Ok (q, a) → Ended p d bs q a
rules_ended zero p d bs q a l e = ended_here p d bs q a (nothing_ends d bs l) e
rules_ended (suc n) p d bs q a l e = go (rules_end d bs) refl (taking d bs) refl (λ k c m f. rules_ended n (p + size k) c (drop (size k) bs) q a m f) e
  where
    go : (b : Bool) → rules_end d bs ≡ b → (x : Result (RecordKind × Draft) Fault) → taking d bs ≡ x
        → ((k : RecordKind) (c : Draft) → length (drop (size k) bs) ≤ n → after_record n p bs k c ≡ Ok (q, a) → Ended (p + size k) c (drop (size k) bs) q a)
        → cond b (Ok (p, d)) (on_record p x (after_record n p bs)) ≡ Ok (q, a) → Ended p d bs q a
    go true r x t on e = ended_here p d bs q a (sym r) e
    go false r (Err f) t on e = absurd cc
    go false r (Ok y) t on e =
        let z = size_positive y.0 in
        let u = taking_uses d bs y.0 y.1 t in
        let m = length-drop (size y.0) bs in
        let h = on y.0 y.1 (omega arith) e in
        record { within = omega (arith, h.within); whole = λ o. omega (arith, h.whole o) }

-- a front that has the draft's budget and 14,371 bytes more gives the same rules
rules_same : (n m p c : ℕ) (d : Draft) (bs : List ℕ) → length bs ≤ n → length (take c bs) ≤ m → budget d + 14371 ≤ c → rules_from n p d bs ≡ rules_from m p d (take c bs)
rules_same zero m p c d bs l k h =
    let e = nothing_ends d bs l in
    sym (rules_stop m p d (take c bs) (e ∙ rules_end_front bs c (omega arith) d))
rules_same (suc n) m p c d bs l k h =
    go (rules_end d bs) refl m k (taking d bs) refl (λ j y a b u. rules_same n j (p + size y.0) (c - size y.0) y.1 (drop (size y.0) bs) a b u)
  where
    go : (b : Bool) → rules_end d bs ≡ b → (m : ℕ) → length (take c bs) ≤ m → (x : Result (RecordKind × Draft) Fault) → taking d bs ≡ x
        → ((j : ℕ) (y : RecordKind × Draft) → length (drop (size y.0) bs) ≤ n → length (take (c - size y.0) (drop (size y.0) bs)) ≤ j → budget y.1 + 14371 ≤ c - size y.0
        → rules_from n (p + size y.0) y.1 (drop (size y.0) bs) ≡ rules_from j (p + size y.0) y.1 (take (c - size y.0) (drop (size y.0) bs)))
        → rules_from (suc n) p d bs ≡ rules_from m p d (take c bs)
    go true r m k x t on =
        rules_stop (suc n) p d bs (sym r) ∙ sym (rules_stop m p d (take c bs) (sym r ∙ rules_end_front bs c (omega arith) d))
    go false r zero k x t on = true_is_false (nothing_ends d (take c bs) k ∙ sym (rules_end_front bs c (omega arith) d) ∙ r)
    go false r (suc j) k (Err f) t on =
        rules_go n p d bs (sym r)
        ∙ ap (λ x. on_record p x (after_record n p bs)) t
        ∙ sym (ap (λ x. on_record p x (after_record j p (take c bs))) (sym (taking_front bs c (omega arith) d) ∙ t))
        ∙ sym (rules_go j p d (take c bs) (sym r ∙ rules_end_front bs c (omega arith) d))
    go false r (suc j) k (Ok y) t on =
        let z = size_positive y.0 in
        let u = taking_uses d bs y.0 y.1 t in
        let v : size y.0 ≤ c = omega arith in
        let w = drop_front (size y.0) c bs v in
        let lb = length-drop (size y.0) bs in
        let lc = length-drop (size y.0) (take c bs) in
        let lw = ap length w in
        rules_go n p d bs (sym r)
        ∙ ap (λ x. on_record p x (after_record n p bs)) t
        ∙ on j y (omega arith) (omega arith) (omega arith)
        ∙ ap (rules_from j (p + size y.0) y.1) (sym w)
        ∙ sym (ap (λ x. on_record p x (after_record j p (take c bs))) (sym (taking_front bs c (omega arith) d) ∙ t))
        ∙ sym (rules_go j p d (take c bs) (sym r ∙ rules_end_front bs c (omega arith) d))

-- The goal facts

goals_same : (n p c : ℕ) (bs : List ℕ) → 14 * n + 21 ≤ c → goals_from n p bs ≡ goals_from n p (take c bs)
unfolding goals_from
goals_same zero p c bs h = refl
goals_same (suc n) p c bs h =
    let l : 35 ≤ c = omega arith in
    let v : 14 ≤ c = omega arith in
    let r : goals_from n (p + 14) (drop 14 bs) ≡ goals_from n (p + 14) (drop 14 (take c bs)) =
    goals_same n (p + 14) (c - 14) (drop 14 bs) (omega arith) ∙ ap (goals_from n (p + 14)) (sym (drop_front 14 c bs v)) in
    λ i. cond (empty_front bs c l i) (record { goals = []; fault = None }) (on_goal p (goal_front bs c l i) (r i))

-- The file

closed_same : (file : List ℕ) (c q : ℕ) (a : Draft) → 34691 ≤ c → c < length file → Ended 0 fresh file q a → closed_at file (q, a) ≡ closed_at (take c file) (q, a)
closed_same file c q a k l h =
    go (is_open a.state) refl (goals_same 1025 q (c - q) (drop q file) room ∙ ap (goals_from 1025 q) (sym (drop_front q c file near)))
  where
    near : q ≤ c
    near = let v = h.within in let f = fresh_budget in omega arith

    room : 14 * 1025 + 21 ≤ c - q
    room = let v = h.within in let f = fresh_budget in omega arith

    go : (b : Bool) → is_open a.state ≡ b → goals_from 1025 q (drop q file) ≡ goals_from 1025 q (drop q (take c file)) → closed_at file (q, a) ≡ closed_at (take c file) (q, a)
    go true o e = let w = h.whole o in let v = h.within in let f = fresh_budget in absurd (omega arith)
    go false o e =
        ap (λ b. and_then (unless (not b) (record { place = length file; fault = fault_of.RuleOpen })) (λ _. Ok (with_goals (closing a) q (goals_from 1025 q (drop q file))))) o
        ∙ ap (λ gs. Ok (with_goals (closing a) q gs)) e
        ∙ sym (ap (λ b. and_then (unless (not b) (record { place = length (take c file); fault = fault_of.RuleOpen })) (λ _. Ok (with_goals (closing a) q (goals_from 1025 q (drop q (take c file)))))) o)

front_decides : (file : List ℕ) (c : ℕ) → 34691 ≤ c → reading file ≡ reading (take c file)
front_decides file c k = by_length file c (omega arith) reading (λ l. go l (rules_from (length file) 0 fresh file) refl ∙ ap (λ x. and_then x (closed_at (take c file))) same)
  where
    same : rules_from (length file) 0 fresh file ≡ rules_from (length (take c file)) 0 fresh (take c file)
    same = let f = fresh_budget in rules_same (length file) (length (take c file)) 0 c fresh file (omega arith) (omega arith) (omega arith)

    go : c < length file → (x : Result (ℕ × Draft) At) → rules_from (length file) 0 fresh file ≡ x → and_then x (closed_at file) ≡ and_then x (closed_at (take c file))
    go l (Ok y) e = closed_same file c y.0 y.1 k l (rules_ended (length file) 0 fresh file y.0 y.1 (omega arith) e)
    go l (Err f) e = refl

pub first_bytes_decide : (file : List ℕ) → reading file ≡ reading (first_bytes file)
unfolding first_bytes
first_bytes_decide file = front_decides file 34691 (lit≤ tt)
