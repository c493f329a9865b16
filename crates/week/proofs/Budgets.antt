-- How many bytes of records a draft can take at most: a record taken uses up its size.
use Rattle.std.proofs.Common.{◌≡◌, ℕ, zero, suc, ◌+◌, ◌-◌, ◌*◌, ◌<◌, ◌≤◌, Bool, true, false, cond, ltb, List, [], ◌∷◌, length, get_or, set, is_some, Some, None, Ok, Err, Option, Result, sym, refl, ap, ◌∙◌, subst, arith}
use Rattle.std.proofs.lemmas.List.{length_push, length-set, get_or-set_same}
use Rattle.std.proofs.lemmas.Bool.{ltb-true}
use Rattle.std.specs.Option.{ok_or}
use Rattle.facts.specs.Positions.{unused_clear}
use Rattle.records.specs.Blanks.{operand_blank}
use Rattle.records.specs.Bytes.{begun, fields, size}
use Rattle.records.specs.declared.fault.Fault.{Fault}
use Rattle.records.specs.declared.fault.Fault.TheVariants as fault_of
use Rattle.records.specs.declared.kinds.RecordKind.{RecordKind}
use Rattle.records.specs.declared.kinds.Record.{Record}
use Rattle.records.specs.declared.kinds.Record.TheVariants as record_of
use Rattle.records.specs.declared.parts.Head.{Head}
use Rattle.records.specs.declared.parts.Guard.{Guard}
use Rattle.rules.specs.declared.BodyFact.{BodyFact}
use Rattle.rules.specs.Results.{and_then}
use Rattle.rules.specs.Rules.{Rule, blank_rule, guard_bound, fact_bound}
use Rattle.book.specs.declared.draft.State.{State}
use Rattle.book.specs.declared.draft.State.TheVariants as state
use Rattle.book.specs.Drafts.{Draft, Tables, follows, open_rule, opened, with_head, with_guard, with_fact, with_fail, with_end, declaring, declared, body_clear, body_fact, entered, taking, fresh}
use Rattle.book.proofs.Cases.{same_ok, ok_then, ok_unless, ok_some}
use Rattle.book.proofs.Records.{kind_of, fields_is}
use Rattle.book.proofs.States.{fact_kind_follows, begin_follows, head_follows, guard_follows, body_follows, fail_follows, end_follows, goal_follows}

abbrev undeclared : List (Option ℕ) → ℕ
undeclared [] = 0
undeclared (None ∷ ks) = suc (undeclared ks)
undeclared (Some a ∷ ks) = undeclared ks

-- what the open rule can take: four heads, eight guards, four body facts and its end
abbrev open_budget : State → Rule → ℕ
open_budget state.Between r = 0
open_budget state.Begun r = 315
open_budget state.Heads r = 18 * (4 - length r.heads) + 243
open_budget state.Guards r = 12 * (8 - length r.guards) + 147
open_budget state.Facts r = 35 * (4 - length r.facts) + 7
open_budget state.Failing r = 7

abbrev tables_budget : State → Tables → ℕ
tables_budget s t = 3 * undeclared t.kinds + 316 * (64 - length t.rules) + open_budget s (open_rule t.rules)

abbrev pub budget : Draft → ℕ
budget d = tables_budget d.state d.tables

pub fresh_budget : budget fresh ≡ 20320
fresh_budget = refl

-- A kind declared

declared_uses : (ks : List (Option ℕ)) (k a : ℕ) → k < length ks → is_some (get_or ks k None) ≡ false → undeclared (set ks k (Some a)) + 1 ≡ undeclared ks
declared_uses [] k a l e = absurd (omega arith)
declared_uses (None ∷ ks) zero a l e = omega arith
declared_uses (Some b ∷ ks) zero a l e = absurd cc
declared_uses (None ∷ ks) (suc k) a l e = let h = declared_uses ks k a (omega arith) e in omega arith
declared_uses (Some b ∷ ks) (suc k) a l e = declared_uses ks k a (omega arith) e

declaring_uses : (ks js : List (Option ℕ)) (k a : ℕ) → declaring ks k a ≡ Ok js → undeclared js + 1 ≡ undeclared ks
declaring_uses ks js k a e = go (ltb k (length ks)) refl (is_some (get_or ks k None)) refl e
  where
    go : (b : Bool) → ltb k (length ks) ≡ b → (c : Bool) → is_some (get_or ks k None) ≡ c
        → cond b (cond c (Err fault_of.DeclaredTwice) (Ok (set ks k (Some a)))) (Err fault_of.OutOfRange) ≡ Ok js → undeclared js + 1 ≡ undeclared ks
    go true p true q e = absurd cc
    go true p false q e = ap (λ (xs : List (Option ℕ)). undeclared xs + 1) (sym (same_ok e)) ∙ declared_uses ks k a (ltb-true k (length ks) p) q
    go false p c q e = absurd cc

-- The open rule changed

open_set : (rs : List Rule) (q : Rule) → 0 < length rs → open_rule (set rs (length rs - 1) q) ≡ q
open_set rs q n =
    let l : length rs - 1 < length rs = omega arith in
    ap (λ k. get_or (set rs (length rs - 1) q) (k - 1) blank_rule) (length-set rs (length rs - 1) q) ∙ get_or-set_same rs (length rs - 1) q blank_rule l

change_uses : (f : Rule → Result Rule Fault) (a b : Tables) (s t : State) (n : ℕ) → opened a f ≡ Ok b
    → ((r q : Rule) → f r ≡ Ok q → n + open_budget t q ≤ open_budget s r) → n + tables_budget t b ≤ tables_budget s a
change_uses f a b s t n e u =
    let rs = a.rules in
    let put : Rule → Tables = λ q. record { kinds = a.kinds; rules = set rs (length rs - 1) q } in
    let p = ok_unless (ltb 0 (length rs)) fault_of.MayNotFollow (and_then (f (open_rule rs)) (λ q. Ok (put q))) b e in
    let m = ok_then (f (open_rule rs)) (λ q. Ok (put q)) b p.1 in
    let h = u (open_rule rs) m.0 m.1.0 in
    let o : open_budget t (open_rule (put m.0).rules) ≡ open_budget t m.0 = ap (open_budget t) (open_set rs m.0 (ltb-true 0 (length rs) p.0)) in
    let l = length-set rs (length rs - 1) m.0 in
    subst (λ (x : Tables). n + tables_budget t x ≤ tables_budget s a) (same_ok m.1.1) (omega arith)

module _ (r q : Rule) where
  head_added : (h : Head) → with_head h r ≡ Ok q → (length r.heads < 4) × (length q.heads ≡ length r.heads + 1)
  head_added h e =
      let p = ok_unless (ltb (length r.heads) 4) fault_of.TooMany _ q e in
      (ltb-true (length r.heads) 4 p.0, ap (λ (x : Rule). length x.heads) (sym (same_ok p.1)) ∙ length_push r.heads h)

  guard_added : (g : Guard) → with_guard g r ≡ Ok q → (length r.guards < 8) × (length q.guards ≡ length r.guards + 1)
  guard_added g e =
      let b = ok_unless (guard_bound r.heads g) fault_of.Unbound _ q e in
      let p = ok_unless (ltb (length r.guards) 8) fault_of.TooMany _ q b.1 in
      (ltb-true (length r.guards) 8 p.0, ap (λ (x : Rule). length x.guards) (sym (same_ok p.1)) ∙ length_push r.guards g)

  fact_added : (f : BodyFact) → with_fact f r ≡ Ok q → (length r.facts < 4) × (length q.facts ≡ length r.facts + 1)
  fact_added f e =
      let b = ok_unless (fact_bound r.heads f) fault_of.Unbound _ q e in
      let p = ok_unless (ltb (length r.facts) 4) fault_of.TooMany _ q b.1 in
      (ltb-true (length r.facts) 4 p.0, ap (λ (x : Rule). length x.facts) (sym (same_ok p.1)) ∙ length_push r.facts f)

-- A record entered

module _ (a b : Tables) (s t : State) where
  abbrev Uses : ℕ → State → State → Type 0
  Uses n u v = n + tables_budget v b ≤ tables_budget u a

  entered_uses : (r : Record) → follows s (kind_of r) ≡ Some t → entered a r ≡ Ok b → Uses (size (kind_of r)) s t
  entered_uses (record_of.FactKind n ar) f e =
      let p = ok_then (declaring a.kinds n ar) _ b e in
      let u = declaring_uses a.kinds p.0 n ar p.1.0 in
      fact_kind_follows (Uses 3) t s f (subst (λ (x : Tables). 3 + tables_budget state.Between x ≤ tables_budget state.Between a) (same_ok p.1.1) (omega arith))
  entered_uses record_of.RuleBegins f e =
      let p = ok_unless (ltb (length a.rules) 64) fault_of.TooMany _ b e in
      let l = ltb-true (length a.rules) 64 p.0 in
      let m = length_push a.rules blank_rule in
      begin_follows (Uses 1) t s f (subst (λ (x : Tables). 1 + tables_budget state.Begun x ≤ tables_budget state.Between a) (same_ok p.1) (omega arith))
  entered_uses (record_of.Head h) f e =
      let p = ok_then (declared a.kinds h.kind) _ b e in
      let q = ok_unless (unused_clear operand_blank p.0 h.operands) fault_of.UnusedFilled (opened a (with_head h)) b p.1.1 in
      head_follows (Uses 18) t s f
      (change_uses (with_head h) a b state.Begun state.Heads 18 q.1 (λ r q e. let x = head_added r q h e in omega arith))
      (change_uses (with_head h) a b state.Heads state.Heads 18 q.1 (λ r q e. let x = head_added r q h e in omega arith))
  entered_uses (record_of.Guard g) f e =
      guard_follows (Uses 12) t s f
      (change_uses (with_guard g) a b state.Heads state.Guards 12 e (λ r q e. let x = guard_added r q g e in omega arith))
      (change_uses (with_guard g) a b state.Guards state.Guards 12 e (λ r q e. let x = guard_added r q g e in omega arith))
  entered_uses (record_of.BodyFact w) f e =
      let p = ok_then (declared a.kinds w.kind) _ b e in
      let fact : BodyFact = body_fact p.0 w in
      let q = ok_unless (body_clear p.0 w.workings) fault_of.UnusedFilled (opened a (with_fact fact)) b p.1.1 in
      body_follows (Uses 35) t s f
      (change_uses (with_fact fact) a b state.Heads state.Facts 35 q.1 (λ r q e. let x = fact_added r q fact e in omega arith))
      (change_uses (with_fact fact) a b state.Guards state.Facts 35 q.1 (λ r q e. let x = fact_added r q fact e in omega arith))
      (change_uses (with_fact fact) a b state.Facts state.Facts 35 q.1 (λ r q e. let x = fact_added r q fact e in omega arith))
  entered_uses record_of.Fail f e =
      fail_follows (Uses 1) t s f
      (change_uses with_fail a b state.Heads state.Failing 1 e (λ r q e. omega arith))
      (change_uses with_fail a b state.Guards state.Failing 1 e (λ r q e. omega arith))
  entered_uses (record_of.RuleEnds n o) f e =
      end_follows (Uses 7) t s f
      (change_uses (with_end n o) a b state.Heads state.Between 7 e (λ r q e. omega arith))
      (change_uses (with_end n o) a b state.Guards state.Between 7 e (λ r q e. omega arith))
      (change_uses (with_end n o) a b state.Facts state.Between 7 e (λ r q e. omega arith))
      (change_uses (with_end n o) a b state.Failing state.Between 7 e (λ r q e. omega arith))
  entered_uses (record_of.GoalFact g) f e = goal_follows (Uses 14) t s f

pub taking_uses : (d : Draft) (bs : List ℕ) (k : RecordKind) (a : Draft) → taking d bs ≡ Ok (k, a) → size k + budget a ≤ budget d
taking_uses d bs k a e =
    let p = ok_then (begun bs) _ (k, a) e in
    let q = ok_then (ok_or (follows d.state p.0) fault_of.MayNotFollow) _ (k, a) p.1.1 in
    let r = ok_then (fields p.0 bs) _ (k, a) q.1.1 in
    let s = ok_then (entered d.tables r.0) _ (k, a) r.1.1 in
    let i = (fields_is p.0 bs r.0 r.1.0).0 in
    let f = ok_some (follows d.state p.0) fault_of.MayNotFollow q.0 q.1.0 in
    let u = entered_uses d.tables s.0 d.state q.0 r.0 (ap (follows d.state) i ∙ f) s.1.0 in
    let v : size p.0 + tables_budget q.0 s.0 ≤ budget d = subst (λ (j : RecordKind). size j + tables_budget q.0 s.0 ≤ budget d) i u in
    subst (λ (x : RecordKind × Draft). size x.0 + budget x.1 ≤ budget d) (same_ok s.1.1) v
