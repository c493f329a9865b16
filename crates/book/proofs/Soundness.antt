-- A draft keeps what it keeps of its rules, whatever record it takes.
use Rattle.std.proofs.Common.{◌≡◌, ℕ, suc, ◌-◌, ◌<◌, ◌≤◌, Bool, true, false, cond, ◌&&◌, ltb, leb, List, [], ◌∷◌, ◌++◌, map, length, get_or, take, set, Some, Ok, Err, Result, sym, refl, ap, ◌∙◌, subst, arith, length-set}
use lib.ListN.{length-map}
use Rattle.std.proofs.lemmas.List.{take_at, take-set, drop_all, set_split, get_or_push, get_or-set_same, length_push, take-map}
use Rattle.std.proofs.lemmas.List.Folds.{list_all-append, list_any-append}
use Rattle.std.proofs.lemmas.Bool.{and_parts, and_from, or_left, ltb-true, lt-ltb, le-leb}
use Rattle.std.specs.Option.{ok_or}
use Rattle.facts.specs.Positions.{all, unused_clear}
use Rattle.host.specs.declared.types.Working.{Working}
use Rattle.host.specs.declared.types.Working.TheVariants as working
use Rattle.records.specs.Blanks.{operand_blank}
use Rattle.records.specs.Bytes.{fields}
use Rattle.records.specs.declared.fault.Fault.{Fault}
use Rattle.records.specs.declared.fault.Fault.TheVariants as fault
use Rattle.records.specs.declared.kinds.RecordKind.{RecordKind}
use Rattle.records.specs.declared.kinds.Record.{Record}
use Rattle.records.specs.declared.kinds.Record.TheVariants as record_of
use Rattle.records.specs.declared.parts.Operand.{Operand}
use Rattle.records.specs.declared.parts.Operand.TheVariants.{Constant, Variable}
use Rattle.records.specs.declared.parts.Head.{Head}
use Rattle.records.specs.declared.parts.Guard.{Guard}
use Rattle.book.specs.declared.draft.State.{State}
use Rattle.book.specs.declared.draft.State.TheVariants as state
use Rattle.rules.specs.declared.BodyFact.{BodyFact}
use Rattle.rules.specs.declared.Rule.{Rule as RuleData}
use Rattle.rules.specs.Rules.{Rule, rule_of, any, head_binds, bound, guard_bound, working_bound, fact_bound, parts_bound, headed, closed, head_in_range, small, blank_rule}
use Rattle.rules.specs.Results.{and_then, told, kept_or, unless}
use Rattle.book.specs.Drafts.{Tables, open_rule, with_head, with_guard, with_fact, with_fail, with_end, declaring, declared, body_clear, body_fact, opened, entered, follows, is_open, ended, sound, open_sound, rules_sound}
use Rattle.book.proofs.Cases.{same_ok, ok_then, ok_unless, ok_some, told_ok, told_err}
use Rattle.book.proofs.Records.{kind_of, ranged, Is, fields_is}
use Rattle.book.proofs.States.{fact_kind_follows, begin_follows, head_follows, guard_follows, body_follows, fail_follows, end_follows, goal_follows}

-- Tests over lists

pub all_push : {A : Type 0} (test : A → Bool) (xs : List A) (x : A) → all test xs ≡ true → test x ≡ true → all test (xs ++ x ∷ []) ≡ true
all_push test xs x h k = list_all-append test xs (x ∷ []) ∙ and_from (all test xs) (test x && true) h (and_from (test x) true k refl)

all_weaker : {A : Type 0} (p q : A → Bool) (xs : List A) → ((x : A) → p x ≡ true → q x ≡ true) → all p xs ≡ true → all q xs ≡ true
all_weaker p q [] w h = refl
all_weaker p q (x ∷ xs) w h = let k = and_parts (p x) (all p xs) h in and_from (q x) (all q xs) (w x k.0) (all_weaker p q xs w k.1)

any_longer : {A : Type 0} (test : A → Bool) (xs ys : List A) → any test xs ≡ true → any test (xs ++ ys) ≡ true
any_longer test xs ys h = list_any-append test xs ys ∙ or_left (any test xs) (any test ys) h

-- A head more: what was bound stays bound

module _ (hs : List Head) (h : Head) where
  bound_more : (o : Operand) → bound hs o ≡ true → bound (hs ++ h ∷ []) o ≡ true
  bound_more (Constant n) e = refl
  bound_more (Variable v) e = any_longer (head_binds v) hs (h ∷ []) e

  both_more : (a b : Operand) → (bound hs a && bound hs b) ≡ true → (bound (hs ++ h ∷ []) a && bound (hs ++ h ∷ []) b) ≡ true
  both_more a b e = let p = and_parts (bound hs a) (bound hs b) e in and_from (bound (hs ++ h ∷ []) a) (bound (hs ++ h ∷ []) b) (bound_more a p.0) (bound_more b p.1)

  guard_more : (g : Guard) → guard_bound hs g ≡ true → guard_bound (hs ++ h ∷ []) g ≡ true
  guard_more g e = both_more g.left g.right e

  working_more : (w : Working Operand) → working_bound hs w ≡ true → working_bound (hs ++ h ∷ []) w ≡ true
  working_more (working.Copy a) e = bound_more a e
  working_more (working.Sum a b) e = both_more a b e
  working_more (working.Difference a b) e = both_more a b e

  fact_more : (f : BodyFact) → fact_bound hs f ≡ true → fact_bound (hs ++ h ∷ []) f ≡ true
  fact_more f e = all_weaker (working_bound hs) (working_bound (hs ++ h ∷ [])) f.workings working_more e

  parts_more : (gs : List Guard) (fs : List BodyFact) → (all (guard_bound hs) gs && all (fact_bound hs) fs) ≡ true
      → (all (guard_bound (hs ++ h ∷ [])) gs && all (fact_bound (hs ++ h ∷ [])) fs) ≡ true
  parts_more gs fs e =
      let p = and_parts (all (guard_bound hs) gs) (all (fact_bound hs) fs) e in
      and_from (all (guard_bound (hs ++ h ∷ [])) gs) (all (fact_bound (hs ++ h ∷ [])) fs)
      (all_weaker (guard_bound hs) (guard_bound (hs ++ h ∷ [])) gs guard_more p.0)
      (all_weaker (fact_bound hs) (fact_bound (hs ++ h ∷ [])) fs fact_more p.1)

-- A part put into a rule

abbrev begun : Rule → Bool
begun r = parts_bound r && small r

abbrev well : Rule → Bool
well r = headed r && begun r

abbrev Well : Rule → Type 0
Well r = well r ≡ true

abbrev more : Rule → List Head → List Guard → List BodyFact → Rule
more r hs gs fs = record { heads = hs; guards = gs; facts = fs; fails = r.fails; band = r.band; rank = r.rank }

well_begun : (r : Rule) → Well r → begun r ≡ true
well_begun r k = (and_parts (headed r) (begun r) k).1

well_from : (r : Rule) → headed r ≡ true → all (guard_bound r.heads) r.guards ≡ true → all (fact_bound r.heads) r.facts ≡ true → small r ≡ true → Well r
well_from r h g f s =
    and_from (headed r) (begun r) h
    (and_from (parts_bound r) (small r) (and_from (all (guard_bound r.heads) r.guards) (all (fact_bound r.heads) r.facts) g f) s)

module _ (r q : Rule) where
  abbrev hs : List Head
  hs = r.heads

  begun_parts : begun r ≡ true → (all (guard_bound hs) r.guards ≡ true) × ((all (fact_bound hs) r.facts ≡ true) × (small r ≡ true))
  begun_parts k =
      let w = and_parts (parts_bound r) (small r) k in
      let v = and_parts (all (guard_bound hs) r.guards) (all (fact_bound hs) r.facts) w.0 in
      (v.0, (v.1, w.1))

  head_step : (h : Head) → head_in_range h ≡ true → with_head h r ≡ Ok q → begun r ≡ true → Well q
  head_step h i e k =
      let p = ok_unless (ltb (length hs) 4) fault.TooMany (Ok (more r (hs ++ h ∷ []) r.guards r.facts)) q e in
      let n : 0 < length (hs ++ h ∷ []) = simp length_push (omega arith) in
      let l : length hs < 4 = ltb-true (length hs) 4 p.0 in
      let m : length (hs ++ h ∷ []) ≤ 4 = simp length_push (omega arith) in
      let w = and_parts (parts_bound r) (small r) k in
      let s = and_parts (leb (length hs) 4) (all head_in_range hs) w.1 in
      subst Well (same_ok p.1)
      (and_from (ltb 0 (length (hs ++ h ∷ []))) _ (lt-ltb 0 _ n)
      (and_from (parts_bound (more r (hs ++ h ∷ []) r.guards r.facts)) _ (parts_more hs h r.guards r.facts w.0)
      (and_from (leb (length (hs ++ h ∷ [])) 4) _ (le-leb _ 4 m) (all_push head_in_range hs h s.1 i))))

  guard_step : (g : Guard) → with_guard g r ≡ Ok q → Well r → Well q
  guard_step g e k =
      let grown : Rule = more r hs (r.guards ++ g ∷ []) r.facts in
      let p = ok_unless (guard_bound hs g) fault.Unbound (and_then (unless (ltb (length r.guards) 8) fault.TooMany) (λ _. Ok grown)) q e in
      let n = ok_unless (ltb (length r.guards) 8) fault.TooMany (Ok grown) q p.1 in
      let h = and_parts (headed r) (begun r) k in
      let w = begun_parts h.1 in
      subst Well (same_ok n.1) (well_from grown h.0 (all_push (guard_bound hs) r.guards g w.0 p.0) w.1.0 w.1.1)

  fact_step : (f : BodyFact) → with_fact f r ≡ Ok q → Well r → Well q
  fact_step f e k =
      let grown : Rule = more r hs r.guards (r.facts ++ f ∷ []) in
      let p = ok_unless (fact_bound hs f) fault.Unbound (and_then (unless (ltb (length r.facts) 4) fault.TooMany) (λ _. Ok grown)) q e in
      let n = ok_unless (ltb (length r.facts) 4) fault.TooMany (Ok grown) q p.1 in
      let h = and_parts (headed r) (begun r) k in
      let w = begun_parts h.1 in
      subst Well (same_ok n.1) (well_from grown h.0 w.0 (all_push (fact_bound hs) r.facts f w.1.0 p.0) w.1.1)

  fail_step : with_fail r ≡ Ok q → Well r → Well q
  fail_step e k = subst Well (same_ok e) k

  end_step : (b : ℕ) (o : Operand) → with_end b o r ≡ Ok q → Well r → sound q ≡ true
  end_step b o e k =
      let done : Rule = record { heads = hs; guards = r.guards; facts = r.facts; fails = r.fails; band = b; rank = o } in
      let p = ok_unless (bound hs o) fault.Unbound (Ok done) q e in
      let h = and_parts (headed r) (begun r) k in
      let w = and_parts (parts_bound r) (small r) h.1 in
      subst (λ (q : Rule). sound q ≡ true) (same_ok p.1)
      (and_from (closed done) (small done) (and_from (headed r) _ h.0 (and_from (parts_bound r) _ w.0 p.0)) w.1)

-- The open rule changed in its place

abbrev before : List Rule → List Rule
before rs = take (length rs - 1) rs

abbrev changed : List Rule → Rule → List Rule
changed rs q = set rs (length rs - 1) q

opened_parts : (f : Rule → Result Rule Fault) (a b : Tables) → opened a f ≡ Ok b
    → (q : Rule) × ((0 < length a.rules) × ((f (open_rule a.rules) ≡ Ok q) × (changed a.rules q ≡ b.rules)))
opened_parts f a b e =
    let put : Rule → Result Tables Fault = λ q. Ok (record { kinds = a.kinds; rules = changed a.rules q }) in
    let p = ok_unless (ltb 0 (length a.rules)) fault.MayNotFollow (and_then (f (open_rule a.rules)) put) b e in
    let n = ok_then (f (open_rule a.rules)) put b p.1 in
    (n.0, (ltb-true 0 _ p.0, (n.1.0, ap (λ (t : Tables). t.rules) (same_ok n.1.1))))

module _ (rs : List Rule) (q : Rule) (n : 0 < length rs) where
  before_changed : before (changed rs q) ≡ before rs
  before_changed = ap (λ k. take (k - 1) (changed rs q)) (length-set rs (length rs - 1) q) ∙ take-set rs (length rs - 1) q

  open_changed : open_rule (changed rs q) ≡ q
  open_changed =
      let l : length rs - 1 < length rs = omega arith in
      ap (λ k. get_or (changed rs q) (k - 1) blank_rule) (length-set rs (length rs - 1) q) ∙ get_or-set_same rs (length rs - 1) q blank_rule l

  changed_push : changed rs q ≡ before rs ++ q ∷ []
  changed_push =
      let l : length rs - 1 < length rs = omega arith in
      let m : length rs ≤ suc (length rs - 1) = omega arith in
      set_split rs (length rs - 1) q l ∙ ap (λ ys. before rs ++ q ∷ ys) (drop_all (suc (length rs - 1)) rs m)

module _ (f : Rule → Result Rule Fault) (was : Rule → Bool) (a b : Tables) (e : opened a f ≡ Ok b) (h : (all sound (before a.rules) && was (open_rule a.rules)) ≡ true) where
  change_open : (is : Rule → Bool) → ((r q : Rule) → f r ≡ Ok q → was r ≡ true → is q ≡ true)
      → (all sound (before b.rules) && is (open_rule b.rules)) ≡ true
  change_open is step =
      let p = opened_parts f a b e in
      let k = and_parts (all sound (before a.rules)) (was (open_rule a.rules)) h in
      subst (λ (rs : List Rule). (all sound (before rs) && is (open_rule rs)) ≡ true) p.1.1.1
      (and_from (all sound (before (changed a.rules p.0))) _
      (ap (all sound) (before_changed a.rules p.0 p.1.0) ∙ k.0)
      (ap is (open_changed a.rules p.0 p.1.0) ∙ step _ p.0 p.1.1.0 k.1))

  change_end : ((r q : Rule) → f r ≡ Ok q → was r ≡ true → sound q ≡ true) → (all sound b.rules && true) ≡ true
  change_end step =
      let p = opened_parts f a b e in
      let k = and_parts (all sound (before a.rules)) (was (open_rule a.rules)) h in
      subst (λ (rs : List Rule). (all sound rs && true) ≡ true) p.1.1.1
      (and_from (all sound (changed a.rules p.0)) true
      (ap (all sound) (changed_push a.rules p.0 p.1.0) ∙ all_push sound (before a.rules) p.0 k.0 (step _ p.0 p.1.1.0 k.1))
      refl)

-- Each record

module _ (a b : Tables) where
  abbrev Keeps : State → State → Type 0
  Keeps s t = rules_sound s a.rules ≡ true → rules_sound t b.rules ≡ true

  -- the open rule is well, before and after
  abbrev Stays : Type 0
  Stays = (all sound (before a.rules) && well (open_rule a.rules)) ≡ true → (all sound (before b.rules) && well (open_rule b.rules)) ≡ true

  begin_keeps : entered a record_of.RuleBegins ≡ Ok b → Keeps state.Between state.Begun
  begin_keeps e h =
      let p = ok_unless (ltb (length a.rules) 64) fault.TooMany (Ok (record { kinds = a.kinds; rules = a.rules ++ blank_rule ∷ [] })) b e in
      let k = and_parts (all sound a.rules) true h in
      let m : length (a.rules ++ blank_rule ∷ []) - 1 ≡ length a.rules = simp length_push (omega arith) in
      subst (λ (rs : List Rule). (all sound (before rs) && begun (open_rule rs)) ≡ true) (ap (λ (t : Tables). t.rules) (same_ok p.1))
      (and_from (all sound (before (a.rules ++ blank_rule ∷ []))) _
      (ap (λ i. all sound (take i (a.rules ++ blank_rule ∷ []))) m ∙ ap (all sound) (take_at a.rules (blank_rule ∷ []) _ refl) ∙ k.0)
      (ap (λ i. begun (get_or (a.rules ++ blank_rule ∷ []) i blank_rule)) m ∙ ap begun (get_or_push a.rules blank_rule blank_rule _ refl)))

  pub entered_keeps : (r : Record) (s t : State) → ranged r ≡ true → follows s (kind_of r) ≡ Some t → entered a r ≡ Ok b → Keeps s t
  entered_keeps (record_of.FactKind n k) s t i f e =
      let p = ok_then (declaring a.kinds n k) (λ ks. Ok (record { kinds = ks; rules = a.rules })) b e in
      fact_kind_follows Keeps t s f (λ h. subst (λ (rs : List Rule). (all sound rs && true) ≡ true) (ap (λ (t : Tables). t.rules) (same_ok p.1.1)) h)
  entered_keeps record_of.RuleBegins s t i f e = begin_follows Keeps t s f (begin_keeps e)
  entered_keeps (record_of.Head h) s t i f e =
      let put : Result Tables Fault = opened a (with_head h) in
      let p = ok_then (declared a.kinds h.kind) (λ n. and_then (unless (unused_clear operand_blank n h.operands) fault.UnusedFilled) (λ _. put)) b e in
      let o = ok_unless (unused_clear operand_blank p.0 h.operands) fault.UnusedFilled put b p.1.1 in
      head_follows Keeps t s f
      (λ k. change_open (with_head h) begun a b o.1 k well (λ r q. head_step r q h i))
      (λ k. change_open (with_head h) well a b o.1 k well (λ r q d w. head_step r q h i d (well_begun r w)))
  entered_keeps (record_of.Guard g) s t i f e =
      let c : Stays = λ k. change_open (with_guard g) well a b e k well (λ r q. guard_step r q g) in
      guard_follows Keeps t s f c c
  entered_keeps (record_of.BodyFact d) s t i f e =
      let put : ℕ → Result Tables Fault = λ n. opened a (with_fact (body_fact n d)) in
      let p = ok_then (declared a.kinds d.kind) (λ n. and_then (unless (body_clear n d.workings) fault.UnusedFilled) (λ _. put n)) b e in
      let o = ok_unless (body_clear p.0 d.workings) fault.UnusedFilled (put p.0) b p.1.1 in
      let c : Stays = λ k. change_open (with_fact (body_fact p.0 d)) well a b o.1 k well (λ r q. fact_step r q (body_fact p.0 d)) in
      body_follows Keeps t s f c c c
  entered_keeps record_of.Fail s t i f e =
      let c : Stays = λ k. change_open with_fail well a b e k well fail_step in
      fail_follows Keeps t s f c c
  entered_keeps (record_of.RuleEnds n o) s t i f e =
      let c : (all sound (before a.rules) && well (open_rule a.rules)) ≡ true → (all sound b.rules && true) ≡ true =
      λ k. change_end (with_end n o) well a b e k (λ r q. end_step r q n o) in
      end_follows Keeps t s f c c c c
  entered_keeps (record_of.GoalFact g) s t i f e = goal_follows Keeps t s f

-- A record taken, or refused

-- what a draft keeps, it keeps at a record refused
pub refused_sound : (s : State) (r : Record) (a b : Tables) (d : Fault) → Err d ≡ told (entered a r) → b ≡ kept_or (entered a r) a
    → rules_sound s a.rules ≡ true → rules_sound s b.rules ≡ true
refused_sound s r a b d e k h =
    let same : b ≡ a = k ∙ ap (λ x. kept_or x a) (told_err (entered a r) d e) in
    subst (λ (t : Tables). rules_sound s t.rules ≡ true) (sym same) h

-- and at a record taken
pub taken_sound : (s t : State) (k : RecordKind) (bs : List ℕ) (r : Record) (a b : Tables) (u : Unit {0})
    → Ok t ≡ ok_or (follows s k) fault.MayNotFollow → Ok r ≡ fields k bs → Ok u ≡ told (entered a r) → b ≡ kept_or (entered a r) a
    → rules_sound s a.rules ≡ true → rules_sound t b.rules ≡ true
taken_sound s t k bs r a b u f g e j h =
    let may : follows s k ≡ Some t = ok_some (follows s k) fault.MayNotFollow t (sym f) in
    let is : Is k r = fields_is k bs r (sym g) in
    entered_keeps a b r s t is.1 (ap (follows s) is.0 ∙ may) (told_ok (entered a r) a u (sym e) ∙ ap Ok (sym j)) h

-- what has ended is closed, and small
module _ (s : State) (rs : List Rule) (h : rules_sound s rs ≡ true) where
  ended_sound : all sound (ended s rs) ≡ true
  ended_sound = (and_parts (all sound (ended s rs)) (open_sound s (open_rule rs)) h).0

  pub ended_closed : all closed (ended s rs) ≡ true
  ended_closed = all_weaker sound closed (ended s rs) (λ r k. (and_parts (closed r) (small r) k).0) ended_sound

  pub ended_small : all small (ended s rs) ≡ true
  ended_small = all_weaker sound small (ended s rs) (λ r k. (and_parts (closed r) (small r) k).1) ended_sound

-- the data of the rules that have ended mean the rules that have ended
pub ended_map : (s : State) (rs qs : List RuleData) → qs ≡ cond (is_open s) (take (length rs - 1) rs) rs → map rule_of qs ≡ ended s (map rule_of rs)
ended_map s rs qs e = ap (map rule_of) e ∙ go (is_open s)
  where
    go : (o : Bool) → map rule_of (cond o (take (length rs - 1) rs) rs) ≡ cond o (take (length (map rule_of rs) - 1) (map rule_of rs)) (map rule_of rs)
    go true = sym (ap (λ n. take (n - 1) (map rule_of rs)) (length-map rs rule_of) ∙ take-map rule_of (length rs - 1) rs)
    go false = refl
