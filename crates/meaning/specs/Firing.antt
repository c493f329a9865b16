-- What a firing and a hand-in do, and when they are refused. Assumes nothing.
-- The bindings that they start from (Env, unbound, agreed, worth) stand at the head of `Enumeration`.
--     bound_to h f e           e with the head h bound to the fact f, if there is one and it agrees
--     bindings live hs is e    e with each head bound to the live fact of its id
--     put e w                  a working with its operands' numbers
--     placed n k r             a cause as the fault of the k-th working of the n-th body fact
--     worked_out works e ws n k   the values of the workings ws of the n-th body fact, the first
--                              of them the k-th, or the first fault
--     filled vs                three values, 0 where a position is unused
--     written works e f n      the n-th body fact f as kind and values, or the first fault
--     body_of works e fs n     the body facts, the first of them the n-th, or the first fault
--     of_rule n r              a fault of the body as the refusal of rule n
--     taken_ids hs is          the ids of the heads that are taken
--     taking_off is fs         the facts without those of the ids is
--     numbered_from n ws       worked-out facts under the ids n, n + 1, ..
--     rule_at rs n             the rule of number n, counted from 1
--     after_firing s t r n is ws  the state after rule r, of number n, was fired with the ids is and
--                              wrote ws: heads taken, then facts added under the next ids
--     body_worked s t r n is   what the firing writes, or its refusal; with fail it writes nothing
--     fire s t n is            the state after the firing of rule n with the ids is, or its refusal:
--                              body, then rows, then roll; a rule with fail wants only the roll
--     used_values s t test a vs   the values at the used positions all pass the test
--     handed s t k vs          a fact under the next id
--     after_hand_in s t k vs   the state with that fact last
--     ok_or s t o r            the value of o, or the refusal r where there is none
--     hand_in s t k vs         the state after a hand-in, the fact last, or its refusal
-- The numbers are read off the facts; that what a firing writes is the body under a substitution that
-- matches its heads is said by `Applies` in `Published`, and of every firing by `Derivation` in `tally`.
-- From the crates below: find and without on facts, and arity_of in a table of kinds; and_then goes
-- on with a value and stops at a refusal, and unless b r is the refusal r unless b holds; positions
-- at or above the arity are unused_clear where they hold 0.
use Rattle.std.specs.Prelude.{ℕ, suc, ◌+◌, ◌-◌, Bool, true, false, cond, List, [], ◌∷◌, ◌++◌, length, take, ℤ, pos, Some, None, Ok, Err, Option, Result, nat_le, nat_lt, slice_index_or}
use Rattle.std.specs.Option.{unwrap_or}
use Rattle.facts.specs.Positions.{all, unused_clear, is_zero}
use Rattle.facts.specs.declared.Fact.{Fact}
use Rattle.host.specs.declared.types.Cause.{Cause}
use Rattle.host.specs.declared.types.Working.{Working}
use Rattle.host.specs.declared.types.Working.TheVariants.{Copy, Sum, Difference}
use Rattle.records.specs.declared.parts.Head.{Head}
use Rattle.records.specs.declared.parts.Operand.{Operand}
use Rattle.rules.specs.declared.BodyFact.{BodyFact}
use Rattle.rules.specs.Rules.{Rule, arity_of, blank_rule}
use Rattle.rules.specs.Results.{and_then, unless}
use Rattle.store.specs.Store.{find, without}
use Rattle.meaning.specs.declared.refusal.Refusal.{Refusal}
use Rattle.meaning.specs.declared.refusal.Refusal.TheVariants as refusal
use Rattle.meaning.specs.declared.refusal.Site.TheVariants as site
use Rattle.meaning.specs.declared.refusal.WorkingFault.{WorkingFault}
use Rattle.meaning.specs.declared.roll.Entry.TheVariants.{HandedIn, Fired}
use Rattle.meaning.specs.declared.written.Written.{Written}
use Rattle.meaning.specs.Setup.{Setup, State}
use Rattle.meaning.specs.Enumeration.{Env, unbound, agreed, worth}

-- The bindings of an instance, from its rule and its ids

abbrev pub bound_to : Head → Option Fact → Env → Env
bound_to h None e = e
bound_to h (Some f) e = unwrap_or (agreed h.operands f.values e) e

abbrev pub bindings : List Fact → List Head → List ℕ → Env → Env
bindings live [] is e = e
bindings live (h ∷ hs) [] e = e
bindings live (h ∷ hs) (i ∷ is) e = bindings live hs is (bound_to h (find i live) e)

-- The body

abbrev pub put : Env → Working Operand → Working ℤ
put e (Copy a) = Copy (worth e a)
put e (Sum a b) = Sum (worth e a) (worth e b)
put e (Difference a b) = Difference (worth e a) (worth e b)

abbrev pub placed : ℕ → ℕ → Result ℤ Cause → Result ℤ WorkingFault
placed n k (Ok v) = Ok v
placed n k (Err c) = Err (record { fact = n; working = k; cause = c })

-- three values, 0 where a position is unused
abbrev pub filled : List ℤ → List ℤ
filled vs = take 3 (vs ++ pos 0 ∷ pos 0 ∷ pos 0 ∷ [])

abbrev pub of_rule : {A : Type 0} → ℕ → Result A WorkingFault → Result A Refusal
of_rule n (Ok x) = Ok x
of_rule n (Err f) = Err (refusal.Body n f)

module _ (works : Working ℤ → Result ℤ Cause) where
  abbrev pub worked_out : Env → List (Working Operand) → ℕ → ℕ → Result (List ℤ) WorkingFault
  worked_out e [] n k = Ok []
  worked_out e (w ∷ ws) n k =
      and_then (placed n k (works (put e w))) (λ v.
      and_then (worked_out e ws n (suc k)) (λ vs.
      Ok (v ∷ vs)))

  abbrev pub written : Env → BodyFact → ℕ → Result Written WorkingFault
  written e f n =
      and_then (worked_out e (take f.arity f.workings) n 1) (λ vs.
      Ok (record { kind = f.kind; values = filled vs }))

  abbrev pub body_of : Env → List BodyFact → ℕ → Result (List Written) WorkingFault
  body_of e [] n = Ok []
  body_of e (f ∷ fs) n =
      and_then (written e f n) (λ w.
      and_then (body_of e fs (suc n)) (λ ws.
      Ok (w ∷ ws)))

-- Taking and writing

abbrev pub taken_ids : List Head → List ℕ → List ℕ
taken_ids [] is = []
taken_ids (h ∷ hs) [] = []
taken_ids (h ∷ hs) (i ∷ is) = cond h.taken (i ∷ taken_ids hs is) (taken_ids hs is)

abbrev pub taking_off : List ℕ → List Fact → List Fact
taking_off [] fs = fs
taking_off (i ∷ is) fs = taking_off is (without i fs)

abbrev pub numbered_from : ℕ → List Written → List Fact
numbered_from n [] = []
numbered_from n (w ∷ ws) = record { id = n; kind = w.kind; values = w.values } ∷ numbered_from (suc n) ws

abbrev pub rule_at : List Rule → ℕ → Rule
rule_at rs n = slice_index_or rs (n - 1) blank_rule

abbrev pub roll_places : ℕ
roll_places = 1024

module _ {R : Type 0} (s : Setup R) (t : State) where
  -- the state after the firing: heads taken, then body facts added under the next ids
  abbrev pub after_firing : Rule → ℕ → List ℕ → List Written → State
  after_firing r n is ws = record {
    facts = taking_off (taken_ids r.heads is) t.facts ++ numbered_from t.next ws;
    roll = t.roll ++ Fired (record { rule = n; ids = is }) ∷ [];
    next = t.next + length ws;
    failed = r.fails;
  }

  abbrev pub body_worked : Rule → ℕ → List ℕ → Result (List Written) Refusal
  body_worked r n is =
      cond r.fails (Ok []) (of_rule n (body_of s.works (bindings t.facts r.heads is unbound) r.facts 1))

  abbrev pub fire : ℕ → List ℕ → Result State Refusal
  fire n is =
      let r = rule_at s.rules n in
      and_then (body_worked r n is) (λ ws.
      and_then (unless (nat_le (length ws) (s.rows - length t.facts + length (taken_ids r.heads is))) (refusal.NoRow (site.Rule n))) (λ _.
      and_then (unless (nat_lt (length t.roll) roll_places) (refusal.RollFull (site.Rule n))) (λ _.
      Ok (after_firing r n is ws))))

  -- Hand-ins

  abbrev pub used_values : (ℤ → Bool) → ℕ → List ℤ → Bool
  used_values test a vs = all test (take a vs)

  -- the fact goes last, under the next id
  abbrev pub handed : ℕ → List ℤ → Fact
  handed k vs = record { id = t.next; kind = k; values = vs }

  abbrev pub after_hand_in : ℕ → List ℤ → State
  after_hand_in k vs = record {
    facts = t.facts ++ handed k vs ∷ [];
    roll = t.roll ++ HandedIn (handed k vs) ∷ [];
    next = suc t.next;
    failed = t.failed;
  }

  abbrev pub ok_or : {A : Type 0} → Option A → Refusal → Result A Refusal
  ok_or None r = Err r
  ok_or (Some x) r = Ok x

  abbrev pub hand_in : ℕ → List ℤ → Result State Refusal
  hand_in k vs =
      and_then (unless (cond t.failed false true) refusal.Failed) (λ _.
      and_then (unless (nat_lt k 32) refusal.OutOfRange) (λ _.
      and_then (ok_or (arity_of s.kinds k) refusal.NotDeclared) (λ a.
      and_then (unless (unused_clear is_zero a vs) refusal.UnusedFilled) (λ _.
      and_then (unless (used_values s.value a vs) refusal.NotAValue) (λ _.
      and_then (unless (nat_lt (length t.facts) s.rows) (refusal.NoRow site.HandIn)) (λ _.
      and_then (unless (nat_lt (length t.roll) roll_places) (refusal.RollFull site.HandIn)) (λ _.
      Ok (after_hand_in k vs))))))))
