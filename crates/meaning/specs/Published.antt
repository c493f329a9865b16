-- The priority semantics as published, as a transition system of its own, and a run's moves in it.
-- Assumes nothing.
-- There goal, store and history are a multiset and two sets. Here they are lists: Introduce may take
-- any item of the goal, and what a store or a history holds is said by In, so that no order is looked
-- at. Of the built-in constraints there is only fail, which no transition solves.
--     Constraint          what a goal is made of: a fact without an id, or fail
--     Execution           a state: goal, store of identified facts, history, next id
--     Gains xs x ys       ys has x and the items of xs, and no others
--     Loses xs zs ys      ys has the items of xs that are not in zs, and no others
--     Introduces P c Q    one Introduce: c leaves the goal and is in the store under the next id
--     Introduced P cs Q   one Introduce after the other, of the facts cs in their order
--     head_under σ h      the fact that the head h is under the substitution σ
--     Writes works σ b c  the fact that the body fact b is under σ, by the host's works, is c
--     tuple ks rs n       what the history keeps of an Apply: ids kept, then ids removed, then the rule
--     Applicable ..       the rule r of number n, σ, facts ks kept and facts rs removed meet what Apply
--                         asks of them: the store has them, all different, they are the heads under σ,
--                         the guards hold, and their tuple is not in the history
--     Ready s P x         the goal is empty, something applicable has the tuple x, and nothing
--                         applicable is of better priority; of several that are level each is ready
--     Applies s P x Q     one Apply, with the tuple x: the removed facts leave the store, x is in the
--                         history, and the goal is the body under σ, or fail
--     Moves s P Q         one transition
--     Stuck s P           no transition leaves P
--     tuple_of s f        the tuple of a firing on the roll, by the marks of its rule's heads
--     as_published s t    the state of a run as a state of the semantics
--     Shape s f           the firing f has one id for each head of its rule, and 0 beyond
--     Shaped s t          so has every firing on the roll
--     Turn s t d          what step finds where it goes on to fire: d is due
--     Derives s t x u     one Apply with the tuple x, then the Introduces of its body in file order
--     Follows R           over ranks of the kind R: the moves of a run are transitions, and a run
--                         that is final or has failed has none left
use Rattle.std.specs.Prelude.{◌≡◌, ℕ, suc, Bool, true, false, cond, not, ◌⊎◌, ◌↔◌, List, [], ◌∷◌, ◌++◌, map, length, take, ℤ, Some, None, Ok, Err, Result, ◌≢◌}
use Rattle.facts.specs.Positions.{all}
use Rattle.facts.specs.declared.Fact.{Fact}
use Rattle.host.specs.declared.types.Cause.{Cause}
use Rattle.host.specs.declared.types.Working.{Working}
use Rattle.host.specs.declared.types.Working.TheVariants.{Copy, Sum, Difference}
use Rattle.records.specs.declared.parts.Head.{Head}
use Rattle.records.specs.declared.parts.Operand.{Operand}
use Rattle.rules.specs.declared.BodyFact.{BodyFact}
use Rattle.rules.specs.Rules.{Rule, small}
use Rattle.meaning.specs.declared.due.Due.{Due}
use Rattle.meaning.specs.declared.refusal.Refusal.{Refusal}
use Rattle.meaning.specs.declared.refusal.Refusal.TheVariants as refusal
use Rattle.meaning.specs.declared.refusal.WorkingFault.{WorkingFault}
use Rattle.meaning.specs.declared.roll.Entry.{Entry}
use Rattle.meaning.specs.declared.roll.Entry.TheVariants.{HandedIn, Fired}
use Rattle.meaning.specs.declared.roll.Firing.{Firing}
use Rattle.meaning.specs.declared.written.Written.{Written}
use Rattle.meaning.specs.Setup.{Setup, State, opening}
use Rattle.meaning.specs.Words.{In, All, Both, Different, Numbered}
use Rattle.meaning.specs.Instances.{number, ids_of, padded, Yes}
use Rattle.meaning.specs.Enumeration.{due_of}
use Rattle.meaning.specs.Agreement.{Proper}
use Rattle.meaning.specs.Firing.{filled, rule_at, fire, hand_in}

-- States

pub data Constraint : Type 0 where
  fact : Written → Constraint
  fail : Constraint

pub record Execution : Type 0 where
  pub goal : List Constraint
  pub store : List Fact
  pub history : List (List ℕ)
  pub next : ℕ

-- the fact without its id, and a fact under an id
abbrev pub chr : Fact → Written
chr f = record { kind = f.kind; values = f.values }

abbrev pub identified : ℕ → Written → Fact
identified n c = record { id = n; kind = c.kind; values = c.values }

abbrev pub Gains : {A : Type 0} → List A → A → List A → Type 0
Gains xs x ys = (y : _) → In y ys ↔ (In y xs ⊎ (y ≡ x))

abbrev pub Loses : {A : Type 0} → List A → List A → List A → Type 0
Loses xs zs ys = (y : _) → In y ys ↔ (In y xs × (In y zs → ⊥))

-- Introduce

pub record Introduces (P : Execution) (c : Written) (Q : Execution) : Type 0 where
  pub before : List Constraint
  pub behind : List Constraint
  pub given : P.goal ≡ before ++ fact c ∷ behind
  pub goal : Q.goal ≡ before ++ behind
  pub store : Gains P.store (identified P.next c) Q.store
  pub history : Q.history ≡ P.history
  pub next : Q.next ≡ suc P.next

abbrev pub Introduced : Execution → List Written → Execution → Type 0
Introduced P [] Q = P ≡ Q
Introduced P (c ∷ cs) Q = (M : Execution) × Introduces P c M × Introduced M cs Q

-- Apply

abbrev pub kept : Head → Bool
kept h = not h.taken

abbrev pub removed : Head → Bool
removed h = h.taken

-- the heads that are marked so
abbrev pub heads_that : (Head → Bool) → List Head → List Head
heads_that marked [] = []
heads_that marked (h ∷ hs) = cond (marked h) (h ∷ heads_that marked hs) (heads_that marked hs)

abbrev pub head_under : (ℕ → ℤ) → Head → Written
head_under σ h = record { kind = h.kind; values = map (number σ) h.operands }

abbrev pub working_under : (ℕ → ℤ) → Working Operand → Working ℤ
working_under σ (Copy a) = Copy (number σ a)
working_under σ (Sum a b) = Sum (number σ a) (number σ b)
working_under σ (Difference a b) = Difference (number σ a) (number σ b)

-- the values at the used positions are the host's, and 0 stands beyond
pub record Writes (works : Working ℤ → Result ℤ Cause) (σ : ℕ → ℤ) (b : BodyFact) (c : Written) : Type 0 where
  pub kind : c.kind ≡ b.kind
  pub used : List ℤ
  pub worked : Both (λ w v. works (working_under σ w) ≡ Ok v) (take b.arity b.workings) used
  pub values : c.values ≡ filled used

abbrev pub tuple : List ℕ → List ℕ → ℕ → List ℕ
tuple ks rs n = (ks ++ rs) ++ n ∷ []

module _ {R : Type 0} (s : Setup R) where
  abbrev pub priority : Rule → (ℕ → ℤ) → R
  priority r σ = s.rank r.band (number σ r.rank)

  pub record Applicable (P : Execution) (n : ℕ) (r : Rule) (σ : ℕ → ℤ) (ks rs : List Fact) : Type 0 where
    pub rule : Numbered 1 s.rules n r
    pub stored : All (λ f. In f P.store) (ks ++ rs)
    pub different : Different (ids_of (ks ++ rs))
    pub keeps : map chr ks ≡ map (head_under σ) (heads_that kept r.heads)
    pub removes : map chr rs ≡ map (head_under σ) (heads_that removed r.heads)
    pub guards : All (Yes s σ) r.guards
    pub unfired : In (tuple (ids_of ks) (ids_of rs) n) P.history → ⊥

  pub record Ready (P : Execution) (x : List ℕ) : Type 0 where
    pub number : ℕ
    pub rule : Rule
    pub σ : ℕ → ℤ
    pub keeps : List Fact
    pub removes : List Fact
    pub named : x ≡ tuple (ids_of keeps) (ids_of removes) number
    pub idle : P.goal ≡ []
    pub applicable : Applicable P number rule σ keeps removes
    pub best : (n : ℕ) (r : Rule) (ρ : ℕ → ℤ) (ks rs : List Fact) → Applicable P n r ρ ks rs
        → s.better (priority r ρ) (priority rule σ) ≡ false

  pub record Applies (P : Execution) (x : List ℕ) (Q : Execution) : Type 0 where
    pub ready : Ready P x
    pub body : List Written
    pub worked : ready.rule.fails ≡ false → Both (Writes s.works ready.σ) ready.rule.facts body
    pub goal : Q.goal ≡ cond ready.rule.fails (fail ∷ []) (map fact body)
    pub store : Loses P.store ready.removes Q.store
    pub history : Gains P.history x Q.history
    pub next : Q.next ≡ P.next

  abbrev pub Moves : Execution → Execution → Type 0
  Moves P Q = ((c : Written) × Introduces P c Q) ⊎ ((x : List ℕ) × Applies P x Q)

  abbrev pub Stuck : Execution → Type 0
  Stuck P = (Q : Execution) → Moves P Q → ⊥

-- The state of a run in these terms

-- the items at the heads that are marked so
abbrev pub at_heads : {A : Type 0} → (Head → Bool) → List Head → List A → List A
at_heads marked [] xs = []
at_heads marked (h ∷ hs) [] = []
at_heads marked (h ∷ hs) (x ∷ xs) = cond (marked h) (x ∷ at_heads marked hs xs) (at_heads marked hs xs)

module _ {R : Type 0} (s : Setup R) where
  abbrev pub heads_of : ℕ → List Head
  heads_of n = (rule_at s.rules n).heads

  abbrev pub tuple_of : Firing → List ℕ
  tuple_of f = tuple (at_heads kept (heads_of f.rule) f.ids) (at_heads removed (heads_of f.rule) f.ids) f.rule

  -- the tuples of the firings on a roll
  abbrev pub history_of : List Entry → List (List ℕ)
  history_of [] = []
  history_of (HandedIn f ∷ es) = history_of es
  history_of (Fired f ∷ es) = tuple_of f ∷ history_of es

  abbrev pub as_published : State → Execution
  as_published t = record {
    goal = cond t.failed (fail ∷ []) [];
    store = t.facts;
    history = history_of t.roll;
    next = t.next;
  }

-- The moves of a run are transitions

-- c is put into the goal
abbrev pub asking : Execution → Written → Execution
asking P c = record { goal = P.goal ++ fact c ∷ []; store = P.store; history = P.history; next = P.next }

module _ {R : Type 0} (s : Setup R) where
  pub record Shape (f : Firing) : Type 0 where
    pub heads_ids : List ℕ
    pub long : length heads_ids ≡ length (heads_of s f.rule)
    pub ids : f.ids ≡ padded heads_ids

  abbrev pub Shaped : State → Type 0
  Shaped t = (f : Firing) → In (Fired f) t.roll → Shape f

  pub record Turn (t : State) (d : Due R) : Type 0 where
    pub proper : Proper s t
    pub shaped : Shaped t
    pub unfailed : t.failed ≡ false
    pub due : due_of s t ≡ Some d

  abbrev pub firing_of : Due R → Firing
  firing_of d = record { rule = d.rule; ids = d.ids }

  abbrev pub due_tuple : Due R → List ℕ
  due_tuple d = tuple_of s (firing_of d)

  -- its rule has fail
  abbrev pub failing : Due R → Bool
  failing d = (rule_at s.rules d.rule).fails

  pub record Derives (t : State) (x : List ℕ) (u : State) : Type 0 where
    pub midway : Execution
    pub body : List Written
    pub applies : Applies s (as_published s t) x midway
    pub goal : midway.goal ≡ map fact body
    pub introduced : Introduced midway body (as_published s u)

pub record Follows (R : Type 0) : Type 0 where
  -- a run opens where derivations start
  pub opens : (s : Setup R) → as_published s opening ≡ record { goal = []; store = []; history = []; next = 1 }
  -- a hand-in is one Introduce of what is put into the goal
  pub hands_in : (s : Setup R) (t u : State) (c : Written) → hand_in s t c.kind c.values ≡ Ok u
      → Introduces (asking (as_published s t) c) c (as_published s u)
  -- a firing is one Apply, of best priority, and then one Introduce for each body fact
  pub fires : (s : Setup R) (t u : State) (d : Due R) → Turn s t d → fire s t d.rule d.ids ≡ Ok u
      → failing s d ≡ false → Derives s t (due_tuple s d) u
  -- the firing of a rule with fail is one Apply, after which fail is in the goal
  pub fails : (s : Setup R) (t u : State) (d : Due R) → Turn s t d → fire s t d.rule d.ids ≡ Ok u
      → failing s d ≡ true → Applies s (as_published s t) (due_tuple s d) (as_published s u)
  -- a refused firing is no transition, though Apply is ready: for want of a row or of a place on the
  -- roll Apply could be made, for want of a value in the body it could not
  pub refused : (s : Setup R) (t : State) (d : Due R) (e : Refusal) → Turn s t d → fire s t d.rule d.ids ≡ Err e
      → Ready s (as_published s t) (due_tuple s d)
  pub short : (s : Setup R) (t : State) (d : Due R) (e : Refusal) → Turn s t d → fire s t d.rule d.ids ≡ Err e
      → ((n : ℕ) (f : WorkingFault) → e ≢ refusal.Body n f)
      → (Q : Execution) × Applies s (as_published s t) (due_tuple s d) Q
  pub unworked : (s : Setup R) (t : State) (d : Due R) (n : ℕ) (f : WorkingFault) → Turn s t d
      → fire s t d.rule d.ids ≡ Err (refusal.Body n f) → (Q : Execution) → Applies s (as_published s t) (due_tuple s d) Q → ⊥
  -- where nothing is due, and where the run has failed, no transition is left
  pub final : (s : Setup R) (t : State) → Proper s t → t.failed ≡ false → due_of s t ≡ None → Stuck s (as_published s t)
  pub ended : (s : Setup R) (t : State) → t.failed ≡ true → Stuck s (as_published s t)
  -- the two histories agree
  pub history : (s : Setup R) (t : State) (f : Firing) → all small s.rules ≡ true → Shaped s t → Shape s f
      → In (tuple_of s f) (history_of s t.roll) ↔ In (Fired f) t.roll
  -- what is asked of a roll holds at the opening, and every move keeps it
  pub opens_shaped : (s : Setup R) → Shaped s opening
  pub hands_in_shaped : (s : Setup R) (t u : State) (c : Written) → Shaped s t → hand_in s t c.kind c.values ≡ Ok u → Shaped s u
  pub fires_shaped : (s : Setup R) (t u : State) (d : Due R) → Turn s t d → fire s t d.rule d.ids ≡ Ok u → Shaped s u
