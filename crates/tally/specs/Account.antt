-- What holds of every run, whatever calls came before. Assumes nothing.
-- Each call in words:
--     Says s t c u a      in the state t the call c answers a and leaves the state u
--     Told s u t cs xs    one after the other the calls cs are answered xs and lead from t to u
-- The roll read back, from the book's rules and the host's works alone, which each takes first:
--     fired_rule g        the rule of the firing g
--     wrote t g           what it writes in the state t before it
--     took g              the ids that it takes
--     posted t e          the state t with one more record e on its roll
--     replayed es         the state to which the records es lead from the opening
--     brought t e         the facts that come by the record e in the state t before it
--     came_from t es      the facts that come by the records es from the state t on
--     came es             the facts that came by the records es: handed in or written, in order
--     taken es            the ids that the firings among es took, in order
--     Ledger es live      the roll es accounts for the live facts
-- Each record was justified when it was made; t is the state that the records before it leave:
--     Accepted s t f      the hand-in of f is accepted in t, under just that id
--     FiredDue s t g      g is the due instance in t, ties included, and its firing is not refused
--     NonePassedOver s t g  g waits in t, and nothing that waits in t is better
--     as_posted, state_at   posted and replayed with the rules and works of a setup
--     EachHandIn s P es   P of every hand-in on the roll es, in the state that the records before it leave
--     EachFiring s P es   the same of every firing
-- And the calls themselves:
--     handed_in es        the facts handed in by the records es
--     under_id, handed_under   the fact that a hand-in so answered put in, if any
--     accepted_one c a    the fact that the call c handed in, if it is a hand-in and a its id
--     accepted cs xs      the facts that the calls cs, answered xs, handed in
--     Saw s t r           r, the answer of a look in t: where it is final nothing waits; where t is
--                         unfailed and nothing waits, it is final
-- And so:
--     FinalMeansFinal s cs xs   look says final of an unfailed run exactly when no instance waits
--     Kept s cs t xs      the whole promise: the calls cs have led to the state t and were answered xs
--     Performs s t c u a  what the call c does in the state t: it leaves u, answers a, and whatever was
--                         promised of the calls before is promised with this one
use Rattle.std.specs.Prelude.{◌≡◌, ◌+◌, ℕ, suc, false, cond, List, [], ◌∷◌, ◌++◌, length, ℤ, Ok, Err, fold, Result}
use Rattle.std.specs.List.{range_with_len}
use Rattle.facts.specs.declared.Fact.{Fact}
use Rattle.host.specs.declared.types.Cause.{Cause}
use Rattle.host.specs.declared.types.Working.{Working}
use Rattle.rules.specs.Results.{kept_or}
use Rattle.rules.specs.Rules.{Rule}
use Rattle.store.specs.Store.{find}
use Rattle.meaning.specs.declared.answers.Ran.{Ran}
use Rattle.meaning.specs.declared.answers.Sight.{Sight}
use Rattle.meaning.specs.declared.answers.Sight.TheVariants as sight
use Rattle.meaning.specs.declared.answers.Stepped.{Stepped}
use Rattle.meaning.specs.declared.due.Due.{Due}
use Rattle.meaning.specs.declared.refusal.Refusal.{Refusal}
use Rattle.meaning.specs.declared.roll.Entry.{Entry}
use Rattle.meaning.specs.declared.roll.Entry.TheVariants.{HandedIn, Fired}
use Rattle.meaning.specs.declared.roll.Firing.{Firing}
use Rattle.meaning.specs.declared.written.Written.{Written}
use Rattle.meaning.specs.Setup.{Setup, State, opening}
use Rattle.meaning.specs.Words.{In, Different}
use Rattle.meaning.specs.Instances.{ids_of, Waits, IsDue}
use Rattle.meaning.specs.Enumeration.{unbound}
use Rattle.meaning.specs.Firing.{bindings, body_of, taken_ids, taking_off, numbered_from, rule_at, fire, hand_in}
use Rattle.meaning.specs.Calls.{TakesIn, Sees, StepsBy, Runs, Adds, look_answer}
use Rattle.tally.specs.declared.answers.Answer.{Answer}
use Rattle.tally.specs.declared.answers.Answer.TheVariants as answer
use Rattle.tally.specs.declared.calls.Call.{Call}
use Rattle.tally.specs.declared.calls.Call.TheVariants as call
use Rattle.tally.specs.Tally.{after_call, answer_to, tally, answers}

-- Each call in words

module _ {R : Type 0} (s : Setup R) where
  pub data Says (t : State) : Call → State → Answer → Type 0 where
    hands_in : (k : ℕ) (vs : List ℤ) (u : State) (r : Result ℕ Refusal) → TakesIn s t k vs u r → Says t (call.HandIn k vs) u (answer.HandIn r)
    reads : (id : ℕ) → Says t (call.Read id) t (answer.Read (find id t.facts))
    looks : (r : Result Sight Refusal) → Sees s t r → Says t call.Look t (answer.Look r)
    steps : (u : State) (r : Result Stepped Refusal) → StepsBy s t u r → Says t call.Step u (answer.Step r)
    runs : (n : ℕ) (u : State) (r : Ran) → Runs s u t n r.firings r.ending → Adds r.firings t u → Says t (call.Run n) u (answer.Run r)
    fires : (u : State) (held : Result Sight Refusal) (r : Result Stepped Refusal) → Sees s t held → StepsBy s t u r
        → Says t call.ChooseAndFire u (answer.ChooseAndFire held r)
    lays_aside : (held : Result Sight Refusal) → Sees s t held → Says t call.ChooseAndLayAside t (answer.ChooseAndLayAside held)

  pub data Told (u : State) : State → List Call → List Answer → Type 0 where
    all : Told u u [] []
    next : (t v : State) (c : Call) (a : Answer) (cs : List Call) (xs : List Answer) → Says t c v a → Told u v cs xs → Told u t (c ∷ cs) (a ∷ xs)

-- The roll read back

module _ (rules : List Rule) (works : Working ℤ → Result ℤ Cause) where
  abbrev pub fired_rule : Firing → Rule
  fired_rule g = rule_at rules g.rule

  abbrev pub wrote : State → Firing → List Written
  wrote t g =
      cond (fired_rule g).fails []
      (kept_or (body_of works (bindings t.facts (fired_rule g).heads g.ids unbound) (fired_rule g).facts 1) [])

  abbrev pub took : Firing → List ℕ
  took g = taken_ids (fired_rule g).heads g.ids

  abbrev pub posted : State → Entry → State
  posted t (HandedIn f) = record {
    facts = t.facts ++ f ∷ [];
    roll = t.roll ++ HandedIn f ∷ [];
    next = suc f.id;
    failed = t.failed;
  }
  posted t (Fired g) = record {
    facts = taking_off (took g) t.facts ++ numbered_from t.next (wrote t g);
    roll = t.roll ++ Fired (record { rule = g.rule; ids = g.ids }) ∷ [];
    next = t.next + length (wrote t g);
    failed = (fired_rule g).fails;
  }

  abbrev pub replayed : List Entry → State
  replayed es = fold posted opening es

  abbrev pub brought : State → Entry → List Fact
  brought t (HandedIn f) = f ∷ []
  brought t (Fired g) = numbered_from t.next (wrote t g)

  abbrev pub came_from : State → List Entry → List Fact
  came_from t [] = []
  came_from t (e ∷ es) = brought t e ++ came_from (posted t e) es

  abbrev pub came : List Entry → List Fact
  came es = came_from opening es

  abbrev pub taken : List Entry → List ℕ
  taken [] = []
  taken (HandedIn f ∷ es) = taken es
  taken (Fired g ∷ es) = took g ++ taken es

  pub record Ledger (es : List Entry) (live : List Fact) : Type 0 where
    -- no fact is in the store that was neither handed in nor written by a firing
    pub none_strange : (f : Fact) → In f live → In f (came es)
    -- none is missing that no firing took
    pub none_missing : (f : Fact) → In f (came es) → (In f.id (taken es) → ⊥) → In f live
    -- none was taken twice, and none that was taken is in the store
    pub taken_once : Different (taken es)
    pub taken_gone : (f : Fact) → In f live → In f.id (taken es) → ⊥
    -- only what came was taken; what came has the ids 1, 2, 3, .., so that none is used again
    pub taken_came : (i : ℕ) → In i (taken es) → In i (ids_of (came es))
    pub own_ids : Different (ids_of (came es))
    pub in_turn : ids_of (came es) ≡ range_with_len 1 (length (came es))
    -- in one equation, the order included
    pub list : live ≡ taking_off (taken es) (came es)

-- What the calls handed in

abbrev pub handed_in : List Entry → List Fact
handed_in [] = []
handed_in (HandedIn f ∷ es) = f ∷ handed_in es
handed_in (Fired g ∷ es) = handed_in es

abbrev pub under_id : ℕ → List ℤ → Result ℕ Refusal → List Fact
under_id k vs (Ok id) = record { id = id; kind = k; values = vs } ∷ []
under_id k vs (Err r) = []

abbrev pub handed_under : ℕ → List ℤ → Answer → List Fact
handed_under k vs (answer.HandIn r) = under_id k vs r
handed_under k vs (answer.Read f) = []
handed_under k vs (answer.Look r) = []
handed_under k vs (answer.Step r) = []
handed_under k vs (answer.Run r) = []
handed_under k vs (answer.ChooseAndFire h r) = []
handed_under k vs (answer.ChooseAndLayAside h) = []

abbrev pub accepted_one : Call → Answer → List Fact
accepted_one (call.HandIn k vs) a = handed_under k vs a
accepted_one (call.Read id) a = []
accepted_one call.Look a = []
accepted_one call.Step a = []
accepted_one (call.Run n) a = []
accepted_one call.ChooseAndFire a = []
accepted_one call.ChooseAndLayAside a = []

abbrev pub accepted : List Call → List Answer → List Fact
accepted [] xs = []
accepted (c ∷ cs) [] = []
accepted (c ∷ cs) (a ∷ xs) = accepted_one c a ++ accepted cs xs

-- Each record was justified when it was made

module _ {R : Type 0} (s : Setup R) where
  abbrev pub as_posted : State → Entry → State
  as_posted t e = posted s.rules s.works t e

  pub record Accepted (t : State) (f : Fact) : Type 0 where
    pub as_said : hand_in s t f.kind f.values ≡ Ok (as_posted t (HandedIn f))

  pub record FiredDue (t : State) (g : Firing) : Type 0 where
    pub unfailed : t.failed ≡ false
    pub due : Due R
    pub named : g ≡ record { rule = due.rule; ids = due.ids }
    pub is_due : IsDue s t due
    pub fires : fire s t g.rule g.ids ≡ Ok (as_posted t (Fired g))

  pub record NonePassedOver (t : State) (g : Firing) : Type 0 where
    pub rank : R
    pub waits : Waits s t (record { rule = g.rule; ids = g.ids; rank = rank })
    pub none_better : (e : Due R) → Waits s t e → s.better e.rank rank ≡ false

  abbrev pub state_at : List Entry → State
  state_at es = replayed s.rules s.works es

  abbrev pub EachHandIn : (State → Fact → Type 0) → List Entry → Type 0
  EachHandIn P es = (before rest : List Entry) (f : Fact) → es ≡ before ++ HandedIn f ∷ rest → P (state_at before) f

  abbrev pub EachFiring : (State → Firing → Type 0) → List Entry → Type 0
  EachFiring P es = (before rest : List Entry) (g : Firing) → es ≡ before ++ Fired g ∷ rest → P (state_at before) g

  -- Final means final

  pub record Saw (t : State) (r : Result Sight Refusal) : Type 0 where
    pub final : r ≡ Ok sight.Final → (d : Due R) → Waits s t d → ⊥
    pub nothing_else : t.failed ≡ false → ((d : Due R) → Waits s t d → ⊥) → r ≡ Ok sight.Final

  -- of every look that was made, and of every one that could have been made
  pub record FinalMeansFinal (cs : List Call) (xs : List Answer) : Type 0 where
    pub made : (before rest : List Call) (front back : List Answer) (r : Result Sight Refusal) → cs ≡ before ++ call.Look ∷ rest
        → xs ≡ front ++ answer.Look r ∷ back → length front ≡ length before → Saw (tally s before) r
    pub makeable : (before rest : List Call) → cs ≡ before ++ rest → Saw (tally s before) (look_answer s (tally s before))

  -- The whole promise

  pub record Kept (cs : List Call) (t : State) (xs : List Answer) : Type 0 where
    -- the store's list, the roll and every answer are those of the tally, and in words
    pub state : t ≡ tally s cs
    pub answered : xs ≡ answers s cs
    pub told : Told s t opening cs xs
    pub ledger : Ledger s.rules s.works t.roll t.facts
    pub hand_ins : handed_in t.roll ≡ accepted cs xs
    pub hand_ins_accepted : EachHandIn Accepted t.roll
    pub firings_due : EachFiring FiredDue t.roll
    pub none_passed_over : EachFiring NonePassedOver t.roll
    pub final_means_final : FinalMeansFinal cs xs
    pub roll_decides : t ≡ replayed s.rules s.works t.roll

  pub record Performs (t : State) (c : Call) (u : State) (a : Answer) : Type 0 where
    pub after : u ≡ after_call s t c
    pub value : a ≡ answer_to s t c
    pub says : Says s t c u a
    pub carries : (cs : List Call) (xs : List Answer) → Kept cs t xs → Kept (cs ++ c ∷ []) u (xs ++ a ∷ [])
