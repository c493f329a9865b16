-- What each call answers and leaves. Assumes nothing.
-- As functions of the state:
--     fired_or_failed u                what is answered of a firing that has led to u
--     hand_in_answer, hand_in_after    the new fact's id, or the refusal; the state then
--     sighted s t o                    what is seen of the due instance o, if there is one
--     look_answer                      final, or the due instance with the refusal of its firing
--     firing_answer, firing_after      what comes of firing the due instance o, if there is one
--     step_answer, step_after          fired, failed or final, or the refusal; the state then
--     Course                           a state, firings made, and an ending
--     course s n t                     run with n, as its steps: the state it leaves, the firings it
--                                      made, a failing one counted, and how it ended
--     one_more, onward                 a course with a firing before it, or stopped by a step's answer
--     run_answer, run_after            firings and ending of the course, and its state
-- In words:
--     Fires s t u failed               the due instance is fired into the state u
--     Rests s t u                      nothing waits, and u is t
--     Refuses s t u r                  the run has failed, or the due instance is refused; u is t
--     RefusesBy s t u r                the same, with the number of the refusal (ByNumber)
--     HandsIn s t k vs u r             a hand-in answers r and leaves the state u
--     TakesIn s t k vs u r             accepted under the next id (Accepts), or refused by the number of
--                                      the first cause that holds (TurnsAway), and u is t
--     rows_for s t n is                how many facts the firing of rule n with the ids is may write
--     TurnsDown s t n is x             that firing is refused, and x are the numbers of the refusal
--     Sees s t r                       final and nothing waits (SeesFinal); or the due instance, with the
--                                      refusal of its firing if any (SeesDue); or, on a failed run, the
--                                      refusal of every call on one (SeesFailed)
--     Steps s t u r                    on a failed run refused; else final and nothing waits, or the
--                                      due instance was fired, or is refused and the state is as it was
--     StepsBy s t u r                  the same, with the number of the refusal
--     StepsTo s t u r                  a step answers r and leaves the state u, both ways
--     Runs s u t n k e                 k firings of due instances, one after the other, at most n, lead
--                                      from t to u, the state left, and then it ended so
--     Adds k t u                       u has k firings more on its roll than t, and no other entry
--     LooksTo, RunsTo                  what the call answers and leaves, as a function and in words
-- The due instance as a function, due_of, is that of `Instances`: `due_agrees` says so.
use Rattle.std.specs.Prelude.{◌≡◌, ℕ, zero, suc, ◌+◌, ◌-◌, ◌<◌, ◌≤◌, Bool, true, false, cond, List, ◌++◌, map, length, ℤ, Some, None, Ok, Err, Option, Result}
use Rattle.std.specs.Result.{result_err}
use Rattle.facts.specs.Positions.{unused_clear, is_zero}
use Rattle.host.specs.Causes.{cause_number}
use Rattle.rules.specs.Results.{and_then, kept_or}
use Rattle.rules.specs.Rules.{arity_of}
use Rattle.meaning.specs.declared.answers.Ending.{Ending}
use Rattle.meaning.specs.declared.answers.Ending.TheVariants as ending
use Rattle.meaning.specs.declared.answers.Ran.{Ran}
use Rattle.meaning.specs.declared.answers.Sight.{Sight}
use Rattle.meaning.specs.declared.answers.Sight.TheVariants as sight
use Rattle.meaning.specs.declared.answers.Stepped.{Stepped}
use Rattle.meaning.specs.declared.answers.Stepped.TheVariants as stepped
use Rattle.meaning.specs.declared.due.Due.{Due}
use Rattle.meaning.specs.declared.refusal.Numbers.{Numbers}
use Rattle.meaning.specs.declared.refusal.Refusal.{Refusal}
use Rattle.meaning.specs.declared.refusal.Refusal.TheVariants as refusal
use Rattle.meaning.specs.declared.refusal.WorkingFault.{WorkingFault}
use Rattle.meaning.specs.declared.roll.Entry.TheVariants.{Fired}
use Rattle.meaning.specs.declared.roll.Firing.{Firing}
use Rattle.meaning.specs.declared.written.Written.{Written}
use Rattle.meaning.specs.Setup.{Setup, State}
use Rattle.meaning.specs.Instances.{Waits, IsDue}
use Rattle.meaning.specs.Enumeration.{due_of}
use Rattle.meaning.specs.Firing.{taken_ids, rule_at, roll_places, used_values, after_hand_in, body_worked, fire, hand_in}
use Rattle.meaning.specs.Refusals.{number_at, plain_number, refusal_numbers}

abbrev pub fired_or_failed : State → Stepped
fired_or_failed u = cond u.failed stepped.Failed stepped.Fired

pub record SeesFailed (t : State) (r : Refusal) : Type 0 where
  pub failed : t.failed ≡ true
  pub number : refusal_numbers r ≡ plain_number 1

pub record Course : Type 0 where
  pub state : State
  pub firings : ℕ
  pub ending : Ending

abbrev pub one_more : Course → Course
one_more c = record { state = c.state; firings = suc c.firings; ending = c.ending }

-- a step was answered so and left u, and from there the course would go on so
abbrev pub onward : Result Stepped Refusal → State → Course → Course
onward (Ok stepped.Fired) u c = one_more c
onward (Ok stepped.Failed) u c = record { state = u; firings = 1; ending = ending.Failed }
onward (Ok stepped.Final) u c = record { state = u; firings = 0; ending = ending.Final }
onward (Err r) u c = record { state = u; firings = 0; ending = ending.Refused r }

pub record Adds (k : ℕ) (t u : State) : Type 0 where
  pub firings : List Firing
  pub counted : length firings ≡ k
  pub roll : u.roll ≡ t.roll ++ map Fired firings

module _ {R : Type 0} where
  -- how many facts the firing of rule n with the ids is may write
  abbrev pub rows_for : Setup R → State → ℕ → List ℕ → ℕ
  rows_for s t n is = s.rows - length t.facts + length (taken_ids (rule_at s.rules n).heads is)

  -- Hand-in

  abbrev pub hand_in_answer : Setup R → State → ℕ → List ℤ → Result ℕ Refusal
  hand_in_answer s t k vs = and_then (hand_in s t k vs) (λ u. Ok t.next)

  abbrev pub hand_in_after : Setup R → State → ℕ → List ℤ → State
  hand_in_after s t k vs = kept_or (hand_in s t k vs) t

  -- accepted: the fact goes last, under the next id
  pub record Accepts (s : Setup R) (t : State) (k : ℕ) (vs : List ℤ) (u : State) (id : ℕ) : Type 0 where
    pub unfailed : t.failed ≡ false
    pub in_range : k < 32
    pub arity : ℕ
    pub declared : arity_of s.kinds k ≡ Some arity
    pub unused : unused_clear is_zero arity vs ≡ true
    pub used : used_values s t s.value arity vs ≡ true
    pub row : length t.facts < s.rows
    pub place : length t.roll < roll_places
    pub next : id ≡ t.next
    pub after : u ≡ after_hand_in s t k vs

  -- the refusals of a hand-in by their numbers: the first cause that holds decides
  pub data TurnsAway (s : Setup R) (t : State) (k : ℕ) (vs : List ℤ) : Numbers → Type 0 where
    failed : t.failed ≡ true → TurnsAway s t k vs (plain_number 1)
    out_of_range : t.failed ≡ false → 32 ≤ k → TurnsAway s t k vs (plain_number 5)
    not_declared : t.failed ≡ false → k < 32 → arity_of s.kinds k ≡ None → TurnsAway s t k vs (plain_number 7)
    unused_filled : t.failed ≡ false → k < 32 → (a : ℕ) → arity_of s.kinds k ≡ Some a → unused_clear is_zero a vs ≡ false
        → TurnsAway s t k vs (plain_number 8)
    not_a_value : t.failed ≡ false → k < 32 → (a : ℕ) → arity_of s.kinds k ≡ Some a → unused_clear is_zero a vs ≡ true
        → used_values s t s.value a vs ≡ false → TurnsAway s t k vs (plain_number 12)
    no_row : t.failed ≡ false → k < 32 → (a : ℕ) → arity_of s.kinds k ≡ Some a → unused_clear is_zero a vs ≡ true
        → used_values s t s.value a vs ≡ true → s.rows ≤ length t.facts → TurnsAway s t k vs (plain_number 14)
    roll_full : t.failed ≡ false → k < 32 → (a : ℕ) → arity_of s.kinds k ≡ Some a → unused_clear is_zero a vs ≡ true
        → used_values s t s.value a vs ≡ true → length t.facts < s.rows → roll_places ≤ length t.roll
        → TurnsAway s t k vs (plain_number 15)

  abbrev pub TakesIn : Setup R → State → ℕ → List ℤ → State → Result ℕ Refusal → Type 0
  TakesIn s t k vs u (Ok id) = Accepts s t k vs u id
  TakesIn s t k vs u (Err r) = TurnsAway s t k vs (refusal_numbers r) × (u ≡ t)

  pub record HandsIn (s : Setup R) (t : State) (k : ℕ) (vs : List ℤ) (u : State) (r : Result ℕ Refusal) : Type 0 where
    pub value : r ≡ hand_in_answer s t k vs
    pub after : u ≡ hand_in_after s t k vs

  -- the refusals of a firing by their numbers: body, then rows, then roll
  pub data TurnsDown (s : Setup R) (t : State) (n : ℕ) (is : List ℕ) : Numbers → Type 0 where
    body : (f : WorkingFault) → body_worked s t (rule_at s.rules n) n is ≡ Err (refusal.Body n f)
        → TurnsDown s t n is (record { number = 13; rule = n; fact = f.fact; working = f.working; cause = cause_number f.cause })
    no_row : (ws : List Written) → body_worked s t (rule_at s.rules n) n is ≡ Ok ws → rows_for s t n is < length ws
        → TurnsDown s t n is (number_at 14 n)
    roll_full : (ws : List Written) → body_worked s t (rule_at s.rules n) n is ≡ Ok ws → length ws ≤ rows_for s t n is
        → roll_places ≤ length t.roll → TurnsDown s t n is (number_at 15 n)

  -- Look

  abbrev pub sighted : Setup R → State → Option (Due R) → Sight
  sighted s t None = sight.Final
  sighted s t (Some d) = sight.Due d.rule d.ids (result_err (fire s t d.rule d.ids))

  abbrev pub look_answer : Setup R → State → Result Sight Refusal
  look_answer s t = cond t.failed (Err refusal.Failed) (Ok (sighted s t (due_of s t)))

  pub record SeesFinal (s : Setup R) (t : State) : Type 0 where
    pub unfailed : t.failed ≡ false
    pub none : (d : Due R) → Waits s t d → ⊥

  pub record SeesDue (s : Setup R) (t : State) (n : ℕ) (is : List ℕ) (r : Option Refusal) : Type 0 where
    pub unfailed : t.failed ≡ false
    pub due : Due R
    pub rule : n ≡ due.rule
    pub ids : is ≡ due.ids
    pub is_due : IsDue s t due
    pub refused : r ≡ result_err (fire s t n is)
    pub by_number : (e : Refusal) → r ≡ Some e → TurnsDown s t n is (refusal_numbers e)

  abbrev pub Sees : Setup R → State → Result Sight Refusal → Type 0
  Sees s t (Err r) = SeesFailed t r
  Sees s t (Ok sight.Final) = SeesFinal s t
  Sees s t (Ok (sight.Due n is r)) = SeesDue s t n is r

  pub record LooksTo (s : Setup R) (t : State) (r : Result Sight Refusal) : Type 0 where
    pub value : r ≡ look_answer s t
    pub sees : Sees s t r

  -- Step

  abbrev pub firing_answer : Setup R → State → Option (Due R) → Result Stepped Refusal
  firing_answer s t None = Ok stepped.Final
  firing_answer s t (Some d) = and_then (fire s t d.rule d.ids) (λ u. Ok (fired_or_failed u))

  abbrev pub firing_after : Setup R → State → Option (Due R) → State
  firing_after s t None = t
  firing_after s t (Some d) = kept_or (fire s t d.rule d.ids) t

  abbrev pub step_answer : Setup R → State → Result Stepped Refusal
  step_answer s t = cond t.failed (Err refusal.Failed) (firing_answer s t (due_of s t))

  abbrev pub step_after : Setup R → State → State
  step_after s t = cond t.failed t (firing_after s t (due_of s t))

  -- The due instance is fired into the state u
  pub record Fires (s : Setup R) (t u : State) (failed : Bool) : Type 0 where
    pub live : t.failed ≡ false
    pub due : Due R
    pub is_due : IsDue s t due
    pub fires : fire s t due.rule due.ids ≡ Ok u
    pub fails : u.failed ≡ failed

  -- Nothing waits
  pub record Rests (s : Setup R) (t u : State) : Type 0 where
    pub live : t.failed ≡ false
    pub none : (d : Due R) → Waits s t d → ⊥
    pub same : u ≡ t

  -- The run has failed, or the due instance is refused; nothing is changed
  pub data Refuses (s : Setup R) (t u : State) (r : Refusal) : Type 0 where
    over : t.failed ≡ true → r ≡ refusal.Failed → u ≡ t → Refuses s t u r
    stays : t.failed ≡ false → (d : Due R) → IsDue s t d → fire s t d.rule d.ids ≡ Err r → u ≡ t → Refuses s t u r

  abbrev pub Steps : Setup R → State → State → Result Stepped Refusal → Type 0
  Steps s t u (Ok stepped.Fired) = Fires s t u false
  Steps s t u (Ok stepped.Failed) = Fires s t u true
  Steps s t u (Ok stepped.Final) = Rests s t u
  Steps s t u (Err r) = Refuses s t u r

  pub record StepsTo (s : Setup R) (t u : State) (r : Result Stepped Refusal) : Type 0 where
    pub value : r ≡ step_answer s t
    pub after : u ≡ step_after s t
    pub steps : Steps s t u r

  -- The same with the number of the refusal: 1 on a failed run, else that of the firing
  pub data ByNumber (s : Setup R) (t : State) (r : Refusal) : Type 0 where
    over : t.failed ≡ true → refusal_numbers r ≡ plain_number 1 → ByNumber s t r
    stays : t.failed ≡ false → (d : Due R) → IsDue s t d → TurnsDown s t d.rule d.ids (refusal_numbers r) → ByNumber s t r

  pub record RefusesBy (s : Setup R) (t u : State) (r : Refusal) : Type 0 where
    pub refuses : Refuses s t u r
    pub number : ByNumber s t r

  abbrev pub StepsBy : Setup R → State → State → Result Stepped Refusal → Type 0
  StepsBy s t u (Ok stepped.Fired) = Fires s t u false
  StepsBy s t u (Ok stepped.Failed) = Fires s t u true
  StepsBy s t u (Ok stepped.Final) = Rests s t u
  StepsBy s t u (Err r) = RefusesBy s t u r

  -- Run with n

  abbrev pub course : Setup R → ℕ → State → Course
  course s zero t = record { state = t; firings = 0; ending = ending.Count }
  course s (suc n) t = onward (step_answer s t) (step_after s t) (course s n (step_after s t))

  abbrev pub run_answer : Setup R → State → ℕ → Ran
  run_answer s t n = record { firings = (course s n t).firings; ending = (course s n t).ending }

  abbrev pub run_after : Setup R → State → ℕ → State
  run_after s t n = (course s n t).state

  pub data Runs (s : Setup R) (u : State) : State → ℕ → ℕ → Ending → Type 0 where
    counts : (t : State) → u ≡ t → Runs s u t 0 0 ending.Count
    fires : (t v : State) (n k : ℕ) (e : Ending) → Fires s t v false → Runs s u v n k e → Runs s u t (suc n) (suc k) e
    fails : (t : State) (n : ℕ) → Fires s t u true → Runs s u t (suc n) 1 ending.Failed
    rests : (t : State) (n : ℕ) → Rests s t u → Runs s u t (suc n) 0 ending.Final
    refuses : (t : State) (n : ℕ) (r : Refusal) → RefusesBy s t u r → Runs s u t (suc n) 0 (ending.Refused r)

  pub record RunsTo (s : Setup R) (t : State) (n : ℕ) (u : State) (r : Ran) : Type 0 where
    pub value : r ≡ run_answer s t n
    pub after : u ≡ run_after s t n
    pub runs : Runs s u t n r.firings r.ending
    pub adds : Adds r.firings t u
