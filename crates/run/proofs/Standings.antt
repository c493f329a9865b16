-- What a run stands on gives what the tally asks for: lawful ranks, a closed book, rising ids. So each
-- call does what the tally says if it answers and leaves what its function says.
use Rattle.std.proofs.Common.{◌≡◌, ℕ, ◌+◌, ◌≤◌, Bool, true, false, List, [], ◌∷◌, ◌++◌, ℤ, Result, Some, Option, sym, refl, ap, ◌∙◌, subst, arith}
use Rattle.host.specs.declared.host.Host.{Ghosts as HostMeaning}
use Rattle.order.specs.declared.order.Order.{Ghosts as OrderMeaning}
use Rattle.store.specs.declared.Store.{Ghosts as StoreMeaning}
use Rattle.store.specs.Store.{find, Above, Added, Rising}
use Rattle.store.specs.Rises.{above_higher, above_push}
use Rattle.book.specs.Books.{Book}
use Rattle.matching.specs.Parts.{Ready}
use Rattle.meaning.specs.Setup.{Setup, State, Lawful, opening}
use Rattle.facts.specs.declared.Fact.{Fact}
use Rattle.meaning.specs.declared.answers.Ran.{Ran}
use Rattle.meaning.specs.declared.answers.Sight.{Sight}
use Rattle.meaning.specs.declared.answers.Stepped.{Stepped}
use Rattle.meaning.specs.declared.due.Due.{Due}
use Rattle.meaning.specs.declared.refusal.Refusal.{Refusal}
use Rattle.meaning.specs.declared.roll.Firing.{Firing}
use Rattle.meaning.specs.Calls.{look_answer, step_answer, step_after, run_answer, run_after, HandsIn, LooksTo, StepsTo, RunsTo}
use Rattle.meaning.specs.Enumeration.{due_of}
use Rattle.tally.specs.declared.answers.Answer.TheVariants as answer
use Rattle.tally.specs.declared.calls.Call.TheVariants as call
use Rattle.tally.proofs.Steps.{looks_as_said, steps_as_said, runs_as_said}
use Rattle.run.specs.Clearing.{Fireable}
use Rattle.run.proofs.Stepping.{firing_of, due_fireable}
use Rattle.tally.specs.declared.answers.Answer.{Answer}
use Rattle.tally.specs.declared.calls.Call.{Call}
use Rattle.tally.specs.Tally.{after_call, answer_to}
use Rattle.tally.proofs.Orderly.{Fit, Orderly}
use Rattle.tally.specs.Account.{Kept, Performs}
use Rattle.tally.specs.Derivation.{Derivation}
use Rattle.tally.proofs.Derivations.{derivation_always}
use Rattle.tally.proofs.Keeping.{performs, kept_opening}
use Rattle.run.specs.declared.run.Run.{Run}
use Rattle.run.specs.Runs.{setting_on, setup, state, Standing, Stands, Does}

-- the laws of the store and of the order of a run
pub record Laws {S O K : Type 0} (st : StoreMeaning S) (or : OrderMeaning O K) : Type 0 where
  pub rising : (s : S) → st.sound s → Rising (st.live s)
  pub never : (o : O) (a : K) → or.better o a a ≡ false
  pub chains : (o : O) (a b c : K) → or.better o a b ≡ true → or.better o b c ≡ true → or.better o a c ≡ true
  pub level : (o : O) (a b c : K) → or.better o a b ≡ false → or.better o b a ≡ false → (or.better o c a ≡ or.better o c b) × (or.better o a c ≡ or.better o b c)

module _ {S H O K : Type 0} (st : StoreMeaning S) (ho : HostMeaning H) (or : OrderMeaning O K) where
  abbrev with_rows : Book → H → O → ℕ → Setup K
  with_rows b h o n = record {
    kinds = b.kinds;
    rules = b.rules;
    rows = n;
    value = ho.value h;
    says = ho.says h;
    works = ho.works h;
    rank = or.rank o;
    better = or.better o;
  }

  -- a setup with as many rows
  pub same_rows : (b : Book) (s s' : S) (h : H) (o : O) → st.rows s' ≡ st.rows s → setting_on st ho or b s' h o ≡ setting_on st ho or b s h o
  same_rows b s s' h o e = ap (with_rows b h o) e

  -- what a search may rely on
  pub ready_of : (r : Run S H O K st ho or) → Standing st r → Ready st r.store
  ready_of r a =
      let small : r.next ≤ 4294967295 = omega (arith, r.counted, r.few) in
      record { kept = a.kept; spare = above_higher (st.live r.store) r.next 4294967295 small a.below }

  -- what is shown of a run that stands is shown
  pub does_standing : (r : Run S H O K st ho or) (c : Call) (q : Run S H O K st ho or) (a : Answer) → setup st ho or q ≡ setup st ho or r
      → (Standing st r → Does st ho or r c q a) → Does st ho or r c q a
  does_standing r c q a same d = record {
    same = same;
    standing = λ b. (d b).standing b;
    performs = λ b. (d b).performs b;
    carries = λ b s h o cs xs p. (d p.standing).carries b s h o cs xs p;
  }

lawful : {S O K : Type 0} {st : StoreMeaning S} {or : OrderMeaning O K} → Laws st or → (o : O) → Lawful (or.better o)
lawful laws o = record { never = laws.never o; chains = laws.chains o; level = laws.level o }

-- a fact added under the next id is below the one after it
pub above_added : (fs gs : List Fact) (f : Fact) (rows : ℕ) (ok : Bool) → Added f fs rows ok gs → Above f.id fs → Above (f.id + 1) gs
above_added fs gs f rows true a h =
    subst (Above (f.id + 1)) (sym a.live) (above_push fs f (f.id + 1) (above_higher fs f.id (f.id + 1) (omega arith) h) (omega arith))
above_added fs gs f rows false a h = subst (Above (f.id + 1)) (sym a.live) (above_higher fs f.id (f.id + 1) (omega arith) h)

module _ {S H O K : Type 0} {st : StoreMeaning S} {ho : HostMeaning H} {or : OrderMeaning O K} (laws : Laws st or) where
  fit : (r : Run S H O K st ho or) → Fit (setup st ho or r)
  fit r = record { ranks = lawful laws r.order; bound = r.book.closed; sizes = r.book.small }

  orderly : (r : Run S H O K st ho or) → Standing st r → Orderly (state st r)
  orderly r a = record { rising = laws.rising r.store a.kept; below = a.below }

  module _ (r : Run S H O K st ho or) (c : Call) (q : Run S H O K st ho or) (a : Answer)
      (same : setup st ho or q ≡ setup st ho or r) (standing : Standing st r → Standing st q) where
    -- a call carries on what was promised of the calls before
    carried : (Standing st r → Performs (setup st ho or r) (state st r) c (state st q) a)
        → (b : Book) (s : S) (h : H) (o : O) (cs : List Call) (xs : List Answer)
        → Stands st ho or b s h o cs r xs → Stands st ho or b s h o (cs ++ c ∷ []) q (xs ++ a ∷ [])
    carried performed b s h o cs xs p =
        let kept = (subst (λ x. Performs x (state st r) c (state st q) a) p.same (performed p.standing)).carries cs xs p.kept in
        record {
          same = same ∙ p.same;
          standing = standing p.standing;
          kept = kept;
          derived = subst (Derivation (setting_on st ho or b s h o)) (sym kept.state) (derivation_always (subst Fit p.same (fit r)) (cs ++ c ∷ []));
        }

    pub does : (Standing st r → (state st q ≡ after_call (setup st ho or r) (state st r) c) × (a ≡ answer_to (setup st ho or r) (state st r) c)) → Does st ho or r c q a
    does as_said =
        let performed = λ (b : Standing st r). performs (fit r) (orderly r b) (as_said b).0 (as_said b).1 in
        record { same = same; standing = standing; performs = performed; carries = carried performed }

  pub opens : (b : Book) (s : S) (h : H) (o : O) (r : Run S H O K st ho or)
      → setup st ho or r ≡ setting_on st ho or b s h o → state st r ≡ opening → Standing st r → Stands st ho or b s h o [] r []
  opens b s h o r made empty standing =
      let fits = subst Fit made (fit r) in
      record {
        same = made;
        standing = standing;
        kept = subst (λ t. Kept (setting_on st ho or b s h o) [] t []) (sym empty) (kept_opening fits);
        derived = subst (Derivation (setting_on st ho or b s h o)) (sym empty) (derivation_always fits []);
      }

  -- Each call from what its function says

  module _ (r : Run S H O K st ho or) where
    pub does_read : (id : ℕ) (x : Option Fact) → (Standing st r → x ≡ find id (st.live r.store)) → Does st ho or r (call.Read id) r (answer.Read x)
    does_read id x e = does r (call.Read id) r (answer.Read x) refl (λ b. b) (λ b. (refl, ap answer.Read (e b)))

    pub does_look : (x : Result Sight Refusal) → (Standing st r → LooksTo (setup st ho or r) (state st r) x) → Does st ho or r call.Look r (answer.Look x)
    does_look x h = does r call.Look r (answer.Look x) refl (λ b. b) (λ b. (refl, ap answer.Look (h b).value))

    pub does_lay_aside : (x : Result Sight Refusal) → x ≡ look_answer (setup st ho or r) (state st r) → Does st ho or r call.ChooseAndLayAside r (answer.ChooseAndLayAside x)
    does_lay_aside x e = does r call.ChooseAndLayAside r (answer.ChooseAndLayAside x) refl (λ b. b) (λ b. (refl, ap answer.ChooseAndLayAside e))

    module _ (q : Run S H O K st ho or) (same : setup st ho or q ≡ setup st ho or r) (standing : Standing st r → Standing st q) where
      pub does_hand_in : (k : ℕ) (vs : List ℤ) (x : Result ℕ Refusal) → (Standing st r → HandsIn (setup st ho or r) (state st r) k vs (state st q) x)
          → Does st ho or r (call.HandIn k vs) q (answer.HandIn x)
      does_hand_in k vs x h = does r (call.HandIn k vs) q (answer.HandIn x) same standing (λ b. ((h b).after, ap answer.HandIn (h b).value))

      pub does_step : (x : Result Stepped Refusal) → (Standing st r → StepsTo (setup st ho or r) (state st r) (state st q) x) → Does st ho or r call.Step q (answer.Step x)
      does_step x h = does r call.Step q (answer.Step x) same standing (λ b. ((h b).after, ap answer.Step (h b).value))

      pub does_run : (n : ℕ) (x : Ran) → (Standing st r → RunsTo (setup st ho or r) (state st r) n (state st q) x) → Does st ho or r (call.Run n) q (answer.Run x)
      does_run n x h = does r (call.Run n) q (answer.Run x) same standing (λ b. ((h b).after, ap answer.Run (h b).value))

    -- a step from what look has answered
    same_step : (x y : Result Stepped Refusal) → answer.Step x ≡ answer.Step y → x ≡ y
    same_step x y e = cc

    pub does_choose_and_fire : (q : Run S H O K st ho or) (held : Result Sight Refusal) (x : Result Stepped Refusal) → held ≡ look_answer (setup st ho or r) (state st r)
        → Does st ho or r call.Step q (answer.Step x) → Does st ho or r call.ChooseAndFire q (answer.ChooseAndFire held x)
    does_choose_and_fire q held x e d =
        does r call.ChooseAndFire q (answer.ChooseAndFire held x) d.same d.standing (λ b.
        let value = same_step x (step_answer (setup st ho or r) (state st r)) (d.performs b).value in (
          (d.performs b).after,
          ap (λ y. answer.ChooseAndFire y x) e ∙ ap (answer.ChooseAndFire (look_answer (setup st ho or r) (state st r))) value,
        ))

    -- the relations in words, from the values
    module _ (b : Standing st r) where
      pub looks : (x : Result Sight Refusal) → x ≡ look_answer (setup st ho or r) (state st r) → LooksTo (setup st ho or r) (state st r) x
      looks x e = subst (LooksTo (setup st ho or r) (state st r)) (sym e) (looks_as_said (setup st ho or r) (fit r) (state st r) (orderly r b))

      pub steps : (u : State) (x : Result Stepped Refusal) → (u ≡ step_after (setup st ho or r) (state st r)) × (x ≡ step_answer (setup st ho or r) (state st r))
          → StepsTo (setup st ho or r) (state st r) u x
      steps u x e =
          subst (λ v. StepsTo (setup st ho or r) (state st r) v x) (sym e.0)
          (subst (StepsTo (setup st ho or r) (state st r) (step_after (setup st ho or r) (state st r))) (sym e.1)
          (steps_as_said (setup st ho or r) (fit r) (state st r) (orderly r b)))

      pub runs : (n : ℕ) (u : State) (x : Ran) → (u ≡ run_after (setup st ho or r) (state st r) n) × (x ≡ run_answer (setup st ho or r) (state st r) n)
          → RunsTo (setup st ho or r) (state st r) n u x
      runs n u x e =
          subst (λ v. RunsTo (setup st ho or r) (state st r) n v x) (sym e.0)
          (subst (RunsTo (setup st ho or r) (state st r) n (run_after (setup st ho or r) (state st r) n)) (sym e.1)
          (runs_as_said (setup st ho or r) (fit r) (state st r) (orderly r b) n))

      -- the due instance may be fired or refused
      pub fireable : (d : Due K) → Some d ≡ due_of (setup st ho or r) (state st r) → (g : Firing) → g ≡ firing_of d → Fireable (setup st ho or r) (state st r) g
      fireable d e g named = due_fireable (setup st ho or r) (state st r) (fit r) (orderly r b) d e g named
