use Rattle.std.proofs.Common.{◌+◌, vec_items, sym, subst, ⊎_elim, arith}
use Rattle.std.proofs.lemmas.List.{take_rest}
use Rattle.week.proofs.Places.{GoalsAhead, goals_full, goals_over, goals_fault, goals_more}
use Rattle.week.proofs.goals.read_goals.Goals as goal

pub returns-then-len-ge-MOST_GOALS : goal.returns-then-len-ge-MOST_GOALS
returns-then-len-ge-MOST_GOALS c = record {
  value = ⊎_elim
      (λ x. goals_full _ _ _ c.loop-goal.place c.loop-goal.invariant.1 (omega arith))
      (λ x. goals_over _ _ _ c.loop-goal.place c.loop-goal.invariant.1 x.1)
      c.then-len-ge-MOST_GOALS.either;
}

pub returns-in-Err : goal.returns-in-Err
returns-in-Err c = record {
  value = goals_fault _ _ _ c.loop-goal.place c.loop-goal.invariant.1 c.in-Err.fault (omega arith) c.if-place-file.false (rw take_rest at c.in-Err.ensures.value);
}

pub loop-goal-preserved : goal.loop-goal-preserved
loop-goal-preserved c = (
  omega arith,
  subst (λ n. GoalsAhead c.args.start c.args.file.now (vec_items c.push_reserved.new.self) (c.loop-goal.place + n)) (sym c.size-place.ensures.value)
      (goals_more _ _ _ c.loop-goal.place c.loop-goal.invariant.1 c.in-Ok.goal _ (omega arith) c.if-place-file.false (rw take_rest at c.in-Ok.ensures.value) c.push_reserved.ensures.items),
)
