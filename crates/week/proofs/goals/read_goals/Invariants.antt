use Rattle.std.proofs.Common.{◌-◌, ◌≤◌, length, vec_items, vec_capacity}
use Rattle.week.proofs.Places.{GoalsAhead}
use Rattle.week.proofs.goals.read_goals.Given as goal

abbrev pub invariant-loop-goal : goal.invariant-loop-goal
invariant-loop-goal l = (1025 ≤ vec_capacity l.goals) × GoalsAhead l.start l.file (vec_items l.goals) l.place

abbrev pub decreases-loop-goal : goal.decreases-loop-goal
decreases-loop-goal l = length l.file - l.place
