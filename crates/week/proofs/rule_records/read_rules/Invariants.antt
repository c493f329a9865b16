use Rattle.std.proofs.Common.{◌-◌, length}
use Rattle.book.specs.Held.{draft_of}
use Rattle.week.proofs.Places.{Ahead}
use Rattle.week.proofs.rule_records.read_rules.Given as goal

abbrev pub invariant-loop-draft : goal.invariant-loop-draft
invariant-loop-draft l = Ahead (draft_of l.initial.draft) l.file l.place (draft_of l.draft)

abbrev pub decreases-loop-draft : goal.decreases-loop-draft
decreases-loop-draft l = length l.file - l.place
