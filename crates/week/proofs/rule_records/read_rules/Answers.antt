use Rattle.std.proofs.Common.{ℕ, ◌+◌, sym, subst}
use Rattle.std.proofs.lemmas.List.{take_rest}
use Rattle.book.specs.Held.{draft_of}
use Rattle.week.proofs.Places.{Ahead, ahead_end, ahead_fault, ahead_more}
use Rattle.week.proofs.rule_records.read_rules.Goals as goal

pub returns-then-rules_end-clause-value : goal.returns-then-rules_end-clause-value
returns-then-rules_end-clause-value c = ahead_end _ _ _ _ c.loop-draft.invariant (rw take_rest at c.if-rules_end.ensures.value)

pub returns-in-Err-clause-value : goal.returns-in-Err-clause-value
returns-in-Err-clause-value c = ahead_fault _ _ _ _ c.loop-draft.invariant c.in-Err.fault (rw take_rest at c.if-rules_end.ensures.value) (rw take_rest at c.in-Err.ensures.value)

pub loop-draft-preserved : goal.loop-draft-preserved
loop-draft-preserved c =
    let a = draft_of c.take.new.self in
    let m = ahead_more (draft_of c.args.draft.now) c.args.file.now c.loop-draft.place (draft_of c.loop-draft.draft) c.loop-draft.invariant c.in-Ok.kind a
    (rw take_rest at c.if-rules_end.ensures.value) (rw take_rest at c.in-Ok.ensures.value) (rw take_rest at c.in-Ok.ensures.after) in
    let P : ℕ → Type 0 = λ n. Ahead (draft_of c.args.draft.now) c.args.file.now (c.loop-draft.place + n) a in
    subst P (sym c.size-place.ensures.value) m
