use Rattle.std.proofs.lemmas.Result.{err_from_is_err_and}
use Rattle.book.specs.Held.{draft_of}
use Rattle.week.proofs.Answered.{refused_in_rules, refused_at_end, read_whole}
use Rattle.week.proofs.reader.Reader.read.Goals as goal

pub returns-in_err-start-clause-value : goal.returns-in_err-start-clause-value
returns-in_err-start-clause-value c =
    let p = err_from_is_err_and c.from_residual.result c.from_residual.ensures.1 in
    rw (p.1, p.2) (refused_in_rules _ c.args.file.now c.args.self.fresh _ (draft_of c.read_rules.new.draft) c.in_err-start.ensures.value)

pub returns-in_err-none_open-clause-value : goal.returns-in_err-none_open-clause-value
returns-in_err-none_open-clause-value c =
    let p = err_from_is_err_and c.from_residual-in_err-none_open.result c.from_residual-in_err-none_open.ensures.1 in
    rw (p.1, p.2) (refused_at_end _ _ c.args.self.fresh _ _ _ c.in_ok-start.ensures.value c.in_err-none_open.ensures.value)

pub returns-clause-value : goal.returns-clause-value
returns-clause-value c =
    read_whole _ _ c.args.self.fresh c.in_ok-start.start _ _ _ _ c.in_ok-start.ensures.value c.in_ok-none_open.ensures.value c.close.ensures.value
    c.read_goals-fault.ensures.value
