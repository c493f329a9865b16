use Rattle.std.proofs.Common.{ap, ◌∙◌}
use Rattle.book.specs.Books.{book_of}
use Rattle.meaning.specs.Enumeration.{due_of}
use Rattle.matching.specs.Grounds.{asking, seeing}
use Rattle.run.proofs.Standings.{ready_of}
use Rattle.run.proofs.run.Run.due.Goals as goal

-- what the search found, with the roll as the run has it
pub returns : goal.returns
returns g c =
    let r = c.args.self.now in
    record {
      value = λ standing.
          c.due_instance.ensures.value (ready_of g.S.Store g.H.Host g.O.Order r standing)
          ∙ ap (λ es. due_of (asking (g.H.Host.says r.host) (g.O.Order.rank r.order) (g.O.Order.better r.order) (book_of r.book).rules) (seeing (g.S.Store.live r.store) es)) c.as_slice-roll.ensures.value;
    }
