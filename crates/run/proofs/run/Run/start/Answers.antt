use Rattle.std.proofs.Common.{sym, refl, subst}
use Rattle.store.specs.Store.{Above}
use Rattle.book.specs.Books.{book_of}
use Rattle.run.proofs.States.{same_state}
use Rattle.run.proofs.Standings.{Laws, same_rows, opens}
use Rattle.run.proofs.run.Run.start.Given as given
use Rattle.run.proofs.run.Run.start.Goals as goal

laws : (g : given.Over) → Laws g.S.Store g.O.Order
laws g = record { rising = g.met.S.Store.rising; never = g.met.O.Order.never; chains = g.met.O.Order.chains; level = g.met.O.Order.level }

pub returns : goal.returns
returns g c = record {
  stands =
      opens (laws g) (book_of c.args.book) c.args.store c.args.host c.args.order _
      (same_rows g.S.Store g.H.Host g.O.Order (book_of c.args.book) c.args.store c.clear.new.self c.args.host c.args.order c.clear.ensures.rows)
      (same_state c.clear.ensures.live c.args.roll.empty refl refl)
      (record { kept = c.clear.ensures.sound; below = subst (Above 1) (sym c.clear.ensures.live) tt });
}
