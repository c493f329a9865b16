use Rattle.run.proofs.Standings.{Laws, does_read}
use Rattle.run.proofs.run.Run.read.Given as given
use Rattle.run.proofs.run.Run.read.Goals as goal

laws : (g : given.Over) → Laws g.S.Store g.O.Order
laws g = record { rising = g.met.S.Store.rising; never = g.met.O.Order.never; chains = g.met.O.Order.chains; level = g.met.O.Order.level }

pub returns-clause-does : goal.returns-clause-does
returns-clause-does g c = does_read (laws g) c.args.self.now c.args.id c.read.result (λ b. c.read.ensures.value b.kept)
