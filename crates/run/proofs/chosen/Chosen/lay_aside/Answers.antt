use Rattle.run.proofs.Standings.{Laws, does_lay_aside}
use Rattle.run.proofs.chosen.Chosen.lay_aside.Given as given
use Rattle.run.proofs.chosen.Chosen.lay_aside.Goals as goal

laws : (g : given.Over) → Laws g.S.Store g.O.Order
laws g = record { rising = g.met.S.Store.rising; never = g.met.O.Order.never; chains = g.met.O.Order.chains; level = g.met.O.Order.level }

pub returns-clause-does : goal.returns-clause-does
returns-clause-does g c = λ h. does_lay_aside (laws g) c.args.self.run c.args.self.held h
