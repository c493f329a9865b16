use Rattle.run.proofs.Standings.{Laws, does_choose_and_fire}
use Rattle.run.proofs.chosen.Chosen.fire.Given as given
use Rattle.run.proofs.chosen.Chosen.fire.Goals as goal

laws : (g : given.Over) → Laws g.S.Store g.O.Order
laws g = record { rising = g.met.S.Store.rising; never = g.met.O.Order.never; chains = g.met.O.Order.chains; level = g.met.O.Order.level }

pub returns-clause-does : goal.returns-clause-does
returns-clause-does g c = λ h. does_choose_and_fire (laws g) c.args.self.run _ c.args.self.held c.carry_out-stepped.result h (c.carry_out-stepped.ensures.does h)
