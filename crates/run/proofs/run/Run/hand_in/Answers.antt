use Rattle.std.proofs.Common.{arith, rules}
use Rattle.std.proofs.lemmas.Grind.{common_steps}
use Rattle.run.proofs.Standings.{Laws, above_added, does_hand_in}
use Rattle.run.proofs.run.Run.hand_in.Given as given
use Rattle.run.proofs.run.Run.hand_in.Goals as goal

laws : (g : given.Over) → Laws g.S.Store g.O.Order
laws g = record { rising = g.met.S.Store.rising; never = g.met.O.Order.never; chains = g.met.O.Order.chains; level = g.met.O.Order.level }

pub returns-in_err-admit-clause-does : goal.returns-in_err-admit-clause-does
returns-in_err-admit-clause-does g c =
    does_hand_in (laws g) c.args.self.now _ (search rules) (λ b. search rules) _ _ _ (λ b. grind (arith, common_steps))

pub returns-clause-does : goal.returns-clause-does
returns-clause-does g c =
    does_hand_in (laws g) c.args.self.now _ (search rules)
    (λ b. record { kept = c.add-added.ensures.sound b.kept; below = above_added _ _ _ _ _ (c.add-added.ensures.live b.kept) b.below })
    _ _ _ (λ b. grind (arith, common_steps))
