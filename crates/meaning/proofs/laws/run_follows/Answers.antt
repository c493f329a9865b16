use Rattle.meaning.proofs.Published.{follows}
use Rattle.meaning.proofs.laws.run_follows.Goals as goal

pub returns : goal.returns
returns g c = record { follows = follows _ }
