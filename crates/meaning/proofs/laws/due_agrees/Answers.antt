use Rattle.meaning.proofs.Agreement.{due_agrees}
use Rattle.meaning.proofs.laws.due_agrees.Goals as goal

pub returns : goal.returns
returns g c = record { agrees = due_agrees _ }
