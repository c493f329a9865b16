use Rattle.std.proofs.Common.{◌<◌, length, length-take, rules}
use Rattle.std.proofs.lemmas.List.{take_more_set}
use Rattle.few.proofs.Few.push.Goals as goal

pub returns : goal.returns
returns g c =
    let l : c.args.self.now.len < length c.args.self.now.items = search rules in
    record { items = take_more_set _ _ _ l; test = simp length-take (search rules) }
