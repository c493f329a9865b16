use Rattle.std.proofs.Common.{◌≡◌, eqb, ◌∙◌, rules, tests, Bor}
use Rattle.std.proofs.lemmas.Iterator.{YieldsList-from_slice}
use Rattle.std.proofs.lemmas.Iterator.Search.{find_from_yields_List}
use Rattle.std.specs.Option.{option_map}
use Rattle.facts.specs.declared.Fact.{Fact}
use Rattle.store.proofs.Spots.{next_lent}
use Rattle.store.proofs.flat.places.first_of.Goals as goal

pub returns : goal.returns
returns c =
    let found = find_from_yields_List (λ (f : Fact). eqb f.kind c.args.kind) _ _ c.find.result c.find.ensures.ran (YieldsList-from_slice c.args.facts.now (cc)) (λ x b q k. search (rules, tests)) in
    let mapped : c.map.result ≡ option_map (λ (b : Bor Fact). b.now.id) c.find.result = search rules in
    record { value = mapped ∙ next_lent c.args.facts.now c.args.kind _ found }
