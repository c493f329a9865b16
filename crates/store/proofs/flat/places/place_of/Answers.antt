use Rattle.std.proofs.Common.{◌-◌, sym, take, drop, ltb, rules}
use Rattle.std.proofs.lemmas.List.Sorted.{IsPartitionPoint-from_clause}
use Rattle.facts.specs.declared.Fact.{Fact}
use Rattle.store.specs.Rises.{rising_from_test}
use Rattle.store.proofs.Spots.{rising_parts, rising_part, place_is_last, place_is_first, place_from_point, place_from_part}
use Rattle.store.proofs.flat.places.place_of.Goals as goal

pub returns-then-is_below-clause-value : goal.returns-then-is_below-clause-value
returns-then-is_below-clause-value c =
    place_is_last _ _ _ (rising_from_test _ c.requires) c.last_place-high.ensures.most c.last_place-high.ensures.within (sym c.if-is_below.ensures.value)

pub returns-then-is_above-clause-value : goal.returns-then-is_above-clause-value
returns-then-is_above-clause-value c = place_is_first _ _ _ c.first_place-low.ensures.least (sym c.if-is_above.ensures.value)

pub returns-clause-value : goal.returns-clause-value
returns-clause-value c =
    let fs = c.args.facts.now in
    let low = c.first_place-low.result in
    let high = c.last_place-high.result in
    let part = take (high - low) (drop low fs) in
    let parts = rising_parts part c.args.id (rising_part fs low (high - low) (rising_from_test _ c.requires)) in
    place_from_part fs c.args.id low high _ c.first_place-low.ensures.least c.last_place-high.ensures.most
    (place_from_point part _ _ c.partition_point.ensures.bound
    (IsPartitionPoint-from_clause (λ (f : Fact). ltb f.id c.args.id) _ _ c.partition_point.ensures.partitioned parts (λ a r q k. search rules)))
