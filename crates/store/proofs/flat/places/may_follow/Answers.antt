use Rattle.std.proofs.Common.{◌≡◌, ◌<◌, length, refl, arith, rules}
use Rattle.std.proofs.lemmas.List.{nil_from_length}
use Rattle.std.proofs.lemmas.Bool.{ltb-true, lt-ltb}
use Rattle.store.specs.Rises.{rising_from_test}
use Rattle.store.proofs.Spots.{above_from_last, above_getD, rises_push}
use Rattle.store.proofs.flat.places.may_follow.Goals as goal

pub returns-in-empty : goal.returns-in-empty
returns-in-empty c =
    let none : length c.args.facts.now ≡ 0 = search rules in
    let nil = nil_from_length c.args.facts.now none in
    record { value = (λ _. rw nil tt, λ _. refl); rising = λ _. rw nil refl }

pub returns-in-len1-up : goal.returns-in-len1-up
returns-in-len1-up c =
    let some : 0 < length c.args.facts.now = search rules in
    let rising = rising_from_test _ c.requires in
    record {
      value = (
        λ t. above_from_last _ _ _ rising some (ltb-true _ _ t),
        λ a. lt-ltb _ _ (above_getD _ _ _ _ a (omega arith)),
      );
      rising = λ t. rises_push _ _ rising (above_from_last _ _ _ rising some (ltb-true _ _ t));
    }
