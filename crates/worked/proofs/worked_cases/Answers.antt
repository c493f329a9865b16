-- Every case is computed from the definitions.
use Rattle.std.proofs.Common.{refl}
use Rattle.worked.proofs.worked_cases.Goals as goal

pub returns : goal.returns
returns c = record {
  worked = record {
    depot_roll = refl;
    depot_store = refl;
    depot_final = refl;
    paths_roll = refl;
    paths_live = refl;
    paths_final = refl;
    equal_roll = refl;
    equal_live = refl;
    equal_final = refl;
    four_rows = refl;
    four_stay = refl;
    five_rows = refl;
    five_live = refl;
    round_less = refl;
    half_less = refl;
    half_not = refl;
    half_nor = refl;
    round_sum = refl;
    round_difference = refl;
    overflow = refl;
    no_serial = refl;
  };
}
