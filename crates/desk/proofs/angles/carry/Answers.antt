use borrow.Author.Rules.{rules}
use Rattle.whole.specs.Filled.{filled}
use Rattle.desk.proofs.Carrying.{legs_few, mark_turned, first_sight, first_turned, carried_first}
use Rattle.desk.proofs.Carrying.{sight_in, turned_in, carried_in, leg_in, legs_last}
use Rattle.desk.proofs.angles.carry.Goals as goal

pub slice_bounds-leg-items-end : goal.slice_bounds-leg-items-end
slice_bounds-leg-items-end c = search legs_few

pub returns-clause-legs : goal.returns-clause-legs
returns-clause-legs c = search legs_last

pub first-azimuth-requires : goal.first-azimuth-requires
first-azimuth-requires c = (search mark_turned, search first_turned)

pub loop-leg-init : goal.loop-leg-init
unfolding filled
loop-leg-init c =
    record {
      sighted = search first_sight;
      azimuth = search carried_first;
      turned = search rules;
      legs = search rules;
    }

pub next-azimuth-requires : goal.next-azimuth-requires
next-azimuth-requires c = (search rules, search turned_in)

pub loop-leg-preserved : goal.loop-leg-preserved
loop-leg-preserved c =
    record {
      sighted = search sight_in;
      azimuth = search carried_in;
      turned = search rules;
      legs = search leg_in;
    }
