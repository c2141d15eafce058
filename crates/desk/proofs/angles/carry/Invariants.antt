-- `carry` meets its contract. The loop's invariant: leg k is sighted, the azimuth is the one
-- carried to it and within the circle, and the legs before it stand in the list.
use Prim.Native.Nat.{◌<◌}
use mathlib.Core.Path.{◌≡◌}
use Rattle.tape.specs.Fields.{fields_of}
use Rattle.whole.specs.Filled.{filled}
use Rattle.desk.specs.Angles.{turns_of}
use Rattle.desk.specs.Inside.{carried_leg}
use Rattle.desk.specs.Turns.{carried}
use Rattle.desk.proofs.Carrying.{Sighted}
use Rattle.desk.proofs.angles.carry.Given as goal

abbrev pub invariant-loop-leg : goal.invariant-loop-leg
invariant-loop-leg l =
    record {
      sighted : Sighted l.tape l.leg-index l.sight;
      azimuth : l.azimuth ≡ carried (turns_of (fields_of l.tape)) l.leg-index;
      turned : l.azimuth < 12960000;
      legs : l.leg-items ≡ filled (carried_leg (fields_of l.tape)) l.leg-index l.initial.leg-items;
    }
