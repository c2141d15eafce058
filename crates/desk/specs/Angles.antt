-- docs/RULES.md, "Distances" and "Azimuths and legs", of the fields of a tape: the combined factor,
-- the azimuths carried along the legs, the misclosure W, and the balanced azimuths. Legs are
-- numbered by the station that they leave, from 0; the angle at the last station is the closing
-- one.
use Rattle.std.specs.Prelude.{ℕ, ◌+◌, List, get_or, replicate, ℤ}
use Rattle.whole.specs.Filled.{filled}
use Rattle.answer.specs.Limit.{most_legs}
use Rattle.steps.specs.Azimuth.{from_mark, misclosure}
use Rattle.steps.specs.Distance.{sea_level, combine}
use Rattle.tape.specs.Fields.{Fields}
use Rattle.tape.specs.declared.Point.{Point}
use Rattle.whole.specs.declared.Whole.{Whole}
use Rattle.desk.specs.Turns.{Turns, carried, balanced_at}

abbrev pub angle_at : Fields → ℕ → ℕ
angle_at f k = get_or f.line.angles k 0

abbrev pub distance_at : Fields → ℕ → ℕ
distance_at f k = get_or f.line.distances k 0

-- the angles of a tape. "Leg 1: azimuth to the mark plus its angle right": that angle stands before
-- leg 1. "Share of W at the j-th of n+1 angles": leg k is at the (k+1)-th
abbrev pub turns_of : Fields → Turns
turns_of f =
    record {
      legs = f.line.legs;
      first = from_mark f.opening.mark (angle_at f 0);
      angles = f.line.angles;
      shared = f.line.legs + 1;
      ahead = 1;
    }

-- "Misclosure W = carried less given"
unfoldable pub misclosure_of : Fields → ℤ
misclosure_of f = misclosure (carried (turns_of f) f.line.legs) f.closing.given

-- the list before any leg is balanced
abbrev pub zeros : List ℕ
zeros = replicate most_legs 0

-- a traverse whose angles are balanced: how many legs it has, how many angles share W, the
-- misclosure W, the balanced azimuth and the measured distance of each leg, the combined factor,
-- the two fixed points, and the place of the close
pub record Balanced : Type 0 where
  pub legs : ℕ
  pub angles : ℕ
  pub w : Whole
  pub azimuths : List ℕ
  pub distances : List ℕ
  pub factor : ℕ
  pub from : Point
  pub to : Point
  pub place : ℕ

-- that of the fields; its factor is the sea level factor of the elevation combined with the row's
unfoldable pub balanced_traverse : Fields → Balanced
balanced_traverse f =
    record {
      legs = f.line.legs;
      angles = (turns_of f).shared;
      w = record { v = misclosure_of f };
      azimuths = filled (balanced_at (turns_of f) (misclosure_of f)) f.line.legs zeros;
      distances = filled (distance_at f) f.line.legs zeros;
      factor = combine (sea_level f.site.elevation.v) f.site.scale;
      from = f.opening.from;
      to = f.closing.to;
      place = f.closing.place;
    }
