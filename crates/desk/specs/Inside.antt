-- docs/RULES.md, "Definitions that state no rule": what the private functions promise one another,
-- which is the ranges of a balanced traverse and what the sums hold at a station. The public
-- promises do not mention any of it.
use Rattle.std.specs.Prelude.{ℕ, zero, suc, ◌+◌, ◌*◌, ◌^◌, ◌≤◌, ◌<◌, ◌≡◌, true, cond, ◌&&◌, List}
use Rattle.std.specs.Prelude.{[], ◌∷◌, ◌++◌, length, get_or, set, map, replicate}
use Rattle.std.specs.Prelude.{ℤ, pos, neg_ℤ, nat_abs, ◌+ℤ◌}
use Rattle.std.specs.Prelude.{◌-ℤ◌, Result, Ok, Err}
use Rattle.std.specs.Int.Signed.{le_z}
use Rattle.answer.specs.Limit.{most_legs, lowest, highest, least_factor, most_factor}
use Rattle.answer.specs.Limit.{least_distance, most_distance, most_coordinate}
use Rattle.answer.specs.declared.Refused.{Refused}
use Rattle.minutes.specs.Quadrant.{circle}
use Rattle.steps.specs.Area.{doubled, good_offsets}
use Rattle.steps.specs.Course.{Axis, north, east, course}
use Rattle.steps.specs.Azimuth.{balanced}
use Rattle.steps.specs.Closure.{most_closure, most_sum, precision}
use Rattle.steps.specs.Distance.{least_combined, most_combined, grid, sea_level, combine}
use Rattle.steps.specs.Share.{share}
use Rattle.whole.specs.Filled.{filled}
use Rattle.desk.specs.Angles.{angle_at, distance_at, turns_of, Balanced}
use Rattle.desk.specs.Answer.{station_words}
use Rattle.desk.specs.Line.{run, preliminary}
use Rattle.desk.specs.Traverse.{along, long_of, azimuth_of, line, same}
use Rattle.desk.specs.Turns.{carried}
use Rattle.tape.specs.Fields.{Fields, fields_of, AllBytes, DoesRead, control_of}
use Rattle.tape.specs.declared.Point.{Point}
use Rattle.whole.specs.declared.Whole.{Whole}
use Rattle.desk.specs.declared.Frame.{Frame}
use Rattle.desk.specs.declared.Leg.{Leg}
use Rattle.tape.specs.declared.Control.{Control}
use Rattle.desk.specs.declared.Figures.{Figures}
use Rattle.desk.specs.declared.Sums.{Sums}
use Rattle.desk.specs.declared.Closure.{Closure}
use Rattle.desk.specs.declared.vector.Vector.{Vector}

-- the longest grid distance: the longest measured one by the largest combined factor, which is
-- 20,000,000 x 10,020,010 / 10,000,000
abbrev pub longest_leg : ℕ
longest_leg = 20040020

-- the sums along the legs are not above this size. The rules keep them far smaller; up to 2 ^ 40
-- one can be added to another, or taken from it, within 64 bits
abbrev pub sum_bound : ℕ
sum_bound = 2 ^ 40

-- what was taken of a tape that reads
pub record Known (tape : List ℕ) (c : Control) : Type 0 where
  pub bytes : AllBytes tape
  pub reads : DoesRead tape
  pub is : c ≡ control_of (fields_of tape)

-- what the combined factor is taken of is in the ranges of the tape
pub record Scaled (c : Control) : Type 0 where
  pub elevation : (le_z (neg_ℤ (pos lowest)) c.elevation.v
      && le_z c.elevation.v (pos highest)) ≡ true
  pub scale : (least_factor ≤ c.scale) × (c.scale ≤ most_factor)

-- the traverse with its angles balanced, but for its legs; and with them
abbrev pub frame_of : Control → ℕ → Whole → Frame
frame_of c angles w =
    record {
      legs = c.legs;
      angles = angles;
      w = w;
      factor = combine (sea_level c.elevation.v) c.scale;
      from = c.from;
      to = c.to;
      place = c.place;
    }

abbrev pub with_legs : Frame → List Leg → Balanced
with_legs b legs =
    record {
      legs = b.legs;
      angles = b.angles;
      w = b.w;
      azimuths = map (λ (x : Leg). x.azimuth) legs;
      distances = map (λ (x : Leg). x.distance) legs;
      factor = b.factor;
      from = b.from;
      to = b.to;
      place = b.place;
    }

-- what the first step has found, the legs in a list
abbrev pub checked_as : Result Frame Refused → List Leg → Result Balanced Refused
checked_as (Err r) legs = Err r
checked_as (Ok b) legs = Ok (with_legs b legs)

-- what a list of legs has where no leg stands, the list of none, and leg k of a list
abbrev pub no_leg : Leg
no_leg = record { azimuth = 0; distance = 0 }

abbrev pub no_legs : List Leg
no_legs = replicate most_legs no_leg

abbrev pub leg_at : List Leg → ℕ → Leg
leg_at legs k = get_or legs k no_leg

-- leg k of two sequences, and of the fields of a tape, before its azimuth is balanced
abbrev pub leg_by : (ℕ → ℕ) → (ℕ → ℕ) → ℕ → Leg
leg_by azimuth distance k = record { azimuth = azimuth k; distance = distance k }

abbrev pub carried_leg : Fields → ℕ → Leg
carried_leg f = leg_by (carried (turns_of f)) (distance_at f)

-- a list whose first n legs have azimuths
pub record AllTurned (n : ℕ) (legs : List Leg) : Type 0 where
  pub room : n ≤ length legs
  pub each : (k : ℕ) → k < n → (leg_at legs k).azimuth < circle

-- leg k of a list, its azimuth balanced: `ahead` angles stand before leg 1, and `angles` share W;
-- and the list with its first n legs balanced
abbrev pub balanced_leg : ℤ → ℕ → ℕ → List Leg → ℕ → Leg
balanced_leg w ahead angles legs k =
    record {
      azimuth = balanced (leg_at legs k).azimuth (share w (k + ahead) angles);
      distance = (leg_at legs k).distance;
    }

abbrev pub balanced_in : ℤ → ℕ → ℕ → ℕ → List Leg → List Leg
balanced_in w ahead angles n legs = filled (balanced_leg w ahead angles legs) n legs

-- "n+1 angles" for 1 to 64 legs, so 2 to 65 of them share W, and each leg is at one of them
pub record Shareable (legs ahead angles : ℕ) : Type 0 where
  pub some : 2 ≤ angles
  pub few : angles ≤ most_legs + 1
  pub reach : legs + ahead ≤ angles

-- fields in the ranges of the tape
pub record Ready (f : Fields) : Type 0 where
  pub some : 1 ≤ f.line.legs
  pub few : f.line.legs ≤ most_legs
  pub mark : f.opening.mark < circle
  pub given : f.closing.given < circle
  pub angles : (k : ℕ) → k ≤ f.line.legs → angle_at f k < circle
  pub elevation : (le_z (neg_ℤ (pos lowest)) f.site.elevation.v
      && le_z f.site.elevation.v (pos highest)) ≡ true
  pub scale_low : least_factor ≤ f.site.scale
  pub scale_high : f.site.scale ≤ most_factor
  pub far : (k : ℕ) → k < f.line.legs → least_distance ≤ distance_at f k
  pub near : (k : ℕ) → k < f.line.legs → distance_at f k ≤ most_distance
  pub from : (axis : Axis) → along axis f.opening.from ≤ most_coordinate
  pub to : (axis : Axis) → along axis f.closing.to ≤ most_coordinate

-- a leg whose fields are in range, and its factor
pub record LegSound (factor distance azimuth : ℕ) : Type 0 where
  pub least : least_combined ≤ factor
  pub most : factor ≤ most_combined
  pub far : least_distance ≤ distance
  pub near : distance ≤ most_distance
  pub turned : azimuth < circle

-- a balanced traverse whose fields are in range
pub record Sound (b : Balanced) : Type 0 where
  pub some : 1 ≤ b.legs
  pub few : b.legs ≤ most_legs
  pub leg : (k : ℕ) → k < b.legs → LegSound b.factor (get_or b.distances k 0) (azimuth_of b k)
  pub from : (axis : Axis) → along axis b.from ≤ most_coordinate
  pub to : (axis : Axis) → along axis b.to ≤ most_coordinate

-- ---- vectors: of two whole numbers, of a point, the sum of two, and one less another
abbrev pub vector : ℤ → ℤ → Vector
vector n e = record { north = record { v = n }; east = record { v = e } }

abbrev pub of_point : Point → Vector
of_point p = vector (pos p.north) (pos p.east)

abbrev pub sum_of : Vector → Vector → Vector
sum_of x y = vector (x.north.v +ℤ y.north.v) (x.east.v +ℤ y.east.v)

abbrev pub less : Vector → Vector → Vector
less x y = vector (x.north.v -ℤ y.north.v) (x.east.v -ℤ y.east.v)

-- neither part of a vector is above this size
pub record Bounded (most : ℕ) (x : Vector) : Type 0 where
  pub north : nat_abs x.north.v ≤ most
  pub east : nat_abs x.east.v ≤ most

-- ---- what is summed: before the first leg, after one leg more, and at station k, by the entries e
-- of a table of sines
abbrev pub begun : Point → Sums
begun from = record { at = of_point from; run = 0 }

abbrev pub advanced : (ℕ → ℤ) → ℕ → Leg → Sums → Sums
advanced e factor leg s =
    let long = grid leg.distance factor in
    record {
      at = sum_of s.at (vector (course e north long leg.azimuth) (course e east long leg.azimuth));
      run = s.run + long;
    }

abbrev pub sums_at : (ℕ → ℤ) → Balanced → ℕ → Sums
sums_at e b k =
    record {
      at = vector (preliminary (line e north b) k) (preliminary (line e east b) k);
      run = run (long_of b) k;
    }

-- sums that leave room for a leg more
pub record RoomForLeg (s : Sums) : Type 0 where
  pub at : Bounded sum_bound s.at
  pub run : s.run ≤ sum_bound

-- what is kept of station k in a list, and the list in which the sums of stations 0 to n are kept
abbrev pub kept_at : List Sums → ℕ → Sums
kept_at kept k = get_or kept k (record { at = vector (pos 0) (pos 0); run = 0 })

abbrev pub kept_to : (ℕ → ℤ) → Balanced → List Sums → List Sums
kept_to e b kept = filled (sums_at e b) (b.legs + 1) kept

-- ---- the closure of sums at the end of the line, which is they less the fixed end, and that of a
-- traverse
abbrev pub left : Point → Sums → Closure
left to end = record { at = less end.at (of_point to); distance = end.run }

abbrev pub closed : (ℕ → ℤ) → Balanced → Closure
closed e b = left b.to (sums_at e b b.legs)

-- a closure within the limit and within the ranges of the share rule
pub record Near (c : Closure) : Type 0 where
  pub at : Bounded most_closure c.at
  pub far : 1 ≤ c.distance
  pub most : c.distance ≤ most_sum

-- the share of a closure at a station, so far along the line
abbrev pub share_of : Closure → ℕ → Vector
share_of c run = vector (share c.at.north.v run c.distance) (share c.at.east.v run c.distance)

-- a station whose share of this closure can be taken, and stations 0 to n of which each is one
pub record Part (s : Sums) (c : Closure) : Type 0 where
  pub at : Bounded sum_bound s.at
  pub run : s.run ≤ c.distance

pub record Shared (n : ℕ) (kept : List Sums) (c : Closure) : Type 0 where
  pub few : n ≤ most_legs
  pub each : (k : ℕ) → k ≤ n → Part (kept_at kept k) c

-- ---- the words: station k of them; with station k put in; and with the first n stations, each
-- less its share of the closure
abbrev pub word_at : List ℤ → ℕ → ℤ
word_at words i = get_or words i (pos 0)

abbrev pub station_at : List ℤ → ℕ → Vector
station_at words k = vector (word_at words (2 * k)) (word_at words (2 * k + 1))

abbrev pub put_at : ℕ → Vector → List ℤ → List ℤ
put_at k x words = set (set words (2 * k) x.north.v) (2 * k + 1) x.east.v

unfoldable pub put_to : List Sums → Closure → ℕ → List ℤ → List ℤ
put_to kept c zero words = words
put_to kept c (suc n) words =
    let s = kept_at kept n in put_at n (less s.at (share_of c s.run)) (put_to kept c n words)

-- station k of the words taken from the first; the first n so taken, northing, then easting
abbrev pub taken_at : List ℤ → ℕ → Vector
taken_at words k = less (station_at words k) (station_at words 0)

unfoldable pub taken_from : List ℤ → ℕ → List ℤ
taken_from words zero = []
taken_from words (suc n) =
    taken_from words n ++ ((taken_at words n).north.v ∷ (taken_at words n).east.v ∷ [])

-- words of n stations within the ranges of the area step
pub record AreaRanged (n : ℕ) (words : List ℤ) : Type 0 where
  pub some : 1 ≤ n
  pub few : n ≤ most_legs
  pub room : station_words ≤ length words
  pub each : (k : ℕ) → k < n → Bounded sum_bound (station_at words k)
  pub near : good_offsets (taken_from words n) ≡ true

-- the figures of a traverse whose closures and words are these
pub record Figured (b : Frame) (c : Closure) (words : List ℤ) (r : Figures) : Type 0 where
  pub room : station_words ≤ length words
  pub legs : r.legs ≡ b.legs
  pub w : r.w ≡ b.w
  pub north : r.north_closure ≡ c.at.north
  pub east : r.east_closure ≡ c.at.east
  pub precise : r.precision ≡ precision c.at.north.v c.at.east.v c.distance
  pub looped : r.looped ≡ same b.from b.to
  pub area : r.area.v
      ≡ cond (same b.from b.to) (doubled (taken_from words b.legs)) (pos 0)
