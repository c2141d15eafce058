-- docs/RULES.md, "Azimuths and legs", "Closure and compass rule" and "Doubled area", of a traverse
-- whose angles are balanced: its two coordinates as lines.
use Rattle.std.specs.Prelude.{Bool, cond, ◌&&◌, List, [], ◌∷◌, ◌++◌, ℕ, zero, suc, ◌+◌, ◌*◌, eqb}
use Rattle.std.specs.Prelude.{get_or, set, ℤ, pos, ◌-ℤ◌}
use Rattle.steps.specs.Area.{doubled}
use Rattle.steps.specs.Course.{Axis, north, east, course}
use Rattle.steps.specs.Distance.{grid}
use Rattle.desk.specs.Line.{Line, adjusted}
use Rattle.tape.specs.declared.Point.{Point}
use Rattle.desk.specs.Angles.{Balanced}

abbrev pub along : Axis → Point → ℕ
along north p = p.north
along east p = p.east

-- the grid distance and the balanced azimuth of leg k
abbrev pub long_of : Balanced → ℕ → ℕ
long_of b k = grid (get_or b.distances k 0) b.factor

abbrev pub azimuth_of : Balanced → ℕ → ℕ
azimuth_of b k = get_or b.azimuths k 0

-- one coordinate of the traverse, by the entries e of a table of sines
abbrev pub line : (ℕ → ℤ) → Axis → Balanced → Line
line e axis b =
    record {
      from = pos (along axis b.from);
      to = pos (along axis b.to);
      legs = b.legs;
      move = λ (k : ℕ). course e axis (long_of b k) (azimuth_of b k);
      long = long_of b;
    }

-- "northing, then easting, of stations 0 to n": where a coordinate of station k stands, and the
-- lent words with the first k stations put in
abbrev pub word_index : Axis → ℕ → ℕ
word_index north k = 2 * k
word_index east k = 2 * k + 1

unfoldable pub with_stations : (ℕ → ℤ) → Balanced → ℕ → List ℤ → List ℤ
with_stations e b zero words = words
with_stations e b (suc k) words =
    set
    (set (with_stations e b k words) (word_index north k) (adjusted (line e north b) k))
    (word_index east k)
    (adjusted (line e east b) k)

-- "coordinates taken from station 0": northing, then easting, of the first k stations
abbrev pub offset : (ℕ → ℤ) → Balanced → Axis → ℕ → ℤ
offset e b axis k = adjusted (line e axis b) k -ℤ adjusted (line e axis b) 0

unfoldable pub offsets_to : (ℕ → ℤ) → Balanced → ℕ → List ℤ
offsets_to e b zero = []
offsets_to e b (suc k) = offsets_to e b k ++ (offset e b north k ∷ offset e b east k ∷ [])

-- "a tape whose two fixed points have equal coordinates" has "the sum round stations 0 to n-1"; any
-- other has "0 and marked as no loop"
abbrev pub same : Point → Point → Bool
same p q = eqb p.north q.north && eqb p.east q.east

abbrev pub is_loop : Balanced → Bool
is_loop b = same b.from b.to

unfoldable pub area_of : (ℕ → ℤ) → Balanced → ℤ
area_of e b = cond (is_loop b) (doubled (offsets_to e b b.legs)) (pos 0)
