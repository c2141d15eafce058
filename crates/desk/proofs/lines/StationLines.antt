-- The lines of the stations, one after the other, and the area's: where there is room for all of
-- them there is room for each, and one more line makes the lines of one station more.
use Prim.Native.Nat.{ℕ, zero, suc, ◌+◌, ◌≤◌, ◌<◌}
use native.Mathlib.Omega.{arith}
use native.Mathlib.Nat.{eq-or-lt_of_le}
use native.Mathlib.Numerals.{add-one}
use mathlib.Core.Path.{◌≡◌, refl}
use mathlib.Core.Bool.{Bool, true, false}
use mathlib.Core.List.{List, ◌++◌}
use mathlib.Core.Logic.{⊎_elim}
use lib.ListN.{length, length-append}
use lib.IntN.{ℤ}
use Rattle.text.specs.Text.{ascii, decimal, plain}
use Rattle.text.specs.Room.{Room, Put}
use Rattle.text.proofs.Putting.{room_first, room_then, then}
use Rattle.desk.specs.Inside.{station_at}
use Rattle.desk.specs.declared.vector.Vector.{Vector}
use Rattle.desk.specs.Sheet.{station_line, line_of, station_lines, area_line}

module _ (words : List ℤ) where
  -- ---- the place of a station, after its number
  module _ (l m : List ℕ) (at k i : ℕ) (x : Vector) (p : Put l at (decimal k) m i)
      (e : x ≡ station_at words k) where
    abbrev coordinates : List ℕ
    coordinates = (ascii " " ++ plain 2 x.north.v) ++ (ascii " " ++ plain 2 x.east.v) ++ ascii "\n"

    pub place_room : Room l at (line_of words k) → Room m i coordinates
    unfolding line_of station_line
    place_room h = rw e (room_then l at (decimal k) _ m i p h)

    pub place_put : (o : List ℕ) (r : ℕ) → Put m i coordinates o r → Put l at (line_of words k) o r
    unfolding line_of station_line
    place_put o r q = then l at (decimal k) _ m i p o r (rw e at q)

  -- ---- the lines of all stations
  lines_up : (k n : ℕ) → k ≤ n → length (station_lines words k) ≤ length (station_lines words n)
  unfolding station_lines
  lines_up k zero h = let e : k ≡ 0 = omega arith in rw e (omega arith)
  lines_up k (suc n) h =
      ⊎_elim (λ e. rw e (omega arith))
      (λ low. omega (
        arith,
        lines_up k n (omega arith),
        length-append (station_lines words n) (line_of words n),
      ))
      (eq-or-lt_of_le h)

  pub lines_first : (l : List ℕ) (at : ℕ) → Put l at (station_lines words 0) l at
  unfolding station_lines
  lines_first l at = record { bytes = refl; next = omega arith }

  module _ (l m : List ℕ) (at k i : ℕ) (p : Put l at (station_lines words k) m i) where
    pub line_room : (n : ℕ) → k < n → Room l at (station_lines words n) → Room m i (line_of words k)
    unfolding station_lines
    line_room n low h = room_then l at (station_lines words k) (line_of words k) m i p
        (omega (arith, lines_up (suc k) n (omega arith)))

    pub lines_next : (o : List ℕ) (r : ℕ) → Put m i (line_of words k) o r
        → Put l at (station_lines words (k + 1)) o r
    unfolding station_lines
    lines_next o r q = rw (add-one k)
        (then l at (station_lines words k) (line_of words k) m i p o r q)

-- ---- the last line, which only a loop has
module _ (l : List ℕ) (at : ℕ) (z : ℤ) (b : Bool) where
  pub area_room : b ≡ true → Room l at (area_line z b)
      → Room l at (ascii "AREA2 " ++ plain 4 z ++ ascii "\n")
  unfolding area_line
  area_room e h = rw e at h

  pub area_first : b ≡ true → Room l at (area_line z b) → Room l at (ascii "AREA2 " ++ plain 4 z)
  area_first e h = room_first l at (ascii "AREA2 " ++ plain 4 z) (ascii "\n") (area_room e h)

  pub area_put : (m : List ℕ) (r : ℕ) → b ≡ true
      → Put l at (ascii "AREA2 " ++ plain 4 z ++ ascii "\n") m r → Put l at (area_line z b) m r
  unfolding area_line
  area_put m r e p = rw e p

  pub area_none : b ≡ false → Put l at (area_line z b) l at
  unfolding area_line
  area_none e = record { bytes = rw e; next = rw e (omega arith) }
