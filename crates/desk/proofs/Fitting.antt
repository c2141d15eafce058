-- The text of a sheet never exceeds 4,096 bytes. Every number of an accepted tape is small, so that
-- its digits are few and every line is short, and there are at most 65 stations.
use Prim.Native.Nat.{ℕ, zero, suc, ◌+◌, ◌*◌, ◌^◌, ◌≤◌, ◌<◌}
use native.Mathlib.Omega.{arith}
use mathlib.Core.Path.{◌≡◌}
use mathlib.Core.Bool.{Bool, true, false}
use mathlib.Core.List.{List, []}
use lib.ListN.{length, get_or, length-append}
use lib.IntN.{ℤ, pos, nat_abs}
use Rattle.steps.specs.Course.{Axis, north, east}
use Rattle.sines.proofs.Own.{Entries}
use Rattle.desk.specs.Answer.{ToldTraverse}
use Rattle.desk.specs.Traverse.{word_index}
use Rattle.desk.proofs.Accepted.{Sized, accepted, accepted_legs, accepted_sized, word_small}
use Rattle.text.specs.Text.{ascii}
use Rattle.text.proofs.Lengths.{decimal_most, amount_most}
use Rattle.desk.specs.Sheet.{closures_text, close_line, station_line, line_of, station_lines}
use Rattle.desk.specs.Sheet.{area_line}
use Rattle.desk.specs.Sheet.{text_of, own_words, answered, sheet_words}

-- ---- lines
close_most : (w n e : ℤ) (p : ℕ) → nat_abs w < 10 ^ 19 → nat_abs n < 10 ^ 19 → nat_abs e < 10 ^ 19
    → p < 10 ^ 19 → length (close_line w n e p) ≤ 120
unfolding close_line closures_text
close_most w n e p f g h i =
    simp length-append
    (omega (
      arith,
      amount_most (ascii "+") 1 18 w (omega arith) f,
      amount_most (ascii "+") 2 18 n (omega arith) g,
      amount_most (ascii "+") 2 18 e (omega arith) h,
      decimal_most 18 p i,
    ))

station_most : (k : ℕ) (n e : ℤ) → k < 100 → nat_abs n < 2 ^ 40 → nat_abs e < 2 ^ 40
    → length (station_line k n e) ≤ 40
unfolding station_line
station_most k n e h f g =
    simp length-append
    (omega (
      arith,
      decimal_most 1 k h,
      amount_most [] 2 12 n (omega arith) (omega arith),
      amount_most [] 2 12 e (omega arith) (omega arith),
    ))

area_most : (z : ℤ) (loop : Bool) → nat_abs z < 10 ^ 19 → length (area_line z loop) ≤ 40
unfolding area_line
area_most z true h = simp length-append (omega (arith, amount_most [] 4 18 z (omega arith) h))
area_most z false h = omega arith

-- the words of the first n stations are small
abbrev WordsFit : List ℤ → ℕ → Type 0
WordsFit words n = (axis : Axis) (k : ℕ) → k < n
    → nat_abs (get_or words (word_index axis k) (pos 0)) < 2 ^ 40

stations_most : (words : List ℤ) (n : ℕ) → n < 100 → WordsFit words n
    → length (station_lines words n) ≤ 40 * n
unfolding station_lines line_of
stations_most words zero h small = omega arith
stations_most words (suc k) h small =
    let n = get_or words (word_index north k) (pos 0) in
    let e = get_or words (word_index east k) (pos 0) in
    let before = stations_most words k (omega arith) (λ axis j i. small axis j (omega arith)) in
    simp length-append (omega (
      arith,
      before,
      station_most k n e (omega arith) (small north k (omega arith))
          (small east k (omega arith)),
    ))

text_most : (t : ToldTraverse) (words : List ℤ) → Sized t → WordsFit words (t.legs + 1)
    → length (text_of t words) ≤ 4096
unfolding text_of
text_most t words s small =
    simp length-append
    (omega (
      arith,
      s.legs,
      close_most t.w t.north_closure t.east_closure t.precision (omega (arith, s.w))
          (omega (arith, s.north)) (omega (arith, s.east)) (omega (arith, s.precision)),
      stations_most words (t.legs + 1) (omega (arith, s.legs)) small,
      area_most t.area t.loop (omega (arith, s.area)),
    ))

pub sheet_fits : (e : ℕ → ℤ) → Entries e → (tape : List ℕ) → (answered e tape).number ≡ 0
    → length (text_of (answered e tape) (sheet_words e tape)) ≤ 4096
sheet_fits e entries tape none =
    let a = accepted e tape 130 none in
    text_most (answered e tape) (sheet_words e tape) (accepted_sized e tape 130 entries a)
    (λ axis k h. word_small e tape own_words none entries axis k
    (omega (arith, accepted_legs e tape 130 a)))
