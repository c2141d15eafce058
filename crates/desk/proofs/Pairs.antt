-- A station stored in a list of words, northing at word 2n and easting after it: its own words are
-- these two, and no other word has changed.
use Prim.Native.Nat.{ℕ, ◌+◌, ◌*◌, ◌<◌}
use native.Mathlib.Omega.{arith}
use mathlib.Core.Path.{◌≡◌, ◌∙◌}
use mathlib.Core.List.{List}
use lib.ListN.{length, get_or, set, length-set}
use lib.Seq.{get_or-set_same, get_or-set_other}
use lib.IntN.{ℤ, pos}
use Rattle.steps.specs.Course.{Axis, north, east}
use Rattle.desk.specs.Traverse.{word_index}

abbrev pub along_pair : Axis → ℤ → ℤ → ℤ
along_pair north x y = x
along_pair east x y = y

module _ (l : List ℤ) (n : ℕ) (x y : ℤ) where
  pub apart : (i : ℕ) → (i ≡ 2 * n → ⊥) → (i ≡ 2 * n + 1 → ⊥)
      → get_or (set (set l (2 * n) x) (2 * n + 1) y) i (pos 0) ≡ get_or l i (pos 0)
  apart i e f = get_or-set_other (set l (2 * n) x) (2 * n + 1) i y (pos 0) f ∙ get_or-set_other l
      (2 * n) i x (pos 0) e

  pub own : (axis : Axis) → 2 * n + 1 < length l
      → get_or (set (set l (2 * n) x) (2 * n + 1) y) (word_index axis n) (pos 0)
      ≡ along_pair axis x y
  own north h = get_or-set_other (set l (2 * n) x) (2 * n + 1) (2 * n) y (pos 0) (λ e. omega arith)
      ∙ get_or-set_same l (2 * n) x (pos 0) (omega arith)
  own east h = get_or-set_same (set l (2 * n) x) (2 * n + 1) y (pos 0)
      (omega (arith, length-set l (2 * n) x))

-- the words of another station are apart from it
module _ (n k : ℕ) (other : k ≡ n → ⊥) where
  pub before : (a : Axis) → word_index a k ≡ 2 * n → ⊥
  before north e = other (omega arith)
  before east e = omega arith

  pub later : (a : Axis) → word_index a k ≡ 2 * n + 1 → ⊥
  later north e = omega arith
  later east e = other (omega arith)
