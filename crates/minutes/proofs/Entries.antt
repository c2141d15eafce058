-- The table's rule: one test that antt computes over all 5,401 entries against the power series,
-- and the laws that carry it to each entry.
use mathlib.Core.Path.{◌≡◌, refl, sym, ap}
use mathlib.Core.Bool.{Bool, false, ◌&&◌}
use Prim.Native.Nat.{ℕ, ◌≤◌}
use native.Mathlib.Omega.{arith}
use lib.Dec.{T, leb, leb→le, eqb, eqb→eq}
use lib.ListN.{get_or}
use lib.IntN.{ℤ, pos, negsuc}
use Rattle.whole.specs.Nearest.{nearest}
use Rattle.minutes.specs.Exact.{exact_sine, exact_quarter, by_series, series, weight, unity}
use Rattle.minutes.specs.Exact.{straight, pi, factorial}
use Rattle.minutes.specs.Quadrant.{around, signed_by, folded}
use Rattle.minutes.specs.Entry.{Table, entry}
use Rattle.minutes.proofs.Every.{both, every, at}
use Rattle.minutes.proofs.Listed.{minutes}

is : ℤ → ℕ → Bool
is (pos n) x = eqb n x
is (negsuc n) x = false

is_so : (z : ℤ) (x : ℕ) → T (is z x) → pos x ≡ z
unfolding is
is_so (pos n) x t = ap pos (sym (eqb→eq n x t))
is_so (negsuc n) x t = absurd t

-- x is the entry of minute k, and no sine is above 1
right : ℕ → ℕ → Bool
right k x = is (entry k) x && leb x 1000000000

all_right : T (every right 0 minutes)
unfolding minutes right is entry nearest exact_sine around signed_by folded exact_quarter by_series
    series
    weight unity straight pi factorial
all_right = tt

module _ (m : ℕ) (h : m ≤ 5400) where
  here : T (is (entry m) (get_or minutes m 0)) × T (leb (get_or minutes m 0) 1000000000)
  unfolding minutes right
  here = both (is (entry m) (get_or minutes m 0)) (leb (get_or minutes m 0) 1000000000)
      (at right minutes all_right m (omega arith))

  pub is_entry : pos (get_or minutes m 0) ≡ entry m
  is_entry = is_so (entry m) (get_or minutes m 0) here.0

  at_most : get_or minutes m 0 ≤ 1000000000
  at_most = leb→le (get_or minutes m 0) 1000000000 here.1

pub minutes_right : Table minutes
unfolding minutes
minutes_right = record { count = refl; each = is_entry }

-- every entry is a natural number of at most a billion
pub entry_is : (m : ℕ) → m ≤ 5400 → (n : ℕ) × (entry m ≡ pos n) × (n ≤ 1000000000)
entry_is m h = (get_or minutes m 0, sym (is_entry m h), at_most m h)
