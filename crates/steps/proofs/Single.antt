-- Any two outcomes that a promise of this crate allows coincide, for every input: what is told
-- determines the answer.
use mathlib.Core.Path.{◌≡◌, refl, sym, ◌∙◌, ap}
use mathlib.Core.List.{List}
use mathlib.Core.Bool.{Bool}
use Prim.Native.Nat.{ℕ}
use native.Mathlib.Omega.{arith}
use lib.IntN.{ℤ}
use Rattle.std.proofs.Common.{Result, Ok, Err}
use Rattle.answer.specs.Told.{ToldStep, told, told_amount, told_count, told_verdict}
use Rattle.answer.specs.declared.OutOfRange.{OutOfRange}
use Rattle.whole.specs.declared.Whole.{Whole}
use Rattle.answer.proofs.Single.{amounts_coincide, counts_coincide, verdicts_coincide}
use Rattle.steps.specs.Distance.{sea_level_step, combine_step, grid_step}
use Rattle.steps.specs.Azimuth.{from_mark_step, onward_step, misclosure_step, misclosure_test}
use Rattle.steps.specs.Azimuth.{balanced_step}
use Rattle.steps.specs.Share.{share_step, angle_share_step}
use Rattle.steps.specs.Course.{Axis, north as Axis·north, east as Axis·east, course_step}
use Rattle.steps.specs.Course.{told_move}
use Rattle.steps.specs.declared.course.Moves.{Moves}
use Rattle.steps.specs.Closure.{closure_test, precision_step}
use Rattle.steps.specs.Area.{area_step}

-- `sea_level`, `combine`, `grid`, `from_mark`, `onward`, `balanced` and `precision`
module _ (x y : Result ℕ OutOfRange) where
  pub sea_level_single : (elevation : ℤ) → told_count x ≡ sea_level_step elevation
      → told_count y ≡ sea_level_step elevation → x ≡ y
  sea_level_single elevation = counts_coincide (sea_level_step elevation) x y

  pub combine_single : (sea scale : ℕ) → told_count x ≡ combine_step sea scale
      → told_count y ≡ combine_step sea scale → x ≡ y
  combine_single sea scale = counts_coincide (combine_step sea scale) x y

  pub grid_single : (distance factor : ℕ) → told_count x ≡ grid_step distance factor
      → told_count y ≡ grid_step distance factor → x ≡ y
  grid_single distance factor = counts_coincide (grid_step distance factor) x y

  pub from_mark_single : (mark angle : ℕ) → told_count x ≡ from_mark_step mark angle
      → told_count y ≡ from_mark_step mark angle → x ≡ y
  from_mark_single mark angle = counts_coincide (from_mark_step mark angle) x y

  pub onward_single : (before angle : ℕ) → told_count x ≡ onward_step before angle
      → told_count y ≡ onward_step before angle → x ≡ y
  onward_single before angle = counts_coincide (onward_step before angle) x y

  pub balanced_single : (azimuth : ℕ) (share : ℤ) → told_count x ≡ balanced_step azimuth share
      → told_count y ≡ balanced_step azimuth share → x ≡ y
  balanced_single azimuth share = counts_coincide (balanced_step azimuth share) x y

  pub precision_single : (north east : ℤ) (s : ℕ) → told_count x ≡ precision_step north east s
      → told_count y ≡ precision_step north east s → x ≡ y
  precision_single north east s = counts_coincide (precision_step north east s) x y

-- `misclosure`, `share`, `angle_share` and `doubled_area`, and between them the moves
module _ (x y : Result Whole OutOfRange) where
  pub misclosure_single : (carried given : ℕ) → told_amount x ≡ misclosure_step carried given
      → told_amount y ≡ misclosure_step carried given → x ≡ y
  misclosure_single carried given = amounts_coincide (misclosure_step carried given) x y

  pub share_single : (closure : ℤ) (part whole : ℕ) → told_amount x ≡ share_step closure part whole
      → told_amount y ≡ share_step closure part whole → x ≡ y
  share_single closure part whole = amounts_coincide (share_step closure part whole) x y

  pub angle_share_single : (w : ℤ) (j n : ℕ) → told_amount x ≡ angle_share_step w j n
      → told_amount y ≡ angle_share_step w j n → x ≡ y
  angle_share_single w j n = amounts_coincide (angle_share_step w j n) x y

  -- `latitude` is the axis north, `departure` the axis east; with the entries of a lent table,
  -- `latitude_in` and `departure_in`
  pub course_single : (e : ℕ → ℤ) (axis : Axis) (distance azimuth : ℕ)
      → told_amount x ≡ course_step e axis distance azimuth
      → told_amount y ≡ course_step e axis distance azimuth
      → x ≡ y
  course_single e axis distance azimuth = amounts_coincide (course_step e axis distance azimuth) x y

  pub doubled_area_single : (offsets : List ℤ) → told_amount x ≡ area_step offsets
      → told_amount y ≡ area_step offsets → x ≡ y
  doubled_area_single offsets = amounts_coincide (area_step offsets) x y

-- `moves_in`: what is told along both axes
pub moves_single : (e : ℕ → ℤ) (distance azimuth : ℕ) (x y : Result Moves OutOfRange)
    → ((axis : Axis) → told_move axis x ≡ course_step e axis distance azimuth)
    → ((axis : Axis) → told_move axis y ≡ course_step e axis distance azimuth) → x ≡ y
unfolding told
moves_single e distance azimuth x y p q = one_moves x y (λ axis. p axis ∙ sym (q axis))
  where
    one_moves : (x y : Result Moves OutOfRange)
        → ((axis : Axis) → told_move axis x ≡ told_move axis y) → x ≡ y
    one_moves (Err _) (Err _) p = refl
    one_moves (Err _) (Ok n) p =
        absurd (omega (arith, ap (λ (z : ToldStep). z.number) (p Axis·north)))
    one_moves (Ok m) (Err _) p =
        absurd (omega (arith, ap (λ (z : ToldStep). z.number) (p Axis·north)))
    one_moves (Ok m) (Ok n) p =
        let value = λ (axis : Axis). ap (λ (z : ToldStep). z.value) (p axis) in
        ap (λ (v : ℤ). Ok (record { north = record { v = v }; east = m.east })) (value Axis·north)
        ∙ ap (λ (v : ℤ). Ok (record { north = n.north; east = record { v = v } })) (value Axis·east)

-- `closes_angles` and `closes`
module _ (x y : Result Bool OutOfRange) where
  pub closes_angles_single : (w : ℤ) (n : ℕ) → told_verdict x ≡ misclosure_test w n
      → told_verdict y ≡ misclosure_test w n → x ≡ y
  closes_angles_single w n = verdicts_coincide (misclosure_test w n) x y

  pub closes_single : (north east : ℤ) (s : ℕ) → told_verdict x ≡ closure_test north east s
      → told_verdict y ≡ closure_test north east s → x ≡ y
  closes_single north east s = verdicts_coincide (closure_test north east s) x y
