-- docs/RULES.md, "Figures on both sides": what the definitions give is what the rules print. The
-- figures marked P are one claim over one list, `marked`; the other figures of the steps stand in
-- `others`, and those of the combined factor in `products`. All are computed by antt from the
-- definitions. A further figure is one line.
use mathlib.Core.Path.{◌≡◌, refl}
use mathlib.Core.List.{List, [], ◌∷◌, map}
use Prim.Native.Nat.{ℕ, ◌+◌, ◌*◌}
use lib.IntN.{ℤ, pos, neg_ℤ}
use Rattle.whole.specs.Nearest.{nearest}
use Rattle.whole.specs.Sum.{sum_to}
use Rattle.answer.specs.Told.{ToldStep, given, inside}
use Rattle.minutes.specs.Entry.{entry}
use Rattle.minutes.specs.Exact.{exact_sine, exact_quarter, by_series, series, weight, unity}
use Rattle.minutes.specs.Exact.{straight}
use Rattle.minutes.specs.Exact.{pi, factorial}
use Rattle.minutes.specs.Quadrant.{around, signed_by, folded}
use Rattle.sines.specs.Sine.{between, quarter_by, sine_by, of_angle}
use Rattle.steps.specs.Distance.{sea_level, combine, grid, sea_level_step, combine_step}
use Rattle.steps.specs.Azimuth.{turn, misclosure, closes_angles, misclosure_step}
use Rattle.steps.specs.Azimuth.{misclosure_test}
use Rattle.steps.specs.Share.{share, share_step}
use Rattle.steps.specs.Course.{north, east, move, sine_along, course_step}
use Rattle.steps.specs.Root.{digit_to, with_pair, worked}
use Rattle.steps.specs.Closure.{closes, root, precision, closure_test, precision_step}
use Rattle.steps.specs.Area.{cross, next_station, doubled_to, good_offsets, area_step}

-- a figure: what a step tells by the definitions, and the number that the rules print
pub record Figure : Type 0 where
  pub rule : ToldStep
  pub printed : ℤ

abbrev fig : ToldStep → ℤ → Figure
fig rule printed = record { rule = rule; printed = printed }

-- degrees, minutes, seconds and a tenth
abbrev dms : ℕ → ℕ → ℕ → ℕ → ℕ
dms degrees minutes seconds tenth = ((degrees * 60 + minutes) * 60 + seconds) * 10 + tenth

abbrev sine_at : ℕ → ToldStep
sine_at a = of_angle a (sine_by entry a)

pub marked : List Figure
marked =
    fig (sine_at 0) (pos 0)
    ∷ fig (sine_at (dms 30 0 0 0)) (pos 500000000)
    ∷ fig (sine_at (dms 90 0 0 0)) (pos 1000000000)
    ∷ fig (sine_at (dms 0 1 0 0)) (pos 290888)
    ∷ fig (sine_at (dms 0 0 0 1)) (pos 485)
    ∷ fig (sine_at (dms 0 0 30 0)) (pos 145444)
    ∷ fig (sea_level_step (pos 950)) (pos 9999546)
    ∷ fig (sea_level_step (pos 1952)) (pos 9999066)
    ∷ fig (sea_level_step (pos 1235)) (pos 9999409)
    ∷ fig (sea_level_step (neg_ℤ (pos 1000))) (pos 10000478)
    ∷ fig (combine_step 9999546 9999412) (pos 9998958)
    ∷ fig (course_step entry north 5387658 (dms 208 33 59 7)) (pos 473178)
    ∷ fig (course_step entry east 5387658 (dms 208 33 59 7)) (pos 257627)
    ∷ fig (course_step entry north 5190741 (dms 268 10 58 2)) (pos 16460)
    ∷ fig (course_step entry east 5190741 (dms 268 10 58 2)) (pos 518813)
    ∷ fig (share_step (pos 2) 1 3) (pos 1)
    ∷ fig (share_step (pos 2) 2 3) (pos 1)
    ∷ fig (share_step (pos 2) 3 3) (pos 2)
    ∷ fig (share_step (neg_ℤ (pos 30)) 2636200 5276590) (neg_ℤ (pos 15))
    ∷ []

-- the steps of the rules' other figures, and of the sheet that they print whole
pub others : List Figure
others =
    fig (misclosure_step 12959999 0) (neg_ℤ (pos 1))
    ∷ fig (misclosure_test (pos 500) 4) (pos 1)
    ∷ fig (misclosure_test (pos 501) 4) (pos 0)
    ∷ fig (closure_test (pos 80) (pos 0) 4000030) (pos 1)
    ∷ fig (closure_test (pos 80) (pos 1) 4000030) (pos 0)
    ∷ fig (precision_step (neg_ℤ (pos 30)) (pos 29) 5276590) (pos 12646)
    ∷ fig (precision_step (neg_ℤ (pos 1)) (pos 2) 4000030) (pos 178886)
    ∷ fig (area_step (pos 0 ∷ pos 0 ∷ pos 100000 ∷ pos 0 ∷ pos 100001 ∷ pos 100001 ∷ pos 0 ∷ pos
    100000 ∷ [])) (pos 20000200000)
    ∷ []

-- the combined factor: the client's yard at 7,000 feet, and two products that document 002 works
-- out
pub products : List Figure
products =
    fig (sea_level_step (pos 7000)) (pos 9996653)
    ∷ fig (combine_step 9996653 10001989) (pos 9998641)
    ∷ fig (combine_step 9999066 9999407) (pos 9998473)
    ∷ fig (combine_step 9999409 9999750) (pos 9999159)
    ∷ []

abbrev Hold : List Figure → Type 0
Hold figures =
    map (λ (f : Figure). f.rule) figures ≡ map (λ (f : Figure). given f.printed) figures

pub marked_hold : Hold marked
unfolding marked sine_by quarter_by between entry nearest exact_sine around signed_by folded
    exact_quarter
    by_series series weight unity straight pi factorial sea_level combine grid inside share move
    sine_along
marked_hold = refl

pub others_hold : Hold others
unfolding others turn misclosure closes_angles inside closes root precision cross next_station
    doubled_to good_offsets sum_to
others_hold = refl

pub products_hold : Hold products
unfolding products sea_level combine inside
products_hold = refl

-- the two roots of docs/ROOT.md, worked by the definition of the method: root and remainder
pub roots_worked : (worked 9 159921895 ≡ record { root = 12646; remainder = 579 })
    × (worked 9 32000480001 ≡ record { root = 178886; remainder = 279005 })
unfolding worked with_pair digit_to
roots_worked = (refl, refl)
