-- The figures of an accepted traverse keep the rules, said by the rules' own properties and of the
-- answer itself: W is the misclosure, each balanced azimuth is the carried one less its
-- share of W, and the precision number is the largest that the closures allow. `x` is any answer
-- that the promise of `traverse` or `traverse_in` allows, and its number is 0.
use Prim.Native.Nat.{ℕ, ◌+◌, ◌≤◌, ◌<◌}
use native.Mathlib.Omega.{arith}
use mathlib.Core.Path.{◌≡◌, sym, ◌∙◌, ap}
use mathlib.Core.List.{List}
use lib.IntN.{ℤ, pos, ◌-ℤ◌}
use Rattle.answer.specs.Limit.{most_legs}
use Rattle.steps.specs.Azimuth.{Modulo, Misclosure, balanced}
use Rattle.steps.specs.Closure.{Precision}
use Rattle.steps.specs.Share.{share}
use Rattle.steps.proofs.Rooting.{precision_is}
use Rattle.steps.proofs.Turning.{turn_is, misclosure_is}
use Rattle.tape.specs.Fields.{Fields, fields_of}
use Rattle.std.specs.Prelude.{Result}
use Rattle.answer.specs.declared.Refused.{Refused}
use Rattle.desk.specs.declared.Figures.{Figures}
use Rattle.desk.specs.Angles.{turns_of, misclosure_of, Balanced, balanced_traverse}
use Rattle.desk.specs.Answer.{ToldTraverse, told_traverse, north_closure, east_closure}
use Rattle.desk.specs.Answer.{distance_run, adjusted_traverse}
use Rattle.desk.specs.Answer.{traversed_by}
use Rattle.desk.specs.Inside.{Sound}
use Rattle.desk.specs.Traverse.{azimuth_of}
use Rattle.desk.specs.Turns.{carried, balanced_at}
use Rattle.desk.proofs.Accepted.{balanced_tape, Accepted, accepted, accepted_told}
use Rattle.desk.proofs.Accepted.{accepted_sound}
use Rattle.desk.proofs.Balancing.{leg_azimuth}
use Rattle.desk.proofs.Settling.{run_small}

module _ (e : ℕ → ℤ) (tape : List ℕ) (room : ℕ) (x : Result Figures Refused)
    (tells : told_traverse x ≡ traversed_by e tape room)
    (accepts : (told_traverse x).number ≡ 0) where
  abbrev f : Fields
  f = fields_of tape

  abbrev b : Balanced
  b = balanced_tape tape

  a : Accepted e tape room
  a = accepted e tape room (ap (λ (t : ToldTraverse). t.number) (sym tells) ∙ accepts)

  sound : Sound b
  sound = accepted_sound e tape room a

  is_second : told_traverse x ≡ adjusted_traverse e b
  is_second = tells ∙ accepted_told e tape room a

  legs_are : (told_traverse x).legs ≡ f.line.legs
  unfolding adjusted_traverse balanced_traverse
  legs_are = rw (is_second, a.closes)

  w_is : (told_traverse x).w ≡ misclosure_of f
  unfolding adjusted_traverse balanced_traverse
  w_is = rw (is_second, a.closes)

  few : f.line.legs ≤ most_legs
  unfolding balanced_traverse
  few = sound.few

  -- "Misclosure W = carried less given", of the closing azimuth
  pub misclosure_rule :
      Misclosure (carried (turns_of f) (told_traverse x).legs) f.closing.given
      (told_traverse x).w
  unfolding misclosure_of
  misclosure_rule =
      rw (legs_are, w_is) (misclosure_is (carried (turns_of f) f.line.legs) f.closing.given)

  -- "the balanced azimuth of leg j is the carried one less that share, modulo the circle": leg k,
  -- counted from 0, is at the (k+1)-th of n+1 angles
  pub azimuth_at : (k : ℕ) → k < (told_traverse x).legs
      → Modulo (pos (carried (turns_of f) k) -ℤ share (told_traverse x).w (k + 1)
      ((told_traverse x).legs + 1))
      (azimuth_of b k)
  unfolding balanced_at balanced
  azimuth_at k h =
      let low : k < f.line.legs = omega (arith, legs_are) in
      rw (legs_are, w_is, leg_azimuth f k low few) (turn_is _)

  -- "the largest whole P with P squared x 100 x (C_N squared + C_E squared) at most S squared", of
  -- the answer's own closures and of the whole grid distance run
  pub precision_rule :
      Precision (told_traverse x).north_closure (told_traverse x).east_closure (distance_run b)
      (told_traverse x).precision
  unfolding adjusted_traverse
  precision_rule =
      let small = run_small b sound in
      rw (is_second, a.closes)
      (precision_is (north_closure e b) (east_closure e b) (distance_run b) (omega arith))
