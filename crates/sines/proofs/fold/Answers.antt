-- `fold` meets its contract: its two tests tell the four quadrants of the definition apart.
use mathlib.Core.Path.{◌≡◌, ◌∙◌}
use Prim.Native.Nat.{◌-◌}
use native.Mathlib.Omega.{arith}
use Rattle.sines.proofs.Quadrants.{first, second, third, fourth}
use Rattle.sines.proofs.fold.Goals as goal
use Rattle.sines.proofs.fold.Goals.{then-angle-gt-HALF_CIRCLE, else-angle-gt-HALF_CIRCLE}

pub returns-then-half-le-QUARTER_CIRCLE-clause-is :
    goal.returns-then-half-le-QUARTER_CIRCLE-clause-is
returns-then-half-le-QUARTER_CIRCLE-clause-is c =
    elim c.if-angle-gt-HALF_CIRCLE.branch [
      | then-angle-gt-HALF_CIRCLE w ↦
          w.half-is ∙ third _ w.if-angle-gt-HALF_CIRCLE.true (omega arith)
      | else-angle-gt-HALF_CIRCLE w ↦ w.half-is ∙ first _ (omega arith)
    ]

pub returns-clause-is : goal.returns-clause-is
returns-clause-is c =
    let a = c.args.angle in
    let h = c.if-angle-gt-HALF_CIRCLE.half in
    elim c.if-angle-gt-HALF_CIRCLE.branch [
      | then-angle-gt-HALF_CIRCLE w ↦
          let e : 6480000 - h ≡ 12960000 - a = omega arith in e ∙ fourth a (omega arith)
      | else-angle-gt-HALF_CIRCLE w ↦
          let e : 6480000 - h ≡ 6480000 - a = omega arith in
          e ∙ second a (omega arith) w.if-angle-gt-HALF_CIRCLE.false
    ]
