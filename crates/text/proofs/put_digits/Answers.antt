use Prim.Native.Nat.{◌+◌, ◌-◌}
use native.Mathlib.Omega.{arith}
use borrow.Author.Rules.{rules}
use mathlib.Core.Path.{◌≡◌, refl}
use Rattle.text.proofs.Digits.{digits_room, digit_next, none_left}
use Rattle.text.proofs.put_digits.Goals as goal

pub loop-i-init : goal.loop-i-init
loop-i-init c = (search digits_room, refl, refl)

pub loop-i-preserved : goal.loop-i-preserved
loop-i-preserved c =
    let one : c.loop-i.i - 1 + 1 ≡ c.loop-i.i = omega arith in (
      search rules,
      search rules,
      digit_next _ _ _ _ _ (c.loop-i.i - 1) c.loop-i.rest _ refl (rw one c.loop-i.invariant.2),
    )

pub returns : goal.returns
returns c = search (rules, none_left)
