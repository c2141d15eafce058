use native.Mathlib.Omega.{arith}
use borrow.Author.Rules.{rules}
use mathlib.Core.Path.{refl, ap}
use Prim.Native.Nat.{◌+◌}
use Rattle.text.proofs.Digits.{decimal_length, digit_count_some, count_two, count_last}
use Rattle.text.proofs.Digits.{pair_next, pair_last, digit_alone, decimal_put}
use Rattle.text.proofs.put_decimal.Goals as goal

pub overflow_add-end : goal.overflow_add-end
overflow_add-end c = search (rules, decimal_length)

pub loop-rest-init : goal.loop-rest-init
loop-rest-init c = (
  ap (λ i. c.args.at + i) c.digit_count.ensures,
  omega (arith, decimal_length c.args.n),
  refl,
  ap (λ i. c.args.at + i) c.digit_count.ensures,
  omega arith,
  refl,
)

pub overflow_sub-place : goal.overflow_sub-place
overflow_sub-place c = search (rules, count_two)

pub put_pair-requires-clause-room : goal.put_pair-requires-clause-room
put_pair-requires-clause-room c = search (rules, count_two)

pub loop-rest-preserved : goal.loop-rest-preserved
loop-rest-preserved c =
    let two = count_two c.loop-rest.rest c.loop-rest-test.true in (
      search rules,
      search rules,
      search rules,
      omega (arith, two),
      omega arith,
      pair_next _ _ _ _ c.loop-rest.invariant.5 _ _ _ c.loop-rest-test.true (omega (arith, two))
          c.put_pair.ensures,
    )

pub put_pair-requires-then-rest-gt9-clause-room : goal.put_pair-requires-then-rest-gt9-clause-room
put_pair-requires-then-rest-gt9-clause-room c = search (rules, count_last)

pub bounds-out-at : goal.bounds-out-at
bounds-out-at c = search (rules, digit_count_some)

pub returns-then-rest-gt9 : goal.returns-then-rest-gt9
returns-then-rest-gt9 c = search (rules, decimal_put, pair_last)

pub returns-else-rest-gt9 : goal.returns-else-rest-gt9
returns-else-rest-gt9 c = search (rules, decimal_put, digit_alone)
