-- `whole_ones` divides by a power of ten, which is not zero.
use native.Mathlib.Omega.{arith}
use native.Mathlib.Nat.{one-le-pow}
use Rattle.text.proofs.whole_ones.Goals as goal

pub nonzero_div-result : goal.nonzero_div-result
nonzero_div-result c = omega (arith, one-le-pow c.args.d 10 (omega arith))
