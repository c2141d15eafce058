-- The numbers of the refusals are 1 to 9.
use Prim.Native.Nat.{◌≤◌}
use native.Mathlib.Omega.{arith}
use Rattle.answer.specs.Refusal.{number_of}
use Rattle.answer.specs.declared.Refusal.{Refusal}
use Rattle.answer.specs.declared.Refusal.TheVariants.{NoRoom, CutShort, OutOfOrder, OutOfRange}
use Rattle.answer.specs.declared.Refusal.TheVariants.{BadRows, TooManyLegs, NoRow, BadAngles}
use Rattle.answer.specs.declared.Refusal.TheVariants.{BadClosure}

pub number_in : (r : Refusal) → (1 ≤ number_of r) × (number_of r ≤ 9)
number_in NoRoom = (omega arith, omega arith)
number_in CutShort = (omega arith, omega arith)
number_in OutOfOrder = (omega arith, omega arith)
number_in OutOfRange = (omega arith, omega arith)
number_in BadRows = (omega arith, omega arith)
number_in TooManyLegs = (omega arith, omega arith)
number_in NoRow = (omega arith, omega arith)
number_in BadAngles = (omega arith, omega arith)
number_in BadClosure = (omega arith, omega arith)
