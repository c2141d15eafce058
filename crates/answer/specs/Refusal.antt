-- docs/RULES.md, "Nine refusals": the number of each, under one name, and of each case of the
-- code's enum.
use Rattle.std.specs.Prelude.{◌≡◌, ℕ, Result, Ok, Err}
use Rattle.answer.specs.declared.UnknownNumber.{UnknownNumber}
use Rattle.answer.specs.declared.Refusal.{Refusal}
use Rattle.answer.specs.declared.Refusal.TheVariants.{NoRoom, CutShort, OutOfOrder, OutOfRange}
use Rattle.answer.specs.declared.Refusal.TheVariants.{BadRows, TooManyLegs, NoRow, BadAngles}
use Rattle.answer.specs.declared.Refusal.TheVariants.{BadClosure}

-- "a lent buffer is too short"
abbrev pub no_room : ℕ
no_room = 1

-- "the tape ends inside a record, or before a close is read"
abbrev pub cut_short : ℕ
cut_short = 2

-- "a kind unknown or out of order, or a byte after close"
abbrev pub out_of_order : ℕ
out_of_order = 3

-- "a field out of range", or an input of a public arithmetic step
abbrev pub out_of_range : ℕ
out_of_range = 4

-- "a row not one minute above the last, or a 601st row"
abbrev pub bad_rows : ℕ
bad_rows = 5

-- "a 65th leg"
abbrev pub too_many_legs : ℕ
too_many_legs = 6

-- "no row for the mean latitude"
abbrev pub no_row : ℕ
no_row = 7

-- "angular misclosure too large"
abbrev pub bad_angles : ℕ
bad_angles = 8

-- "position closure too large"
abbrev pub bad_closure : ℕ
bad_closure = 9

-- the number of each case
abbrev pub number_of : Refusal → ℕ
number_of NoRoom = no_room
number_of CutShort = cut_short
number_of OutOfOrder = out_of_order
number_of OutOfRange = out_of_range
number_of BadRows = bad_rows
number_of TooManyLegs = too_many_legs
number_of NoRow = no_row
number_of BadAngles = bad_angles
number_of BadClosure = bad_closure

-- a number names the refusal that has it; one that no refusal has is answered as it is
abbrev pub Names : ℕ → Result Refusal UnknownNumber → Type 0
Names n (Ok r) = number_of r ≡ n
Names n (Err u) = (u.number ≡ n) × ((r : Refusal) → number_of r ≡ n → ⊥)
