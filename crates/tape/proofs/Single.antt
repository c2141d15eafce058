-- Any two outcomes that a promise of this crate allows coincide: a tape reads in one way, with one
-- set of fields, or is refused with one number and place, and what stands at a place of it is one
-- sight. It is true because each promise says what the outcome equals, from what was given alone.
use mathlib.Core.Path.{◌≡◌, sym, ◌∙◌}
use mathlib.Core.List.{List}
use Rattle.tape.specs.declared.State.{State}
use Rattle.tape.specs.declared.Control.{Control}
use Prim.Native.Nat.{ℕ}
use Rattle.tape.specs.declared.Sight.{Sight}
use Rattle.tape.specs.Tape.{reading_of}
use Rattle.tape.specs.Fields.{taken_of}
use Rattle.tape.specs.Legs.{sight_at}
use Rattle.std.specs.Prelude.{Result}
use Rattle.answer.specs.declared.Refused.{Refused}

-- `read`
pub read_single : (tape : List ℕ) (x y : Result State Refused) → x ≡ reading_of tape
    → y ≡ reading_of tape → x ≡ y
read_single tape x y e f = e ∙ sym f

-- `take`
pub take_single : (tape : List ℕ) (x y : Result Control Refused) → x ≡ taken_of tape
    → y ≡ taken_of tape → x ≡ y
take_single tape x y e f = e ∙ sym f

-- `sight_at`
pub sight_single : (tape : List ℕ) (at : ℕ) (x y : Sight) → x ≡ sight_at tape at
    → y ≡ sight_at tape at → x ≡ y
sight_single tape at x y e f = e ∙ sym f
