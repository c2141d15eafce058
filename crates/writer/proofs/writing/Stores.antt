-- What the stores of a record leave: a field at its place, and of an elevation the two bytes of its
-- two's complement.
use mathlib.Core.Path.{◌≡◌, refl}
use mathlib.Core.List.{List, append_assoc}
use Prim.Native.Nat.{ℕ, ◌+◌, ◌-◌, ◌≤◌}
use native.Mathlib.Omega.{arith}
use lib.ListN.{length}
use lib.Seq.{sets, sets-eq, drop-drop}
use borrow.Rule.Slice.PartMut.{put_mid}
use lib.IntN.{ℤ, pos, negsuc, nat_abs}
use mir.Syntax.{w16}
use mir.Val.{SFits, of_z, to_z}
use mir.Facts.{to_z-of_z}
use Rattle.whole.proofs.Machine.{back, back_is}
use Rattle.records.specs.Bytes.{two, written}

-- ---- a field put at a place
pub put_at : (out field part : List ℕ) (at : ℕ) → part ≡ field → at + length field ≤ length out
    → put_mid at (at + length field - at) out part ≡ sets out at field
put_at out field part at e room =
    let h : at + length field - at ≡ length field = omega arith in
    rw (e, h, sets-eq field out at room, drop-drop, append_assoc)

-- ---- what two bytes hold of an elevation, which passes through its bits
narrow : (z : ℤ) → nat_abs z ≤ 20000 → SFits w16 z
narrow (pos n) h = record { sfits = omega arith }
narrow (negsuc n) h = record { sfits = omega arith }

low_two : (z : ℤ) → of_z w16 z ≡ written two z
unfolding written
low_two (pos n) = refl
low_two (negsuc n) = omega arith

pub elevation_bits : (z : ℤ) → nat_abs z ≤ 20000
    → of_z w16 (to_z w16 (of_z w16 (back z))) ≡ written two z
elevation_bits z h = rw (back_is z (omega arith), to_z-of_z (narrow z h)) (low_two z)
