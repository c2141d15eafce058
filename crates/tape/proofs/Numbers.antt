-- Numbers as bytes spell them, for `search`: read from the rest of a list, put together from
-- halves, and meant with a sign.
use Prim.Native.Nat.{ℕ, suc, ◌+◌, ◌-◌, ◌*◌, ◌<◌}
use native.Mathlib.Decide.{dec_lt}
use native.Mathlib.Omega.{arith}
use native.Mathlib.Numerals.{add-one}
use native.Mathlib.Nat.{add-suc, add-zero}
use mathlib.Core.Path.{◌≡◌, refl, ◌∙◌, ap}
use lib.IntN.{ℤ}
use mathlib.Core.List.{List}
use lib.ListN.{drop, get_or}
use lib.Seq.{get_or-drop}
use borrow.Author.Tests.{lt-ltb, le-ltb}
use Rattle.std.specs.Int.{w16, cast_signed}
use Rattle.records.specs.Bytes.{Width, two, four, num, meant, twos_complement}

pub head_drop : (n : ℕ) (l : List ℕ) → get_or (drop n l) 0 0 ≡ get_or l n 0
head_drop n l = rw (get_or-drop, add-zero)

pub num_drop : (w : Width) (n : ℕ) (l : List ℕ) (k : ℕ) → num w (drop n l) k ≡ num w l (n + k)
unfolding num
num_drop two n l k = simp (get_or-drop, add-suc)
num_drop four n l k = simp (get_or-drop, add-suc)

-- ---- as the library puts its bytes together
module _ (l : List ℕ) (k n : ℕ) where
  pub num_two : n ≡ get_or l k 0 * 256 + get_or l (k + 1) 0 → n ≡ num two l k
  unfolding num
  num_two e = e ∙ rw add-one

  pub num_four : n ≡ get_or l k 0 * 16777216 + get_or l (k + 1) 0 * 65536
      + get_or l (k + 2) 0 * 256 + get_or l (k + 3) 0
      → n ≡ num four l k
  unfolding num
  num_four e =
      let f : k + 2 ≡ suc (suc k) = omega arith in
      let g : k + 3 ≡ suc (suc (suc k)) = omega arith in
      e ∙ rw (add-one, f, g)

-- ---- and reads two of them with a sign
pub meant_signed : (n : ℕ) → n < 65536 → cast_signed w16 n ≡ meant twos_complement two n
unfolding meant
meant_signed n h =
    elim (dec_lt n 32768) [
      | yes low ↦ rw (lt-ltb n 32768 low)
      | no high ↦
          let e : 65536 - suc n ≡ 65535 - n = omega arith in rw (le-ltb n 32768 (omega arith), e)
    ]

module _ (l : List ℕ) (k : ℕ) (small : (i : ℕ) → get_or l i 0 < 256) (v : ℤ)
    (e : v ≡ cast_signed w16 (get_or l k 0 * 256 + get_or l (k + 1) 0)) where
  pub signed_two : v ≡ meant twos_complement two (num two l k)
  signed_two =
      let low = small k in
      let high = small (k + 1) in
      e ∙ meant_signed _ (omega arith) ∙ ap (meant twos_complement two) (num_two l k _ refl)

-- ---- what the code is told of
pub ruleset spelled = (num_two, num_four, signed_two)
