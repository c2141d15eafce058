-- The laws of ℤ's ring, order and size that the kit leaves out, by names that `rw` and `search` can
-- cite. Assumes nothing.
use mathlib.Core.Path.{◌≡◌, refl, sym, ◌∙◌, ap}
use mathlib.Core.List.{[], ◌∷◌}
use Prim.Native.Nat.{ℕ, zero, suc, ◌+◌, ◌*◌, ◌≤◌, ◌<◌}
use native.Mathlib.Nat.{le_of_mul-le-mul_left}
use native.Mathlib.Omega.{arith}
use lib.IntN.{ℤ, pos, negsuc, neg_ℤ, nat_abs, ◌+ℤ◌, ◌-ℤ◌, ◌*ℤ◌}
use Rattle.whole.specs.Order.{◌≤ᶻ◌}
use Rattle.whole.proofs.Diff.{up, dn, ints, int, vars, same, under, le, abs_under}

-- ---- the ring
pub mul_assoc : (a b c : ℤ) → a *ℤ b *ℤ c ≡ a *ℤ (b *ℤ c)
mul_assoc a b c = let v = vars (a ∷ b ∷ c ∷ []) in same (search ints) (omega arith)

pub mul_left_comm : (a b c : ℤ) → a *ℤ (b *ℤ c) ≡ b *ℤ (a *ℤ c)
mul_left_comm a b c = let v = vars (a ∷ b ∷ c ∷ []) in same (search ints) (omega arith)

pub one_mul : (a : ℤ) → pos 1 *ℤ a ≡ a
one_mul a = let v = vars (a ∷ []) in same (search ints) (omega arith)

pub mul_one : (a : ℤ) → a *ℤ pos 1 ≡ a
mul_one a = let v = vars (a ∷ []) in same (search ints) (omega arith)

pub add_left_comm : (a b c : ℤ) → a +ℤ (b +ℤ c) ≡ b +ℤ (a +ℤ c)
add_left_comm a b c = let v = vars (a ∷ b ∷ c ∷ []) in same (search ints) (omega arith)

pub mul_add : (a b c : ℤ) → a *ℤ (b +ℤ c) ≡ a *ℤ b +ℤ a *ℤ c
mul_add a b c = let v = vars (a ∷ b ∷ c ∷ []) in same (search ints) (omega arith)

pub add_mul : (a b c : ℤ) → (a +ℤ b) *ℤ c ≡ a *ℤ c +ℤ b *ℤ c
add_mul a b c = let v = vars (a ∷ b ∷ c ∷ []) in same (search ints) (omega arith)

pub mul_sub : (a b c : ℤ) → a *ℤ (b -ℤ c) ≡ a *ℤ b -ℤ a *ℤ c
mul_sub a b c = let v = vars (a ∷ b ∷ c ∷ []) in same (search ints) (omega arith)

pub sub_self : (a : ℤ) → a -ℤ a ≡ pos 0
sub_self a = let v = vars (a ∷ []) in same (search ints) (omega arith)

pub neg_sub : (a b : ℤ) → neg_ℤ (a -ℤ b) ≡ b -ℤ a
neg_sub a b = let v = vars (a ∷ b ∷ []) in same (search ints) (omega arith)

-- ---- the order
pub ≤ᶻ-trans : {a b c : ℤ} → a ≤ᶻ b → b ≤ᶻ c → a ≤ᶻ c
≤ᶻ-trans h k = omega int

pub neg_anti : {a b : ℤ} → a ≤ᶻ b → neg_ℤ b ≤ᶻ neg_ℤ a
neg_anti {a} {b} h = let v = vars (a ∷ b ∷ []) in under (search ints) (omega int)

pub sub_nonneg : {a b : ℤ} → a ≤ᶻ b → pos 0 ≤ᶻ b -ℤ a
sub_nonneg {a} {b} h = let v = vars (a ∷ b ∷ []) in under (search ints) (omega int)

pub nonneg_sub : {a b : ℤ} → pos 0 ≤ᶻ b -ℤ a → a ≤ᶻ b
nonneg_sub {a} {b} h = let v = vars (a ∷ b ∷ []) in
    under (search ints) (omega (arith, le h (search ints)))

pub mul_nonneg : {a b : ℤ} → pos 0 ≤ᶻ a → pos 0 ≤ᶻ b → pos 0 ≤ᶻ a *ℤ b
mul_nonneg {a = pos m} {b = pos n} h k = omega int
mul_nonneg {a = pos m} {b = negsuc n} h k = absurd k.le
mul_nonneg {a = negsuc m} {b} h k = absurd h.le

-- a factor that is not negative keeps an order
pub mul_mono : {a b : ℤ} (c : ℤ) → pos 0 ≤ᶻ c → a ≤ᶻ b → c *ℤ a ≤ᶻ c *ℤ b
mul_mono {a} {b} c h k = nonneg_sub (rw mul_sub at (mul_nonneg h (sub_nonneg k)))

-- and a positive one cancels
pub mul_cancel : {a b : ℤ} (k : ℕ) → 0 < k → pos k *ℤ a ≤ᶻ pos k *ℤ b → a ≤ᶻ b
mul_cancel {a} {b} k h g =
    let v = vars (a ∷ b ∷ []) in
    let e : k * (up a + dn b) ≤ k * (up b + dn a) = omega (arith, le g (search ints)) in
    let f = le_of_mul-le-mul_left e h in
    omega int

-- ---- the size
pub abs_neg : (x : ℤ) → nat_abs (neg_ℤ x) ≡ nat_abs x
abs_neg (pos zero) = refl
abs_neg (pos (suc n)) = refl
abs_neg (negsuc n) = refl

pub abs_sub : (x y : ℤ) → nat_abs (x -ℤ y) ≡ nat_abs (y -ℤ x)
abs_sub x y = sym (ap nat_abs (neg_sub y x)) ∙ abs_neg (y -ℤ x)

pub abs_mul : (x y : ℤ) → nat_abs (x *ℤ y) ≡ nat_abs x * nat_abs y
abs_mul (pos m) (pos n) = refl
abs_mul (pos m) (negsuc n) = abs_neg (pos (m * suc n))
abs_mul (negsuc m) (pos n) = abs_neg (pos (suc m * n))
abs_mul (negsuc m) (negsuc n) = refl

-- of the two parts one is zero
pub abs_parts : (x : ℤ) → nat_abs x ≡ up x + dn x
abs_parts (pos n) = omega arith
abs_parts (negsuc n) = omega arith

pub triangle : (x y : ℤ) → nat_abs (x +ℤ y) ≤ nat_abs x + nat_abs y
triangle x y = let v = vars (x ∷ y ∷ []) in
    abs_under (x +ℤ y) (search ints) (omega (arith, abs_parts x, abs_parts y))

pub triangle_sub : (x y : ℤ) → nat_abs (x -ℤ y) ≤ nat_abs x + nat_abs y
triangle_sub x y = omega (arith, triangle x (neg_ℤ y), abs_neg y)

-- a place near a fixed one is not much larger
pub near_most : (p : ℤ) (f k : ℕ) → nat_abs (p -ℤ pos f) ≤ k → nat_abs p ≤ k + f
near_most p f k h =
    let v = vars (p ∷ pos f ∷ []) in
    let e : p ≡ p -ℤ pos f +ℤ pos f = same (search ints) (omega arith) in
    rw e (omega (arith, triangle (p -ℤ pos f) (pos f)))
