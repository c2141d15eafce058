-- The bridge to `omega`, which knows natural numbers only. Every whole number is a difference of
-- two naturals, sums, products and opposites of differences are differences again, and so an
-- equation or an order of ℤ is one of ℕ. proofs/Examples.antt shows how a proof uses it. Assumes
-- nothing.
use mathlib.Core.Path.{◌≡◌, refl, ap, subst}
use mathlib.Core.Bool.{Bool, true, false, not, cond}
use mathlib.Core.Logic.{◌⊎◌, inl, inr}
use mathlib.Core.List.{List, [], ◌∷◌}
use Prim.Native.Nat.{ℕ, zero, suc, ◌+◌, ◌-◌, ◌*◌, ◌≤◌, ◌<◌}
use native.Mathlib.Omega.{arith}
use lib.Dec.{T, ltb, ltb→lt, nltb→le, leb→le, le→leb, lt→ltb}
use lib.IntN.{ℤ, pos, negsuc, neg_ℤ, nat_abs, sub_ℕ, ◌+ℤ◌, ◌*ℤ◌}
use Rattle.whole.specs.Order.{◌≤ᶻ◌, ◌<ᶻ◌}

-- the positive and the negative part
abbrev pub up : ℤ → ℕ
up (pos n) = n
up (negsuc n) = 0

abbrev pub dn : ℤ → ℕ
dn (pos n) = 0
dn (negsuc n) = suc n

-- z is a − b
abbrev pub Is : ℤ → ℕ → ℕ → Type 0
Is z a b = up z + b ≡ a + dn z

-- ---- sums, opposites and products of differences
is_sub : (a b : ℕ) → Is (sub_ℕ a b) a b
is_sub a b = go (ltb a b) (ltb→lt a b) (nltb→le a b)
  where
    go : (t : Bool) → (T t → a < b) → (T (not t) → b ≤ a)
        → Is (cond t (negsuc (b - suc a)) (pos (a - b))) a b
    go true f g = let h : a < b = f tt in omega arith
    go false f g = let h : b ≤ a = g tt in omega arith

is_shift : (z : ℤ) (a b c d : ℕ) → a + d ≡ c + b → Is z a b → Is z c d
is_shift z a b c d e h = omega arith

pub is_add : (x y : ℤ) (a b c d : ℕ) → Is x a b → Is y c d → Is (x +ℤ y) (a + c) (b + d)
is_add (pos m) (pos k) a b c d h i = omega arith
is_add (pos m) (negsuc k) a b c d h i =
    is_shift (sub_ℕ m (suc k)) m (suc k) (a + c) (b + d) (omega arith) (is_sub m (suc k))
is_add (negsuc m) (pos k) a b c d h i =
    is_shift (sub_ℕ k (suc m)) k (suc m) (a + c) (b + d) (omega arith) (is_sub k (suc m))
is_add (negsuc m) (negsuc k) a b c d h i = omega arith

pub is_neg : (x : ℤ) (a b : ℕ) → Is x a b → Is (neg_ℤ x) b a
is_neg (pos zero) a b h = omega arith
is_neg (pos (suc m)) a b h = omega arith
is_neg (negsuc m) a b h = omega arith

pub is_mul : (x y : ℤ) (a b c d : ℕ) → Is x a b → Is y c d
    → Is (x *ℤ y) (a * c + b * d) (a * d + b * c)
is_mul (pos m) (pos k) a b c d h i =
    let e : a ≡ m + b = omega arith in
    let f : c ≡ k + d = omega arith in
    rw (e, f) (omega arith)
is_mul (pos m) (negsuc k) a b c d h i =
    let e : a ≡ m + b = omega arith in
    let f : d ≡ c + suc k = omega arith in
    rw (e, f) (is_neg (pos (m * suc k)) _ _ (omega arith))
is_mul (negsuc m) (pos k) a b c d h i =
    let e : b ≡ a + suc m = omega arith in
    let f : c ≡ k + d = omega arith in
    rw (e, f) (is_neg (pos (suc m * k)) _ _ (omega arith))
is_mul (negsuc m) (negsuc k) a b c d h i =
    let e : b ≡ a + suc m = omega arith in
    let f : d ≡ c + suc k = omega arith in
    rw (e, f) (omega arith)

-- ---- a term read as a difference: `search ints` builds the reading by following how the term is
-- made
pub record Diff (z : ℤ) : Type 0 where
  pub p : ℕ
  pub n : ℕ
  pub ok : Is z p n

-- the two sides of an equation or an order, each read
pub record Sides (x y : ℤ) : Type 0 where
  pub left : Diff x
  pub right : Diff y

abbrev pub sides : {x y : ℤ} → Diff x → Diff y → Sides x y
sides d e = record { left = d; right = e }

abbrev pub var : (z : ℤ) → Diff z
var z = record { p = up z; n = dn z; ok = refl }

abbrev pub add : {x y : ℤ} → Diff x → Diff y → Diff (x +ℤ y)
add {x} {y} d e = record {
  p = d.p + e.p;
  n = d.n + e.n;
  ok = is_add x y d.p d.n e.p e.n d.ok e.ok;
}

abbrev pub neg : {x : ℤ} → Diff x → Diff (neg_ℤ x)
neg {x} d = record { p = d.n; n = d.p; ok = is_neg x d.p d.n d.ok }

abbrev pub mul : {x y : ℤ} → Diff x → Diff y → Diff (x *ℤ y)
mul {x} {y} d e =
    record {
      p = d.p * e.p + d.n * e.n;
      n = d.p * e.n + d.n * e.p;
      ok = is_mul x y d.p d.n e.p e.n d.ok e.ok;
    }

abbrev pub nat : (k : ℕ) → Diff (pos k)
nat k = record { p = k; n = 0; ok = refl }

abbrev pub nsuc : (k : ℕ) → Diff (negsuc k)
nsuc k = record { p = 0; n = suc k; ok = refl }

-- `var` is no member: `search` would take every term for one unknown. A proof names its unknowns,
-- `let v = vars (a ∷ b ∷ []) in ..`
pub ruleset ints = (sides, add, mul, neg, nat, nsuc)

abbrev pub Diffs : List ℤ → Type 0
Diffs [] = Unit {0}
Diffs (z ∷ zs) = Diff z × Diffs zs

abbrev pub vars : (zs : List ℤ) → Diffs zs
vars [] = tt
vars (z ∷ zs) = (var z, vars zs)

-- ---- an equation or an order, said of the parts; as rules, `omega int` reads them between plain
-- variables
pub →eq : {x y : ℤ} → up x + dn y ≡ up y + dn x → x ≡ y
→eq {x = pos m} {y = pos k} h = ap pos (omega arith)
→eq {x = pos m} {y = negsuc k} h = absurd (omega arith)
→eq {x = negsuc m} {y = pos k} h = absurd (omega arith)
→eq {x = negsuc m} {y = negsuc k} h = ap negsuc (omega arith)

pub eq→ : {x y : ℤ} → x ≡ y → up x + dn y ≡ up y + dn x
eq→ {x} {y} h = subst (λ (z : ℤ). up x + dn z ≡ up z + dn x) h refl

pub →le : {x y : ℤ} → up x + dn y ≤ up y + dn x → x ≤ᶻ y
→le {x = pos m} {y = pos k} h = record { le = le→leb m k (omega arith) }
→le {x = pos m} {y = negsuc k} h = absurd (omega arith)
→le {x = negsuc m} {y = pos k} h = record { le = tt }
→le {x = negsuc m} {y = negsuc k} h = record { le = le→leb k m (omega arith) }

pub le→ : {x y : ℤ} → x ≤ᶻ y → up x + dn y ≤ up y + dn x
le→ {x = pos m} {y = pos k} h = omega (arith, leb→le m k h.le)
le→ {x = pos m} {y = negsuc k} h = absurd h.le
le→ {x = negsuc m} {y = pos k} h = omega arith
le→ {x = negsuc m} {y = negsuc k} h = omega (arith, leb→le k m h.le)

pub →lt : {x y : ℤ} → up x + dn y < up y + dn x → x <ᶻ y
→lt {x = pos m} {y = pos k} h = record { lt = lt→ltb m k (omega arith) }
→lt {x = pos m} {y = negsuc k} h = absurd (omega arith)
→lt {x = negsuc m} {y = pos k} h = record { lt = tt }
→lt {x = negsuc m} {y = negsuc k} h = record { lt = lt→ltb k m (omega arith) }

pub lt→ : {x y : ℤ} → x <ᶻ y → up x + dn y < up y + dn x
lt→ {x = pos m} {y = pos k} h = omega (arith, ltb→lt m k h.lt)
lt→ {x = pos m} {y = negsuc k} h = absurd h.lt
lt→ {x = negsuc m} {y = pos k} h = omega arith
lt→ {x = negsuc m} {y = negsuc k} h = omega (arith, ltb→lt k m h.lt)

pub ruleset int = (arith, →eq, eq→, →le, le→, →lt, lt→)

-- ---- a goal between terms that were read: `under (search ints) (omega int)`
pub same : {x y : ℤ} (s : Sides x y) → s.left.p + s.right.n ≡ s.right.p + s.left.n → x ≡ y
same s h = →eq (omega (arith, s.left.ok, s.right.ok))

pub under : {x y : ℤ} (s : Sides x y) → s.left.p + s.right.n ≤ s.right.p + s.left.n → x ≤ᶻ y
under s h = →le (omega (arith, s.left.ok, s.right.ok))

pub below : {x y : ℤ} (s : Sides x y) → s.left.p + s.right.n < s.right.p + s.left.n → x <ᶻ y
below s h = →lt (omega (arith, s.left.ok, s.right.ok))

-- ---- a hypothesis between such terms, handed to omega: `omega (arith, le h (search ints))`
pub eq : {x y : ℤ} → x ≡ y → (s : Sides x y) → s.left.p + s.right.n ≡ s.right.p + s.left.n
eq h s = omega (arith, eq→ h, s.left.ok, s.right.ok)

pub le : {x y : ℤ} → x ≤ᶻ y → (s : Sides x y) → s.left.p + s.right.n ≤ s.right.p + s.left.n
le h s = omega (arith, le→ h, s.left.ok, s.right.ok)

pub lt : {x y : ℤ} → x <ᶻ y → (s : Sides x y) → s.left.p + s.right.n < s.right.p + s.left.n
lt h s = omega (arith, lt→ h, s.left.ok, s.right.ok)

-- ---- the size is at most k where the number is between −k and k; antt does not find x from
-- `nat_abs x`, so it is written out
pub abs_under : (x : ℤ) (d : Diff x) {k : ℕ} → (d.p ≤ k + d.n) × (d.n ≤ k + d.p) → nat_abs x ≤ k
abs_under (pos m) d h = omega (arith, d.ok)
abs_under (negsuc m) d h = omega (arith, d.ok)

pub abs_known : (x : ℤ) (d : Diff x) {k : ℕ} → nat_abs x ≤ k → (d.p ≤ k + d.n) × (d.n ≤ k + d.p)
abs_known (pos m) d h = omega (arith, d.ok)
abs_known (negsuc m) d h = omega (arith, d.ok)

-- where the size stands inside something larger, as 2 * nat_abs x ≤ d: it is the number, or its
-- opposite
pub abs_cases : (x : ℤ) (d : Diff x) → (nat_abs x + d.n ≡ d.p) ⊎ (nat_abs x + d.p ≡ d.n)
abs_cases (pos m) d = inl (omega (arith, d.ok))
abs_cases (negsuc m) d = inr (omega (arith, d.ok))
