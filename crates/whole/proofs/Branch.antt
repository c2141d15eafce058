-- A choice by a test, from the fact that the code's test tells. `search branch` and `search told`
-- apply these backwards, and so go from the branches of the code to those of a definition.
use Prim.{Unit, ⊥}
use Prim.Native.Nat.{ℕ, zero, suc, ◌≤◌, ◌<◌}
use mathlib.Core.Path.{◌≡◌, refl}
use mathlib.Core.Bool.{Bool, true, false, not, cond, ◌&&◌, ◌||◌}
use native.Mathlib.Omega.{arith}
use lib.Dec.{T, leb, ltb, eqb}
use borrow.Author.Tests.{lt-ltb, le-ltb, le-leb, lt-leb, eq-eqb, ne_eqb, not-true}

pub T_true : (b : Bool) → T b → b ≡ true
T_true true t = refl
T_true false t = absurd t

module _ {A : Type 0} (x y z : A) (a b : ℕ) where
  pub cond_eq : a ≡ b → x ≡ y → x ≡ cond (eqb a b) y z
  cond_eq h e = rw (eq-eqb a b h) e

  pub cond_ne : (a ≡ b → ⊥) → x ≡ z → x ≡ cond (eqb a b) y z
  cond_ne h e = rw (ne_eqb a b h) e

  pub cond_lt : a < b → x ≡ y → x ≡ cond (ltb a b) y z
  cond_lt h e = rw (lt-ltb a b h) e

  pub cond_ge : b ≤ a → x ≡ z → x ≡ cond (ltb a b) y z
  cond_ge h e = rw (le-ltb a b h) e

  pub cond_le : a ≤ b → x ≡ y → x ≡ cond (leb a b) y z
  cond_le h e = rw (le-leb a b h) e

  pub cond_gt : b < a → x ≡ z → x ≡ cond (leb a b) y z
  cond_gt h e = rw (lt-leb a b h) e

-- a choice by two tests, as one by one
module _ {A : Type 0} (y z : A) (q : Bool) where
  pub cond_and : (p : Bool) → cond (p && q) y z ≡ cond p (cond q y z) z
  cond_and true = refl
  cond_and false = refl

-- k is n, and n is not m, as two numerals tell
module _ {A : Type 0} (x y z : A) (k m n : ℕ) where
  pub cond_no : k ≡ n → T (not (eqb n m)) → x ≡ z → x ≡ cond (eqb k m) y z
  cond_no h t e = rw (h, not-true (eqb n m) (T_true (not (eqb n m)) t)) e

-- the same of a number r, or a flag f, that was told to be a, or p
module _ {A : Type 0} (x y z : A) (r a b : ℕ) (e : r ≡ a) where
  pub told_eq : r ≡ b → x ≡ y → x ≡ cond (eqb a b) y z
  told_eq h p = rw (← e, eq-eqb r b h) p

  pub told_ne : (r ≡ b → ⊥) → x ≡ z → x ≡ cond (eqb a b) y z
  told_ne h p = rw (← e, ne_eqb r b h) p

  pub told_lt : r < b → x ≡ y → x ≡ cond (ltb a b) y z
  told_lt h p = rw (← e, lt-ltb r b h) p

  pub told_ge : b ≤ r → x ≡ z → x ≡ cond (ltb a b) y z
  told_ge h p = rw (← e, le-ltb r b h) p

module _ {A : Type 0} (x y z : A) (f p : Bool) (e : f ≡ p) where
  pub told_yes : f ≡ true → x ≡ y → x ≡ cond p y z
  told_yes h q = rw (← e, h) q

  pub told_no : f ≡ false → x ≡ z → x ≡ cond p y z
  told_no h q = rw (← e, h) q

-- and a flag that came out true
pub told_true : (f p : Bool) → f ≡ p → f ≡ true → p ≡ true
told_true f p e h = rw (← e) h

pub ruleset told = (told_eq, told_ne, told_lt, told_ge, told_yes, told_no)

pub ruleset branch = (cond_eq, cond_no, cond_ne, cond_lt, cond_ge, cond_le, cond_gt)

-- ---- a choice has P if each branch has it, where the test came out for that branch
pub by_test : {A : Type 0} (P : A → Type 0) {x y : A} (b : Bool) → (b ≡ true → P x)
    → (b ≡ false → P y) → P (cond b x y)
by_test P true f g = f refl
by_test P false f g = g refl

-- and a fact follows if each of two tests that may have passed tells it
pub either : {A : Type 0} (p q : Bool) → (p ≡ true → A) → (q ≡ true → A) → (p || q) ≡ true → A
either true q f g e = f refl
either false q f g e = g e

-- a choice that came out zero, where only the first branch is
pub left : (p : Bool) (n : ℕ) → 0 < n → cond p 0 n ≡ 0 → p ≡ true
left true n h e = refl
left false n h e = absurd (omega arith)

-- ---- what the last arm of a match knows: a number that is none of the keys below n is past them
-- all
abbrev Missed : ℕ → ℕ → Type 0
Missed zero k = Unit
Missed (suc n) k = Missed n k × (k ≡ n → ⊥)

pub past : (n k : ℕ) → Missed n k → n ≤ k
past zero k h = omega arith
past (suc n) k h = omega (arith, past n k h.0, h.1)
