-- The root by digits. The next digit is the largest that fits; a pair that is brought down leaves
-- the root of the pairs so far, and its remainder; so the working of all pairs has the whole root.
use mathlib.Core.Path.{◌≡◌, refl, sym, ap, ◌∙◌}
use Prim.Native.Nat.{ℕ, zero, suc, ◌+◌, ◌-◌, ◌*◌, ◌/◌, ◌%◌, ◌^◌, ◌≤◌, ◌<◌}
use native.Mathlib.Nat.{le_antisymm, le-div_iff_mul-le, div-lt_iff_lt-mul}
use native.Mathlib.Nat.{one-le-pow, pow-succ', pow-le-pow_right}
use native.Mathlib.Decide.{dec_le}
use native.Mathlib.Numerals.{add-one}
use native.Mathlib.Omega.{arith}
use borrow.Author.Tests.{le-leb, lt-leb}
use mir.Syntax.{w64}
use mir.Val.{Fits}
use Rattle.steps.proofs.Laws.{product_most, below_root}
use Rattle.steps.specs.declared.root.Working.{Working}
use Rattle.steps.specs.Root.{WholeRoot, takes, NoneAbove, NextDigit, digit_to, digit}
use Rattle.steps.specs.Root.{with_pair, worked}

-- ---- the next digit
-- a digit that fits is below one that does not, since a larger digit takes away more
below : (root m d e : ℕ) → takes root e ≤ m → m < takes root d → e < d
below root m d e h i =
    elim (dec_le d e) [
      | yes j ↦
          let more = product_most (20 * root + d) d (20 * root + e) e (omega arith) j in
          absurd (omega arith)
      | no j ↦ omega arith
    ]

module _ (root m : ℕ) where
  pub one_less : (d : ℕ) → NoneAbove root m d → m < takes root d → NoneAbove root m (d - 1)
  one_less d a h =
      record {
        figure = omega (arith, a.figure);
        above = λ e i j. omega (arith, below root m d e j h);
      }

  -- downwards from a digit above which none fits, the first that fits is the next digit
  digit_from : (d : ℕ) → NoneAbove root m d → NextDigit root m (digit_to d root m)
  unfolding digit_to
  digit_from zero a = record { fits = omega arith; largest = a }
  digit_from (suc d) a =
      let e : suc d - 1 ≡ d = omega arith in
      elim (dec_le (takes root (suc d)) m) [
        | yes i ↦ rw (le-leb (takes root (suc d)) m i) (record { fits = i; largest = a })
        | no i ↦
            let l : m < takes root (suc d) = omega arith in
            rw (lt-leb (takes root (suc d)) m l) (digit_from d (rw e at (one_less (suc d) a l)))
      ]

  pub digit_is : NextDigit root m (digit root m)
  digit_is = digit_from 9 (record { figure = omega arith; above = λ e h i. h })

  pub digit_unique : (d e : ℕ) → NextDigit root m d → NextDigit root m e → d ≡ e
  digit_unique d e h k =
      let i = h.largest in
      let j = k.largest in
      le_antisymm (j.above d i.figure h.fits) (i.above e j.figure k.fits)

  -- ---- as the code finds it, downwards from the trial digit
  -- a digit that fits goes into m with the trial divisor alone
  pub trial_divisor : m < 10 * (20 * root) → NoneAbove root m (m / (20 * root))
  trial_divisor h =
      let q = (div-lt_iff_lt-mul {k = 20 * root} {x = m} {y = 10} (omega arith)).1 (omega arith) in
      record {
        figure = omega arith;
        above = λ e i j. (le-div_iff_mul-le {k = 20 * root} (omega arith)).1 (omega arith);
      }

  pub digit_found : (d : ℕ) → NoneAbove root m d → takes root d ≤ m → d ≡ digit root m
  digit_found d a h = digit_unique d (digit root m) (record { fits = h; largest = a }) digit_is

  pub digit_fits : (d : ℕ) → d ≡ digit root m → takes root d ≤ m
  digit_fits d h = rw h digit_is.fits

-- a product by a digit: it fits, and where it is above a number the digit is not 0
pub by_digit_fits : (a d : ℕ) → a ≤ 20 * 10 ^ 9 → d ≤ 9 → Fits w64 (a * d)
by_digit_fits a d h k = record { fits = omega (arith, product_most a d (20 * 10 ^ 9) 9 h k) }

pub by_some_digit : (m a d : ℕ) → m < a * d → 1 ≤ d
by_some_digit m a zero h = absurd (omega arith)
by_some_digit m a (suc d) h = omega arith

-- ---- the working
-- w is the working of p: p is the root's square and the remainder, and the remainder is too small
-- for the square of the next number
abbrev WorkingOf : ℕ → Working → Type 0
WorkingOf p w = (w.root * w.root + w.remainder ≡ p) × (w.remainder ≤ 2 * w.root)

-- (10 r + d)² is 100 r² and (20 r + d) d; and d + 1 takes away 2 (10 r + d) + 1 more than d
next_working : (p r s t d : ℕ) → r * r + s ≡ p → takes r d ≤ 100 * s + t
    → 100 * s + t < takes r (d + 1)
    → WorkingOf (100 * p + t) (record { root = 10 * r + d; remainder = 100 * s + t - takes r d })
next_working p r s t d h i j = (omega arith, omega arith)

-- one more than the next digit is too large, where 10 is
too_large : (r m : ℕ) → m < takes r 10 → m < takes r (digit r m + 1)
too_large r m h =
    let d = digit r m in
    elim (dec_le (takes r (d + 1)) m) [
      | yes i ↦
          let j = below r m 10 (d + 1) i h in
          absurd (omega (arith, (digit_is r m).largest.above (d + 1) (omega arith) i))
      | no i ↦ omega arith
    ]

-- 10 is too large since the remainder before was at most 2 r
with_pair_of : (p : ℕ) (w : Working) (t : ℕ) → t < 100 → WorkingOf p w
    → WorkingOf (100 * p + t) (with_pair w t)
unfolding with_pair
with_pair_of p w t h s =
    let r = w.root in
    let m = 100 * w.remainder + t in
    let l = too_large r m (omega arith) in
    next_working p r w.remainder t (digit r m) s.0 (digit_is r m).fits l

worked_of : (k x : ℕ) → x < 100 ^ k → WorkingOf x (worked k x)
unfolding worked
worked_of zero x h = (omega arith, omega arith)
worked_of (suc k) x h =
    let front = worked_of k (x / 100) (omega (arith, pow-succ' 100 k)) in
    let e : 100 * (x / 100) + x % 100 ≡ x = omega arith in
    rw e at (with_pair_of (x / 100) (worked k (x / 100)) (x % 100) (omega arith) front)

-- the method finds the whole root, of a number of any k pairs
pub worked_is : (k x : ℕ) → x < 100 ^ k → WholeRoot x (worked k x).root
worked_is k x h = let s = worked_of k x h in (omega arith, omega arith)

pub nine_pairs : (x : ℕ) (w : Working) → w ≡ worked 9 x → x < 100 ^ 9 → WholeRoot x w.root
nine_pairs x w e h = rw e (worked_is 9 x h)

-- ---- as the code works it: the pairs that are left stand first of nine
one_more : (left : ℕ) → 0 < left → left ≤ 9 → 9 - (left - 1) ≡ suc (9 - left)
one_more left h k = omega arith

next_power : (left : ℕ) → 0 < left → left ≤ 9 → 100 ^ (9 - (left - 1)) ≡ 100 * 100 ^ (9 - left)
next_power left h k = rw (one_more left h k) (pow-succ' 100 (9 - left))

pub passed : (x number n : ℕ) → number ≡ x * 100 ^ n → number * 100 ≡ x * 100 ^ (n + 1)
passed x number n e = rw (add-one n, pow-succ' 100 n) (omega arith)

-- a number without pairs has no root
worked_none : (k : ℕ) → worked k 0 ≡ record { root = 0; remainder = 0 }
unfolding worked with_pair digit_to
worked_none zero = refl
worked_none (suc k) = rw (worked_none k)

worked_next : (k front t : ℕ) → t < 100
    → worked (suc k) (100 * front + t) ≡ with_pair (worked k front) t
unfolding worked
worked_next k front t h =
    let e : (100 * front + t) / 100 ≡ front = omega arith in
    let f : (100 * front + t) % 100 ≡ t = omega arith in
    rw (e, f)

-- w is the working of `front`, the pairs of x that are brought down, and `number` has the others
pub record Brought (x number left : ℕ) (w : Working) : Type 0 where
  pub front : ℕ
  pub is : w ≡ worked (9 - left) front
  pub parts : front * 100 ^ 9 + number ≡ x * 100 ^ (9 - left)
  pub number_nine : number < 100 ^ 9
  pub x_nine : x < 100 ^ 9
  pub some : left ≤ 9

pub brought_first : (x number left : ℕ) → x < 100 ^ 9 → left ≤ 9 → number < 100 ^ 9
    → number ≡ x * 100 ^ (9 - left)
    → Brought x number (left - 0) (record { root = 0; remainder = 0 })
brought_first x number left i h k e =
    let all : left - 0 ≡ left = omega arith in
    rw all (record {
      front = 0;
      is = sym (worked_none (9 - left));
      parts = omega arith;
      number_nine = k;
      x_nine = i;
      some = h;
    })

module _ (x number left : ℕ) (w : Working) (b : Brought x number left w) where
  one_pair : (v : Working) → v ≡ with_pair w (number / 100 ^ 8) → 0 < left
      → Brought x (number % 100 ^ 8 * 100) (left - 1) v
  one_pair v f h =
      let t = number / 100 ^ 8 in
      let next = worked_next (9 - left) b.front t (omega (arith, b.number_nine)) in
      let same = f ∙ ap (λ (u : Working). with_pair u t) b.is ∙ sym next in
      record {
        front = 100 * b.front + t;
        is = rw (one_more left h b.some) same;
        parts = rw (next_power left h b.some) (omega (arith, b.parts));
        number_nine = omega (arith, b.number_nine);
        x_nine = b.x_nine;
        some = omega (arith, b.some);
      }

  front_below : b.front < 100 ^ (9 - left)
  front_below =
      let e = 100 ^ (9 - left) in
      let most = product_most x e (100 ^ 9 - 1) e (omega (arith, b.x_nine)) (omega arith) in
      omega (arith, b.parts, one-le-pow (9 - left) 100 (omega arith))

  front_of : WorkingOf b.front w
  front_of = rw b.is (worked_of (9 - left) b.front front_below)

  pub brought_root : w.root < 10 ^ 9
  brought_root =
      let s = front_of in
      let few = pow-le-pow_right {n = 100} (omega arith) {i = 9 - left} {j = 9} (omega arith) in
      let f : b.front < 10 ^ 9 * 10 ^ 9 = omega (arith, front_below) in
      omega (arith, below_root b.front (10 ^ 9 - 1) w.root (omega arith) f)

  pub brought_remainder : w.remainder ≤ 2 * 10 ^ 9
  brought_remainder = let s = front_of in let r = brought_root in omega arith

  pub brought_all : left ≤ 0 → w ≡ worked 9 x
  brought_all h =
      let z : left ≡ 0 = omega arith in
      let p = rw z at b.parts in
      let e : b.front ≡ x = omega (arith, b.number_nine) in
      rw (z, e) at b.is

-- so one more pair is brought down, of `end` of which `count` were
pub brought_next : (x number end count : ℕ) (w v : Working) → Brought x number (end - count) w
    → v ≡ with_pair w (number / 100 ^ 8) → count < end
    → Brought x (number % 100 ^ 8 * 100) (end - (count + 1)) v
brought_next x number end count w v b f h =
    let e : end - count - 1 ≡ end - (count + 1) = omega arith in
    rw e at (one_pair x number (end - count) w b v f (omega arith))
