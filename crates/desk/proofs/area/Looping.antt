-- The words of the stations, taken from the first: the offsets of a station are those of the list
-- of them, and so the sum that stops before the last station is the doubled area of that list.
use Prim.Native.Nat.{ℕ, zero, suc, ◌+◌, ◌-◌, ◌*◌, ◌^◌, ◌≤◌, ◌<◌}
use native.Mathlib.Omega.{arith}
use native.Mathlib.Decide.{ℕ_discrete}
use mathlib.Core.Path.{◌≡◌, refl, sym, ◌∙◌}
use mathlib.Core.List.{List, [], ◌∷◌}
use lib.ListN.{length, get_or, length-append, get_or-append}
use lib.Seq.{get_or_at, get_or-append-add}
use lib.IntN.{ℤ, pos, ◌+ℤ◌, ◌-ℤ◌, ◌*ℤ◌, +ℤ_idr}
use Rattle.whole.proofs.Ring.{ring, exps}
use Rattle.steps.specs.Area.{northing, easting, cross, doubled_to, doubled}
use Rattle.steps.specs.Course.{Axis, north, east}
use Rattle.steps.proofs.Areas.{small_at, next_first, next_on, round_next, round_last}
use Rattle.desk.specs.Traverse.{word_index}
use Rattle.desk.specs.Inside.{word_at, station_at, taken_at, taken_from, Bounded, AreaRanged}
use Rattle.desk.specs.declared.vector.Vector.{Vector}

-- ---- the list of what is taken from the first station
module _ (words : List ℤ) where
  taken_length : (k : ℕ) → length (taken_from words k) ≡ 2 * k
  unfolding taken_from
  taken_length zero = refl
  taken_length (suc k) =
      omega (
        arith,
        length-append (taken_from words k)
            ((taken_at words k).north.v ∷ (taken_at words k).east.v ∷ []),
        taken_length k,
      )

  -- the two words of its last station, and of any
  taken_last : (axis : Axis) (k : ℕ)
      → get_or (taken_from words (suc k)) (word_index axis k) (pos 0) ≡ word_at words
      (word_index axis k) -ℤ word_at words (word_index axis 0)
  unfolding taken_from
  taken_last north k = get_or_at (taken_from words k) _ _ (pos 0) (2 * k) (taken_length k)
  taken_last east k =
      let e : 2 * k + 1 ≡ length (taken_from words k) + 1 = omega (arith, taken_length k) in
      rw e (get_or-append-add (taken_from words k) _ 1 (pos 0))

  taken_room : (axis : Axis) (k n : ℕ) → k < n → word_index axis k < length (taken_from words n)
  taken_room north k n h = omega (arith, taken_length n)
  taken_room east k n h = omega (arith, taken_length n)

  taken_word : (axis : Axis) (k n : ℕ) → k < n
      → get_or (taken_from words n) (word_index axis k) (pos 0) ≡ word_at words
      (word_index axis k) -ℤ word_at words (word_index axis 0)
  unfolding taken_from
  taken_word axis k zero h = absurd (omega arith)
  taken_word axis k (suc n) h =
      elim (ℕ_discrete k n) [
        | yes e ↦ rw e (taken_last axis n)
        | no e ↦ get_or-append (taken_from words n) _ (pos 0) (word_index axis k)
            (taken_room axis k n (omega arith)) ∙ taken_word axis k n (omega arith)
      ]

  module _ (n : ℕ) (p : AreaRanged n words) where
    -- ---- the first station, and any
    pub first_within : Bounded (2 ^ 40) (station_at words 0)
    first_within = p.each 0 (omega (arith, p.some))

    -- ---- the offsets of a station
    module _ (k : ℕ) (o : Vector) (h : k < n) (t : o ≡ taken_at words k) where
      north_is : o.north.v ≡ northing (taken_from words n) k
      north_is = rw t (sym (taken_word north k n h))

      east_is : o.east.v ≡ easting (taken_from words n) k
      east_is = rw t (sym (taken_word east k n h))

      pub ranged : Bounded 130000000 o
      ranged =
          let l = taken_from words n in
          record {
            north = rw north_is (small_at l (2 * k) p.near (taken_room north k n h));
            east = rw east_is (small_at l (2 * k + 1) p.near (taken_room east k n h));
          }

    -- ---- the sum
    pub sum_next : (i : ℕ) (here there : Vector) (sum z r : ℤ) → r ≡ sum +ℤ z
        → z ≡ here.north.v *ℤ there.east.v -ℤ there.north.v *ℤ here.east.v
        → here ≡ taken_at words i
        → there ≡ taken_at words (i + 1) → i + 1 < n → sum ≡ doubled_to (taken_from words n) i
        → r ≡ doubled_to (taken_from words n) (i + 1)
    unfolding cross
    sum_next i here there sum z r e f s t h g =
        let l = taken_from words n in
        let k : i < n = omega arith in
        let c : z ≡ cross l i (i + 1) =
        f ∙ rw (
          north_is i here k s,
          east_is i here k s,
          north_is (i + 1) there h t,
          east_is (i + 1) there h t,
        ) in
        round_next l i n (i + 1) sum z r e c (next_on i n k (λ q. omega arith)) g
        (sym (taken_length n))

    -- a station and the one before it, as they are at hand on the way round
    module _ (k : ℕ) (here there : Vector) (some : 1 ≤ k) (h : k < n)
        (s : here ≡ taken_at words (k - 1)) (t : there ≡ taken_at words k) where
      pub here_ranged : Bounded 130000000 here
      here_ranged = ranged (k - 1) here (omega arith) s

      pub there_ranged : Bounded 130000000 there
      there_ranged = ranged k there h t

      pub next_is : there ≡ taken_at words (k + 1 - 1)
      next_is = let i : k + 1 - 1 ≡ k = omega arith in rw i t

      pub sum_on : (sum z r : ℤ) → r ≡ sum +ℤ z
          → z ≡ here.north.v *ℤ there.east.v -ℤ there.north.v *ℤ here.east.v
          → sum ≡ doubled_to (taken_from words n) (k - 1)
          → r ≡ doubled_to (taken_from words n) (k + 1 - 1)
      sum_on sum z r e f g =
          let i : k ≡ k - 1 + 1 = omega arith in
          let j : k + 1 - 1 ≡ k - 1 + 1 = omega arith in
          rw j (sum_next (k - 1) here there sum z r e f s (rw i at t) (omega arith) g)

    -- two stations, one of them the first, make no triangle with it
    last_nothing : (i : ℕ) → pos 0 ≡ cross (taken_from words n) i 0
    unfolding cross
    last_nothing i =
        let l = taken_from words n in
        let h : 0 < n = omega (arith, p.some) in
        rw (taken_word north 0 n h, taken_word east 0 n h)
        (ring (northing l i ∷ easting l i ∷ word_at words 0 ∷ word_at words 1 ∷ [])
        (λ v. search exps) tt)

    pub sum_last : (k : ℕ) (sum : ℤ) → sum ≡ doubled_to (taken_from words n) (k - 1) → 1 ≤ k
        → (1 ≤ n → k ≤ n) → n ≤ k → sum ≡ doubled (taken_from words n)
    sum_last k sum e some low high =
        let l = taken_from words n in
        let m = sym (taken_length n) in
        let i : k - 1 < n = omega (arith, low p.some) in
        let j : n ≤ k - 1 + 1 = omega arith in
        let last = round_next l (k - 1) n 0 sum (pos 0) sum (sym (+ℤ_idr sum))
        (last_nothing (k - 1))
        (next_first (k - 1) n (omega (arith, low p.some))) e m in
        round_last l (k - 1 + 1) n sum last (omega (arith, low p.some)) j m
