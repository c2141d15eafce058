-- Texts put one after the other are their join put at the offset of the first, and there is room
-- for each where there is room for the join.
use Prim.Native.Nat.{ℕ, suc, ◌+◌, ◌-◌, ◌≤◌, ◌<◌}
use native.Mathlib.Omega.{arith}
use native.Mathlib.Nat.{zero-add}
use mathlib.Core.Path.{◌≡◌, refl, sym, ◌∙◌}
use mathlib.Core.List.{List, [], ◌∷◌, ◌++◌, append_assoc}
use lib.ListN.{length, take, drop, set, length-append}
use borrow.Rule.Slice.PartMut.{put_mid}
use lib.Seq.{sets, sets-eq, length-sets, set_comm, drop-drop}
use Rattle.text.specs.Room.{Room, Put}

sets_then : (xs ys l : List ℕ) (i : ℕ) → sets (sets l i xs) (i + length xs) ys ≡ sets l i (xs ++ ys)
sets_then [] ys l i = let e : i + 0 ≡ i = omega arith in rw e
sets_then (x ∷ xs) ys l i = let e : i + suc (length xs) ≡ suc i + length xs = omega arith in
    rw e (sets_then xs ys (set l i x) (suc i))

-- one more stored before those that stand further on
set_before : (ys l : List ℕ) (x i j : ℕ) → i < j → sets (set l i x) j ys ≡ set (sets l j ys) i x
set_before [] l x i j h = refl
set_before (y ∷ ys) l x i j h =
    rw (set_comm l i j x y (λ f. omega arith)) (set_before ys (set l j y) x i (suc j) (omega arith))

-- the last ones stored first
pub sets_last : (xs ys l : List ℕ) (i : ℕ)
    → sets l i (xs ++ ys) ≡ sets (sets l (i + length xs) ys) i xs
sets_last [] ys l i = let e : i + 0 ≡ i = omega arith in rw e
sets_last (x ∷ xs) ys l i =
    let e : i + suc (length xs) ≡ suc i + length xs = omega arith in
    rw (
      sets_last xs ys (set l i x) (suc i),
      e,
      set_before ys l x i (suc i + length xs) (omega arith),
    )

-- ---- one text after another
module _ (l : List ℕ) (at : ℕ) (xs ys : List ℕ) where
  pub room_first : Room l at (xs ++ ys) → Room l at xs
  room_first h = omega (arith, length-append xs ys)

  module _ (m : List ℕ) (i : ℕ) (p : Put l at xs m i) where
    pub room_then : Room l at (xs ++ ys) → Room m i ys
    room_then h = rw (p.bytes, length-sets l at xs) (omega (arith, length-append xs ys, p.next))

    pub then : (n : List ℕ) (r : ℕ) → Put m i ys n r → Put l at (xs ++ ys) n r
    then n r q = record {
      bytes = q.bytes ∙ rw (p.bytes, p.next) (sets_then xs ys l at);
      next = q.next ∙ omega (arith, length-append xs ys, p.next);
    }

-- ---- each of three texts, where there is room for all
module _ (l : List ℕ) (at : ℕ) (a b c : List ℕ) (h : Room l at (a ++ b ++ c)) where
  pub room_one : Room l at a
  room_one = room_first l at a b (room_first l at (a ++ b) c h)

  module _ (m : List ℕ) (i : ℕ) (p : Put l at a m i) where
    pub room_two : Room m i b
    room_two = room_then l at a b m i p (room_first l at (a ++ b) c h)

    pub room_three : (n : List ℕ) (j : ℕ) → Put m i b n j → Room n j c
    room_three n j q = room_then l at (a ++ b) c n j (then l at a b m i p n j q) h

-- ---- a text put from the first byte on stands over what was there, and what is after it stays
module _ (l t m : List ℕ) (r : ℕ) (p : Put l 0 t m r) where
  pub over_next : r ≡ length t
  over_next = p.next ∙ zero-add (length t)

  pub over_bytes : length t ≤ length l → m ≡ t ++ drop (length t) l
  over_bytes h = p.bytes ∙ rw (← zero-add (length t)) (sets-eq t l 0 (omega arith))

-- ---- a text copied over its part of the bytes
pub copied : (l t copy : List ℕ) (at end : ℕ) → copy ≡ t → Room l at t → end ≡ at + length t
    → Put l at t (put_mid at (end - at) l copy) end
copied l t copy at end e h n =
    let many : end - at ≡ length t = omega arith in
    let after = drop (at + length t) l in
    record {
      bytes = rw (e, many, drop-drop (length t) at l, ← append_assoc (take at l) t after)
          (sym (sets-eq t l at h));
      next = n;
    }
