-- What a list that is filled from the front by a sequence has at each place, and the list that it
-- then is.
use Prim.Native.Nat.{ℕ, zero, suc, ◌+◌, ◌≤◌, ◌<◌}
use native.Mathlib.Omega.{arith}
use native.Mathlib.Numerals.{add-one}
use native.Mathlib.Decide.{dec_lt}
use mathlib.Core.Path.{◌≡◌, refl, sym, ◌∙◌, ap, subst}
use mathlib.Core.List.{List, ◌++◌}
use borrow.Author.Rules.{read_below}
use lib.ListN.{length, get_or, set, take, drop, length-set}
use lib.Seq.{get_or-set_same, get_or-set_other, ext_get_or}
use Rattle.std.specs.Prelude.{map}
use Rattle.std.proofs.lemmas.List.{map-set, set-append_left, length-take-le, take-append-drop}
use Rattle.whole.specs.Filled.{filled}

module _ {A : Type 0} (g : ℕ → A) (l : List A) where
  pub filled_length : (n : ℕ) → length (filled g n l) ≡ length l
  unfolding filled
  filled_length zero = refl
  filled_length (suc n) = length-set (filled g n l) n (g n) ∙ filled_length n

  pub filled_at : (d : A) (n k : ℕ) → n ≤ length l → k < n → get_or (filled g n l) k d ≡ g k
  unfolding filled
  filled_at d zero k h i = absurd (omega arith)
  filled_at d (suc n) k h i =
      elim (dec_lt k n) [
        | yes j ↦ read_below A (filled g n l) n k (g n) d (g k) j
            (filled_at d n k (omega arith) j)
        | no j ↦ let e : k ≡ n = omega arith in
            rw e (get_or-set_same (filled g n l) n (g n) d (omega (arith, filled_length n)))
      ]

  pub filled_after : (d : A) (n k : ℕ) → n ≤ k → get_or (filled g n l) k d ≡ get_or l k d
  unfolding filled
  filled_after d zero k h = refl
  filled_after d (suc n) k h =
      get_or-set_other (filled g n l) n k (g n) d (λ e. omega arith)
      ∙ filled_after d n k (omega arith)

  -- one item more, and all of them
  pub filled_on : (k : ℕ) (r : A) (m : List A) → m ≡ filled g k l → r ≡ g k
      → set m k r ≡ filled g (k + 1) l
  unfolding filled
  filled_on k r m e h = rw (add-one k, e, h)

  pub filled_last : (k n : ℕ) (m : List A) → k ≤ n → n ≤ k → m ≡ filled g k l → m ≡ filled g n l
  filled_last k n m h i e = let j : k ≡ n = omega arith in subst (λ (q : ℕ). m ≡ filled g q l) j e

  -- the list that has those items, and the rest of it
  pub filled_is : (d : A) (n : ℕ) (m : List A) → n ≤ length l → length l ≡ length m
      → ((k : ℕ) → k < n → g k ≡ get_or m k d)
      → ((k : ℕ) → n ≤ k → k < length l → get_or l k d ≡ get_or m k d)
      → filled g n l ≡ m
  filled_is d n m room same first rest =
      ext_get_or d (filled g n l) m (filled_length n ∙ same)
      (λ k h.
      elim (dec_lt k n) [
        | yes j ↦ filled_at d n k room j ∙ first k j
        | no j ↦ filled_after d n k (omega arith) ∙ rest k (omega arith)
            (omega (arith, filled_length n))
      ])

  -- where its front alone was filled
  filled_front : (m : ℕ) (r : List A) (n : ℕ) → n ≤ m → length l ≡ m
      → filled g n l ++ r ≡ filled g n (l ++ r)
  unfolding filled
  filled_front m r zero h e = refl
  filled_front m r (suc n) h e =
      sym (set-append_left (filled g n l) r n (g n) (omega (arith, filled_length n)))
      ∙ ap (λ (s : List A). set s n (g n)) (filled_front m r n (omega arith) e)

pub filled_whole : {A : Type 0} (g : ℕ → A) (l m : List A) (n : ℕ) → n ≤ length l
    → m ≡ filled g n (take n l) → m ++ drop n l ≡ filled g n l
filled_whole g l m n room e =
    rw e (filled_front g (take n l) n (drop n l) n (omega arith) (length-take-le n l room))
    ∙ ap (filled g n) (take-append-drop n l)

-- filled twice, it is filled by the later sequence
pub filled_over : {A : Type 0} (d : A) (f g h : ℕ → A) (l : List A) (n : ℕ) → n ≤ length l
    → ((k : ℕ) → k < n → g k ≡ h k) → filled g n (filled f n l) ≡ filled h n l
filled_over d f g h l n room same =
    filled_is g (filled f n l) d n (filled h n l) (omega (arith, filled_length f l n))
    (filled_length f l n ∙ sym (filled_length h l n))
    (λ k i. same k i ∙ sym (filled_at h l d n k room i))
    (λ k i j. filled_after f l d n k i ∙ sym (filled_after h l d n k i))

-- what is taken of each item of a filled list
pub map_filled : {A B : Type 0} (f : A → B) (g : ℕ → A) (l : List A) (n : ℕ)
    → map f (filled g n l) ≡ filled (λ (k : ℕ). f (g k)) n (map f l)
unfolding filled
map_filled f g l zero = refl
map_filled f g l (suc n) = rw (map-set f (filled g n l) n (g n), map_filled f g l n)
