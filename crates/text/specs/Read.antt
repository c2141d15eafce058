-- docs/RULES.md, "The sheet, and one printed whole": numbers read back from their text, by a reader
-- that knows nothing of how the text was made. It collects the digits, passes over what is none,
-- and takes a first minus as the sign.
use Rattle.std.specs.Prelude.{ℕ, ◌+◌, ◌-◌, ◌*◌, Bool, cond, ◌&&◌, List, [], ◌∷◌, leb, eqb, get_or}
use Rattle.std.specs.Prelude.{ℤ, pos, neg_ℤ}

-- the number that the digits of a text spell, read on from n
unfoldable pub spelled : ℕ → List ℕ → ℕ
spelled n [] = n
spelled n (c ∷ cs) = spelled (cond (leb 48 c && leb c 57) (10 * n + (c - 48)) n) cs

-- whether the text begins with a minus
abbrev pub minus : List ℕ → Bool
minus l = eqb (get_or l 0 0) 45

-- the amount: negative after a minus
unfoldable pub amount_read : List ℕ → ℤ
amount_read l = cond (minus l) (neg_ℤ (pos (spelled 0 l))) (pos (spelled 0 l))
