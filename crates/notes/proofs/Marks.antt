-- The byte-order mark: that its three bytes stand first is what the definition says.
use mathlib.Core.Path.{◌≡◌, refl, sym, ◌∙◌}
use mathlib.Core.Bool.{Bool, true, false, ◌&&◌}
use mathlib.Core.List.{List, [], ◌∷◌}
use Prim.Native.Nat.{ℕ, ◌+◌}
use native.Mathlib.Omega.{arith}
use borrow.Author.Tests.{le-leb}
use denote.Bor.{Bor}
use lib.Dec.{eqb}
use lib.ListN.{length, take, drop}
use lib.Pointwise.{pointwise}
use Rattle.std.specs.Option.{MatchOption, unwrap_or}
use Rattle.std.specs.Prelude.{Option, Some, None}
use Rattle.notes.specs.Bom.{starts_with_bom, without_bom}

both_false : (s : Bool) → (s && false) ≡ false
both_false true = refl
both_false false = refl

both_true : (s : Bool) → (s && true) ≡ s
both_true true = refl
both_true false = refl

-- the first three bytes are those of the mark, compared one by one
marked : (text : List ℕ) → pointwise eqb (take 3 text) (239 ∷ 187 ∷ 191 ∷ []) ≡ starts_with_bom text
unfolding starts_with_bom
marked [] = refl
marked (a ∷ []) = both_false (eqb a 239)
marked (a ∷ b ∷ []) = rw (both_false (eqb b 187)) (both_false (eqb a 239))
marked (a ∷ b ∷ c ∷ text) =
    rw (le-leb 3 (length (a ∷ b ∷ c ∷ text)) (omega arith), both_true (eqb c 191))

-- what is left behind the mark, or else the whole
pub left_or_all : (text : Bor (List ℕ)) (left : Option (Bor (List ℕ)))
    → MatchOption left (pointwise eqb (take 3 text.now) (239 ∷ 187 ∷ 191 ∷ []) ≡ false)
    (λ x. (pointwise eqb (take 3 text.now) (239 ∷ 187 ∷ 191 ∷ []) ≡ true)
    × (x.now ≡ drop 3 text.now)
    × (length x.now + 3 ≡ length text.now))
    → (unwrap_or left text).now ≡ without_bom text.now
unfolding without_bom
left_or_all text None none = rw (sym (marked text.now) ∙ none)
left_or_all text (Some rest) some = rw (sym (marked text.now) ∙ some.0) some.1

-- a text that is written after the mark is read without it
pub bom_goes : (text : List ℕ) → without_bom (239 ∷ 187 ∷ 191 ∷ text) ≡ text
unfolding without_bom starts_with_bom
bom_goes text = rw (le-leb 3 (length (239 ∷ 187 ∷ 191 ∷ text)) (omega arith))
