-- docs/RULES.md, "Definitions that state no rule": a list that is filled from the front. Its first
-- n items are those of a sequence, and after them it is as it was.
use Rattle.std.specs.Prelude.{ℕ, zero, suc, List, set}

unfoldable pub filled : {A : Type 0} → (ℕ → A) → ℕ → List A → List A
filled g zero l = l
filled g (suc n) l = set (filled g n l) n (g n)
