-- docs/RULES.md, "Definitions that state no rule": the library's order of ℤ under names that bind
-- weaker than a sum, so that `a +ℤ b ≤ᶻ c` reads as it does on paper. (`◌≤ℤ◌` itself binds tighter
-- than `+ℤ`; its meaning is kept.)
use Rattle.std.specs.Prelude.{ℤ, ◌≤ℤ◌, ◌<ℤ◌}

infix 4 ◌≤ᶻ◌ ◌<ᶻ◌
abbrev pub ◌≤ᶻ◌ : ℤ → ℤ → Type 0
a ≤ᶻ b = a ≤ℤ b

abbrev pub ◌<ᶻ◌ : ℤ → ℤ → Type 0
a <ᶻ b = a <ℤ b
