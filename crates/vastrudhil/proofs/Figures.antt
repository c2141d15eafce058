-- The figures of a traverse fit the caller's words.
use Prim.Native.Nat.{ℕ, ◌^◌, ◌≤◌, ◌<◌}
use native.Mathlib.Omega.{arith}
use mathlib.Core.Path.{◌≡◌, sym, ap}
use mathlib.Core.List.{List}
use lib.IntN.{ℤ}
use Rattle.std.proofs.Common.{Result, Ok, Err}
use Rattle.answer.specs.declared.Refused.{Refused}
use Rattle.sines.proofs.Own.{Entries, rule_entries, lent_entries}
use Rattle.minutes.specs.Entry.{entry}
use Rattle.sines.specs.Sine.{entry_in}
use Rattle.desk.specs.declared.Figures.{Figures}
use Rattle.desk.specs.Answer.{ToldTraverse, told_traverse, traversed_by}
use Rattle.desk.proofs.Accepted.{accepted, accepted_sized}

sized : (e : ℕ → ℤ) → Entries e → (tape : List ℕ) (room : ℕ) (a : Result Figures Refused)
    → told_traverse a ≡ traversed_by e tape room
    → ((told_traverse a).legs ≤ 64) × ((told_traverse a).precision ≤ 1300000000)
sized e entries tape room (Err r) h = (omega arith, omega arith)
sized e entries tape room (Ok f) h =
    let s = accepted_sized e tape room entries
    (accepted e tape room (ap (λ (t : ToldTraverse). t.number) (sym h))) in (
      omega (arith, ap (λ (t : ToldTraverse). t.legs) h, s.legs),
      omega (arith, ap (λ (t : ToldTraverse). t.precision) h, s.precision),
    )

module _ (tape : List ℕ) (room : ℕ) (a : Result Figures Refused) where
  pub own_fits : told_traverse a ≡ traversed_by entry tape room
      → ((told_traverse a).legs < 2 ^ 63) × ((told_traverse a).precision < 2 ^ 63)
  own_fits h = let s = sized entry rule_entries tape room a h in (omega arith, omega arith)

  pub lent_fits : (t : List ℕ) → told_traverse a ≡ traversed_by (entry_in t) tape room
      → ((told_traverse a).legs < 2 ^ 63) × ((told_traverse a).precision < 2 ^ 63)
  lent_fits t h = let s =
      sized (entry_in t) (lent_entries t) tape room a h in (omega arith, omega arith)
