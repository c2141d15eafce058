-- What the bytes at a place of any tape say of a leg, as the code tells it: kind by kind, where the
-- record is whole.
use Prim.Native.Nat.{ℕ, ◌+◌, ◌-◌, ◌≤◌, ◌<◌}
use native.Mathlib.Decide.{ℕ_discrete}
use native.Mathlib.Omega.{arith}
use mathlib.Core.Path.{◌≡◌, refl}
use mathlib.Core.List.{List}
use lib.Dec.{leb}
use lib.ListN.{length, get_or}
use borrow.Author.Tests.{le-leb, lt-leb, ne_eqb}
use Rattle.whole.proofs.Branch.{by_test}
use Rattle.records.specs.Bytes.{four, num, meant}
use Rattle.records.specs.Record.{body_of, numbers_of, kind_fields, table}
use Rattle.tape.specs.Fields.{angle_of, distance_of}
use Rattle.tape.specs.Legs.{record_at, no_sight, sight_of, sight_at}
use Rattle.tape.specs.declared.Sight.{Sight}
use Rattle.tape.proofs.Numbers.{num_drop}

module _ (tape : List ℕ) (at : ℕ) where
  whole_sight : (k : ℕ) → get_or tape at 0 ≡ k → at + 1 + body_of k ≤ length tape
      → sight_of (record_at tape at) at ≡ sight_at tape at
  unfolding sight_at
  whole_sight k is h = rw (is, le-leb (at + 1 + body_of k) (length tape) h)

  short_sight : (k : ℕ) → get_or tape at 0 ≡ k → length tape < at + 1 + body_of k
      → no_sight at ≡ sight_at tape at
  unfolding sight_at
  short_sight k is h = rw (is, lt-leb (at + 1 + body_of k) (length tape) h)

  -- ---- a leg, and a close, that are whole
  module _ (n : ℕ) (low : at < n) (a : ℕ) (angle : a ≡ num four tape (at + 1)) where
    pub leg_sight : (d b : ℕ) → n ≡ length tape - body_of 3 → d ≡ num four tape (at + 5)
        → b ≡ 1 + body_of 3 → get_or tape at 0 ≡ 3
        → record { angle = a; distance = d; next = at + b } ≡ sight_at tape at
    unfolding angle_of distance_of numbers_of kind_fields table meant
    leg_sight d b e distance long is =
        let f : at + b ≡ at + 1 + body_of 3 = omega arith in
        rw (is, num_drop four at tape 1, num_drop four at tape 5, ← angle, ← distance, ← f)
        at (whole_sight 3 is (omega arith))

    pub close_sight : n ≡ length tape - body_of 4 → get_or tape at 0 ≡ 4
        → record { angle = a; distance = 0; next = at } ≡ sight_at tape at
    unfolding angle_of numbers_of kind_fields table meant
    close_sight e is =
        rw (is, num_drop four at tape 1, ← angle) at (whole_sight 4 is (omega arith))

  -- ---- neither: another kind, or one that is not whole
  other_sight : (get_or tape at 0 ≡ 3 → ⊥) → (get_or tape at 0 ≡ 4 → ⊥)
      → no_sight at ≡ sight_at tape at
  unfolding sight_at
  other_sight f g =
      let k = get_or tape at 0 in
      let P : Sight → Type 0 = λ x. no_sight at ≡ x in
      rw (ne_eqb k 3 f, ne_eqb k 4 g)
      (by_test P (leb (at + 1 + body_of k) (length tape)) (λ t. refl) (λ t. refl))

  module _ (no_leg : get_or tape at 0 ≡ 3 → length tape ≤ at + body_of 3) where
    no_sight_lem : (get_or tape at 0 ≡ 4 → length tape ≤ at + body_of 4)
        → no_sight at ≡ sight_at tape at
    no_sight_lem no_close =
        elim (ℕ_discrete (get_or tape at 0) 3) [
          | yes is ↦ short_sight 3 is (omega (arith, no_leg is))
          | no f ↦ elim (ℕ_discrete (get_or tape at 0) 4) [
            | yes is ↦ short_sight 4 is (omega (arith, no_close is))
            | no g ↦ other_sight f g
          ]
        ]

    pub far_sight : (n : ℕ) → n ≡ length tape - body_of 4 → n ≤ at → no_sight at ≡ sight_at tape at
    far_sight n e h = no_sight_lem (λ is. omega arith)

    pub none_sight : (get_or tape at 0 ≡ 4 → ⊥) → no_sight at ≡ sight_at tape at
    none_sight g = no_sight_lem (λ is. absurd (g is))

-- ---- what the code is told of
pub ruleset sights = (leg_sight, close_sight, none_sight, far_sight)
