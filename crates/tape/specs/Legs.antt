-- docs/RULES.md, "The tape": the legs of a tape, found by walking: what the bytes at a place say of
-- a leg, and where the next one stands.
use Rattle.std.specs.Prelude.{◌≡◌, true, cond, List, [], ◌∷◌, ℕ, ◌+◌, leb, length, get_or, drop}
use Rattle.records.specs.Record.{row_kind, project_kind, start_kind, close_kind}
use Rattle.records.specs.Record.{Rec, rec, body_of, numbers_of, good_of}
use Rattle.tape.specs.Tape.{is_leg, records_of, tape_of}
use Rattle.tape.specs.Fields.{pick, has_angle, angle_of, distance_of}
use Rattle.tape.specs.declared.Sight.{Sight}

-- ---- at any place of any tape: the angle and the distance of the leg that stands there, and the
-- place of the record after it. A close has an angle, and the walk stays there; where neither
-- stands whole all is zero but the place
abbrev pub record_at : List ℕ → ℕ → Rec
record_at tape at = let k = get_or tape at 0 in rec k (numbers_of k (drop at tape))

abbrev pub no_sight : ℕ → Sight
no_sight at = record { angle = 0; distance = 0; next = at }

abbrev pub sight_of : Rec → ℕ → Sight
sight_of r at =
    record {
      angle = cond (has_angle r.kind) (angle_of r) 0;
      distance = cond (is_leg r.kind) (distance_of r) 0;
      next = cond (is_leg r.kind) (at + 1 + body_of r.kind) at;
    }

unfoldable pub sight_at : List ℕ → ℕ → Sight
sight_at tape at =
    let r = record_at tape at in
    cond (leb (at + 1 + body_of r.kind) (length tape)) (sight_of r at) (no_sight at)

-- ---- from a place on the tape is exactly these records, each in range
abbrev pub Good : List Rec → Type 0
Good [] = Unit {0}
Good (r ∷ rs) = (good_of r.kind r.values ≡ true) × Good rs

pub record Rest (tape : List ℕ) (at : ℕ) (rs : List Rec) : Type 0 where
  pub is : drop at tape ≡ tape_of rs
  pub good : Good rs

-- ---- the order of the records of a tape that reads, without the limits of rows and legs
-- legs, and then the close
pub data Legs : List Rec → Type 0 where
  last : (r : Rec) → r.kind ≡ close_kind → Legs (r ∷ [])
  leg : (r : Rec) {rs : List Rec} → is_leg r.kind ≡ true → Legs rs → Legs (r ∷ rs)

-- rows, then the project, the start, and a leg at least
pub data Order : List Rec → Type 0 where
  row : (r : Rec) {rs : List Rec} → r.kind ≡ row_kind → Order rs → Order (r ∷ rs)
  opens : (p s l : Rec) {rs : List Rec} → p.kind ≡ project_kind → s.kind ≡ start_kind
      → is_leg l.kind ≡ true → Legs rs → Order (p ∷ s ∷ l ∷ rs)

-- leg k, counted from 0, stands at the place, or the close after the last leg does: from there on
-- the records are legs and the close, and those that turn an angle are the tape's less the first k
pub record LegAt (tape : List ℕ) (k at : ℕ) : Type 0 where
  pub rs : List Rec
  pub rest : Rest tape at rs
  pub legs : Legs rs
  pub less : pick has_angle rs ≡ drop k (pick has_angle (records_of tape))
