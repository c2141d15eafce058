-- An answer whose number is 0 is an acceptance: there was room, the tape reads, and both tests were
-- passed, since every refusal has a number above 0. So what is told and what the words hold then
-- follow from the number alone: small numbers, every station, the fixed points at both ends, and
-- nothing changed after.
use Prim.Native.Nat.{ℕ, suc, ◌+◌, ◌*◌, ◌^◌, ◌≤◌, ◌<◌}
use native.Mathlib.Omega.{arith}
use mathlib.Core.Path.{◌≡◌, refl}
use mathlib.Core.Bool.{true}
use mathlib.Core.List.{List}
use borrow.Author.Tests.{le-ltb, ltb-false}
use lib.Dec.{ltb}
use lib.ListN.{length, get_or}
use lib.IntN.{ℤ, pos, nat_abs, ◌-ℤ◌}
use Rattle.sines.proofs.Own.{Entries}
use Rattle.steps.specs.Azimuth.{half_circle, closes_angles}
use Rattle.steps.specs.Course.{Axis, north, east}
use Rattle.steps.proofs.Rooting.{precision_most}
use Rattle.std.specs.Prelude.{Result, Ok, Err}
use Rattle.answer.specs.declared.Refused.{Refused}
use Rattle.tape.specs.declared.State.{State}
use Rattle.tape.specs.Tape.{reading_of}
use Rattle.tape.specs.Fields.{fields_of, DoesRead}
use Rattle.whole.proofs.Branch.{by_test}
use Rattle.desk.specs.Angles.{misclosure_of, Balanced, balanced_traverse}
use Rattle.desk.specs.Answer.{ToldTraverse, first_if, first_of, checked_angles}
use Rattle.desk.specs.Answer.{north_closure, east_closure, distance_run, closes_on}
use Rattle.desk.specs.Answer.{adjusted_traverse, adjusted_words, after_first, first_for}
use Rattle.desk.specs.Answer.{traversed_by, traversed_words_by}
use Rattle.desk.specs.Inside.{Sound}
use Rattle.whole.specs.Sum.{sum_to}
use Rattle.desk.specs.Line.{closure, share_at, adjusted}
use Rattle.desk.specs.Traverse.{along, line, word_index, with_stations}
use Rattle.desk.proofs.Balancing.{misclosure_most, sound_of}
use Rattle.desk.proofs.Compass.{legs_add_up}
use Rattle.desk.proofs.Numbers.{number_in}
use Rattle.desk.proofs.Settling.{far_run, run_small, closes_near}
use Rattle.desk.proofs.Stations.{place_small, area_most}
use Rattle.desk.proofs.Stepping.{tape_ready}
use Rattle.desk.proofs.Words.{word_at_lem, words_later, first_word, last_word}

-- the traverse of a tape, its angles balanced
abbrev pub balanced_tape : List ℕ → Balanced
balanced_tape tape = balanced_traverse (fields_of tape)

-- what a tape has shown that is accepted with that many words
pub record Accepted (e : ℕ → ℤ) (tape : List ℕ) (room : ℕ) : Type 0 where
  pub wide : 130 ≤ room
  pub reads : DoesRead tape
  pub angles : closes_angles (misclosure_of (fields_of tape)) (fields_of tape).line.legs ≡ true
  pub closes : closes_on e (balanced_tape tape) ≡ true

-- what each number that it is told is at most
pub record Sized (t : ToldTraverse) : Type 0 where
  pub legs : t.legs ≤ 64
  pub w : nat_abs t.w ≤ half_circle
  pub north : nat_abs t.north_closure ≤ 26000
  pub east : nat_abs t.east_closure ≤ 26000
  pub precision : t.precision ≤ 1300000000
  pub area : nat_abs t.area ≤ 64 * 33800000000000000

module _ (e : ℕ → ℤ) (tape : List ℕ) (room : ℕ) where
  abbrev Shown : ToldTraverse → Type 0
  Shown t = t.number ≡ 0 → Accepted e tape room

  abbrev ShownAfter : Result Balanced Refused → Type 0
  ShownAfter x = Shown (after_first e x)

  pub accepted : Shown (traversed_by e tape room)
  unfolding traversed_by first_for first_of checked_angles adjusted_traverse
  accepted = by_test ShownAfter (ltb room 130) (λ few z. absurd (omega arith))
      (λ wide. go (reading_of tape) refl (ltb-false room 130 wide))
    where
      go : (r : Result State Refused) → reading_of tape ≡ r → 130 ≤ room
          → ShownAfter (first_if r (fields_of tape))
      go (Err r) h wide = λ z. absurd (omega (arith, number_in r.refusal))
      go (Ok st) h wide =
          by_test ShownAfter (closes_angles (misclosure_of (fields_of tape))
          (fields_of tape).line.legs)
          (λ a.
          by_test Shown (closes_on e (balanced_tape tape))
          (λ c z. record {
            wide = wide;
            reads = record { last = st; reads = h };
            angles = a;
            closes = c;
          })
          (λ c z. absurd (omega arith)))
          (λ a z. absurd (omega arith))

  -- no number is above 9
  abbrev Nine : ToldTraverse → Type 0
  Nine t = t.number ≤ 9

  abbrev NineAfter : Result Balanced Refused → Type 0
  NineAfter x = Nine (after_first e x)

  pub number_most : Nine (traversed_by e tape room)
  unfolding traversed_by first_for first_of checked_angles adjusted_traverse
  number_most = by_test NineAfter (ltb room 130) (λ few. omega arith)
      (λ wide. go (reading_of tape))
    where
      go : (r : Result State Refused) → NineAfter (first_if r (fields_of tape))
      go (Err r) = omega (arith, number_in r.refusal)
      go (Ok st) =
          by_test NineAfter (closes_angles (misclosure_of (fields_of tape))
          (fields_of tape).line.legs)
          (λ a. by_test Nine (closes_on e (balanced_tape tape)) (λ c. omega arith)
          (λ c. omega arith))
          (λ a. omega arith)

  -- and the answer is that of the second step
  pub accepted_told : Accepted e tape room
      → traversed_by e tape room ≡ adjusted_traverse e (balanced_tape tape)
  unfolding traversed_by first_for first_of checked_angles
  accepted_told a = rw (le-ltb room 130 a.wide, a.reads.reads, a.angles)

  pub accepted_legs : Accepted e tape room
      → (traversed_by e tape room).legs ≡ (balanced_tape tape).legs
  unfolding adjusted_traverse
  accepted_legs a = rw (accepted_told a, a.closes)

  pub accepted_sound : Accepted e tape room → Sound (balanced_tape tape)
  accepted_sound a = sound_of (fields_of tape) (tape_ready tape a.reads)

  pub accepted_sized : Entries e → Accepted e tape room → Sized (traversed_by e tape room)
  unfolding adjusted_traverse balanced_traverse misclosure_of
  accepted_sized entries a =
      let b = balanced_tape tape in
      let f = fields_of tape in
      let sound = accepted_sound a in
      let near : (axis : Axis) → nat_abs (closure (line e axis b)) ≤ 26000 =
      λ axis. closes_near b sound e axis a.closes in
      let run = run_small b sound in
      rw (accepted_told a, a.closes)
      (record {
        legs = sound.few;
        w = misclosure_most _ f.closing.given;
        north = near north;
        east = near east;
        precision = omega (
          arith,
          precision_most (north_closure e b) (east_closure e b) (distance_run b) (omega arith),
        );
        area = area_most e entries b sound near;
      })

-- ---- the words of an answer whose number is 0
module _ (e : ℕ → ℤ) (tape : List ℕ) (words : List ℤ)
    (none : (traversed_by e tape (length words)).number ≡ 0) where
  abbrev b : Balanced
  b = balanced_tape tape

  a : Accepted e tape (length words)
  a = accepted e tape (length words) none

  sound : Sound b
  sound = accepted_sound e tape (length words) a

  pub accepted_words : traversed_words_by e tape words ≡ with_stations e b (b.legs + 1) words
  unfolding traversed_words_by first_for first_of checked_angles adjusted_words
  accepted_words = rw (le-ltb (length words) 130 a.wide, a.reads.reads, a.angles, a.closes)

  pub station : (axis : Axis) (k : ℕ) → k ≤ b.legs
      → get_or (traversed_words_by e tape words) (word_index axis k) (pos 0)
      ≡ adjusted (line e axis b) k
  station axis k h = rw accepted_words
      (word_at_lem e b words axis (b.legs + 1) k (omega arith) (omega (arith, sound.few, a.wide)))

  -- what the legs are given of a closure adds up to it
  pub accepted_legs_add_up : (axis : Axis)
      → sum_to (λ (k : ℕ). share_at (line e axis b) (suc k) -ℤ share_at (line e axis b) k) b.legs
      ≡ closure (line e axis b)
  accepted_legs_add_up axis = legs_add_up (line e axis b) (far_run b sound)

  pub word_small : Entries e → (axis : Axis) (k : ℕ) → k ≤ b.legs
      → nat_abs (get_or (traversed_words_by e tape words) (word_index axis k) (pos 0)) < 2 ^ 40
  word_small entries axis k h =
      place_small e entries b sound axis k (closes_near b sound e axis a.closes) h _
      (station axis k h)

  pub first_station : (axis : Axis)
      → get_or (traversed_words_by e tape words) (word_index axis 0) (pos 0) ≡ pos
      (along axis (fields_of tape).opening.from)
  unfolding balanced_traverse
  first_station axis = rw accepted_words (first_word e b words sound a.wide axis)

  pub last_station : (axis : Axis)
      → get_or (traversed_words_by e tape words) (word_index axis (fields_of tape).line.legs)
      (pos 0) ≡ pos (along axis (fields_of tape).closing.to)
  unfolding balanced_traverse
  last_station axis = rw accepted_words (last_word e b words sound a.wide axis)

  pub later_words : (i : ℕ) → 2 * ((fields_of tape).line.legs + 1) ≤ i
      → get_or (traversed_words_by e tape words) i (pos 0) ≡ get_or words i (pos 0)
  unfolding balanced_traverse
  later_words i h = rw accepted_words (words_later e b words (b.legs + 1) i h)
