-- The two steps one after the other. A tape that reads has its fields in range, so no step asks for
-- more than it has, and each way out of the code is the same way out of the definition.
use Prim.Native.Nat.{ℕ, ◌≤◌, ◌<◌}
use Rattle.std.specs.Prelude.{Result, Ok, Err}
use Rattle.answer.specs.declared.Refused.{Refused}
use Rattle.answer.specs.declared.Refusal.TheVariants.{NoRoom}
use Rattle.desk.specs.Angles.{Balanced}
use mathlib.Core.Path.{◌≡◌, sym, ◌∙◌, subst}
use mathlib.Core.List.{List}
use borrow.Author.Tests.{lt-ltb, le-ltb}
use lib.ListN.{length}
use lib.IntN.{ℤ, pos, neg_ℤ}
use lib.Signed.{le_z}
use Rattle.answer.proofs.Telling.{both}
use Rattle.steps.specs.Azimuth.{closes_angles}
use Rattle.steps.specs.Course.{Axis, north, east}
use Rattle.tape.specs.Fields.{Fields, fields_of, AllBytes, DoesRead, taken_of}
use Rattle.whole.proofs.Branch.{T_true, by_test}
use Rattle.tape.proofs.Ranges.{Ranged, ranged}
use Rattle.tape.specs.declared.Control.{Control}
use Rattle.desk.specs.declared.Figures.{Figures}
use Rattle.desk.specs.declared.Frame.{Frame}
use Rattle.desk.specs.declared.Leg.{Leg}
use Rattle.desk.specs.Answer.{told_traverse}
use Rattle.desk.specs.Answer.{checked_angles, first_of, first_for}
use Rattle.desk.specs.Answer.{after_first, words_after_first, traversed_by}
use Rattle.desk.specs.Answer.{traversed_words_by}
use Rattle.desk.specs.Traverse.{along}
use Rattle.desk.specs.Inside.{Known, Ready, Sound, checked_as, with_legs}
use Rattle.tape.proofs.Standing.{took, took_not}
use Rattle.desk.proofs.Balancing.{sound_of}

-- ---- the fields of a tape that reads
ready_of : (f : Fields) → Ranged f → Ready f
ready_of f r =
    let z = f.site.elevation.v in
    record {
      some = r.legs.0;
      few = r.legs.1;
      mark = r.mark;
      given = r.given;
      angles = r.angles;
      elevation = both (le_z (neg_ℤ (pos 1000)) z) (le_z z (pos 20000))
          (T_true _ r.elevation.0.le) (T_true _ r.elevation.1.le);
      scale_low = r.scale.0;
      scale_high = r.scale.1;
      far = λ k h. (r.distances k h).0;
      near = λ k h. (r.distances k h).1;
      from = from;
      to = to;
    }
  where
    from : (axis : Axis) → along axis f.opening.from ≤ 1000000000
    from north = r.from.0
    from east = r.from.1

    to : (axis : Axis) → along axis f.closing.to ≤ 1000000000
    to north = r.to.0
    to east = r.to.1

pub tape_ready : (tape : List ℕ) → DoesRead tape → Ready (fields_of tape)
tape_ready tape r = ready_of (fields_of tape) (ranged tape r)

-- ---- the two steps of a tape that reads
-- a first step that does not refuse leaves a traverse in range to the second
abbrev Leaves : Result Balanced Refused → Type 0
Leaves (Err r) = Unit {0}
Leaves (Ok b) = Sound b

module _ (tape : List ℕ) (r : Result Frame Refused) (legs : List Leg)
    (f : checked_as r legs ≡ checked_angles (fields_of tape)) where
  -- what was checked, by what it came to
  by_checked : {A : Type 0} (g : Result Balanced Refused → A) (x : Result Frame Refused) → r ≡ x
      → g (checked_as x legs) ≡ g (checked_angles (fields_of tape))
  by_checked g x h = rw (← h, f)

  pub first_sound : (c : Control) (b : Frame) → Known tape c → r ≡ Ok b
      → Sound (with_legs b legs)
  unfolding checked_angles
  first_sound c b known h =
      subst Leaves (sym (by_checked (λ x. x) (Ok b) h))
      (by_test Leaves (closes_angles _ _)
      (λ t. sound_of (fields_of tape) (tape_ready tape known.reads)) (λ t. tt))

-- ---- the whole, by any table of sines
pub known_is : (tape : List ℕ) (t : Result Control Refused) → AllBytes tape → t ≡ taken_of tape
    → (c : Control) → t ≡ Ok c → Known tape c
known_is tape t b f c h = let k = took tape c (sym f ∙ h) in
    record { bytes = b; reads = k.0; is = k.1 }

module _ (e : ℕ → ℤ) (tape : List ℕ) (words : List ℤ) where
  module _ (wide : 130 ≤ length words) (c : Control) (known : Known tape c) where
    pub known_told : (r : Result Figures Refused)
        → told_traverse r ≡ after_first e (checked_angles (fields_of tape))
        → told_traverse r ≡ traversed_by e tape (length words)
    unfolding traversed_by first_for first_of
    known_told r g = rw (le-ltb (length words) 130 wide, known.reads.reads) g

    pub known_words : (l : List ℤ) → l ≡ words_after_first e (checked_angles (fields_of tape)) words
        → l ≡ traversed_words_by e tape words
    unfolding traversed_words_by first_for first_of
    known_words l g = rw (le-ltb (length words) 130 wide, known.reads.reads) g

  module _ (x : Refused) (few : length words < 130) (h : x ≡ record { refusal = NoRoom; place = 0 })
    where
      pub short_told : told_traverse (Err x) ≡ traversed_by e tape (length words)
      unfolding traversed_by first_for
      short_told = rw (h, lt-ltb (length words) 130 few)

      pub short_words : words ≡ traversed_words_by e tape words
      unfolding traversed_words_by first_for
      short_words = rw (lt-ltb (length words) 130 few)

  module _ (wide : 130 ≤ length words) (t : Result Control Refused) (f : t ≡ taken_of tape)
      (x : Refused) (h : t ≡ Err x) where
    pub refused_told : told_traverse (Err x) ≡ traversed_by e tape (length words)
    unfolding traversed_by first_for first_of
    refused_told = rw (le-ltb (length words) 130 wide, took_not tape x (sym f ∙ h))

    pub refused_words : words ≡ traversed_words_by e tape words
    unfolding traversed_words_by first_for first_of
    refused_words = rw (le-ltb (length words) 130 wide, took_not tape x (sym f ∙ h))
