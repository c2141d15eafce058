-- An accepted tape's answer depends on its fields alone, and so do the words of any tape that
-- reads. The places where the line begins and where the close stands, which the desk keeps for its
-- walk and its refusals, are no fields: with other places all definitions that an acceptance uses
-- have the same values.
use Prim.Native.Nat.{ℕ, zero, suc, ◌+◌}
use mathlib.Core.Path.{◌≡◌, refl, sym, ◌∙◌, ap}
use mathlib.Core.Bool.{Bool, true, false, cond}
use mathlib.Core.List.{List}
use lib.Dec.{ltb}
use lib.ListN.{length}
use lib.IntN.{ℤ}
use Rattle.steps.specs.Azimuth.{closes_angles}
use Rattle.tape.specs.Fields.{Fields, fields_of, DoesRead}
use Rattle.desk.specs.Angles.{misclosure_of, Balanced, balanced_traverse}
use Rattle.std.specs.Prelude.{Ok}
use Rattle.answer.specs.declared.Refusal.TheVariants.{NoRoom, BadAngles}
use Rattle.tape.specs.Tape.{refused_at}
use Rattle.desk.specs.Answer.{checked_angles, first_of, closes_on}
use Rattle.desk.specs.Answer.{adjusted_traverse, adjusted_words, first_for, traversed_by}
use Rattle.desk.specs.Answer.{words_after_first, traversed_words_by}
use Rattle.desk.specs.Traverse.{with_stations, offsets_to, area_of}
use Rattle.desk.proofs.Accepted.{Accepted, accepted, accepted_told}

-- the fields of a tape, the places where its line begins and where its close stands put aside
abbrev pub bare : Fields → Fields
bare f =
    record {
      site = f.site;
      opening = record { from = f.opening.from; mark = f.opening.mark; line = 0 };
      line = f.line;
      closing = record { to = f.closing.to; given = f.closing.given; place = 0 };
    }

abbrev bare_traverse : Balanced → Balanced
bare_traverse b =
    record {
      legs = b.legs;
      angles = b.angles;
      w = b.w;
      azimuths = b.azimuths;
      distances = b.distances;
      factor = b.factor;
      from = b.from;
      to = b.to;
      place = 0;
    }

-- ---- the first step
module _ (f : Fields) where
  misclosure_bare : misclosure_of f ≡ misclosure_of (bare f)
  unfolding misclosure_of
  misclosure_bare = refl

  traverse_bare : bare_traverse (balanced_traverse f) ≡ balanced_traverse (bare f)
  unfolding balanced_traverse
  traverse_bare = rw misclosure_bare

  angles_bare : closes_angles (misclosure_of f) f.line.legs ≡ closes_angles (misclosure_of (bare f))
      f.line.legs
  angles_bare = rw misclosure_bare

-- ---- the second step
module _ (e : ℕ → ℤ) (b : Balanced) where
  placed_bare : (k : ℕ) (words : List ℤ)
      → with_stations e b k words ≡ with_stations e (bare_traverse b) k words
  unfolding with_stations
  placed_bare zero words = refl
  placed_bare (suc k) words = rw (placed_bare k words)

  offsets_bare : (k : ℕ) → offsets_to e b k ≡ offsets_to e (bare_traverse b) k
  unfolding offsets_to
  offsets_bare zero = refl
  offsets_bare (suc k) = rw (offsets_bare k)

  same_test : closes_on e (bare_traverse b) ≡ closes_on e b
  unfolding closes_on
  same_test = refl

  same_second : closes_on e b ≡ true → adjusted_traverse e b ≡ adjusted_traverse e (bare_traverse b)
  unfolding adjusted_traverse area_of
  same_second h = rw (same_test, h, offsets_bare b.legs)

  same_words : (words : List ℤ)
      → adjusted_words e b words ≡ adjusted_words e (bare_traverse b) words
  unfolding adjusted_words
  same_words words = rw (same_test, placed_bare (b.legs + 1) words)

module _ (e : ℕ → ℤ) (f : Fields) where
  abbrev b : Balanced
  b = balanced_traverse f

  closes_bare : closes_on e b ≡ closes_on e (balanced_traverse (bare f))
  closes_bare = sym (same_test e b) ∙ ap (closes_on e) (traverse_bare f)

  second_bare : closes_on e b ≡ true
      → adjusted_traverse e b ≡ adjusted_traverse e (balanced_traverse (bare f))
  second_bare h = same_second e b h ∙ ap (adjusted_traverse e) (traverse_bare f)

  words_bare : (words : List ℤ)
      → adjusted_words e b words ≡ adjusted_words e (balanced_traverse (bare f)) words
  words_bare words = same_words e b words ∙ ap (λ (x : Balanced). adjusted_words e x words)
      (traverse_bare f)

  -- the words, from the fields
  abbrev words_from : List ℤ → List ℤ
  words_from words = cond (closes_angles (misclosure_of f) f.line.legs)
      (adjusted_words e b words) words

  words_from_lem : (words : List ℤ)
      → words_after_first e (checked_angles f) words ≡ words_from words
  unfolding checked_angles
  words_from_lem words = go (closes_angles (misclosure_of f) f.line.legs)
    where
      go : (x : Bool) → words_after_first e
          (cond x (Ok b) (refused_at BadAngles f.closing.place)) words ≡ cond x
          (adjusted_words e b words) words
      go true = refl
      go false = refl

-- ---- two tapes that read, with the same fields
module _ (e : ℕ → ℤ) (s t : List ℕ) (a : DoesRead s) (b : DoesRead t)
    (same : bare (fields_of s) ≡ bare (fields_of t)) where
  abbrev f : Fields
  f = fields_of s

  abbrev g : Fields
  g = fields_of t

  by_bare : {A : Type 0} (h : Fields → A) → h f ≡ h (bare f) → h g ≡ h (bare g) → h f ≡ h g
  by_bare h i j = i ∙ ap h same ∙ sym j

  both : (room : ℕ) → Accepted e s room → Accepted e t room
  both room x =
      record {
        wide = x.wide;
        reads = b;
        angles = sym (by_bare (λ u. closes_angles (misclosure_of u) u.line.legs) (angles_bare f)
            (angles_bare g)) ∙ x.angles;
        closes = sym (by_bare (λ u. closes_on e (balanced_traverse u)) (closes_bare e f)
            (closes_bare e g)) ∙ x.closes;
      }

  pub fields_alone : (room : ℕ) → (traversed_by e s room).number ≡ 0
      → traversed_by e s room ≡ traversed_by e t room
  fields_alone room none =
      let x = accepted e s room none in
      let y = both room x in
      accepted_told e s room x ∙ by_bare (λ u. adjusted_traverse e (balanced_traverse u))
      (second_bare e f x.closes) (second_bare e g y.closes) ∙ sym (accepted_told e t room y)

  pub fields_alone_words : (words : List ℤ)
      → traversed_words_by e s words ≡ traversed_words_by e t words
  unfolding traversed_words_by first_for first_of
  fields_alone_words words = go (ltb (length words) 130)
    where
      -- with too few words, and with enough
      go : (x : Bool) → words_after_first e
          (cond x (refused_at NoRoom 0) (first_of s)) words ≡ words_after_first e
          (cond x (refused_at NoRoom 0) (first_of t)) words
      go true = refl
      go false =
          let h = by_bare (λ u. words_from e u words) (rw (angles_bare f, words_bare e f words))
          (rw (angles_bare g, words_bare e g words)) in
          rw (a.reads, b.reads, words_from_lem e f words, words_from_lem e g words, h)
