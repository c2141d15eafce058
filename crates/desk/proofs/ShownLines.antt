-- The sheet of an accepted tape, by its lines: the bytes that the sheet step leaves are its text
-- and what was lent after it, and the line of every station stands in them, after the first line
-- and the lines of the stations before it.
use Prim.Native.Nat.{ℕ, zero, suc, ◌+◌, ◌≤◌, ◌<◌}
use native.Mathlib.Omega.{arith}
use native.Mathlib.Nat.{eq-or-lt_of_le}
use mathlib.Core.Path.{◌≡◌, sym, ◌∙◌, ap}
use mathlib.Core.Bool.{true, false}
use mathlib.Core.List.{List, [], ◌++◌, append_assoc, append-nil}
use mathlib.Core.Logic.{⊎_elim}
use lib.Dec.{ltb, eqb}
use lib.ListN.{length, take, drop}
use lib.IntN.{ℤ}
use lib.Seq.{take-append_seam}
use borrow.Author.Tests.{eqb-true, eqb-false}
use Rattle.whole.proofs.Branch.{by_test}
use Rattle.std.specs.Prelude.{Result}
use Rattle.answer.specs.declared.Refused.{Refused}
use Rattle.desk.specs.Answer.{ToldTraverse}
use Rattle.desk.specs.Sheet.{close_line, line_of, station_lines, area_line, text_of, over}
use Rattle.desk.specs.Sheet.{shown, shown_bytes, sheet_bytes, answered, sheet_words}
use Rattle.desk.specs.Sheet.{paged, paged_bytes, ToldSheet, told_sheet, Showed}

-- ---- the line of station k among those of the first n
line_among : (words : List ℤ) (k n : ℕ) → k < n
    → (after : List ℕ) × (station_lines words n ≡ station_lines words k ++ line_of words k ++ after)
unfolding station_lines
line_among words k zero h = absurd (omega arith)
line_among words k (suc n) h =
    ⊎_elim
    (λ (e : k ≡ n). ([], rw e (sym (append-nil (station_lines words n ++ line_of words n)))))
    (λ (low : k < n). let r = line_among words k n low in
    let before = station_lines words k ++ line_of words k in
    (r.0 ++ line_of words n, rw r.1 (append_assoc before r.0 (line_of words n))))
    (eq-or-lt_of_le (omega arith))

-- what the text of a sheet has before the line of station k: the first line, and the lines of the
-- stations before it
abbrev pub lines_before : ToldTraverse → List ℤ → ℕ → List ℕ
lines_before t words k =
    close_line t.w t.north_closure t.east_closure t.precision ++ station_lines words k

pub line_in_text : (t : ToldTraverse) (words : List ℤ) (k : ℕ) → k ≤ t.legs
    → (after : List ℕ) × (text_of t words ≡ lines_before t words k ++ line_of words k ++ after)
unfolding text_of
line_in_text t words k h =
    let r = line_among words k (t.legs + 1) (omega arith) in
    (r.0 ++ area_line t.area t.loop, rw r.1 (simp append_assoc))

-- ---- what the sheet step leaves where its number is 0
module _ (e : ℕ → ℤ) (tape out left : List ℕ) (r : Result ℕ Refused) (s : Showed e tape out left r)
    (accepts : (told_sheet r).number ≡ 0) where
  -- the two tests that the answer has passed
  passed : (ltb (length out) sheet_bytes ≡ false) × (eqb (answered e tape).number 0 ≡ true)
  unfolding paged shown
  passed =
      let few = ltb (length out) sheet_bytes in
      let none = eqb (answered e tape).number 0 in
      let P : ToldSheet → Type 0 = λ t. t.number ≡ 0 → (few ≡ false) × (none ≡ true) in
      by_test P few (λ t z. absurd (omega arith))
      (λ wide. by_test P none (λ t z. (wide, t))
      (λ t z. absurd (eqb-false (answered e tape).number 0 t z)))
      (ap (λ (t : ToldSheet). t.number) (sym s.tells) ∙ accepts)

  -- the traverse of the sheet is accepted, and its text stands from the first byte on
  pub showed_accepts : (answered e tape).number ≡ 0
  showed_accepts = eqb-true (answered e tape).number 0 passed.1

  pub showed_text : left ≡ over (text_of (answered e tape) (sheet_words e tape)) out
  unfolding paged_bytes shown_bytes
  showed_text = s.left ∙ rw (passed.0, passed.1)

  -- and it is as many bytes as are told
  pub showed_sheet : take (told_sheet r).used left ≡ text_of (answered e tape) (sheet_words e tape)
  unfolding paged shown
  showed_sheet =
      let text = text_of (answered e tape) (sheet_words e tape) in
      let long : (told_sheet r).used ≡ length text = rw (s.tells, passed.0, passed.1) in
      rw (long, showed_text) (take-append_seam text (drop (length text) out))
