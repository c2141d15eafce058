-- docs/RULES.md, "Definitions that state no rule": the byte-order mark of UTF-8, which some editors
-- write before a text: three bytes, EF BB BF.
use Rattle.std.specs.Prelude.{Bool, cond, ◌&&◌, List, ℕ, leb, eqb, length, drop, get_or}

abbrev pub bom_bytes : ℕ
bom_bytes = 3

abbrev pub bom_first : ℕ
bom_first = 239

abbrev pub bom_second : ℕ
bom_second = 187

abbrev pub bom_third : ℕ
bom_third = 191

-- `starts_with_bom text` is true if and only if the first three bytes of a text are the mark
unfoldable pub starts_with_bom : List ℕ → Bool
starts_with_bom text =
    leb bom_bytes (length text)
    && (eqb (get_or text 0 0) bom_first
    && (eqb (get_or text 1 0) bom_second && eqb (get_or text 2 0) bom_third))

-- `without_bom text` is the text after its byte-order mark, and all of it where none stands first
unfoldable pub without_bom : List ℕ → List ℕ
without_bom text = cond (starts_with_bom text) (drop bom_bytes text) text
