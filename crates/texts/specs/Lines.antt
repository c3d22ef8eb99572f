-- "Each line ends with byte 10. Bytes after the last byte 10, if there are any, count as a line": a text as its lines, the line at a place,
-- and a part of a text. Assumes nothing.
use Rattle.std.specs.Prelude.{ℕ, suc, ◌+◌, ◌-◌, cond, ◌&&◌, List, [], ◌∷◌, length, take, drop, leb, eqb}

-- the byte that ends a line
abbrev pub line_end : ℕ
line_end = 10

-- a byte at the front of the first of several texts
abbrev pub before : ℕ → List (List ℕ) → List (List ℕ)
before byte [] = (byte ∷ []) ∷ []
before byte (text ∷ texts) = (byte ∷ text) ∷ texts

-- the lines of a text, each with its end where it has one
unfoldable pub lines_of : List ℕ → List (List ℕ)
lines_of [] = []
lines_of (byte ∷ rest) = cond (eqb byte line_end) ((byte ∷ []) ∷ lines_of rest) (before byte (lines_of rest))

-- how many bytes the first line of a text has; none where the text is empty
unfoldable pub line_length : List ℕ → ℕ
line_length [] = 0
line_length (byte ∷ rest) = cond (eqb byte line_end) 1 (suc (line_length rest))

-- "It goes on from the place it holds; at or past the end of the text none is left": the line from a place on, and the place past it
unfoldable pub line_at : List ℕ → ℕ → List ℕ
line_at text at = take (line_length (drop at text)) (drop at text)

unfoldable pub past_line : List ℕ → ℕ → ℕ
past_line text at = at + line_length (drop at text)

-- a part of a text; the empty front where these are no places of it in order
unfoldable pub part_of : List ℕ → ℕ → ℕ → List ℕ
part_of text from to = cond (leb from to && leb to (length text)) (take (to - from) (drop from text)) []

-- where a part, or the line at a place, lies in its text: the empty front lies at the top
unfoldable pub part_start : List ℕ → ℕ → ℕ → ℕ
part_start text from to = cond (leb from to && leb to (length text)) from 0

unfoldable pub line_start : List ℕ → ℕ → ℕ
line_start text at = cond (leb at (length text)) at 0
