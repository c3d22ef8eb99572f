-- What is written to a lent buffer: "What is written changes its own bytes at the front of the buffer and no others; its length is
-- returned." Assumes nothing.
use Rattle.std.specs.Prelude.{ℕ, List, ◌++◌, length, drop, leb}
use Rattle.ground.specs.Refusal.{wrong, right, Read, check, ◌>>=◌, ◌>>◌}

-- a text at the front of a buffer, and after it the bytes that stood there
unfoldable pub onto : List ℕ → List ℕ → List ℕ
onto text buffer = text ++ drop (length text) buffer

-- "the buffer is shorter than the hour or line to be written": 7, after whatever else is wrong
unfoldable pub fitted : List ℕ → Read (List ℕ) → Read (List ℕ)
fitted buffer text = do
  bytes ← text
  check (leb (length bytes) (length buffer)) 7
  right bytes

-- what is answered: the length of what was written, or the refusal
abbrev pub length_of : Read (List ℕ) → Read ℕ
length_of (wrong number) = wrong number
length_of (right text) = right (length text)

-- what the buffer holds then: the text at its front, or "every byte of a buffer stays"
abbrev pub buffer_after : List ℕ → Read (List ℕ) → List ℕ
buffer_after buffer (wrong number) = buffer
buffer_after buffer (right text) = onto text buffer
