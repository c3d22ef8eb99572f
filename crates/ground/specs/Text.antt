-- Texts as bytes, for the paper's cases; every character of a case stands for one byte. Assumes nothing.
use Rattle.std.specs.Prelude.{ℕ, List, [], ◌∷◌}
use Prim.Native.String.{String}
use Prim.Native.Char.{code}

-- a quoted text as its bytes
unfoldable pub bytes : String → List ℕ
bytes String.[] = []
bytes (String.◌∷◌ letter rest) = code letter ∷ bytes rest
