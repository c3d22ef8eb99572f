-- Laws of what is written to a buffer, and of a buffer of zeros. Assumes nothing.
use Prim.Native.Nat.{ℕ, zero, suc, ◌+◌, ◌-◌, ◌≤◌, ◌<◌}
use mathlib.Core.Path.{◌≡◌, refl}
use mathlib.Core.List.{List, [], ◌∷◌, ◌++◌, append_assoc}
use lib.ListN.{length, get_or, take, drop, set, replicate, length-append, length-drop}
use lib.Seq.{take-append_seam, drop-append_seam, drop-cons, drop-drop, set-append_seam, take-suc, take-suc-set}
use borrow.Rule.Slice.PartMut.{put_mid}
use native.Mathlib.Numerals.{add-one}
use native.Mathlib.Omega.{arith}
use Rattle.ground.specs.Buffer.{onto}

-- the text stands at the front
pub front_of_onto : (text buffer : List ℕ) → take (length text) (onto text buffer) ≡ text
unfolding onto
front_of_onto text buffer = take-append_seam text _

-- every other byte stays
pub rest_of_onto : (text buffer : List ℕ) → drop (length text) (onto text buffer) ≡ drop (length text) buffer
unfolding onto
rest_of_onto text buffer = drop-append_seam text _

-- and the buffer keeps its length
pub length_of_onto : (text buffer : List ℕ) → length text ≤ length buffer → length (onto text buffer) ≡ length buffer
unfolding onto
length_of_onto text buffer room = simp (length-append, length-drop) (omega arith)

-- a text is written byte after byte: one byte more
pub onto_byte :
    (text buffer : List ℕ) (at byte : ℕ) → at ≡ length text → at < length buffer
    → set (onto text buffer) at byte ≡ onto (text ++ byte ∷ []) buffer
unfolding onto
onto_byte text buffer at byte here room =
    let inside : length text < length buffer = omega arith in
    rw (here, drop-cons buffer (length text) 0 inside, set-append_seam, append_assoc, length-append, add-one)

-- and piece after piece, each to the part of the buffer that follows the pieces before it: the part from a place to another came back with one
pub onto_part :
    (text piece buffer : List ℕ) (at to : ℕ) → at ≡ length text → to - at ≡ length piece
    → put_mid at (to - at) (onto text buffer) piece ≡ onto (text ++ piece) buffer
unfolding onto
onto_part text piece buffer at to here size = rw (size, here, take-append_seam, drop-append_seam, drop-drop, append_assoc, length-append)

-- a text is copied byte after byte: one byte more
pub copy_step :
    (text buffer : List ℕ) (at : ℕ) → at < length text → at < length buffer → take at buffer ≡ take at text
    → take (at + 1) (set buffer at (get_or text at 0)) ≡ take (at + 1) text
copy_step text buffer at inside room same = rw (add-one, take-suc-set buffer at _ room, take-suc text at 0 inside, same)

-- a buffer of zeros has nothing else
pub zeros_at : (count place : ℕ) → ◌≡◌ {A = ℕ} (get_or (replicate count 0) place 0) 0
zeros_at zero place = refl
zeros_at (suc count) zero = refl
zeros_at (suc count) (suc place) = zeros_at count place
