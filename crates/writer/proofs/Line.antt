-- Laws of a line that is put together field behind field, and written whole or not at all. Assumes nothing.
use Prim.Native.Nat.{ℕ, ◌+◌, ◌-◌, ◌/◌, ◌≤◌, ◌<◌}
use mathlib.Core.Path.{◌≡◌, refl, sym, ap, ◌∙◌}
use mathlib.Core.Bool.{Bool, true, false, cond}
use mathlib.Core.List.{List, [], ◌∷◌, ◌++◌, append_assoc}
use lib.ListN.{length, take, set, length-append}
use lib.Seq.{length-take-le, drop-drop}
use lib.Dec.{leb}
use native.Mathlib.Omega.{arith}
use borrow.Author.Tests.{le-leb, lt-leb, lt-ltb, leb-true, leb-false}
use borrow.Rule.Slice.PartMut.{put_mid, mid_of, mid_len}
use Rattle.std.specs.Prelude.{Result, Ok, Err}
use Rattle.ground.specs.declared.Refusal.{Refusal}
use Rattle.ground.specs.Refusal.{Read, wrong, right, ◌>>=◌, ◌>>◌}
use Rattle.ground.specs.Limits.{last_hour}
use Rattle.ground.specs.Buffer.{onto, fitted, length_of, buffer_after}
use Rattle.ground.specs.Digits.{spelled}
use Rattle.ground.proofs.Tests.{by_test}
use Rattle.ground.proofs.Digits.{spelled_most}
use Rattle.ground.proofs.Buffer.{front_of_onto, length_of_onto, onto_byte}
use Rattle.classes.specs.Classes.{comma}
use Rattle.texts.specs.Lines.{line_end}
use Rattle.fields.specs.Fields.{tab}
use Rattle.fields.specs.Meaning.{tabbed}
use Rattle.writer.specs.Writing.{hour_text, hour_written}
use Rattle.writer.specs.Line.{front_after, line_with, line_in}
use Rattle.writer.specs.Steps.{Puts, fields_after, Comes, bytes_of, bytes_of_all, texts_of, line_made}
use Rattle.writer.proofs.Writing.{length_of_text}

-- a check that was passed was met
pub check_met :
    (met : Bool) (refusal : Refusal) {checked : Result (Unit {0}) Refusal} {value : Unit {0}} → checked ≡ cond met (Ok tt) (Err refusal) → checked ≡ Ok value
    → met ≡ true
check_met true refusal checks passed = refl
check_met false refusal checks passed = cc

-- A field and its stop, put at a place with room for them, stand behind the bytes before the place.
module _ (at : ℕ) (field : List ℕ) (stop : ℕ) (buffer : List ℕ) (room : at + length field < length buffer) where
  pub line_fits : front_after (right at) (right field) stop buffer ≡ right (take at buffer ++ field ++ stop ∷ [])
  unfolding front_after
  line_fits = rw (lt-ltb (at + length field) (length buffer) room)

  -- which are so many bytes
  pub front_length : length (take at buffer ++ field ++ stop ∷ []) ≡ at + length field + 1
  front_length = simp length-append (omega (arith, length-take-le at buffer (omega arith)))

-- a field of so many bytes and its stop have room from a place of a buffer on
pub record Fits (at : ℕ) (field : List ℕ) (stop : ℕ) (buffer : List ℕ) (size : ℕ) : Type 0 where
  pub counted : size ≡ length field
  pub room : at + size < length buffer

module _ {at : ℕ} {field : List ℕ} {stop : ℕ} {buffer : List ℕ} {size : ℕ} (fits : Fits at field stop buffer size) where
  -- the part lent for the field is as long
  pub part_sized : length (mid_of at (at + size - at) buffer) ≡ size
  part_sized = mid_len at (at + size) buffer (omega arith) ∙ omega arith

  -- the byte that stops it comes behind so many bytes
  before_stop : length (take at buffer ++ field) ≡ at + size
  before_stop = simp length-append (omega (arith, length-take-le at buffer (omega arith)))

  -- the part is back with the field in it
  field_in : put_mid at (at + size - at) buffer field ≡ onto (take at buffer ++ field) buffer
  unfolding onto
  field_in = let part : at + size - at ≡ size = omega arith in rw (part, before_stop, drop-drop, append_assoc)

  -- and with the byte stored behind it both are put
  pub field_put :
      {filled : List ℕ} {byte next : ℕ} → filled ≡ field → byte ≡ stop → next ≡ at + size + 1
      → Puts (right at) (right field) stop buffer (right next) (set (put_mid at (at + size - at) buffer filled) (at + size) byte)
  field_put {filled} {byte} {next} fills stops past =
      let room : at + length field < length buffer = omega arith in
      let place : next ≡ at + length field + 1 = omega arith in
      rw (line_fits at field stop buffer room, front_length at field stop buffer room) (
        ap right place,
        rw (fills, stops, field_in) (onto_byte (take at buffer ++ field) buffer (at + size) stop (sym before_stop) (omega arith)),
      )

-- an hour's text is to be put up to the last hour, and refused by 4 above it
pub hour_within_lem : (hour : ℕ) → hour ≤ last_hour → hour_written comma hour ≡ right (hour_text comma hour)
unfolding hour_written
hour_within_lem hour within = rw (le-leb hour last_hour within)

pub hour_above : (hour : ℕ) → last_hour < hour → hour_written comma hour ≡ wrong 4
unfolding hour_written
hour_above hour above = rw (lt-leb hour last_hour above)

-- the last of the fields put one behind the other has the line end behind it
pub last_put :
    (so_far : Read ℕ) (field : Read (List ℕ)) (buffer : List ℕ) {answer : Read ℕ} {held : List ℕ} → Puts so_far field line_end buffer answer held
    → Comes so_far (field ∷ []) buffer answer held
unfolding fields_after
last_put so_far field buffer puts = record { place = puts.0; holds = puts.1 }

-- each one before it has a tab behind it, and the others behind that
pub then_put :
    (so_far : Read ℕ) (field : Read (List ℕ)) (buffer : List ℕ) {next answer : Read ℕ} {following : Read (List ℕ)} {fields : List (Read (List ℕ))}
    {between held : List ℕ} → Puts so_far field tab buffer next between → Comes next (following ∷ fields) between answer held
    → Comes so_far (field ∷ following ∷ fields) buffer answer held
unfolding fields_after
then_put so_far field buffer puts comes =
    record { place = comes.place ∙ rw (puts.0, puts.1); holds = comes.holds ∙ rw (puts.0, puts.1) }

-- a line that was refused stays refused, and its buffer stays
pub refused_on :
    (number : ℕ) (fields : List (Read (List ℕ))) (buffer : List ℕ) → fields_after (wrong number) fields buffer ≡ (wrong number, buffer)
unfolding fields_after front_after
refused_on number [] buffer = refl
refused_on number (field ∷ []) buffer = refl
refused_on number (field ∷ next ∷ fields) buffer = refused_on number (next ∷ fields) buffer

-- a number of 32 bits has at most ten digits, and an hour to be put takes at most seven bytes and its stop
pub number_short : (number : ℕ) → number ≤ 4_294_967_295 → length (spelled number) ≤ 10
number_short number most = spelled_most 9 number (omega arith)

pub hour_short : (hour : ℕ) → bytes_of (hour_written comma hour) ≤ 8
hour_short hour =
    by_test (leb hour last_hour)
    (λ passed.
    let within : hour ≤ last_hour = leb-true hour last_hour passed in
    rw (hour_within_lem hour within) (omega (arith, length_of_text comma hour, spelled_most 3 (hour / 100) (omega arith))))
    (λ failed. rw (hour_above hour (leb-false hour last_hour failed)) (omega arith))

-- Fields put behind a text that stands at the front of a buffer with room for all of them.
-- what the line comes to behind that text
abbrev line_behind : List ℕ → Read (List (List ℕ)) → Read (List ℕ)
line_behind front texts = texts >>= λ texts. right (front ++ line_with texts)

-- a field and its tab belong to what stands before the others
one_more :
    (front text : List ℕ) (next : Read (List ℕ)) (rest : Read (List (List ℕ)))
    → line_behind (front ++ text ++ tab ∷ []) (next >>= λ first. rest >>= λ texts. right (first ∷ texts))
    ≡ line_behind front ((next >>= λ first. rest >>= λ texts. right (first ∷ texts)) >>= λ texts. right (text ∷ texts))
unfolding tabbed
one_more front text (wrong number) rest = refl
one_more front text (right first) (wrong number) = refl
one_more front text (right first) (right texts) = ap right (simp append_assoc)

-- a field stands behind what stood at the front
field_stands :
    (front buffer : List ℕ) → take (length front) buffer ≡ front → (text : List ℕ) (stop : ℕ) → length front + length text < length buffer
    → front_after (right (length front)) (right text) stop buffer ≡ right (front ++ text ++ stop ∷ [])
field_stands front buffer stands text stop room = line_fits (length front) text stop buffer room ∙ rw stands

-- a text at the front of a buffer is the line in it
text_in_line : (text buffer : List ℕ) → length text ≤ length buffer → line_in (right (length text)) (onto text buffer) ≡ right text
unfolding line_in
text_in_line text buffer room =
    rw (le-leb (length text) (length (onto text buffer)) (omega (arith, length_of_onto text buffer room)), front_of_onto)

-- the line in a buffer that fields were put to
abbrev line_over : Read ℕ × List ℕ → Read (List ℕ)
line_over outcome = line_in outcome.0 outcome.1

chained :
    (field : Read (List ℕ)) (fields : List (Read (List ℕ))) (front buffer : List ℕ) → take (length front) buffer ≡ front
    → length front + bytes_of_all (field ∷ fields) ≤ length buffer
    → line_over (fields_after (right (length front)) (field ∷ fields) buffer) ≡ line_behind front (texts_of (field ∷ fields))
unfolding fields_after texts_of bytes_of_all tabbed front_after line_in
chained (wrong number) [] front buffer stands room = refl
chained (wrong number) (next ∷ fields) front buffer stands room = ap line_over (refused_on number (next ∷ fields) buffer)
chained (right text) [] front buffer stands room =
    rw (field_stands front buffer stands text line_end (omega arith))
    (text_in_line (front ++ text ++ line_end ∷ []) buffer (simp length-append (omega arith)) ∙ ap right (append_assoc front text (line_end ∷ [])))
chained (right text) (next ∷ fields) front buffer stands room =
    let more = front ++ text ++ tab ∷ [] in
    let long : length more ≡ length front + length text + 1 = simp length-append (omega arith) in
    ap (λ line. line_over (fields_after (length_of line) (next ∷ fields) (buffer_after buffer line))) (field_stands front buffer stands text tab (omega arith))
    ∙ chained next fields more (onto more buffer) (front_of_onto more buffer) (omega (arith, length_of_onto more buffer (omega arith)))
    ∙ one_more front text next (texts_of fields)

-- a line's own buffer is as long as the room of a line, and what was checked before the first field refuses it too
pub line_put :
    (begun : Read (Unit {0})) (field : Read (List ℕ)) (fields : List (Read (List ℕ))) (buffer : List ℕ) {answer : Read ℕ} {held : List ℕ}
    → bytes_of_all (field ∷ fields) ≤ length buffer → Comes (begun >> right 0) (field ∷ fields) buffer answer held
    → line_in answer held ≡ (begun >> line_made (field ∷ fields))
unfolding line_in line_made
line_put (wrong number) field fields buffer room comes =
    rw (comes.place, comes.holds) (ap line_over (refused_on number (field ∷ fields) buffer))
line_put (right met) field fields buffer room comes =
    rw (comes.place, comes.holds) (chained field fields [] buffer refl (omega arith))

-- what `write_line` comes to, once the line in its own buffer is known
pub line_written :
    (buffer : List ℕ) (put written : Read (List ℕ)) {answer : Read ℕ} {held : List ℕ} → put ≡ written
    → (answer ≡ length_of (fitted buffer put)) × (held ≡ buffer_after buffer (fitted buffer put))
    → (answer ≡ length_of (fitted buffer written)) × (held ≡ buffer_after buffer (fitted buffer written))
line_written buffer put written same writes = rw same at writes
