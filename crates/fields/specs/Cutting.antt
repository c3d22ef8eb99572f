-- How a line is cut: one scan from the left counts its fields and keeps where the first of them end. Assumes nothing.
use Rattle.std.specs.Prelude.{ℕ, zero, suc, ◌+◌, ◌-◌, Bool, true, false, cond, ◌&&◌, List, [], ◌∷◌, length, get_or, set, take, drop, replicate, ltb, leb}
use Rattle.classes.specs.Classes.{comma, class_of}
use Rattle.classes.specs.declared.Class.{Class}
use Rattle.classes.specs.declared.Class.TheVariants.{Digit, Mark, Tab, LineEnd, Foreign}
use Rattle.fields.specs.Fields.{is_none}
use Rattle.fields.specs.declared.Cut.{Cut}

-- how many ends a cut keeps
abbrev pub most_fields : ℕ
most_fields = 5

-- a place in a text is at most this, and so is a count
abbrev pub most_counted : ℕ
most_counted = 18_446_744_073_709_551_615

-- no field
abbrev pub no_cut : Cut
no_cut = record { count = 0; ends = replicate most_fields 0 }

-- what a byte's class means to a line: a tab or a line end stands in no field, and a line end ends the line
abbrev pub in_field : Class → Bool
in_field (Digit digit) = true
in_field Mark = true
in_field Tab = false
in_field LineEnd = false
in_field Foreign = true

abbrev pub ends_line : Class → Bool
ends_line (Digit digit) = false
ends_line Mark = false
ends_line Tab = false
ends_line LineEnd = true
ends_line Foreign = false

-- one field more, which ends at a place
abbrev pub one_field_more : Cut → ℕ → Cut
one_field_more found at =
    record { count = found.count + 1; ends = cond (ltb found.count most_fields) (set found.ends found.count at) found.ends }

-- what is found from a place on, with what was found before it: a line that does not end, or that something follows, has no field
unfoldable pub cut_from : Cut → ℕ → List ℕ → Cut
cut_from found at [] = no_cut
cut_from found at (byte ∷ rest) =
    let class = class_of comma byte in
    let more = one_field_more found at in
    let further = cond (ends_line class) (cond (is_none rest) more no_cut) (cut_from more (suc at) rest) in
    cond (in_field class) (cut_from found (suc at) rest) further

-- how many fields a line has, and where they end
unfoldable pub cut_of : List ℕ → Cut
cut_of line = cut_from no_cut 0 line

-- where a field of a cut ends; 0 where there is none, or its end was not kept
unfoldable pub end_of : Cut → ℕ → ℕ
end_of cut place = cond (ltb place cut.count && ltb place most_fields) (get_or cut.ends place 0) 0

-- where it starts: the first with the line, and any other behind the tab that ends the one before
unfoldable pub start_of : Cut → ℕ → ℕ
start_of cut zero = 0
start_of cut (suc place) = suc (end_of cut place)

-- these are two places of the line, in order
unfoldable pub lies : List ℕ → Cut → ℕ → Bool
lies line cut place = leb (start_of cut place) (end_of cut place) && leb (end_of cut place) (length line)

-- a field of a line that was cut; empty where there is none
unfoldable pub field_at : List ℕ → Cut → ℕ → List ℕ
field_at line cut place = cond (lies line cut place) (take (end_of cut place - start_of cut place) (drop (start_of cut place) line)) []

-- and the place of the line where it starts, as a part of it
unfoldable pub field_start : List ℕ → Cut → ℕ → ℕ
field_start line cut place = cond (lies line cut place) (start_of cut place) 0
