-- What a part is and where it lies, what a walk hands out from place to place, and the walk as a whole. Assumes nothing.
use Prim.Native.Nat.{ℕ, zero, suc, ◌+◌, ◌-◌, ◌≤◌}
use mathlib.Core.Path.{◌≡◌, refl, sym, ◌∙◌, ap}
use mathlib.Core.List.{List, [], ◌∷◌}
use lib.ListN.{length, take, drop, length-drop, take-append-drop}
use lib.Seq.{length-take-le}
use lib.Dec.{leb}
use native.Mathlib.Omega.{arith}
use borrow.Author.Tests.{le-leb, lt-leb, leb-true, leb-false}
use denote.Ref.{Bor}
use Rattle.ground.specs.Outcome.{Single}
use Rattle.ground.proofs.Tests.{by_test}
use Rattle.texts.specs.Lines.{lines_of, line_at, line_start, past_line, part_of, part_start}
use Rattle.texts.specs.Meaning.{IsPast, Between, LiesAt, LineLies, OnePart, Starts, Hands, Walked, none_left, goes_on}
use Rattle.texts.specs.declared.Walk.{Walk}
use Rattle.texts.specs.declared.Handed.{Handed}
use Rattle.texts.proofs.Lines.{by_end, walk_done, past_is, part_between, part_none, part_is}
use Rattle.texts.proofs.WholeText.{line_first, line_only, walk_on, walk_some, moves_on, ends_inside}

-- the place past a line, said of the first line of what stands from its place on
pub past_first : (text : List ℕ) (at end : ℕ) → end ≡ past_line text at → IsPast text at end
past_first text at end past = (line_at text at, line_first text at, past ∙ sym (past_is text at))

module _ (text part : Bor (List ℕ)) (from to : ℕ) (is : part.now ≡ part_of text.now from to)
    (lies : LiesAt part text (part_start text.now from to)) where
  pub between_places : from ≤ to → to ≤ length text.now → Between text.now part.now from to × LiesAt part text from
  between_places order inside =
      let found = part_between text.now from to order inside in
      let held : part.now ≡ take (to - from) (drop from text.now) = is ∙ found.0 in
      let room : to - from ≤ length (drop from text.now) = omega (arith, length-drop from text.now) in
      let size : length part.now ≡ to - from = ap length held ∙ length-take-le (to - from) (drop from text.now) room in (
        record {
          front = take from text.now;
          rest = drop (to - from) (drop from text.now);
          whole = rw (held, take-append-drop (to - from) (drop from text.now), take-append-drop from text.now);
          begins = length-take-le from text.now (omega arith);
          ends = omega (arith, size);
        },
        (lies.0, omega (arith, lies.1, found.1)),
      )

  pub no_places : (from ≤ to → to ≤ length text.now → ⊥) → (part.now ≡ []) × LiesAt part text 0
  no_places never =
      let none = part_none text.now from to never in
      (is ∙ none.0, (lies.0, omega (arith, lies.1, none.1)))

-- two parts that are said to be one are one, and lie in one place
pub one_part :
    (text one other : Bor (List ℕ)) {held : List ℕ} (place : ℕ) → one.now ≡ held → other.now ≡ held → LiesAt one text place
    → LiesAt other text place → OnePart one other
one_part text one other place p q lies lain =
    let blocks = lies.0 ∙ sym lain.0 in
    let offsets = lies.1 ∙ sym lain.1 in
    (p ∙ sym q, λ i. (blocks i, offsets i))

-- where a line lies, said of the two cases
pub line_lies : (line text : Bor (List ℕ)) (at : ℕ) → LiesAt line text (line_start text.now at) → LineLies line text at
unfolding line_start
line_lies line text at lies = (λ inside. rw (le-leb at (length text.now) inside) at lies, λ beyond. rw (lt-leb at (length text.now) beyond) at lies)

pub lies_start : (line text : Bor (List ℕ)) (at : ℕ) → LineLies line text at → LiesAt line text (line_start text.now at)
unfolding line_start
lies_start line text at lies = by_test (leb at (length text.now)) (λ test. rw test (lies.0 (leb-true _ _ test))) (λ test. rw test (lies.1 (leb-false _ _ test)))

-- what a walk's text holds, and the place past the line at the walk's place
abbrev held : Walk → List ℕ
held walk = walk.text.now

abbrev past : Walk → ℕ
past walk = past_line (held walk) walk.at

-- a part up to the place past the line is what a walk has to hand out
pub handed_on :
    (walk : Walk) (line : Bor (List ℕ)) (end : ℕ) → end ≡ past walk → line.now ≡ part_of (held walk) walk.at end
    → LiesAt line walk.text (part_start (held walk) walk.at end)
    → Hands walk (record { line = line; walk = record { text = walk.text; at = end } })
handed_on walk line end moved cut lies =
    let is = part_is (held walk) walk.at end moved in
    let same : line.now ≡ line_at (held walk) walk.at = cut ∙ is.0 in
    record {
      first = rw same (line_first (held walk) walk.at);
      lies = line_lies line walk.text walk.at (lies.0, omega (arith, lies.1, is.1));
      keeps = refl;
      moves = omega (arith, moved, past_is (held walk) walk.at, ap length same);
    }

-- so it can hand something out
can_hand : (walk : Walk) → (handed : Handed) × Hands walk handed
can_hand walk =
    let start = part_start (held walk) walk.at (past walk) in
    let line : Bor (List ℕ) = record { ref_ptr = (walk.text.ref_ptr.0, walk.text.ref_ptr.1 + start); now = part_of (held walk) walk.at (past walk) } in
    (record { line = line; walk = record { text = walk.text; at = past walk } }, handed_on walk line (past walk) refl refl (refl, refl))

-- what is handed out is the line at the walk's place, and the walk is then past it
module _ {walk : Walk} {handed : Handed} (hands : Hands walk handed) where
  pub hands_line : handed.line.now ≡ line_at (held walk) walk.at
  hands_line = line_only (held walk) walk.at hands.first

  pub hands_past : handed.walk.at ≡ past walk
  hands_past = omega (arith, hands.moves, past_is (held walk) walk.at, ap length hands_line)

-- every walk ends: there are fewer bytes left each time
ends_here : (walk : Walk) → length (held walk) ≤ walk.at → (lines : List (List ℕ)) × (last : Walk) × Walked walk lines last
ends_here walk done =
    let out = can_hand walk in
    ([], out.0.walk, none_left walk out.0 out.1 (hands_line out.1 ∙ (walk_done (held walk) walk.at done).1))

pub walks_out :
    (fuel : ℕ) (walk : Walk) → length (held walk) ≤ walk.at + fuel → (lines : List (List ℕ)) × (last : Walk) × Walked walk lines last
walks_out zero walk few = ends_here walk (omega arith)
walks_out (suc fuel) walk few =
    by_end (held walk) walk.at (ends_here walk)
    (λ left.
    let out = can_hand walk in
    let rest = walks_out fuel out.0.walk (rw (out.1.keeps, length) (omega (arith, hands_past out.1, moves_on (held walk) walk.at left))) in
    let some : 1 ≤ length out.0.line.now = rw (hands_line out.1) (walk_some (held walk) walk.at left) in
    (out.0.line.now ∷ rest.0, rest.1, goes_on walk rest.1 out.0 rest.0 out.1 some rest.2))

-- from a place in the text a walk hands out the lines from there on, and is then at the text's end
walked_from :
    {walk last : Walk} {lines : List (List ℕ)} → Walked walk lines last → walk.at ≤ length (held walk)
    → (lines ≡ lines_of (drop walk.at (held walk))) × (last.at ≡ length (held walk))
walked_from (none_left walk handed hands none) inside =
    by_end (held walk) walk.at
    (λ over. let done = walk_done (held walk) walk.at over in (sym done.0, omega (arith, hands_past hands, done.2)))
    (λ left. absurd (omega (arith, ap length (sym (hands_line hands) ∙ none), walk_some (held walk) walk.at left)))
walked_from (goes_on walk last handed lines hands some walked) inside =
    by_end (held walk) walk.at (λ over. absurd (omega (arith, some, ap length (hands_line hands ∙ (walk_done (held walk) walk.at over).1))))
    (λ left.
    let same : held handed.walk ≡ held walk = ap (λ x. x.now) hands.keeps in
    let rest = walked_from walked (rw (same, hands_past hands) (ends_inside (held walk) walk.at left)) in
    let lines_rest : lines ≡ lines_of (drop (past walk) (held walk)) = rw (← hands_past hands, ← same) rest.0 in
    (rw (hands_line hands, lines_rest, walk_on (held walk) walk.at left), rest.1 ∙ ap length same))

-- from the top they are all the lines of the text
pub walked_whole :
    {text : Bor (List ℕ)} {walk last : Walk} {lines : List (List ℕ)} → Starts text walk → Walked walk lines last
    → (lines ≡ lines_of text.now) × (last.at ≡ length text.now)
walked_whole {text} {walk} {last} {lines} starts walked =
    let found = walked_from walked (omega (arith, starts.at_top)) in
    let same : held walk ≡ text.now = ap (λ x. x.now) starts.keeps in
    let all : lines_of (drop walk.at (held walk)) ≡ lines_of text.now = rw (starts.at_top, same) in
    (found.0 ∙ all, found.1 ∙ ap length same)

-- two walks with one text and one place are one
same_walk : {one other : Walk} → one.text ≡ other.text → one.at ≡ other.at → one ≡ other
same_walk texts places = λ i. record { text = texts i; at = places i }

pub one_start : {text : Bor (List ℕ)} → Single (Starts text)
one_start one other p q = same_walk (p.keeps ∙ sym q.keeps) (p.at_top ∙ sym q.at_top)

pub one_handed :
    {walk : Walk} {one other : Handed} → Hands walk one → Hands walk other → OnePart one.line other.line × (one.walk ≡ other.walk)
one_handed {walk} {one} {other} p q =
    let lies = lies_start one.line walk.text walk.at p.lies in
    let lain = lies_start other.line walk.text walk.at q.lies in
    (one_part walk.text one.line other.line (line_start (held walk) walk.at) (hands_line p) (hands_line q) lies lain, same_walk (p.keeps ∙ sym q.keeps) (hands_past p ∙ sym (hands_past q)))
