-- What this room promises, of what its functions answer and of the very definitions that their contracts cite.
-- Each is a line over a law of this folder. Assumes nothing.
use types.Logic.{Logic}
use denote.Bor.{Bor, now}
use Prim.Native.Nat.{ℕ, ◌<◌, ◌≤◌}
use mathlib.Core.Path.{◌≡◌, refl, sym, ◌∙◌}
use mathlib.Core.List.{List, [], ◌∷◌}
use seplogic.Ra.Ura.{Ura}
use base.Logic.{SProp, ent, emp, via, snd∗, ex_e, id⊢}
use base.Fml.{Lft}
use contract.Lifetimes.{Lfts}
use contract.Monad.{Fun, fact}
use denote.Triple.Clauses.{Clauses, Ended, AtExit, at_exit, lasts, ensured}
use denote.Triple.Entry.{Args, Res}
use prog.Memory.{Memory}
use prog.Routine.{Routine}
use types.Logic.{sem}
use native.Mathlib.Omega.{arith}
use lib.ListN.{length, drop}
use Rattle.ground.specs.Outcome.{Single}
use Rattle.ground.proofs.Outcome.{single_value}
use Rattle.texts.specs.Lines.{line_end, lines_of, line_at, line_start, past_line, part_start}
use Rattle.texts.specs.Meaning.{joined, AreLines, FirstLine, IsPast, Between, LiesAt, OnePart, LineLies, Starts, Hands, Walked}
use Rattle.texts.specs.declared.Walk.{Walk}
use Rattle.texts.specs.declared.Handed.{Handed}
use Rattle.texts.proofs.Lines as cut
use Rattle.texts.proofs.WholeText as whole
use Rattle.texts.proofs.Places as places
use Rattle.texts.proofs.line_end.Reads as line_end
use Rattle.texts.proofs.line_at.Reads as line_at
use Rattle.texts.proofs.part.Reads as part
use Rattle.texts.proofs.walk_start.Reads as walk_start
use Rattle.texts.proofs.walked_line.Reads as walked_line
use Rattle.texts.proofs.walked_place.Reads as walked_place
use Rattle.texts.proofs.start.Reads as started
use Rattle.texts.proofs.next.Reads as moved
use Rattle.texts.specs.contracts.start as start
use Rattle.texts.specs.contracts.next as next

-- the byte that ends a line
pub line_end_is : line_end ≡ 10
line_end_is = refl

-- 2g: the lines joined are the text; every line but a last unended one ends with byte 10 and holds no other; and only these lines are so
pub lines_joined : (text : List ℕ) → joined (lines_of text) ≡ text
lines_joined = whole.lines_joined

pub lines_are : (text : List ℕ) → AreLines (lines_of text)
lines_are = whole.lines_are

pub lines_only : (lines : List (List ℕ)) → AreLines lines → lines_of (joined lines) ≡ lines
lines_only lines = whole.lines_only

-- 2g: at a place a line has a byte at least, and the lines from the place past it on follow; at or past the end none is left
pub walk_on : (text : List ℕ) (at : ℕ) → at < length text → lines_of (drop at text) ≡ line_at text at ∷ lines_of (drop (past_line text at) text)
walk_on = whole.walk_on

pub walk_some : (text : List ℕ) (at : ℕ) → at < length text → 1 ≤ length (line_at text at)
walk_some = whole.walk_some

pub walk_done :
    (text : List ℕ) (at : ℕ) → length text ≤ at → (lines_of (drop at text) ≡ []) × (line_at text at ≡ []) × (past_line text at ≡ at)
walk_done = cut.walk_done

-- so what the definitions have at any place is the first line of what stands from there on, and the place past it
pub line_at_place : (text : List ℕ) (at : ℕ) → FirstLine (line_at text at) (drop at text)
line_at_place = whole.line_first

pub place_past_line : (text : List ℕ) (at : ℕ) → IsPast text at (past_line text at)
place_past_line text at = places.past_first text at (past_line text at) refl

-- there is one first line of a text
pub first_line_one : (text : List ℕ) → Single (λ line. FirstLine line text)
first_line_one text one other p q = whole.first_only p ∙ sym (whole.first_only q)

module _ (κs : Lfts 1) (text : Bor (List ℕ)) (at : ℕ) where
  -- `line_end`: the place past the first line of what stands from the place on; at or past the end the place itself
  module _ (end : ℕ) (after : _) (learnt : line_end.Learnt κs (text, (at, tt)) end after) where
    pub line_end_past : IsPast (now text) at end
    line_end_past = places.past_first (now text) at end learnt

    pub line_end_stays : length (now text) ≤ at → end ≡ at
    line_end_stays past = learnt ∙ (cut.walk_done (now text) at past).2

  -- `line_at`: that first line, as a part of the text; at or past the end none
  module _ (line : Bor (List ℕ)) (after : _) (learnt : line_at.Learnt κs (text, (at, tt)) line after) where
    pub line_at_first : FirstLine (now line) (drop at (now text))
    line_at_first = rw learnt.0 (whole.line_first (now text) at)

    pub line_at_none : length (now text) ≤ at → now line ≡ []
    line_at_none past = learnt.0 ∙ (cut.walk_done (now text) at past).1

    pub line_at_lies : LineLies line text at
    line_at_lies = places.line_lies line text at learnt.1

  -- `walked_line` and `walked_place`: the same of a walk at the place
  module _ (line : Bor (List ℕ)) (after : _) (learnt : walked_line.Learnt κs (text, (at, tt)) line after) where
    pub walked_line_first : FirstLine (now line) (drop at (now text))
    walked_line_first = rw learnt.0 (whole.line_first (now text) at)

    pub walked_line_lies : LineLies line text at
    walked_line_lies = places.line_lies line text at learnt.1

  pub walked_place_past : (end : ℕ) (after : _) → walked_place.Learnt κs (text, (at, tt)) end after → IsPast (now text) at end
  walked_place_past end after learnt = places.past_first (now text) at end learnt

-- `walk_start`: the top
pub walk_start_top : (κs : Lfts 1) (text : Bor (List ℕ)) (place : ℕ) (after : _) → walk_start.Learnt κs (text, tt) place after → place ≡ 0
walk_start_top κs text place after learnt = learnt

-- `part`: between two places of the text in order, and there; else the empty front
module _ (κs : Lfts 1) (text : Bor (List ℕ)) (from to : ℕ) (cut : Bor (List ℕ)) (after : _)
    (learnt : part.Learnt κs (text, (from, (to, tt))) cut after) where
  pub part_between : from ≤ to → to ≤ length (now text) → Between (now text) (now cut) from to × LiesAt cut text from
  part_between order inside = places.between_places text cut from to learnt.0 learnt.1 order inside

  pub part_none : (from ≤ to → to ≤ length (now text) → ⊥) → (now cut ≡ []) × LiesAt cut text 0
  part_none never = places.no_places text cut from to learnt.0 learnt.1 never

-- what a function says of its result, with what is said of last values dropped: there are none
said :
    {M : Type 1} {𝓤 : Ura M} (𝓛 : Logic 𝓤) (T : Ended) (c : Clauses 𝓤 T) (κs : Lfts T.signature.lifetimes) (a : Args T.signature κs)
    (g : (c κs a).ghost) (r : Res T.signature κs) (φ : Type 0)
    → ((end : AtExit T κs) → ent 𝓤 ((c κs a).ensures g r end) (fact 𝓤 φ)) → ent 𝓤 (ensured 𝓛 T c κs a g r) (fact 𝓤 φ)
said {𝓤 = 𝓤} 𝓛 T c κs a g r φ clause = ex_e 𝓤 _ (λ ws. via 𝓤 _ (snd∗ 𝓤 (sem 𝓛 (lasts T κs a ws)) _) (clause (at_exit T κs a ws)))

-- `start` and `next`: their contracts say no less than the clauses of `specs/Meaning.antt`
module _ {M : Type 1} {𝓤 : Ura M} (𝓛 : Logic 𝓤) (mem : Memory → SProp 𝓤) (run : Routine → Fun 𝓤) (κ : Lft) where
  pub start_starts :
      (text : Bor (List ℕ)) (walk : Walk)
      → ent 𝓤 (ensured 𝓛 start.ended (start.clauses 𝓛 mem run) (κ, tt) (text, tt) tt walk) (fact 𝓤 (Starts text walk))
  start_starts text walk = said 𝓛 start.ended (start.clauses 𝓛 mem run) (κ, tt) (text, tt) tt walk (Starts text walk) (λ end. id⊢ 𝓤 _)

  pub next_hands :
      (walk : Walk) (handed : Handed)
      → ent 𝓤 (ensured 𝓛 next.ended (next.clauses 𝓛 mem run) (κ, tt) (walk, tt) tt handed) (fact 𝓤 (Hands walk handed))
  next_hands walk handed = said 𝓛 next.ended (next.clauses 𝓛 mem run) (κ, tt) (walk, tt) tt handed (Hands walk handed) (λ end. id⊢ 𝓤 _)

  -- and ask nothing
  pub start_asks_nothing : (text : Bor (List ℕ)) → ent 𝓤 (emp 𝓤) ((start.clauses 𝓛 mem run (κ, tt) (text, tt)).requires tt)
  start_asks_nothing text = id⊢ 𝓤 (emp 𝓤)

  pub next_asks_nothing : (walk : Walk) → ent 𝓤 (emp 𝓤) ((next.clauses 𝓛 mem run (κ, tt) (walk, tt)).requires tt)
  next_asks_nothing walk = id⊢ 𝓤 (emp 𝓤)

-- the same of these contracts by the reading that the kit makes of them
module _ (κs : Lfts 1) where
  pub start_learnt : (text : Bor (List ℕ)) (walk : Walk) (after : _) → started.Learnt κs (text, tt) walk after → Starts text walk
  start_learnt text walk after learnt = learnt

  pub next_learnt : (walk : Walk) (handed : Handed) (after : _) → moved.Learnt κs (walk, tt) handed after → Hands walk handed
  next_learnt walk handed after learnt = learnt

  pub walk_asks_nothing : (text : Bor (List ℕ)) (walk : Walk) → started.Asked κs (text, tt) × moved.Asked κs (walk, tt)
  walk_asks_nothing text walk = (tt, tt)

-- what is handed out is the line and the walk, and nothing else
pub handed_whole : (handed : Handed) → handed ≡ record { line = handed.line; walk = handed.walk }
handed_whole handed = refl

-- 2g, the walk as a whole: from `start` by `next` until none is left just the lines of the text are handed out, in order,
-- and the place is then the text's length
pub walk_whole :
    (text : Bor (List ℕ)) (walk last : Walk) (lines : List (List ℕ)) → Starts text walk → Walked walk lines last
    → (lines ≡ lines_of (now text)) × (last.at ≡ length (now text))
walk_whole text walk last lines = places.walked_whole

-- and every walk comes to an end, from whatever place
pub walk_ends : (walk : Walk) → (lines : List (List ℕ)) × (last : Walk) × Walked walk lines last
walk_ends walk = places.walks_out (length (now walk.text)) walk (omega arith)

-- 1d: each public function's contract admits a single outcome, of a returned part its contents and where it lies
pub start_single : (text : Bor (List ℕ)) → Single (Starts text)
start_single text = places.one_start

pub next_single :
    (walk : Walk) (one other : Handed) → Hands walk one → Hands walk other → OnePart one.line other.line × (one.walk ≡ other.walk)
next_single walk one other = places.one_handed

module _ (κs : Lfts 1) (text : Bor (List ℕ)) where
  pub walk_start_single : (after : _) → Single (λ place. walk_start.Learnt κs (text, tt) place after)
  walk_start_single after = single_value 0

  pub line_end_single : (at : ℕ) (after : _) → Single (λ end. line_end.Learnt κs (text, (at, tt)) end after)
  line_end_single at after = single_value (past_line (now text) at)

  pub walked_place_single : (at : ℕ) (after : _) → Single (λ end. walked_place.Learnt κs (text, (at, tt)) end after)
  walked_place_single at after = single_value (past_line (now text) at)

  module _ (one other : Bor (List ℕ)) (at : ℕ) (after : _) where
    pub line_at_single : line_at.Learnt κs (text, (at, tt)) one after → line_at.Learnt κs (text, (at, tt)) other after → OnePart one other
    line_at_single p q = places.one_part text one other (line_start (now text) at) p.0 q.0 p.1 q.1

    pub walked_line_single :
        walked_line.Learnt κs (text, (at, tt)) one after → walked_line.Learnt κs (text, (at, tt)) other after → OnePart one other
    walked_line_single p q = places.one_part text one other (line_start (now text) at) p.0 q.0 p.1 q.1

  pub part_single :
      (one other : Bor (List ℕ)) (from to : ℕ) (after : _) → part.Learnt κs (text, (from, (to, tt))) one after
      → part.Learnt κs (text, (from, (to, tt))) other after → OnePart one other
  part_single one other from to after p q = places.one_part text one other (part_start (now text) from to) p.0 q.0 p.1 q.1

  -- and asks nothing of what it is passed
  pub nothing_asked :
      (at to : ℕ)
      → line_end.Asked κs (text, (at, tt)) × line_at.Asked κs (text, (at, tt)) × part.Asked κs (text, (at, (to, tt)))
      × walk_start.Asked κs (text, tt) × walked_line.Asked κs (text, (at, tt)) × walked_place.Asked κs (text, (at, tt))
  nothing_asked at to = (tt, tt, tt, tt, tt, tt)
