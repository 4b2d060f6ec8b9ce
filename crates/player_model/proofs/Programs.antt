-- The program's lines, as the loop reads them. Of the lines from `cursor` on, one with an instruction joins the program so
-- far, and at any other, or once the program is full, the steps begin. Reading is the loop's invariant, in the form
-- of what remains. It says of the line's number that four numbers were read for each line since the second, so the number
-- cannot outgrow 64 bits, and there is room for four numbers wherever there is room for one. Assumes nothing.
use mathlib.Core.Bool.{Bool, true, false, cond, ◌&&◌}
use mathlib.Core.List.{List, [], ◌∷◌, ◌++◌}
use mathlib.Core.Option.{Option, none, some}
use mathlib.Core.Path.{◌≡◌, refl, sym, ap, ap₂, ◌∙◌}
use Prim.Native.Nat.{ℕ, suc, ◌+◌, ◌-◌, ◌*◌, ◌≤◌, ◌<◌}
use native.Mathlib.Numerals.{add-one}
use native.Mathlib.Omega.{arith}
use lib.Dec.{ltb}
use lib.ListN.{length, take, drop, length-append, take-append-drop}
use lib.Seq.{slice, sets, sets-eq, length-sets, length-take-le, take_at, drop_at, drop-drop}
use borrow.Author.Tests.{lt-ltb, le-ltb}
use Rattle.text.specs.declared.Line.{Line}
use Rattle.text.specs.declared.Line.TheVariants.{End, Unended, Whole}
use Rattle.text.specs.Lines.{feed, line_at, Lines, ended, lines_of}
use Rattle.text.proofs.Splits.{LineIs, line_is, line_end, line_unended, line_whole}
use Rattle.machine_model.specs.Program.{per_instruction, program_most, well_formed}
use Rattle.script_model.specs.declared.Item.{Item}
use Rattle.script_model.specs.declared.Item.TheVariants.{Malformed, Sizes, Operation, Issue, Execute, Squash, Commit}
use Rattle.script_model.specs.declared.Item.TheVariants.{Finish}
use Rattle.std.specs.Prelude.{None}
use Rattle.script_model.specs.Language.{parsed_line, Steps, Body, numbers_of, joining, steps, body}
use Rattle.player_model.specs.Playing.{line_start}
use Rattle.player_model.proofs.Founds.{same_four}
use Rattle.player_model.specs.Computed.Parts.{some_four, found_in, found_by, found_at, steps_at, body_at, Loads}

-- ---- the numbers of one line

-- an instruction found joins a program with room for it
numbers_four : (p : List ℕ) (i : Item) (at code d s imm next : ℕ) → found_in false i at ≡ some_four code d s imm next
    → length p < program_most
    → (numbers_of p i ≡ some (code ∷ d ∷ s ∷ imm ∷ [])) × (next ≡ at)
numbers_four p Malformed at code d s imm next h room = cc
numbers_four p (Sizes x y z w) at code d s imm next h room = cc
numbers_four p (Operation x y z w) at code d s imm next h room =
    rw (lt-ltb (length p) program_most room) (go (well_formed x y z w) h)
  where
    go : (t : Bool) → cond t (some_four x y z w at) None ≡ some_four code d s imm next
        → (cond t (some (x ∷ y ∷ z ∷ w ∷ [])) none ≡ some (code ∷ d ∷ s ∷ imm ∷ [])) × (next ≡ at)
    go true g = let e = same_four g in (cc (e.0, e.1, e.2, e.3), sym e.4)
    go false g = cc
numbers_four p Issue at code d s imm next h room = cc
numbers_four p (Execute k) at code d s imm next h room = cc
numbers_four p (Squash k) at code d s imm next h room = cc
numbers_four p Commit at code d s imm next h room = cc
numbers_four p (Finish k) at code d s imm next h room = cc

-- where none is found, none joins
numbers_none : (p : List ℕ) (i : Item) (at : ℕ) → found_in false i at ≡ None → numbers_of p i ≡ none
numbers_none p Malformed at h = refl
numbers_none p (Sizes x y z w) at h = refl
numbers_none p (Operation x y z w) at h = go (ltb (length p) program_most) (well_formed x y z w) h
  where
    go : (r t : Bool) → cond t (some_four x y z w at) None ≡ None
        → cond (r && t) (some (x ∷ y ∷ z ∷ w ∷ [])) none ≡ none
    go r true g = cc
    go true false g = refl
    go false false g = refl
numbers_none p Issue at h = refl
numbers_none p (Execute k) at h = refl
numbers_none p (Squash k) at h = refl
numbers_none p Commit at h = refl
numbers_none p (Finish k) at h = refl

-- to a full program none joins
numbers_full : (p : List ℕ) (i : Item) → program_most ≤ length p → numbers_of p i ≡ none
numbers_full p Malformed h = refl
numbers_full p (Sizes x y z w) h = refl
numbers_full p (Operation x y z w) h = rw (le-ltb (length p) program_most h)
numbers_full p Issue h = refl
numbers_full p (Execute k) h = refl
numbers_full p (Squash k) h = refl
numbers_full p Commit h = refl
numbers_full p (Finish k) h = refl

-- ---- the body from a line on

-- these lines, the first of which has number n
abbrev body_of : ℕ → List ℕ → Lines → Body
body_of n p ls = body n p ls.whole ls.rest

abbrev steps_of : ℕ → Lines → Steps
steps_of n ls = steps n ls.whole ls.rest

body_ends : (n : ℕ) (p rest : List ℕ) → body n p [] rest ≡ record { program = p; steps = steps n [] rest }
unfolding body
body_ends n p rest = refl

-- a first line with these numbers, or with none
abbrev joined_by : ℕ → List ℕ → List ℕ → Lines → Option (List ℕ) → Body
joined_by n p line ls o = joining p o (λ (grown : List ℕ). body_of (suc n) grown ls) (steps_of n (ended line ls))

body_joins : (n : ℕ) (p line : List ℕ) (ls : Lines) (ns : List ℕ) → numbers_of p (parsed_line line) ≡ some ns
    → body_of n p (ended line ls) ≡ body_of (suc n) (p ++ ns) ls
unfolding body
body_joins n p line ls ns e = ap (joined_by n p line ls) e

body_stops : (n : ℕ) (p line : List ℕ) (ls : Lines) → numbers_of p (parsed_line line) ≡ none
    → body_of n p (ended line ls) ≡ record { program = p; steps = steps_of n (ended line ls) }
unfolding body
body_stops n p line ls e = ap (joined_by n p line ls) e

-- at an instruction the next line goes on with the longer program
pub body_four : (s p : List ℕ) (at n code d r imm next : ℕ) → found_at s at ≡ some_four code d r imm next → length p < program_most
    → (body_at s at n p ≡ body_at s next (suc n) (p ++ (code ∷ d ∷ r ∷ imm ∷ []))) × (next ≡ suc (feed s at)) × (next ≤ length s)
body_four s p at n code d r imm next h room = go (line_at s at) (line_is s at (line_at s at) refl) h
  where
    go : (l : Line) → LineIs s at l → found_by false s l ≡ some_four code d r imm next
        → (body_at s at n p ≡ body_at s next (suc n) (p ++ (code ∷ d ∷ r ∷ imm ∷ [])))
        × (next ≡ suc (feed s at))
        × (next ≤ length s)
    go End is g = cc
    go (Unended from) is g = cc
    go (Whole from to) is g =
        let ends : feed s at < length s = omega arith in
        let line = slice at (feed s at) s in
        let says : found_in false (parsed_line line) (suc (feed s at)) ≡ some_four code d r imm next = rw (is.0, is.1) at g in
        let four = numbers_four p (parsed_line line) (suc (feed s at)) code d r imm next says room in
        let ns = code ∷ d ∷ r ∷ imm ∷ [] in (
          ap (body_of n p) (line_whole s at ends)
              ∙ body_joins n p line (lines_of (drop (suc (feed s at)) s)) ns four.0
              ∙ ap (λ (k : ℕ). body_at s k (suc n) (p ++ ns)) (sym four.1),
          four.1,
          omega (arith, four.1),
        )

-- the steps begin at a line that joins no numbers, and at the end
body_here : (s p : List ℕ) (at n : ℕ)
    → ((from to : ℕ) → line_at s at ≡ Whole from to → numbers_of p (parsed_line (slice from to s)) ≡ none)
    → body_at s at n p ≡ record { program = p; steps = steps_at s at n }
body_here s p at n h = go (line_at s at) refl (line_is s at (line_at s at) refl)
  where
    ends : (rest : List ℕ) → lines_of (drop at s) ≡ record { whole = []; rest = rest }
        → body_at s at n p ≡ record { program = p; steps = steps_at s at n }
    ends rest e =
        ap (body_of n p) e ∙ body_ends n p rest
        ∙ ap (λ (ls : Lines). record { program = p; steps = steps_of n ls }) (sym e)

    go : (l : Line) → line_at s at ≡ l → LineIs s at l → body_at s at n p ≡ record { program = p; steps = steps_at s at n }
    go End e is = ends [] (line_end s at is)
    go (Unended from) e is = ends (drop at s) (line_unended s at is.2)
    go (Whole from to) e is =
        let whole = line_whole s at (let l : feed s at < length s = omega arith in l) in
        let line = slice at (feed s at) s in
        let nothing : numbers_of p (parsed_line line) ≡ none = rw (is.0, is.1) at (h from to e) in
        ap (body_of n p) whole ∙ body_stops n p line (lines_of (drop (suc (feed s at)) s)) nothing
        ∙ ap (λ (ls : Lines). record { program = p; steps = steps_of n ls }) (sym whole)

pub body_stop : (s p : List ℕ) (at n : ℕ) → found_at s at ≡ None
    → body_at s at n p ≡ record { program = p; steps = steps_at s at n }
body_stop s p at n h =
    body_here s p at n (λ from to e. numbers_none p (parsed_line (slice from to s)) (suc to) (ap (found_by false s) (sym e) ∙ h))

pub body_full : (s p : List ℕ) (at n : ℕ) → program_most ≤ length p
    → body_at s at n p ≡ record { program = p; steps = steps_at s at n }
body_full s p at n h = body_here s p at n (λ from to e. numbers_full p (parsed_line (slice from to s)) h)

-- ---- the loop

-- what is read from `from` on comes to what is read from `cursor` on after the first `used` numbers
pub record Reading (s : List ℕ) (from : ℕ) (lent program : List ℕ) (cursor line used : ℕ) : Type 0 where
  pub remains : body_at s from 2 [] ≡ body_at s cursor line (take used program)
  pub room : program_most ≤ length program
  pub places : used ≤ program_most
  pub rest : drop used program ≡ drop used lent
  pub lines : line * per_instruction ≡ used + 2 * per_instruction
  pub starts : from ≡ line_start s 1 → cursor ≡ line_start s (line - 1)
  pub within : from ≤ length s → cursor ≤ length s
  pub numbered : line + from ≤ cursor + 2

pub reading_all : (s program : List ℕ) (from : ℕ) → program_most ≤ length program → Reading s from program program from 2 0
reading_all s program from h =
    record {
      remains = refl;
      room = h;
      places = omega arith;
      rest = refl;
      lines = refl;
      starts = λ e. e;
      within = λ l. l;
      numbered = omega arith;
    }

-- the lent program with these numbers set in it
sets_parts : (program ns : List ℕ) (used : ℕ) → used + length ns ≤ length program
    → (take (used + length ns) (sets program used ns) ≡ take used program ++ ns)
    × (drop (used + length ns) (sets program used ns) ≡ drop (used + length ns) program)
sets_parts program ns used h =
    let before = take used program ++ ns in
    let behind = drop (used + length ns) program in
    let long : length before ≡ used + length ns =
    length-append (take used program) ns ∙ ap (λ (k : ℕ). k + length ns) (length-take-le used program (omega arith)) in (
      ap (take (used + length ns)) (sets-eq ns program used h) ∙ take_at before behind (used + length ns) long,
      ap (drop (used + length ns)) (sets-eq ns program used h) ∙ drop_at before behind (used + length ns) long,
    )

-- the line after the one that begins at a line's start begins at the next line's
next_start : (s : List ℕ) (cursor next line : ℕ) → 1 ≤ line → next ≡ suc (feed s cursor) → cursor ≡ line_start s (line - 1)
    → next ≡ line_start s (line + 1 - 1)
unfolding line_start
next_start s cursor next line counted after is =
    after ∙ ap (λ (k : ℕ). suc (feed s k)) is ∙ ap (line_start s) (let e : suc (line - 1) ≡ line + 1 - 1 = omega arith in e)

pub reading_goes : (s lent program into : List ℕ) (from cursor line used code d r imm next : ℕ)
    → Reading s from lent program cursor line used → used < program_most → found_at s cursor ≡ some_four code d r imm next
    → into ≡ sets program used (code ∷ d ∷ r ∷ imm ∷ [])
    → Reading s from lent into next (line + 1) (used + 4)
reading_goes s lent program into from cursor line used code d r imm next so room found put =
    let ns = code ∷ d ∷ r ∷ imm ∷ [] in
    let read : length (take used program) ≡ used = length-take-le used program (omega (arith, so.room)) in
    let four = body_four s (take used program) cursor line code d r imm next found (omega arith) in
    let longer : used + 4 ≤ program_most = omega (arith, so.lines) in
    let parts = sets_parts program ns used (omega (arith, so.room)) in
    let taken : take used program ++ ns ≡ take (used + 4) into = sym parts.0 ∙ ap (take (used + 4)) (sym put) in
    record {
      remains = so.remains ∙ four.0
          ∙ ap₂ (λ (n : ℕ) (p : List ℕ). body_at s next n p) (sym (add-one line)) taken;
      room = omega (arith, so.room, ap length put, length-sets program used ns);
      places = longer;
      rest = ap (drop (used + 4)) put ∙ parts.1 ∙ sym (drop-drop 4 used program) ∙ ap (drop 4) so.rest
          ∙ drop-drop 4 used lent;
      lines = omega (arith, so.lines);
      starts = λ e. next_start s cursor next line (omega (arith, so.lines)) four.1 (so.starts e);
      within = λ _. four.2;
      numbered = omega (arith, so.numbered, four.1);
    }

-- the two stops
reading_done : (s lent program : List ℕ) (from cursor line used : ℕ) → Reading s from lent program cursor line used
    → body_at s cursor line (take used program) ≡ record { program = take used program; steps = steps_at s cursor line }
    → Loads s from lent program cursor line used
reading_done s lent program from cursor line used so body_is =
    record {
      body_is = so.remains ∙ body_is;
      places = so.places;
      rest = sym (take-append-drop used program) ∙ ap (λ (l : List ℕ). take used program ++ l) so.rest;
      lines = so.lines;
      starts = so.starts;
      within = so.within;
      numbered = so.numbered;
    }

pub reading_stops : (s lent program : List ℕ) (from cursor line used : ℕ) → Reading s from lent program cursor line used
    → found_at s cursor ≡ None → Loads s from lent program cursor line used
reading_stops s lent program from cursor line used so nothing =
    reading_done s lent program from cursor line used so (body_stop s (take used program) cursor line nothing)

pub reading_ends : (s lent program : List ℕ) (from cursor line used : ℕ) → Reading s from lent program cursor line used
    → program_most ≤ used → Loads s from lent program cursor line used
reading_ends s lent program from cursor line used so full =
    let read : length (take used program) ≡ used = length-take-le used program (omega (arith, so.room, so.places)) in
    reading_done s lent program from cursor line used so (body_full s (take used program) cursor line (omega arith))
