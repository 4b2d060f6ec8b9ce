-- How the program of a script is read: what the lines give, and where the steps begin.
-- Assumes nothing.
use Rattle.std.specs.Prelude.{◌≡◌, Bool, true, false, cond, not, ◌&&◌, List, [], ◌++◌, ℕ, suc, ◌+◌, ◌-◌, ◌*◌, ◌≤◌, length, take, drop}
use Rattle.std.specs.Prelude.{Option, Some, None}
use Rattle.std.proofs.Math.Seq.{slice}
use Rattle.text.specs.declared.Line.{Line}
use Rattle.text.specs.declared.Line.TheVariants.{End, Unended, Whole}
use Rattle.text.specs.Lines.{line_at, lines_of}
use Rattle.machine_model.specs.Program.{per_instruction, program_most, well_formed}
use Rattle.machine_model.specs.Calls.{banked, buffered}
use Rattle.script_model.specs.declared.Item.{Item}
use Rattle.script_model.specs.declared.Item.TheVariants.{Malformed, Sizes, Operation, Issue, Execute, Squash, Commit}
use Rattle.script_model.specs.declared.Item.TheVariants.{Finish}
use Rattle.player_model.specs.declared.Four.{Four}
use Rattle.script_model.specs.Language.{parsed_line, Steps, steps, Body, body}
use Rattle.player_model.specs.Playing.{line_start}

-- four numbers found, and where the next line begins
abbrev pub some_four : ℕ → ℕ → ℕ → ℕ → ℕ → Option Four
some_four x y z w at = Some (record { 0 = x; 1 = y; 2 = z; 3 = w; 4 = at })

-- the four numbers that an item gives, and where the next line begins: of the first line sizes within the limits, of a later one
-- a well-formed instruction
abbrev pub found_in : Bool → Item → ℕ → Option Four
found_in first Malformed at = None
found_in first (Sizes banks rows stages words) at =
    cond (first && buffered.fits (banked banks rows stages words)) (some_four banks rows stages words at) None
found_in first (Operation code d s imm) at = cond (not first && well_formed code d s imm) (some_four code d s imm at) None
found_in first Issue at = None
found_in first (Execute k) at = None
found_in first (Squash k) at = None
found_in first Commit at = None
found_in first (Finish k) at = None

abbrev pub found_by : Bool → List ℕ → Line → Option Four
found_by first s End = None
found_by first s (Unended at) = None
found_by first s (Whole from to) = found_in first (parsed_line (slice from to s)) (suc to)

-- on the first line
abbrev pub header_of : List ℕ → Option Four
header_of s = found_by true s (line_at s 0)

-- on a later line, which begins at `at`
abbrev pub found_at : List ℕ → ℕ → Option Four
found_at s at = found_by false s (line_at s at)

-- the steps from the line at `cursor` on, which has number n
abbrev pub steps_at : List ℕ → ℕ → ℕ → Steps
steps_at s cursor n = let ls = lines_of (drop cursor s) in steps n ls.whole ls.rest

-- the lines from `at` on, the first of which has number n, after a program of these numbers
abbrev pub body_at : List ℕ → ℕ → ℕ → List ℕ → Body
body_at s at n program = let ls = lines_of (drop at s) in body n program ls.whole ls.rest

-- The program that begins at `from` was read into the first `used` places of the lent one, the rest of which stays, and the
-- steps begin at `cursor` with this number.
pub record Loads (s : List ℕ) (from : ℕ) (program into : List ℕ) (cursor line used : ℕ) : Type 0 where
  pub body_is : body_at s from 2 [] ≡ record { program = take used into; steps = steps_at s cursor line }
  pub places : used ≤ program_most
  pub rest : into ≡ take used into ++ drop used program
  pub lines : line * per_instruction ≡ used + 2 * per_instruction
  pub starts : from ≡ line_start s 1 → cursor ≡ line_start s (line - 1)
  pub within : from ≤ length s → cursor ≤ length s
  pub numbered : line + from ≤ cursor + 2
