-- The script language: what a line says, and what the lines together ask for. The first line gives the machine's opening, one
-- datum, whose sizes only the reason of a bad first line looks at (flaw_model/specs/Flaw.antt).
-- Assumes nothing.
use Rattle.std.specs.Prelude.{cond, ◌&&◌, List, [], ◌∷◌, ◌++◌, ℕ, suc, ◌*◌, eqb, ltb, length, get_or, replicate}
use Rattle.std.proofs.Math.Option.{Option, none, some}
use Rattle.text.specs.Fields.{largest, fields}
use Rattle.text.specs.Lines.{Lines}
use Rattle.machine_model.specs.Program.{program_most, well_formed}
use Rattle.machine_model.specs.Calls.{Opening, banked, buffered, Call, issue, execute, squash, commit, finish, per_commit}
use Rattle.script_model.specs.declared.Item.{Item}
use Rattle.script_model.specs.declared.Item.TheVariants.{Malformed, Sizes, Operation, Issue, Execute, Squash, Commit}
use Rattle.script_model.specs.declared.Item.TheVariants.{Finish}

-- ---- the letters of instructions

-- the letters by their codes: A, P, L, S, B and H are 1 to 6, and 0 is no code
abbrev pub letters : List ℕ
letters = 0 ∷ 65 ∷ 80 ∷ 76 ∷ 83 ∷ 66 ∷ 72 ∷ []

-- the letter of a code
abbrev pub letter : ℕ → ℕ
letter code = get_or letters code 0

-- the code of a byte among the letters of the codes from n on; 0 where it is none of them
unfoldable pub code_from : ℕ → List ℕ → ℕ → ℕ
code_from n [] b = 0
code_from n (l ∷ ls) b = cond (eqb b l) n (code_from (suc n) ls b)

abbrev pub letter_code : ℕ → ℕ
letter_code b = code_from 0 letters b

-- ---- one line

-- `i` issue and `c` commit
abbrev pub alone : ℕ → Item
alone b = cond (eqb b 105) Issue (cond (eqb b 99) Commit Malformed)

-- `e,k` execute position k, `q,k` squash from k, `x,k` finish
abbrev pub with_one : ℕ → ℕ → Item
with_one b k = cond (eqb b 101) (Execute k) (cond (eqb b 113) (Squash k) (cond (eqb b 120) (Finish k) Malformed))

-- `letter,d,s,imm`
abbrev pub with_three : ℕ → ℕ → ℕ → ℕ → Item
with_three b d s imm = cond (ltb 0 (letter_code b)) (Operation (letter_code b) d s imm) Malformed

-- `N,banks,rows,stages,words`
abbrev pub with_four : ℕ → ℕ → ℕ → ℕ → ℕ → Item
with_four b banks rows stages words = cond (eqb b 78) (Sizes banks rows stages words) Malformed

-- a letter and the numbers after it, if they are numbers parted by commas
abbrev pub lettered : ℕ → Option (List ℕ) → Item
lettered b none = Malformed
lettered b (some []) = Malformed
lettered b (some (k ∷ [])) = with_one b k
lettered b (some (k ∷ l ∷ [])) = Malformed
lettered b (some (d ∷ s ∷ imm ∷ [])) = with_three b d s imm
lettered b (some (banks ∷ rows ∷ stages ∷ words ∷ [])) = with_four b banks rows stages words
lettered b (some (k ∷ l ∷ m ∷ n ∷ o ∷ ns)) = Malformed

-- what a line says: one letter alone, or a letter, a comma (44) and numbers
abbrev pub parsed_line : List ℕ → Item
parsed_line [] = Malformed
parsed_line (b ∷ []) = alone b
parsed_line (b ∷ c ∷ bs) = cond (eqb c 44) (lettered b (fields largest bs)) Malformed

-- ---- steps

-- The call that a step asks for. The list lent to a finish never stops it: it has the places of k commits.
abbrev pub step_of : Item → Option Call
step_of Malformed = none
step_of (Sizes banks rows stages words) = none
step_of (Operation code d s imm) = none
step_of Issue = some issue
step_of (Execute k) = some (execute k)
step_of (Squash k) = some (squash k)
step_of Commit = some commit
step_of (Finish k) = some (finish k (replicate (k * per_commit) 0))

-- the calls of the steps before the first bad line, and the number of that line, if there is one
pub record Steps : Type 0 where
  pub calls : List Call
  pub flaw : Option ℕ

abbrev pub flawed : ℕ → Steps
flawed n = record { calls = []; flaw = some n }

-- a call before the others
abbrev pub before : Call → Steps → Steps
before c s = record { calls = c ∷ s.calls; flaw = s.flaw }

-- line n is this step, or bad
abbrev pub stepping : ℕ → Option Call → Steps → Steps
stepping n none more = flawed n
stepping n (some c) more = before c more

-- these lines from number n on, and the bytes after the last line feed; an unended line is bad
unfoldable pub steps : ℕ → List (List ℕ) → List ℕ → Steps
steps n [] [] = record { calls = []; flaw = none }
steps n [] (b ∷ rest) = flawed n
steps n (line ∷ lines) rest = stepping n (step_of (parsed_line line)) (steps (suc n) lines rest)

-- ---- the whole script

-- a program's numbers and the steps after it
pub record Body : Type 0 where
  pub program : List ℕ
  pub steps : Steps

-- the numbers of an instruction within limits 1 and 4, after a program of these
abbrev pub numbers_of : List ℕ → Item → Option (List ℕ)
numbers_of program Malformed = none
numbers_of program (Sizes banks rows stages words) = none
numbers_of program (Operation code d s imm) =
    cond (ltb (length program) program_most && well_formed code d s imm) (some (code ∷ d ∷ s ∷ imm ∷ [])) none
numbers_of program Issue = none
numbers_of program (Execute k) = none
numbers_of program (Squash k) = none
numbers_of program Commit = none
numbers_of program (Finish k) = none

-- a line with these numbers joins the program; at any other the steps begin, where an instruction is bad
abbrev pub joining : List ℕ → Option (List ℕ) → (List ℕ → Body) → Steps → Body
joining program none more here = record { program = program; steps = here }
joining program (some ns) more here = more (program ++ ns)

unfoldable pub body : ℕ → List ℕ → List (List ℕ) → List ℕ → Body
body n program [] rest = record { program = program; steps = steps n [] rest }
body n program (line ∷ lines) rest =
    joining program (numbers_of program (parsed_line line)) (λ (grown : List ℕ). body (suc n) grown lines rest)
    (steps n (line ∷ lines) rest)

pub record Script : Type 0 where
  pub opening : Opening
  pub body : Body

-- the opening that a line gives: that of sizes
abbrev pub opening_of : Item → Option Opening
opening_of Malformed = none
opening_of (Sizes banks rows stages words) = some (banked banks rows stages words)
opening_of (Operation code d s imm) = none
opening_of Issue = none
opening_of (Execute k) = none
opening_of (Squash k) = none
opening_of Commit = none
opening_of (Finish k) = none

-- the words of memory that an opening asks for
abbrev pub words_asked : Opening → ℕ
words_asked o = buffered.words (buffered.opening o)

-- the first line is bad, and nothing is opened
abbrev pub unread : Script
unread = record { opening = banked 0 0 0 0; body = record { program = []; steps = flawed 1 } }

-- first comes the line of an opening within its limits
abbrev pub headed : Option Opening → Body → Script
headed none b = unread
headed (some o) b = cond (buffered.fits o) (record { opening = o; body = b }) unread

abbrev pub script_by : List (List ℕ) → List ℕ → Script
script_by [] rest = unread
script_by (line ∷ lines) rest = headed (opening_of (parsed_line line)) (body 2 [] lines rest)

abbrev pub script : Lines → Script
script ls = script_by ls.whole ls.rest
