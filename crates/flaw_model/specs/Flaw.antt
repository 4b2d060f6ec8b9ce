-- Why a script is bad: its first bad line, with what is wrong there. Where a line has several faults the first of these is told:
-- it is empty; it is line 1 and does not begin with N; it ends with a carriage return; its letter is unknown; no comma follows
-- the letter; the number of its fields; the leftmost field that is no number; its place in the script; the leftmost number
-- outside its limits.
-- proofs/Flaws.antt: there is a reason exactly where a script prints `bad,N`, and for that N.
-- Assumes nothing.
use Rattle.std.specs.Prelude.{cond, ◌&&◌, ◌||◌, List, [], ◌∷◌, ℕ, suc, ◌+◌, ◌-◌, ◌*◌, eqb, leb, ltb, length, get_or}
use Rattle.std.specs.Prelude.{Option, None, Some, is_none, Result, Ok, Err}
use Rattle.std.proofs.Math.Option.{Option as Maybe, none, some}
use Rattle.text.specs.Fields.{largest, Open, empty, value}
use Rattle.text.specs.Lines.{Lines, lines_of}
use Rattle.table.specs.Limits.{banks_most, rows_most, stages_most, words_most}
use Rattle.machine_model.specs.Program.{instructions_most, last_register, well_formed}
use Rattle.machine_model.specs.Calls.{Opening, banked}
use Rattle.script_model.specs.declared.Item.{Item}
use Rattle.script_model.specs.declared.Item.TheVariants.{Malformed, Sizes, Operation, Issue, Execute, Squash, Commit}
use Rattle.script_model.specs.declared.Item.TheVariants.{Finish}
use Rattle.flaw_model.specs.declared.Part.{Part}
use Rattle.flaw_model.specs.declared.Part.TheVariants.{First, Program, Steps}
use Rattle.flaw_model.specs.declared.Defect.{Defect}
use Rattle.flaw_model.specs.declared.Defect.TheVariants.{Missing, Zero, Stray, Large, Beyond}
use Rattle.flaw_model.specs.declared.Reason.{Reason}
use Rattle.flaw_model.specs.declared.Reason.TheVariants as why
use Rattle.flaw_model.specs.declared.Flaw.{Flaw}
use Rattle.script_model.specs.Language.{letter_code, parsed_line}
use Rattle.script_model.specs.Output.{most}

-- ---- a line that is none of the forms

-- how many fields a line with this letter has, the letter among them: `i` and `c` alone, `e,k` `q,k` `x,k`, `letter,d,s,imm`
-- with an instruction's letter, and `N,banks,rows,stages,words`; 0 where there is no such letter
abbrev pub arity : ℕ → ℕ
arity b =
    cond (eqb b 105 || eqb b 99) 1
    (cond (eqb b 101 || eqb b 113 || eqb b 120) 2
    (cond (ltb 0 (letter_code b)) 4 (cond (eqb b 78) 5 0)))

-- how many commas there are
unfoldable pub commas : List ℕ → ℕ
commas [] = 0
commas (b ∷ bs) = cond (eqb b 44) (suc (commas bs)) (commas bs)

-- What a byte does to an open field: it ends it (`None`), makes it this number, or is wrong there. A comma; a digit d; any byte.
abbrev pub comma_took : Open → Result (Option ℕ) Defect
comma_took empty = Err Missing
comma_took (value x) = Ok None

abbrev pub digit_took : Open → ℕ → Result (Option ℕ) Defect
digit_took empty d = Ok (Some d)
digit_took (value x) d =
    cond (ltb 0 x) (cond (leb (x * 10 + d) largest) (Ok (Some (x * 10 + d))) (Err Large)) (Err Zero)

abbrev pub took : Open → ℕ → Result (Option ℕ) Defect
took o b = cond (eqb b 44) (comma_took o) (cond (leb 48 b && leb b 57) (digit_took o (b - 48)) (Err (Stray b)))

abbrev pub following : ℕ → ℕ → Result (Option ℕ) Defect → Option Reason → (ℕ → Option Reason) → Option Reason
following letter k (Ok None) next grown = next
following letter k (Ok (Some x)) next grown = grown x
following letter k (Err d) next grown = Some (why.Field letter k d)

-- the first of these fields, of which the open one is field k, that is no number
unfoldable pub no_number : ℕ → ℕ → Open → List ℕ → Option Reason
no_number letter k empty [] = Some (why.Field letter k Missing)
no_number letter k (value x) [] = None
no_number letter k o (b ∷ bs) =
    following letter k (took o b) (no_number letter (suc k) empty bs) (λ (x : ℕ). no_number letter k (value x) bs)

-- what stands behind a letter
abbrev pub behind : ℕ → List ℕ → Option Reason
behind letter [] = Some (why.Count letter 1)
behind letter (c ∷ bs) =
    cond (eqb c 44)
    (cond (eqb (commas bs + 2) (arity letter)) (no_number letter 2 empty bs) (Some (why.Count letter (commas bs + 2))))
    (Some (why.Glued letter c))

abbrev pub malformed : List ℕ → Option Reason
malformed [] = Some why.Blank
malformed (b ∷ bs) =
    cond (eqb (get_or (b ∷ bs) (length bs) 0) 13) (Some why.CarriageReturn)
    (cond (eqb (arity b) 0) (Some (why.Letter b)) (behind b bs))

-- ---- a line at its place

-- the first line that is no line of sizes
abbrev pub no_sizes : List ℕ → Option Reason
no_sizes [] = Some why.Blank
no_sizes (b ∷ bs) = cond (eqb b 78) (malformed (b ∷ bs)) (Some (why.NoSizes b))

-- the leftmost of an opening's sizes outside its limits
abbrev pub unfit : Opening → Option Reason
unfit (banked banks rows stages words) =
    cond (eqb banks 1 || eqb banks 2 || eqb banks 4 || eqb banks banks_most)
    (cond (leb 1 rows && leb rows rows_most)
    (cond (leb 1 stages && leb stages stages_most)
    (cond (leb 1 words && leb words words_most) None (Some (why.Field 78 5 (Beyond words))))
    (Some (why.Field 78 4 (Beyond stages))))
    (Some (why.Field 78 3 (Beyond rows))))
    (Some (why.Field 78 2 (Beyond banks)))

-- the leftmost register that is none
abbrev pub unformed : ℕ → ℕ → ℕ → ℕ → ℕ → Option Reason
unformed letter code d s imm =
    cond (well_formed code d s imm) None
    (cond (leb d last_register)
    (cond (leb s last_register) (Some (why.Field letter 4 (Beyond imm))) (Some (why.Field letter 3 (Beyond s))))
    (Some (why.Field letter 2 (Beyond d))))

-- what is wrong with each kind of line in each part
abbrev pub of_malformed : Part → List ℕ → Option Reason
of_malformed First line = no_sizes line
of_malformed (Program room) line = malformed line
of_malformed Steps line = malformed line

abbrev pub of_sizes : Part → Opening → Option Reason
of_sizes First o = unfit o
of_sizes (Program room) o = Some why.SizesAgain
of_sizes Steps o = Some why.SizesAgain

abbrev pub of_operation : Part → ℕ → ℕ → ℕ → ℕ → ℕ → Option Reason
of_operation First letter code d s imm = Some (why.NoSizes letter)
of_operation (Program room) letter code d s imm = cond (ltb 0 room) (unformed letter code d s imm) (Some why.Full)
of_operation Steps letter code d s imm = Some why.Late

abbrev pub of_step : Part → ℕ → Option Reason
of_step First letter = Some (why.NoSizes letter)
of_step (Program room) letter = None
of_step Steps letter = None

abbrev pub reason_in : Part → Item → List ℕ → Option Reason
reason_in part Malformed line = of_malformed part line
reason_in part (Sizes banks rows stages words) line = of_sizes part (banked banks rows stages words)
reason_in part (Operation code d s imm) line = of_operation part (get_or line 0 0) code d s imm
reason_in part Issue line = of_step part (get_or line 0 0)
reason_in part (Execute k) line = of_step part (get_or line 0 0)
reason_in part (Squash k) line = of_step part (get_or line 0 0)
reason_in part Commit line = of_step part (get_or line 0 0)
reason_in part (Finish k) line = of_step part (get_or line 0 0)

-- ---- the whole script

-- the part of the line after an instruction, and after a step
abbrev pub after_operation : Part → Part
after_operation First = Program instructions_most
after_operation (Program room) = Program (room - 1)
after_operation Steps = Steps

abbrev pub after_other : Part → Part
after_other First = Program instructions_most
after_other (Program room) = Steps
after_other Steps = Steps

abbrev pub next_part : Part → Item → Part
next_part part Malformed = after_other part
next_part part (Sizes banks rows stages words) = after_other part
next_part part (Operation code d s imm) = after_operation part
next_part part Issue = after_other part
next_part part (Execute k) = after_other part
next_part part (Squash k) = after_other part
next_part part Commit = after_other part
next_part part (Finish k) = after_other part

-- what the search ends with on line n: the bad line, or where nothing is wrong the number that this line would have
abbrev pub flaw_at : ℕ → Option Reason → Result ℕ Flaw
flaw_at n None = Ok n
flaw_at n (Some r) = Err (record { line = n; reason = r })

-- no line is left: on line 1 there was no input
abbrev pub of_end : Part → Option Reason
of_end First = Some why.NoInput
of_end (Program room) = None
of_end Steps = None

-- these lines from number n on, the first of which stands in this part, and the bytes after the last line feed
unfoldable pub flaw_from : ℕ → Part → List (List ℕ) → List ℕ → Result ℕ Flaw
flaw_from n part [] [] = flaw_at n (of_end part)
flaw_from n part [] (b ∷ rest) = flaw_at n (Some why.Unended)
flaw_from n part (line ∷ lines) rest =
    cond (is_none (reason_in part (parsed_line line) line))
    (flaw_from (suc n) (next_part part (parsed_line line)) lines rest)
    (flaw_at n (reason_in part (parsed_line line) line))

abbrev pub flaw_in : ℕ → Part → Lines → Result ℕ Flaw
flaw_in n part ls = flaw_from n part ls.whole ls.rest

-- the first bad line and its reason, or the number that a line after the last would have
unfoldable pub flaw_of : List ℕ → Result ℕ Flaw
flaw_of text = cond (ltb most (length text)) (flaw_at 0 (Some why.TooLong)) (flaw_in 1 First (lines_of text))

-- the number of the bad line, if there is one
abbrev pub bad_number : Result ℕ Flaw → Maybe ℕ
bad_number (Ok n) = none
bad_number (Err f) = some f.line
