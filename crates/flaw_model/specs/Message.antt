-- The message that says why a script is bad: `arb: line N: `, what is wrong, found and expected, and a line feed.
-- Limits are written from their names, so that a message tells the limit that there is. proofs/MessageExamples.antt has a script
-- for each reason with its message.
-- Assumes nothing.
use Rattle.std.specs.Prelude.{cond, ◌&&◌, List, [], ◌∷◌, ◌++◌, ℕ, suc, eqb, leb, ltb, length}
use Rattle.std.specs.Prelude.{Result, Ok, Err}
use Rattle.text.specs.Ascii.{ascii}
use Rattle.text.specs.Decimal.{decimal}
use Rattle.table.specs.Limits.{banks_most, rows_most, stages_most, words_most}
use Rattle.machine_model.specs.Program.{instructions_most, last_register}
use Rattle.flaw_model.specs.declared.Defect.{Defect}
use Rattle.flaw_model.specs.declared.Defect.TheVariants.{Sound, Missing, Zero, Stray, Large, Beyond}
use Rattle.flaw_model.specs.declared.Reason.{Reason}
use Rattle.flaw_model.specs.declared.Reason.TheVariants.{TooLong, NoInput, Blank, Unended, CarriageReturn, NoSizes}
use Rattle.flaw_model.specs.declared.Reason.TheVariants.{SizesAgain, Letter, Glued, Count, Field, Full, Late}
use Rattle.flaw_model.specs.declared.Flaw.{Flaw}
use Rattle.script_model.specs.Output.{most}
use Rattle.flaw_model.specs.Flaw.{arity}

-- a byte: itself between quotes, or its number where it is no printable character
abbrev pub byte_text : ℕ → List ℕ
byte_text b = cond (leb 32 b && leb b 126) (39 ∷ b ∷ 39 ∷ []) (ascii "byte " ++ decimal b)

-- the form of the lines with this letter, between quotes; what stands behind the letter
abbrev pub form_end : ℕ → List ℕ
form_end b =
    cond (eqb (arity b) 5) (ascii ",banks,rows,stages,words'")
    (cond (eqb (arity b) 4) (ascii ",d,s,imm'") (cond (eqb (arity b) 2) (ascii ",k'") (ascii "'")))

abbrev pub form_text : ℕ → List ℕ
form_text b = (39 ∷ b ∷ []) ++ form_end b

-- one of four, by the number of the field
abbrev pub of_four : ℕ → List ℕ → List ℕ → List ℕ → List ℕ → List ℕ
of_four k a b c d = cond (eqb k 2) a (cond (eqb k 3) b (cond (eqb k 4) c d))

-- the name of field k of such lines
abbrev pub name_text : ℕ → ℕ → List ℕ
name_text b k =
    cond (eqb (arity b) 5) (of_four k (ascii "banks") (ascii "rows") (ascii "stages") (ascii "words"))
    (cond (eqb (arity b) 4) (of_four k (ascii "d") (ascii "s") (ascii "imm") (ascii "imm")) (ascii "k"))

-- the limits of its number: one of the numbers of banks, one from 1 up to a limit, or a register
abbrev pub banks_text : List ℕ
banks_text = ascii "1, 2, 4 or " ++ decimal banks_most

abbrev pub up_to : ℕ → List ℕ
up_to n = ascii "1 to " ++ decimal n

abbrev pub register_text : List ℕ
register_text = ascii "a register from 0 to " ++ decimal last_register

abbrev pub limit_text : ℕ → ℕ → List ℕ
limit_text b k = cond (eqb (arity b) 5) (of_four k banks_text (up_to rows_most) (up_to stages_most) (up_to words_most)) register_text

-- the decimal of `largest` (`largest_written`, proofs/MessageExamples.antt), which takes too long to compute
abbrev pub largest_text : List ℕ
largest_text = ascii "4294967295"

abbrev pub number_text : List ℕ
number_text = ascii "a number from 0 to " ++ largest_text ++ ascii " without extra leading zeros"

-- what a field is, and what it should be
abbrev pub found_text : Defect → List ℕ
found_text Sound = []
found_text Missing = ascii "nothing"
found_text Zero = ascii "an extra leading zero"
found_text (Stray b) = byte_text b
found_text Large = ascii "a number above " ++ largest_text
found_text (Beyond v) = decimal v

abbrev pub expected_text : ℕ → ℕ → Defect → List ℕ
expected_text b k Sound = number_text
expected_text b k Missing = number_text
expected_text b k Zero = number_text
expected_text b k (Stray c) = number_text
expected_text b k Large = number_text
expected_text b k (Beyond v) = limit_text b k

abbrev pub place_text : ℕ → ℕ → List ℕ
place_text b k = ascii "field " ++ decimal k ++ ascii " (" ++ name_text b k ++ ascii ") of " ++ form_text b

abbrev pub field_text : ℕ → ℕ → Defect → List ℕ
field_text b k d = place_text b k ++ ascii ": found " ++ found_text d ++ ascii ", expected " ++ expected_text b k d

abbrev pub count_text : ℕ → ℕ → List ℕ
count_text b n =
    ascii "fields: found " ++ decimal n ++ ascii ", expected " ++ decimal (arity b) ++ ascii " as in " ++ form_text b

abbrev pub reason_text : Reason → List ℕ
reason_text TooLong = ascii "found over " ++ decimal most ++ ascii " bytes of input, expected at most " ++ decimal most
reason_text NoInput = ascii "found no input, expected 'N,banks,rows,stages,words'"
reason_text Blank = ascii "found an empty line, expected a letter"
reason_text Unended = ascii "found the end of input, expected a line feed first"
reason_text CarriageReturn = ascii "found a carriage return, expected a line feed"
reason_text (NoSizes b) = ascii "found " ++ byte_text b ++ ascii " first, expected 'N,banks,rows,stages,words'"
reason_text SizesAgain = ascii "found a second 'N' line, expected another letter"
reason_text (Letter b) = ascii "found " ++ byte_text b ++ ascii ", expected A, P, L, S, B, H, i, e, q, c or x"
reason_text (Glued b c) = ascii "found " ++ byte_text c ++ ascii " behind the letter, expected " ++ form_text b
reason_text (Count b n) = count_text b n
reason_text (Field b k d) = field_text b k d
reason_text Full =
    ascii "found a " ++ decimal (suc instructions_most) ++ ascii "th instruction, expected at most " ++ decimal instructions_most
reason_text Late = ascii "found an instruction after a step, expected a step"

abbrev pub message_text : Flaw → List ℕ
message_text f = ascii "arb: line " ++ decimal f.line ++ ascii ": " ++ reason_text f.reason ++ (10 ∷ [])

-- ---- writing it

-- the room that a message needs
abbrev pub message_room : ℕ
message_room = 256

-- what is written of a flaw: nothing where there is none, or where there may be no room
abbrev pub message_in : List ℕ → Result ℕ Flaw → List ℕ
message_in out (Ok n) = []
message_in out (Err f) = cond (ltb (length out) message_room) [] (message_text f)
