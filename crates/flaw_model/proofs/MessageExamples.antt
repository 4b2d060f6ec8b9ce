-- A script for each reason, and its message, computed. Two scripts too long to write out stand behind them by their flaws, and last
-- a flaw that no script has, of a field with nothing wrong. Then what is found of scripts that are not bad, and that the largest
-- number is written as it is.
-- Assumes nothing.
use mathlib.Core.Path.{◌≡◌, refl}
use mathlib.Core.List.{List, [], ◌∷◌}
use Prim.Native.String.{String, ◌++◌ as ◌&◌}
use Rattle.std.specs.Prelude.{Some, option_map, Result, Ok, ℕ}
use Rattle.std.specs.Result.{result_err}
use Rattle.text.specs.Decimal.{digits, decimal}
use Rattle.text.specs.Fields.{largest, fields_text, bytes}
use Rattle.text.specs.Lines.{lines_from}
use Rattle.text.proofs.Trip.{written_fields}
use Rattle.flaw_model.specs.declared.Defect.TheVariants.{Sound}
use Rattle.flaw_model.specs.declared.Reason.TheVariants.{TooLong, Field, Full}
use Rattle.flaw_model.specs.declared.Flaw.{Flaw}
use Rattle.script_model.specs.Language.{code_from}
use Rattle.flaw_model.specs.Flaw.{commas, no_number, flaw_at, flaw_from, flaw_of}
use Rattle.text.specs.Ascii.{ascii}
use Rattle.flaw_model.specs.Message.{largest_text, message_text}
use Rattle.flaw_model.proofs.Defects.{no_sound_field}

-- what is found, and the message that it should have
record Row : Type 0 where
  found : Result ℕ Flaw
  says : String

-- a message that ends so
abbrev number : String
number = "expected a number from 0 to 4294967295 without extra leading zeros\n"

infix 30 ◌gives◌
abbrev ◌gives◌ : String → String → Row
script gives message = record { found = flaw_of (ascii script); says = message }

abbrev rows : List Row
rows =
    ("" gives "arb: line 1: found no input, expected 'N,banks,rows,stages,words'\n")
    ∷ ("\n" gives "arb: line 1: found an empty line, expected a letter\n")
    ∷ ("N,1,1,1,1\ni\n\nc\n" gives "arb: line 3: found an empty line, expected a letter\n")
    ∷ ("N,1,1,1,1\ni" gives "arb: line 2: found the end of input, expected a line feed first\n")
    ∷ ("N,1,1,1,1\r\ni\r\n" gives "arb: line 1: found a carriage return, expected a line feed\n")
    ∷ ("A,1,0,5\n" gives "arb: line 1: found 'A' first, expected 'N,banks,rows,stages,words'\n")
    ∷ ("N,1,1,1,1\nN,1,1,1,1\n" gives "arb: line 2: found a second 'N' line, expected another letter\n")
    ∷ ("N,1,1,1,1\nI\n" gives "arb: line 2: found 'I', expected A, P, L, S, B, H, i, e, q, c or x\n")
    ∷ ("N,1,1,1,1\n\ti\n" gives "arb: line 2: found byte 9, expected A, P, L, S, B, H, i, e, q, c or x\n")
    ∷ ("N,1,1,1,1\nb,1,0,3\n" gives "arb: line 2: found 'b', expected A, P, L, S, B, H, i, e, q, c or x\n")
    ∷ ("N,1,1,1,1\ni \n" gives "arb: line 2: found ' ' behind the letter, expected 'i'\n")
    ∷ ("N,1,1,1,1\nH1,0,4\n" gives "arb: line 2: found '1' behind the letter, expected 'H,d,s,imm'\n")
    ∷ ("N,1,1,1,1\nA\n" gives "arb: line 2: fields: found 1, expected 4 as in 'A,d,s,imm'\n")
    ∷ ("N,1,1,1,1\nB,1,3\n" gives "arb: line 2: fields: found 3, expected 4 as in 'B,d,s,imm'\n")
    ∷ ("N,1,1,1,1\ni,1\n" gives "arb: line 2: fields: found 2, expected 1 as in 'i'\n")
    ∷ ("N,1,1,1,1,\n" gives "arb: line 1: fields: found 6, expected 5 as in 'N,banks,rows,stages,words'\n")
    ∷ ("N,1,1,1,1\ne,x\n" gives ("arb: line 2: field 2 (k) of 'e,k': found 'x', " & number))
    ∷ ("N,1,1,1,1\nx,\n" gives ("arb: line 2: field 2 (k) of 'x,k': found nothing, " & number))
    ∷ ("N,1,1,1,1\nA,1,01,5\n" gives ("arb: line 2: field 3 (s) of 'A,d,s,imm': found an extra leading zero, " & number))
    ∷ ("N,1,1,1,1\nS,1,0,4294967296\n"
    gives ("arb: line 2: field 4 (imm) of 'S,d,s,imm': found a number above 4294967295, " & number))
    ∷ ("N,1,1,1,1\nL,1,+1,9\n" gives ("arb: line 2: field 3 (s) of 'L,d,s,imm': found '+', " & number))
    ∷ ("N,1,1,1,1\nB,1,,9\n" gives ("arb: line 2: field 3 (s) of 'B,d,s,imm': found nothing, " & number))
    ∷ ("N,3,1,1,1\n" gives "arb: line 1: field 2 (banks) of 'N,banks,rows,stages,words': found 3, expected 1, 2, 4 or 8\n")
    ∷ ("N,8,0,1,1\n" gives "arb: line 1: field 3 (rows) of 'N,banks,rows,stages,words': found 0, expected 1 to 8\n")
    ∷ ("N,4,8,17,0\n" gives "arb: line 1: field 4 (stages) of 'N,banks,rows,stages,words': found 17, expected 1 to 16\n")
    ∷ ("N,2,1,16,4097\n" gives "arb: line 1: field 5 (words) of 'N,banks,rows,stages,words': found 4097, expected 1 to 4096\n")
    ∷ ("N,1,1,1,1\nA,8,9,5\n" gives "arb: line 2: field 2 (d) of 'A,d,s,imm': found 8, expected a register from 0 to 7\n")
    ∷ ("N,1,1,1,1\nS,7,9,5\n" gives "arb: line 2: field 3 (s) of 'S,d,s,imm': found 9, expected a register from 0 to 7\n")
    ∷ ("N,1,1,1,1\nH,8,0,4\n" gives "arb: line 2: field 2 (d) of 'H,d,s,imm': found 8, expected a register from 0 to 7\n")
    ∷ ("N,1,1,1,1\nP,1,0,8\n" gives "arb: line 2: field 4 (imm) of 'P,d,s,imm': found 8, expected a register from 0 to 7\n")
    ∷ ("N,1,1,1,1\ni\nA,1,0,5\n" gives "arb: line 3: found an instruction after a step, expected a step\n")
    ∷ (record { found = flaw_at 0 (Some TooLong); says = "arb: line 0: found over 65536 bytes of input, expected at most 65536\n" })
    ∷ (record { found = flaw_at 258 (Some Full); says = "arb: line 258: found a 257th instruction, expected at most 256\n" })
    ∷ (record { found = flaw_at 2 (Some (Field 101 2 Sound)); says = "arb: line 2: field 2 (k) of 'e,k': found , " & number })
    ∷ []

-- what is found has the message that each row says
abbrev Hold : List Row → Type 0
Hold [] = Unit {0}
Hold (r ∷ rs) = (option_map message_text (result_err r.found) ≡ Some (ascii r.says)) × Hold rs

infixr 20 ◌also◌
abbrev ◌also◌ : {A B : Type 0} → A → B → A × B
a also b = (a, b)

messages_are : Hold rows
unfolding flaw_of lines_from bytes code_from commas no_number flaw_from ascii digits
messages_are =
    refl also refl also refl also refl also refl also refl also refl also refl also refl also refl also
    refl also refl also refl also refl also refl also refl also refl also refl also refl also refl also
    refl also refl also refl also refl also refl also refl also refl also refl also refl also refl also
    refl also refl also refl also refl also tt

-- the flaw of the last row is no script's
no_script : (text : List ℕ) → flaw_of text ≡ flaw_at 2 (Some (Field 101 2 Sound)) → ⊥
no_script text e = no_sound_field text _ 101 2 e refl

-- where no line is bad, the number that a line after the last would have: after the sizes, an instruction, a step
sound_numbers :
    (flaw_of (ascii "N,1,1,1,1\n") ≡ Ok 2)
    × (flaw_of (ascii "N,1,1,1,1\nA,1,0,5\n") ≡ Ok 3)
    × (flaw_of (ascii "N,1,1,1,1\nA,1,0,5\ni\n") ≡ Ok 4)
unfolding flaw_of lines_from bytes code_from commas no_number flaw_from ascii digits
sound_numbers = (refl, refl, refl)

-- "4294967295" reads as the largest number, and what reads as a number is its decimal
pub largest_written : largest_text ≡ decimal largest
unfolding ascii bytes fields_text
largest_written = (written_fields largest largest_text (largest ∷ []) refl).0
