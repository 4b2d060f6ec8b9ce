-- 01's sample script, byte for byte, computed: what is printed is what 01 shows. The load of 3 executes before the
-- older store to 3, which squashes it; it is issued and executed once more. Behind it the lines of B and H and of distances, and
-- scripts with them; the words are small, since large ones take long to compute. Last come bad lines and the largest input.
-- Assumes nothing.
use mathlib.Core.Path.{◌≡◌, refl}
use mathlib.Core.List.{List, [], ◌∷◌}
use Prim.Native.Nat.{ℕ}
use Prim.Native.String.{String}
use native.Mathlib.Omega.{arith}
use lib.ListN.{length}
use Rattle.text.specs.Decimal.{digits}
use Rattle.text.specs.Fields.{bytes}
use Rattle.text.specs.Lines.{lines_from}
use Rattle.marks.specs.Counting.{count, last, every}
use Rattle.table.specs.Bank.{home, bank}
use Rattle.table.specs.Limits.{sizes_fit}
use Rattle.lookup.specs.Forwarding.{seen, distance}
use Rattle.lookup.specs.Violation.{kept_younger}
use Rattle.lookup.specs.Rows.{touched}
use Rattle.machine_model.specs.Program.{program_fits}
use Rattle.machine_model.specs.Window.{register_seen}
use Rattle.machine_model.specs.Over
use Rattle.sequential.specs.Play.{play}
use Rattle.script_model.specs.declared.Item.TheVariants.{Operation}
use Rattle.script_model.specs.Language.{code_from, parsed_line, steps, body}
use Rattle.script_model.specs.Output.{commit_line, committed_lines, commit_lines, word_lines, printed}
use Rattle.text.specs.Ascii.{ascii}
use Rattle.script_model.proofs.Longest.{printed_long, printed_short}

-- `N,1,2,4,8`, `A,1,0,5`, `S,1,0,3`, `L,2,0,3`, `i`, `i`, `i`, `e,2`, `e,0`, `e,1`, `c`, `c`, `i`, `e,0`, `c`
abbrev pub sample : List ℕ
sample =
    78 ∷ 44 ∷ 49 ∷ 44 ∷ 50 ∷ 44 ∷ 52 ∷ 44 ∷ 56 ∷ 10
    ∷ 65 ∷ 44 ∷ 49 ∷ 44 ∷ 48 ∷ 44 ∷ 53 ∷ 10
    ∷ 83 ∷ 44 ∷ 49 ∷ 44 ∷ 48 ∷ 44 ∷ 51 ∷ 10
    ∷ 76 ∷ 44 ∷ 50 ∷ 44 ∷ 48 ∷ 44 ∷ 51 ∷ 10
    ∷ 105 ∷ 10
    ∷ 105 ∷ 10
    ∷ 105 ∷ 10
    ∷ 101 ∷ 44 ∷ 50 ∷ 10
    ∷ 101 ∷ 44 ∷ 48 ∷ 10
    ∷ 101 ∷ 44 ∷ 49 ∷ 10
    ∷ 99 ∷ 10
    ∷ 99 ∷ 10
    ∷ 105 ∷ 10
    ∷ 101 ∷ 44 ∷ 48 ∷ 10
    ∷ 99 ∷ 10
    ∷ []

-- `0,A,1,5`, `1,S,3,5`, `f,2,0`, `2,L,2,5`, `m,3,5`, `end,done,3`
abbrev pub expected : List ℕ
expected =
    48 ∷ 44 ∷ 65 ∷ 44 ∷ 49 ∷ 44 ∷ 53 ∷ 10
    ∷ 49 ∷ 44 ∷ 83 ∷ 44 ∷ 51 ∷ 44 ∷ 53 ∷ 10
    ∷ 102 ∷ 44 ∷ 50 ∷ 44 ∷ 48 ∷ 10
    ∷ 50 ∷ 44 ∷ 76 ∷ 44 ∷ 50 ∷ 44 ∷ 53 ∷ 10
    ∷ 109 ∷ 44 ∷ 51 ∷ 44 ∷ 53 ∷ 10
    ∷ 101 ∷ 110 ∷ 100 ∷ 44 ∷ 100 ∷ 111 ∷ 110 ∷ 101 ∷ 44 ∷ 51 ∷ 10
    ∷ []

pub sample_printed : printed sample ≡ expected
unfolding printed lines_from code_from body steps bytes digits commit_lines word_lines sizes_fit
    play Over.respond every program_fits seen distance kept_younger touched count last home bank register_seen
sample_printed = refl

byte_read : parsed_line (ascii "B,1,0,3") ≡ Operation 5 1 0 3
unfolding ascii bytes code_from
byte_read = refl

half_read : parsed_line (ascii "H,7,6,4294967295") ≡ Operation 6 7 6 4294967295
unfolding ascii bytes code_from
half_read = refl

byte_printed : commit_line 1 5 9 256 ≡ ascii "1,B,9,256\n"
unfolding ascii digits
byte_printed = refl

half_printed : commit_line 2 6 4 771 ≡ ascii "2,H,4,771\n"
unfolding ascii digits
half_printed = refl

infix 30 ◌prints◌
abbrev ◌prints◌ : String → String → Type 0
text prints out = printed (ascii text) ≡ ascii out

-- The byte at 5 is put into the word that the half at 4 left, and the load takes the whole word. The younger byte executes first,
-- and the older one squashes it, since it has read the word. An H at an odd byte number executes and does not commit; while it
-- waits nothing faults. Byte 3 lies in the one word, byte 4 behind it.
parts_printed :
    ("N,1,1,4,2\nA,1,0,258\nH,1,0,4\nB,1,0,5\nL,2,0,1\nx,9\n"
    prints "0,A,1,258\n1,H,4,258\n2,B,5,514\nf,3,0\n3,L,2,514\nm,1,514\nend,done,4\n")
    × ("N,1,2,4,8\nA,1,0,1\nB,1,0,0\nB,1,0,1\ni\ni\ni\ne,0\ne,2\ne,1\nc\nc\nc\nx,1\n"
    prints "0,A,1,1\n1,B,0,1\n2,B,1,257\nm,0,257\nend,done,3\n")
    × ("N,1,1,2,2\nA,1,0,7\nH,1,0,5\nL,2,0,1\ni\ni\ne,0\nc\ni\ne,0\ne,1\nc\nc\nx,3\n" prints "0,A,1,7\nend,fault,1\n")
    × ("N,1,1,2,2\nH,1,0,5\ni\nc\n" prints "end,open,0\n")
    × ("N,1,1,2,1\nB,0,0,3\nB,0,0,4\nx,2\n" prints "0,B,3,0\nend,fault,1\n")
unfolding ascii printed lines_from code_from body steps bytes digits commit_lines word_lines sizes_fit
    play Over.respond every program_fits seen distance kept_younger touched count last home bank register_seen Over.finishes
parts_printed = (refl, refl, refl, refl, refl)

-- Only an L has a distance line, just before its own, of a commit and of a finish alike: one store nearer than another to the
-- word, and memory's word; a store of a part.
distances_printed :
    ("N,1,2,8,8\nA,1,0,5\nS,1,0,3\nA,2,0,6\nS,2,0,3\nL,3,0,3\nL,4,0,4\ni\ni\ni\ni\ni\ni\ne,0\ne,1\ne,2\ne,3\ne,4\ne,5\nx,9\n"
    prints "0,A,1,5\n1,S,3,5\n2,A,2,6\n3,S,3,6\nf,4,1\n4,L,3,6\nf,5,0\n5,L,4,0\nm,3,6\nend,done,6\n")
    × ("N,1,2,4,8\nA,1,0,5\nB,1,0,12\nL,2,0,3\ni\ni\ni\ne,0\ne,1\ne,2\nc\nc\nc\n"
    prints "0,A,1,5\n1,B,12,5\nf,2,1\n2,L,2,5\nm,3,5\nend,done,3\n")
unfolding ascii printed lines_from code_from body steps bytes digits commit_lines word_lines sizes_fit
    play Over.respond every program_fits seen distance kept_younger touched count last home bank register_seen Over.finishes
distances_printed = (refl, refl)

distance_printed : committed_lines 255 3 7 771 15 ≡ ascii "f,255,15\n255,L,7,771\n"
unfolding ascii digits
distance_printed = refl

-- "for each non-zero word in rising address"
words_printed : word_lines 0 (0 ∷ 5 ∷ 0 ∷ 7 ∷ []) ≡ ascii "m,1,5\nm,3,7\n"
unfolding ascii digits word_lines
words_printed = refl

-- What the steps before a bad line committed is printed, and then the bad line alone: no word of memory, and nothing of the
-- steps after it. The last line is unended.
bad_printed :
    ("N,1,2,4,8\nA,1,0,5\nS,1,0,3\nA,2,0,1\nx,2\nz\nx,1\n" prints "0,A,1,5\n1,S,3,5\nbad,6\n")
    × ("N,1,2,4,8\nA,1,0,5\nS,1,0,3\nx,2\ni" prints "0,A,1,5\n1,S,3,5\nbad,5\n")
unfolding ascii printed lines_from code_from body steps bytes digits commit_lines word_lines sizes_fit
    play Over.respond every program_fits seen distance kept_younger touched count last home bank register_seen Over.finishes
bad_printed = (refl, refl)

-- Input of 65,536 bytes is read: its first line, an empty one, is bad. Of input that is one byte longer nothing is.
largest_read : (rest : List ℕ) → length rest ≡ 65535 → printed (10 ∷ rest) ≡ ascii "bad,1\n"
unfolding ascii digits lines_from play commit_lines
largest_read rest h = printed_short (10 ∷ rest) (omega (arith, h))

largest_passed : (rest : List ℕ) → length rest ≡ 65536 → printed (10 ∷ rest) ≡ ascii "bad,0\n"
unfolding ascii digits
largest_passed rest h = printed_long (10 ∷ rest) (omega (arith, h))
