-- Examples of the sequential run and of records without their distances, as two tables; proofs/Cases.antt shows that every row
-- comes out. The theorem compares the run with the machine: a mistake made in both alike shows here. Lists of calls are in the
-- crate theorem_examples.
-- Assumes nothing.
use Rattle.std.specs.Prelude.{◌≡◌, Bool, true, false, List, [], ◌∷◌, ◌++◌, ℕ, ◌+◌, ◌*◌, replicate}
use Rattle.sequential.specs.Sequential.{Run, run_after, ends}
use Rattle.sequential.specs.Play.{without}

-- four numbers: of an instruction, or of a step in the run's record
abbrev pub four : ℕ → ℕ → ℕ → ℕ → List ℕ
four a b c d = a ∷ b ∷ c ∷ d ∷ []

-- the five numbers of a commit in the record of calls
abbrev pub five : ℕ → ℕ → ℕ → ℕ → ℕ → List ℕ
five i c r v d = i ∷ c ∷ r ∷ v ∷ d ∷ []

-- the instructions by their letters
abbrev pub A : ℕ → ℕ → ℕ → List ℕ
A = four 1

abbrev pub P : ℕ → ℕ → ℕ → List ℕ
P = four 2

abbrev pub L : ℕ → ℕ → ℕ → List ℕ
L = four 3

abbrev pub S : ℕ → ℕ → ℕ → List ℕ
S = four 4

abbrev pub B : ℕ → ℕ → ℕ → List ℕ
B = four 5

abbrev pub H : ℕ → ℕ → ℕ → List ℕ
H = four 6

-- the word with these bytes, that of the lowest number first
abbrev pub bytes : ℕ → ℕ → ℕ → ℕ → ℕ
bytes a b c d = a + b * 256 + c * 65536 + d * 16777216

-- Two programs with parts of one word: a byte, a half word over others and a byte of 0; and a byte into a word stored before
-- it, which is loaded then. Their runs' records on memory of 0, and those of calls of which each load executes as the oldest.
abbrev pub mixed : List ℕ
mixed = A 1 0 511 ++ B 1 0 3 ++ H 1 0 0 ++ B 0 0 1 ++ L 2 0 0

abbrev pub mixed_record : List ℕ
mixed_record =
    four 0 1 1 511 ++ four 1 5 3 (bytes 0 0 0 255) ++ four 2 6 0 (bytes 255 1 0 255) ++ four 3 5 1 (bytes 255 0 0 255)
    ++ four 4 3 2 (bytes 255 0 0 255)

abbrev pub mixed_commits : List ℕ
mixed_commits =
    five 0 1 1 511 0 ++ five 1 5 3 (bytes 0 0 0 255) 0 ++ five 2 6 0 (bytes 255 1 0 255) 0 ++ five 3 5 1 (bytes 255 0 0 255) 0
    ++ five 4 3 2 (bytes 255 0 0 255) 0

abbrev pub laid : List ℕ
laid = A 1 0 511 ++ S 1 0 0 ++ B 0 0 0 ++ L 2 0 0

abbrev pub laid_record : List ℕ
laid_record = four 0 1 1 511 ++ four 1 4 0 (bytes 255 1 0 0) ++ four 2 5 0 (bytes 0 1 0 0) ++ four 3 3 2 (bytes 0 1 0 0)

abbrev pub laid_commits : List ℕ
laid_commits = five 0 1 1 511 0 ++ five 1 4 0 (bytes 255 1 0 0) 0 ++ five 2 5 0 (bytes 0 1 0 0) 0 ++ five 3 3 2 (bytes 0 1 0 0) 0

-- every row comes out as it says
abbrev pub AllCome : {E O : Type 0} → (E → O) → (E → O) → List E → Type 0
AllCome comes says [] = Unit {0}
AllCome comes says (e ∷ rows) = (comes e ≡ says e) × AllCome comes says rows

-- ---- the sequential run

-- where a run stands, and whether it has ended
pub record RunOutcome : Type 0 where
  pub run : Run
  pub ended : Bool

pub record RunExample : Type 0 where
  pub program : List ℕ
  pub memory : List ℕ
  pub steps : ℕ
  pub outcome : RunOutcome

-- what a row's run comes to
abbrev pub ran_to : RunExample → RunOutcome
ran_to e =
    let r = run_after e.program e.memory e.steps in
    record { run = r; ended = ends e.program r }

-- program, memory lent and steps; then registers, memory, index, record and whether the run has ended
abbrev pub ran : List ℕ → List ℕ → ℕ → List ℕ → List ℕ → ℕ → List ℕ → Bool → RunExample
ran program lent steps registers memory index numbers ended =
    record {
      program = program;
      memory = lent;
      steps = steps;
      outcome = record {
        run = record { registers = registers; memory = memory; index = index; record' = numbers };
        ended = ended;
      };
    }

abbrev pub words : List ℕ
words = 4 ∷ 5 ∷ 6 ∷ []

-- two words by their bytes, and the registers where r1 has bytes 1, 2, 3 and 4
abbrev pub first : ℕ
first = bytes 10 11 12 13

abbrev pub second : ℕ
second = bytes 20 21 22 23

abbrev pub value : ℕ
value = bytes 1 2 3 4

-- r1 gets its bytes; then an instruction of this code stores its part at byte b: the word at 0 or at 1 becomes w
abbrev pub stored : ℕ → ℕ → List ℕ → ℕ → RunExample
stored code b memory w =
    ran (A 1 0 value ++ four code 1 0 b) (first ∷ second ∷ []) 2 (0 ∷ value ∷ 0 ∷ 0 ∷ 0 ∷ 0 ∷ 0 ∷ 0 ∷ []) memory 2
    (four 0 1 1 value ++ four 1 code b w) true

abbrev pub in_first : ℕ → ℕ → ℕ → RunExample
in_first code b w = stored code b (w ∷ second ∷ []) w

abbrev pub in_second : ℕ → ℕ → ℕ → RunExample
in_second code b w = stored code b (first ∷ w ∷ []) w

-- the same is a fault: it has no effect, and the run ends before it
abbrev pub faulting : ℕ → ℕ → RunExample
faulting code b =
    ran (A 1 0 value ++ four code 1 0 b ++ A 2 0 9) (first ∷ second ∷ []) 3 (0 ∷ value ∷ 0 ∷ 0 ∷ 0 ∷ 0 ∷ 0 ∷ 0 ∷ [])
    (first ∷ second ∷ []) 1 (four 0 1 1 value) true

unfoldable pub run_table : List RunExample
run_table =
    -- Eight registers at 0, the memory as lent, index 0 and an empty record; an instruction is left.
    ran (A 1 0 5) words 0 (0 ∷ 0 ∷ 0 ∷ 0 ∷ 0 ∷ 0 ∷ 0 ∷ 0 ∷ []) words 0 [] false
    -- An empty program has ended at once, and no step moves it.
    ∷ ran [] words 2 (0 ∷ 0 ∷ 0 ∷ 0 ∷ 0 ∷ 0 ∷ 0 ∷ 0 ∷ []) words 0 [] true
    -- A: register d becomes register s plus imm. After one step of two the run has not ended; the third is none.
    ∷ ran (A 1 0 5 ++ A 2 1 6) words 1 (0 ∷ 5 ∷ 0 ∷ 0 ∷ 0 ∷ 0 ∷ 0 ∷ 0 ∷ []) words 1 (four 0 1 1 5) false
    ∷ ran (A 1 0 5 ++ A 2 1 6) words 3 (0 ∷ 5 ∷ 11 ∷ 0 ∷ 0 ∷ 0 ∷ 0 ∷ 0 ∷ []) words 2 (four 0 1 1 5 ++ four 1 1 2 11) true
    -- Registers 0 and 7 are ordinary ones.
    ∷ ran (A 0 0 3 ++ A 7 0 4) words 2 (3 ∷ 0 ∷ 0 ∷ 0 ∷ 0 ∷ 0 ∷ 0 ∷ 7 ∷ []) words 2 (four 0 1 0 3 ++ four 1 1 7 7) true
    -- P: register d becomes register s plus register imm.
    ∷ ran (A 1 0 5 ++ A 2 0 7 ++ P 3 1 2) words 3 (0 ∷ 5 ∷ 7 ∷ 12 ∷ 0 ∷ 0 ∷ 0 ∷ 0 ∷ []) words 3
    (four 0 1 1 5 ++ four 1 1 2 7 ++ four 2 2 3 12) true
    -- Sums are modulo 2^32, of A and of P.
    ∷ ran (A 1 0 4294967295 ++ A 2 1 1 ++ P 3 1 1) words 3 (0 ∷ 4294967295 ∷ 0 ∷ 4294967294 ∷ 0 ∷ 0 ∷ 0 ∷ 0 ∷ []) words 3
    (four 0 1 1 4294967295 ++ four 1 1 2 0 ++ four 2 2 3 4294967294) true
    -- L: register d becomes the word at register s plus imm; here the last one, at W - 1.
    ∷ ran (A 1 0 1 ++ L 2 1 1) words 2 (0 ∷ 1 ∷ 6 ∷ 0 ∷ 0 ∷ 0 ∷ 0 ∷ 0 ∷ []) words 2 (four 0 1 1 1 ++ four 1 3 2 6) true
    -- L at W is a fault: it has no effect, and the run ends before it.
    ∷ ran (A 1 0 1 ++ L 2 1 2 ++ A 3 0 9) words 3 (0 ∷ 1 ∷ 0 ∷ 0 ∷ 0 ∷ 0 ∷ 0 ∷ 0 ∷ []) words 1 (four 0 1 1 1) true
    -- So is one far past it.
    ∷ ran (L 1 0 4294967295) words 1 (0 ∷ 0 ∷ 0 ∷ 0 ∷ 0 ∷ 0 ∷ 0 ∷ 0 ∷ []) words 0 [] true
    -- S: the word at register s plus imm becomes register d, also at W - 1; the record has the address.
    ∷ ran (A 1 0 1 ++ A 3 0 9 ++ S 3 1 1) words 3 (0 ∷ 1 ∷ 0 ∷ 9 ∷ 0 ∷ 0 ∷ 0 ∷ 0 ∷ []) (4 ∷ 5 ∷ 9 ∷ []) 3
    (four 0 1 1 1 ++ four 1 1 3 9 ++ four 2 4 2 9) true
    -- S at W or past it is a fault.
    ∷ ran (A 1 0 1 ++ S 1 1 2) words 2 (0 ∷ 1 ∷ 0 ∷ 0 ∷ 0 ∷ 0 ∷ 0 ∷ 0 ∷ []) words 1 (four 0 1 1 1) true
    ∷ ran (S 0 0 4294967295) words 1 (0 ∷ 0 ∷ 0 ∷ 0 ∷ 0 ∷ 0 ∷ 0 ∷ 0 ∷ []) words 0 [] true
    -- A load takes the word that was stored.
    ∷ ran (A 1 0 9 ++ S 1 0 1 ++ L 2 0 1) words 3 (0 ∷ 9 ∷ 9 ∷ 0 ∷ 0 ∷ 0 ∷ 0 ∷ 0 ∷ []) (4 ∷ 9 ∷ 6 ∷ []) 3
    (four 0 1 1 9 ++ four 1 4 1 9 ++ four 2 3 2 9) true
    -- Addresses are sums modulo 2^32, too.
    ∷ ran (A 1 0 4294967295 ++ L 2 1 2 ++ S 2 1 1) words 3 (0 ∷ 4294967295 ∷ 5 ∷ 0 ∷ 0 ∷ 0 ∷ 0 ∷ 0 ∷ []) (5 ∷ 5 ∷ 6 ∷ []) 3
    (four 0 1 1 4294967295 ++ four 1 3 2 5 ++ four 2 4 0 5) true
    -- B: the low byte of register d, at each byte of a word; the record has the byte number and the whole word.
    ∷ in_first 5 0 (bytes 1 11 12 13) ∷ in_first 5 1 (bytes 10 1 12 13) ∷ in_first 5 2 (bytes 10 11 1 13)
    ∷ in_first 5 3 (bytes 10 11 12 1) ∷ in_second 5 4 (bytes 1 21 22 23)
    -- H: its low 16 bits, the lower ones at the lower byte number.
    ∷ in_first 6 0 (bytes 1 2 12 13) ∷ in_first 6 2 (bytes 10 11 1 2) ∷ in_second 6 4 (bytes 1 2 22 23)
    -- Byte 4W - 1 is of the last word, and so is the half word before 4W. A fault is at 4W and past it.
    ∷ in_second 5 7 (bytes 20 21 22 1) ∷ in_second 6 6 (bytes 20 21 1 2)
    ∷ faulting 5 8 ∷ faulting 6 8 ∷ faulting 5 4294967295 ∷ faulting 6 4294967294
    -- An H at an odd byte number is a fault, in the memory and past it.
    ∷ faulting 6 1 ∷ faulting 6 3 ∷ faulting 6 5 ∷ faulting 6 7 ∷ faulting 6 9
    -- Byte numbers are sums modulo 2^32; s and d are two registers.
    ∷ ran (A 1 0 4294967295 ++ A 2 0 513 ++ B 2 1 6 ++ H 2 1 3) (first ∷ second ∷ []) 4
    (0 ∷ 4294967295 ∷ 513 ∷ 0 ∷ 0 ∷ 0 ∷ 0 ∷ 0 ∷ [])
    (bytes 10 11 1 2 ∷ bytes 20 1 22 23 ∷ [])
    4
    (four 0 1 1 4294967295 ++ four 1 1 2 513 ++ four 2 5 5 (bytes 20 1 22 23) ++ four 3 6 2 (bytes 10 11 1 2)) true
    -- The sum decides whether an H is odd, not imm.
    ∷ ran (A 1 0 3 ++ H 1 1 1) (first ∷ second ∷ []) 2 (0 ∷ 3 ∷ 0 ∷ 0 ∷ 0 ∷ 0 ∷ 0 ∷ 0 ∷ []) (first ∷ bytes 3 0 22 23 ∷ []) 2
    (four 0 1 1 3 ++ four 1 6 4 (bytes 3 0 22 23)) true
    ∷ ran (A 1 0 3 ++ H 1 1 2) (first ∷ second ∷ []) 2 (0 ∷ 3 ∷ 0 ∷ 0 ∷ 0 ∷ 0 ∷ 0 ∷ 0 ∷ []) (first ∷ second ∷ []) 1
    (four 0 1 1 3) true
    -- Parts of one word, one after the other, and a word with a part stored into it.
    ∷ ran mixed (0 ∷ []) 5 (0 ∷ 511 ∷ bytes 255 0 0 255 ∷ 0 ∷ 0 ∷ 0 ∷ 0 ∷ 0 ∷ []) (bytes 255 0 0 255 ∷ []) 5 mixed_record true
    ∷ ran laid (0 ∷ []) 4 (0 ∷ 511 ∷ bytes 0 1 0 0 ∷ 0 ∷ 0 ∷ 0 ∷ 0 ∷ 0 ∷ []) (bytes 0 1 0 0 ∷ []) 4 laid_record true
    ∷ ran (B 0 0 3 ++ L 1 0 0 ++ B 0 0 4) (replicate 8 0) 3 (replicate 8 0) (replicate 8 0) 3
    (four 0 5 3 0 ++ four 1 3 1 0 ++ four 2 5 4 0) true
    ∷ []

-- ---- records without their distances

pub record RecordExample : Type 0 where
  pub numbers : List ℕ
  pub outcome : List ℕ

-- what a row's record leaves
abbrev pub left_of : RecordExample → List ℕ
left_of e = without e.numbers

abbrev pub leaves : List ℕ → List ℕ → RecordExample
leaves numbers rest = record { numbers = numbers; outcome = rest }

unfoldable pub record_table : List RecordExample
record_table =
    -- Of no commit, of one and of two: each fifth number goes, the others stay in order.
    leaves [] [] ∷ leaves (five 11 12 13 14 15) (four 11 12 13 14)
    ∷ leaves (five 11 12 13 14 15 ++ five 21 22 23 24 25) (four 11 12 13 14 ++ four 21 22 23 24)
    -- Fewer than five numbers are no commit.
    ∷ leaves (11 ∷ []) [] ∷ leaves (11 ∷ 12 ∷ []) [] ∷ leaves (11 ∷ 12 ∷ 13 ∷ []) [] ∷ leaves (four 11 12 13 14) []
    ∷ leaves (five 11 12 13 14 15 ++ four 21 22 23 24) (four 11 12 13 14)
    -- The records of the two programs are those of their runs.
    ∷ leaves mixed_commits mixed_record ∷ leaves laid_commits laid_record ∷ []
