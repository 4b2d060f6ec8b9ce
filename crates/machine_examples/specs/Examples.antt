-- Examples of the machine as a table: the sizes, program and memory lent to an opening, what it answers, and the steps after
-- it, each beside what is seen of it. A row whose opening is refused has no steps. With these rows each refusal of each call
-- occurs (2, of a broken machine, in specs/Broken.antt), two conditions at once wherever two can hold, and each limit at its
-- edge and one past it. (Never together: 7 with 8, 9 with 10, 11 or 12 with 13 or 14, since what is not live or waits has no
-- fate to look at.) proofs/Shown.antt shows that every row comes out.
-- Assumes nothing.
use Rattle.std.specs.Prelude.{◌≡◌, cond, List, [], ◌∷◌, ◌++◌, map, ℕ, eqb, replicate, set}
use Rattle.std.proofs.Math.Option.{Option, none, some}
use Rattle.table.specs.Reference
use Rattle.table.specs.Reference.{State, number_of, loaded, stored, merged}
use Rattle.table.specs.Moves.{moved, with_fate}
use Rattle.engine.specs.Conditions.{refusal}
use Rattle.engine.specs.Contract.{refused, done, named, executed, committed, finished}
use Rattle.machine_model.specs.declared.Instruction.{Instruction}
use Rattle.machine_model.specs.declared.Instruction.TheVariants.{Add, Sum, Load, Store, Byte, Half}
use Rattle.machine_model.specs.declared.Fate.{Fate}
use Rattle.machine_model.specs.declared.Fate.TheVariants.{Waiting, Executed}
use Rattle.machine_model.specs.declared.Entry.{Entry}
use Rattle.machine_model.specs.Program.{instruction_at, s_of}
use Rattle.machine_model.specs.Window.{blank_entry, reference}
use Rattle.machine_model.specs.Calls.{Plain, Call, issue, execute, squash, commit, finish, lent_to, Answer, respond}
use Rattle.machine_model.specs.Calls.{Opening, banked, open_checks, opened}

-- A call and its answer, a list lent to it coming back as it was; a finish with its limit and list, its answer, and the list
-- as it left it; the committed registers and the memory; the next issue number and those of the live references, oldest first.
-- And what a user can get wrong: another program and memory are lent from here on; the state is another one (damage that 2 does
-- not see).
pub data Step : Type 0 where
  asks : Call → Answer → Step
  drains : ℕ → List ℕ → Answer → List ℕ → Step
  looks : List ℕ → List ℕ → Step
  numbers : ℕ → List ℕ → Step
  lend : List ℕ → List ℕ → Step
  damage : (Plain → Plain) → Step

pub record Example : Type 0 where
  pub opening : Opening
  pub program : List ℕ
  pub memory : List ℕ
  pub answer : Answer
  pub steps : List Step

-- what is seen of a step: of a call its answer and the list as it left it, of a look registers and memory, or issue numbers
pub data Sight : Type 0 where
  says : Answer → List ℕ → Sight
  shows : List ℕ → List ℕ → Sight
  counts : ℕ → List ℕ → Sight

-- what the steps say is seen
unfoldable pub told : List Step → List Sight
told [] = []
told (asks c a ∷ steps) = says a (lent_to c) ∷ told steps
told (drains k list a left ∷ steps) = says a left ∷ told steps
told (looks registers memory ∷ steps) = shows registers memory ∷ told steps
told (numbers next live ∷ steps) = counts next live ∷ told steps
told (lend program memory ∷ steps) = told steps
told (damage f ∷ steps) = told steps

-- what is seen of them, each on the state and the memory that the one before left
unfoldable pub played : List ℕ → Plain → List ℕ → List Step → List Sight
played program X memory [] = []
played program X memory (asks c a ∷ steps) =
    let r = respond program c X memory in
    says r.answer r.list ∷ played program r.state r.memory steps
played program X memory (drains k list a left ∷ steps) =
    let r = respond program (finish k list) X memory in
    says r.answer r.list ∷ played program r.state r.memory steps
played program X memory (looks registers words ∷ steps) = shows X.registers memory ∷ played program X memory steps
played program X memory (numbers next live ∷ steps) =
    counts X.buffer.next (map number_of X.buffer.refs) ∷ played program X memory steps
played program X memory (lend other words ∷ steps) = played other X words steps
played program X memory (damage f ∷ steps) = played program (f X) memory steps

-- what a row says is seen, and what is, the opening first
abbrev pub told_by : Example → List Sight
told_by e = says e.answer [] ∷ told e.steps

abbrev pub seen_of : Example → List Sight
seen_of e =
    let k = refusal (open_checks e.opening e.program e.memory) in
    cond (eqb k 0) (says done [] ∷ played e.program (opened e.opening e.program) e.memory e.steps)
    (says (refused k) [] ∷ [])

-- each row of a table comes out
abbrev pub AllShown : List Example → Type 0
AllShown [] = Unit {0}
AllShown (e ∷ rows) = (seen_of e ≡ told_by e) × AllShown rows

-- ---- how the rows are written

-- the four numbers of an instruction
abbrev pub A : ℕ → ℕ → ℕ → List ℕ
A d s imm = 1 ∷ d ∷ s ∷ imm ∷ []

abbrev pub P : ℕ → ℕ → ℕ → List ℕ
P d s imm = 2 ∷ d ∷ s ∷ imm ∷ []

abbrev pub L : ℕ → ℕ → ℕ → List ℕ
L d s imm = 3 ∷ d ∷ s ∷ imm ∷ []

abbrev pub S : ℕ → ℕ → ℕ → List ℕ
S d s imm = 4 ∷ d ∷ s ∷ imm ∷ []

abbrev pub B : ℕ → ℕ → ℕ → List ℕ
B d s imm = 5 ∷ d ∷ s ∷ imm ∷ []

abbrev pub H : ℕ → ℕ → ℕ → List ℕ
H d s imm = 6 ∷ d ∷ s ∷ imm ∷ []

abbrev pub row : ℕ → ℕ → ℕ → ℕ → List ℕ → List ℕ → Answer → List Step → Example
row banks R n W program memory answer steps =
    record { opening = banked banks R n W; program = program; memory = memory; answer = answer; steps = steps }

-- an opening alone; one with these sizes and no program; one of the smallest sizes with this program
abbrev pub opens : ℕ → ℕ → ℕ → ℕ → List ℕ → List ℕ → Answer → Example
opens banks R n W program memory answer = row banks R n W program memory answer []

abbrev pub sized : ℕ → ℕ → ℕ → ℕ → Answer → Example
sized banks R n W answer = opens banks R n W [] (replicate W 0) answer

abbrev pub reads : List ℕ → Answer → Example
reads program answer = opens 1 1 1 1 program (0 ∷ []) answer

-- unless said, there is one bank, R and n are 4, W is 8, and these are the words
abbrev pub eight : List ℕ
eight = 10 ∷ 11 ∷ 12 ∷ 13 ∷ 14 ∷ 15 ∷ 16 ∷ 17 ∷ []

abbrev pub usual : List ℕ → List Step → Example
usual program steps = row 1 4 4 8 program eight done steps

-- R 1
abbrev pub tight : List ℕ → List Step → Example
tight program steps = row 1 1 4 8 program eight done steps

-- another buffer and other entries
abbrev pub over : Plain → State → List Entry → Plain
over X P es = record { buffer = P; entries = es; registers = X.registers; count = X.count; next = X.next }

-- an entry of this instruction, index and fate
abbrev pub entry : Instruction → ℕ → Fate → Entry
entry i index f = record { instruction = i; index = index; fate = f; distance = 0 }

-- the entry at a position is another one, and its reference with it, whose load took 0
abbrev pub spoil : ℕ → Entry → Step
spoil p e = damage (λ X. over X (with_fate X.buffer p (reference e)) (set X.entries p e))

-- the reference at a position has another fate, and its entry stays: the table's words alone
abbrev pub refile : ℕ → Reference.Fate → Step
refile p f = damage (λ X. over X (with_fate X.buffer p f) X.entries)

-- the next issue number is another
abbrev pub renumber : ℕ → Step
renumber n = damage (λ X. over X (moved X.buffer X.buffer.oldest n X.buffer.refs) X.entries)

-- 01's script
abbrev pub script : List ℕ
script = A 1 0 5 ++ S 1 0 3 ++ L 2 0 3

-- issues of positions 0 to 1, 2 and 3
abbrev pub two : List Step → List Step
two steps = asks issue (named 0) ∷ asks issue (named 1) ∷ steps

abbrev pub three : List Step → List Step
three steps = two (asks issue (named 2) ∷ steps)

abbrev pub four : List Step → List Step
four steps = three (asks issue (named 3) ∷ steps)

-- the calls lent memory are refused with k, the others with j
abbrev pub refuse : ℕ → ℕ → List Step → List Step
refuse k j steps =
    asks issue (refused j) ∷ asks (execute 0) (refused k) ∷ asks (squash 0) (refused j) ∷ asks commit (refused k)
    ∷ asks (finish 1 (replicate 5 7)) (refused k)
    ∷ steps

-- ---- openings
unfoldable pub openings : List Example
openings =
    -- sizes at their edges and one past them
    sized 1 1 1 1 done ∷ sized 2 1 1 1 done ∷ sized 4 1 1 1 done ∷ sized 8 8 16 4096 done
    ∷ sized 0 1 1 1 (refused 1) ∷ sized 3 1 1 1 (refused 1) ∷ sized 5 1 1 1 (refused 1) ∷ sized 6 1 1 1 (refused 1)
    ∷ sized 7 1 1 1 (refused 1) ∷ sized 9 1 1 1 (refused 1) ∷ sized 16 1 1 1 (refused 1)
    ∷ sized 1 0 1 1 (refused 1) ∷ sized 1 9 1 1 (refused 1)
    ∷ sized 1 1 0 1 (refused 1) ∷ sized 1 1 17 1 (refused 1)
    ∷ sized 1 1 1 0 (refused 1) ∷ sized 1 1 1 4097 (refused 1)
    -- 1,025, 1,026 and 1,028 numbers are refusal 1, also where they are no multiple of 4
    ∷ reads (replicate 1025 1) (refused 1) ∷ reads (replicate 1026 1) (refused 1) ∷ reads (replicate 1028 1) (refused 1)
    -- memory length is not W
    ∷ opens 1 4 4 8 script (replicate 7 0) (refused 3) ∷ opens 1 4 4 8 script (replicate 9 0) (refused 3)
    -- codes 1 to 6; registers to 7, P's imm too; any other imm
    ∷ reads (A 7 7 4294967295) done ∷ reads (P 7 7 7) done ∷ reads (L 7 7 4294967295) done ∷ reads (S 7 7 4294967295) done
    ∷ reads (B 7 7 4294967295) done ∷ reads (H 7 7 4294967295) done
    ∷ reads (0 ∷ 0 ∷ 0 ∷ 0 ∷ []) (refused 4) ∷ reads (7 ∷ 0 ∷ 0 ∷ 0 ∷ []) (refused 4)
    ∷ reads (A 8 0 0) (refused 4) ∷ reads (P 8 0 0) (refused 4) ∷ reads (L 8 0 0) (refused 4) ∷ reads (S 8 0 0) (refused 4)
    ∷ reads (B 8 0 0) (refused 4) ∷ reads (H 8 0 0) (refused 4) ∷ reads (B 0 8 0) (refused 4) ∷ reads (H 0 8 0) (refused 4)
    ∷ reads (A 0 8 0) (refused 4) ∷ reads (P 0 8 0) (refused 4) ∷ reads (L 0 8 0) (refused 4) ∷ reads (S 0 8 0) (refused 4)
    ∷ reads (P 0 0 8) (refused 4)
    -- the last instruction counts too; a length that is no multiple of 4
    ∷ reads (script ++ A 0 0 8 ++ P 0 0 8) (refused 4)
    ∷ reads (1 ∷ []) (refused 4) ∷ reads (script ++ (1 ∷ 1 ∷ 1 ∷ [])) (refused 4)
    -- 1 with 3, 1 with 4, 3 with 4
    ∷ opens 1 1 17 1 script [] (refused 1)
    ∷ opens 1 1 17 1 (A 8 0 0) (0 ∷ []) (refused 1)
    ∷ opens 1 1 1 1 (replicate 1028 0) (0 ∷ []) (refused 1)
    ∷ opens 1 1 1 1 (A 8 0 0) [] (refused 3)
    ∷ []

-- 1,024 numbers pass
unfoldable pub longest : Example
longest = reads (replicate 1024 1) done

-- ---- refusals of the later calls
unfoldable pub refusals : List Example
refusals =
    -- 5 with instructions left; 5 with 6; 6 with stages left, and of an empty program
    row 1 1 2 8 script eight done (two (asks issue (refused 5) ∷ []))
    ∷ row 1 1 1 8 (A 1 0 5) eight done (asks issue (named 0) ∷ asks issue (refused 5) ∷ [])
    ∷ usual (A 1 0 5) (asks issue (named 0) ∷ asks issue (refused 6) ∷ [])
    ∷ usual [] (asks issue (refused 6) ∷ [])
    -- 3: a memory one word short or long. Issue and squash are lent none.
    ∷ usual script
    (asks issue (named 0) ∷ lend script (replicate 7 0)
    ∷ asks (execute 0) (refused 3) ∷ asks commit (refused 3) ∷ asks (finish 1 (replicate 5 7)) (refused 3)
    ∷ lend script (replicate 9 0)
    ∷ asks (execute 0) (refused 3) ∷ asks commit (refused 3) ∷ asks (finish 1 (replicate 5 7)) (refused 3)
    ∷ asks (squash 0) done ∷ asks issue (named 0) ∷ [])
    -- 4: the program is one instruction short or long, no multiple of 4, or has a code, a register or P's imm out of range
    ∷ usual script (asks issue (named 0) ∷ lend (A 1 0 5 ++ S 1 0 3) eight ∷ refuse 4 4 [])
    ∷ usual script (asks issue (named 0) ∷ lend (script ++ A 0 0 0) eight ∷ refuse 4 4 [])
    ∷ usual script (asks issue (named 0) ∷ lend (script ++ (1 ∷ [])) eight ∷ refuse 4 4 [])
    ∷ usual script (asks issue (named 0) ∷ lend (A 1 0 5 ++ S 1 0 3 ++ (7 ∷ 2 ∷ 0 ∷ 3 ∷ [])) eight ∷ refuse 4 4 [])
    ∷ usual script (asks issue (named 0) ∷ lend (A 1 0 5 ++ S 1 0 3 ++ L 8 0 3) eight ∷ refuse 4 4 [])
    ∷ usual script (asks issue (named 0) ∷ lend (A 1 0 5 ++ S 1 0 3 ++ P 2 0 8) eight ∷ refuse 4 4 [])
    -- 4: it is another where an entry is live. Where none is it may differ: the entry issued is the new one.
    ∷ usual script (asks issue (named 0) ∷ lend (A 1 0 6 ++ S 1 0 3 ++ L 2 0 3) eight ∷ refuse 4 4 [])
    ∷ usual script
    (asks issue (named 0) ∷ lend (A 1 0 5 ++ L 4 0 6 ++ L 2 0 3) eight ∷ asks issue (named 1)
    ∷ asks (execute 1) (executed 16 0 none) ∷ [])
    -- 3 with 4; 3 and 4 with 7, 11 and 12 (nothing is live); 4 with 5, 6, 8 and 13
    ∷ usual script (asks issue (named 0) ∷ lend (A 1 0 6) (replicate 7 0) ∷ refuse 3 4 [])
    ∷ usual script
    (lend (A 1 0 6) (replicate 7 0)
    ∷ refuse 3 4 (lend script [] ∷ asks (execute 0) (refused 3) ∷ asks commit (refused 3) ∷ []))
    ∷ usual script (lend (A 1 0 6) eight ∷ refuse 4 4 [])
    ∷ row 1 1 1 8 (L 1 0 8) eight done
    (asks issue (named 0) ∷ asks (execute 0) (executed 0 0 none) ∷ lend (L 1 0 9) eight ∷ refuse 4 4 [])
    -- 3 and 4 with 8, 9 and 10, which each position meets alone at the end
    ∷ row 1 1 4 8 (A 1 0 5 ++ A 2 1 0 ++ L 3 0 5 ++ L 4 0 6) eight done
    (four (asks (execute 2) (executed 15 0 none)
    ∷ lend (A 1 0 5 ++ A 2 1 0 ++ L 3 0 5 ++ L 4 0 6) (replicate 9 0)
    ∷ asks (execute 2) (refused 3) ∷ asks (execute 1) (refused 3) ∷ asks (execute 3) (refused 3)
    ∷ lend (A 1 0 5 ++ A 2 1 0 ++ L 3 0 5 ++ L 4 0 7) eight
    ∷ asks (execute 2) (refused 4) ∷ asks (execute 1) (refused 4) ∷ asks (execute 3) (refused 4)
    ∷ lend (A 1 0 5 ++ A 2 1 0 ++ L 3 0 5 ++ L 4 0 6) eight
    ∷ asks (execute 2) (refused 8) ∷ asks (execute 1) (refused 9) ∷ asks (execute 3) (refused 10) ∷ []))
    -- 7: no such position; with 10, nothing is live; with 9, a live entry that waits writes the register of what stands there
    ∷ usual script
    (asks (execute 0) (refused 7) ∷ asks (squash 0) (refused 7) ∷ asks issue (named 0)
    ∷ asks (execute 1) (refused 7) ∷ asks (squash 1) (refused 7)
    ∷ asks (execute 4294967295) (refused 7) ∷ asks (squash 4294967295) (refused 7) ∷ [])
    ∷ usual (A (s_of blank_entry.instruction) 0 5) (asks issue (named 0) ∷ asks (execute 1) (refused 7) ∷ [])
    -- 8; with 9 and with 10, of entries that only a damaged machine has
    ∷ usual script (asks issue (named 0) ∷ asks (execute 0) (executed 0 0 none) ∷ asks (execute 0) (refused 8) ∷ [])
    ∷ usual (A 1 0 5 ++ A 2 1 0)
    (two (spoil 1 (entry (Add 2 1 0) 1 (Executed 0 0)) ∷ asks (execute 1) (refused 8) ∷ []))
    ∷ tight (L 1 0 5 ++ L 2 0 6)
    (two (asks (execute 0) (executed 15 0 none)
    ∷ spoil 1 (entry (Load 2 0 6) 1 (Executed 0 5)) ∷ asks (execute 1) (refused 8) ∷ []))
    -- 9: the writer of s, of P's imm and of S's d waits
    ∷ usual (A 1 0 5 ++ A 2 1 0) (two (asks (execute 1) (refused 9) ∷ asks (execute 0) (executed 0 0 none)
    ∷ asks (execute 1) (executed 0 0 none) ∷ []))
    ∷ usual (A 1 0 5 ++ P 2 1 0) (two (asks (execute 1) (refused 9) ∷ []))
    ∷ usual (A 1 0 5 ++ P 2 0 1) (two (asks (execute 1) (refused 9) ∷ []))
    ∷ usual (A 1 0 5 ++ L 2 1 0) (two (asks (execute 1) (refused 9) ∷ []))
    ∷ usual (A 1 0 5 ++ S 0 1 0) (two (asks (execute 1) (refused 9) ∷ []))
    ∷ usual (A 1 0 5 ++ S 1 0 0) (two (asks (execute 1) (refused 9) ∷ []))
    -- imm is a register of P only, d of S only among these; S is nobody's writer, and so is a younger entry
    ∷ usual (A 1 0 5 ++ A 2 0 1) (two (asks (execute 1) (executed 0 0 none) ∷ []))
    ∷ usual (A 1 0 5 ++ L 1 0 1) (two (asks (execute 1) (executed 11 0 none) ∷ []))
    ∷ usual (A 1 0 5 ++ S 2 0 1) (two (asks (execute 1) (executed 0 0 none) ∷ []))
    ∷ usual (S 1 0 3 ++ A 2 1 0) (two (asks (execute 1) (executed 0 0 none) ∷ []))
    ∷ usual (A 2 1 0 ++ A 1 0 5) (two (asks (execute 0) (executed 0 0 none) ∷ []))
    -- the nearest writer decides: it waits though an older one has executed, and the other way round
    ∷ usual (A 1 0 5 ++ A 1 0 6 ++ A 2 1 0)
    (three (asks (execute 0) (executed 0 0 none) ∷ asks (execute 2) (refused 9) ∷ asks (execute 1) (executed 0 0 none)
    ∷ asks (execute 2) (executed 0 0 none) ∷ asks commit (committed 0 1 1 5 0) ∷ asks commit (committed 1 1 1 6 0)
    ∷ asks commit (committed 2 1 2 6 0) ∷ []))
    ∷ usual (A 1 0 5 ++ A 1 0 6 ++ A 2 1 0)
    (three (asks (execute 1) (executed 0 0 none) ∷ asks (execute 2) (executed 0 0 none) ∷ []))
    -- 10, and none where the address has a row or the other bank a free one (where 9 holds no row is asked for yet)
    ∷ tight (L 1 0 5 ++ L 2 0 6) (two (asks (execute 0) (executed 15 0 none) ∷ asks (execute 1) (refused 10) ∷ []))
    ∷ tight (L 1 0 5 ++ L 2 0 5) (two (asks (execute 0) (executed 15 0 none) ∷ asks (execute 1) (executed 15 0 none) ∷ []))
    ∷ row 2 1 4 8 (L 1 0 5 ++ L 2 0 6) eight done
    (two (asks (execute 0) (executed 15 0 none) ∷ asks (execute 1) (executed 16 0 none) ∷ []))
    -- 11 (with 12: where nothing is live nothing has executed); 12
    ∷ usual script (asks commit (refused 11) ∷ asks issue (named 0) ∷ asks commit (refused 12) ∷ [])
    -- 13 at W, of a load (which takes 0) and of a store; the last word commits
    ∷ usual (L 1 0 8) (asks issue (named 0) ∷ asks (execute 0) (executed 0 0 none) ∷ asks commit (refused 13) ∷ [])
    ∷ usual (S 1 0 8) (asks issue (named 0) ∷ asks (execute 0) (executed 0 0 none) ∷ asks commit (refused 13) ∷ [])
    ∷ usual (L 1 0 7) (asks issue (named 0) ∷ asks (execute 0) (executed 17 0 none) ∷ asks commit (committed 0 3 1 17 0) ∷ [])
    ∷ usual (S 1 0 7) (asks issue (named 0) ∷ asks (execute 0) (executed 0 0 none) ∷ asks commit (committed 0 4 7 0 0) ∷ [])
    -- 3 with 13
    ∷ usual (L 1 0 8)
    (asks issue (named 0) ∷ asks (execute 0) (executed 0 0 none) ∷ lend (L 1 0 8) (replicate 9 0) ∷ asks commit (refused 3) ∷ [])
    ∷ []

-- ---- 4: a live entry unlike the program's instruction at its index

-- one instruction of each code, and the entry at p spoiled
abbrev pub unlike : ℕ → Instruction → ℕ → Example
unlike p i index =
    usual (A 1 2 3 ++ P 1 2 3 ++ L 1 2 3 ++ S 1 2 3)
    (four (spoil p (entry i index Waiting) ∷ refuse 4 4 []))

-- the same of B and H
abbrev pub unlike_part : ℕ → Instruction → ℕ → Example
unlike_part p i index =
    usual (B 1 2 3 ++ H 1 2 3) (two (spoil p (entry i index Waiting) ∷ refuse 4 4 []))

-- what is read where no instruction is
abbrev pub missing : Instruction
missing = instruction_at [] 0

unfoldable pub unlikes : List Example
unlikes =
    -- another imm of each code, another d, s and code
    unlike 0 (Add 1 2 4) 0 ∷ unlike 1 (Sum 1 2 4) 1 ∷ unlike 2 (Load 1 2 4) 2 ∷ unlike 3 (Store 1 2 4) 3
    ∷ unlike 0 (Add 2 2 3) 0 ∷ unlike 1 (Sum 2 2 3) 1 ∷ unlike 2 (Load 2 2 3) 2 ∷ unlike 3 (Store 2 2 3) 3
    ∷ unlike 0 (Add 1 1 3) 0 ∷ unlike 1 (Sum 1 1 3) 1 ∷ unlike 2 (Load 1 1 3) 2 ∷ unlike 3 (Store 1 1 3) 3
    ∷ unlike 0 (Sum 1 2 3) 0 ∷ unlike 1 (Load 1 2 3) 1 ∷ unlike 2 (Store 1 2 3) 2 ∷ unlike 3 (Add 1 2 3) 3
    -- the index of another instruction; the opened count, and one past it
    ∷ unlike 0 (Add 1 2 3) 1 ∷ unlike 3 (Store 1 2 3) 4 ∷ unlike 3 missing 4 ∷ unlike 3 missing 5
    ∷ unlike_part 0 (Byte 1 2 4) 0 ∷ unlike_part 1 (Half 1 2 4) 1 ∷ unlike_part 0 (Byte 2 2 3) 0 ∷ unlike_part 1 (Half 2 2 3) 1
    ∷ unlike_part 0 (Byte 1 1 3) 0 ∷ unlike_part 1 (Half 1 1 3) 1 ∷ unlike_part 0 (Half 1 2 3) 0 ∷ unlike_part 1 (Byte 1 2 3) 1
    ∷ unlike_part 0 (Store 1 2 3) 0
    -- an equal instruction at another index is like it
    ∷ usual (A 1 2 3 ++ A 1 2 3)
    (asks issue (named 0) ∷ spoil 0 (entry (Add 1 2 3) 1 Waiting) ∷ asks issue (named 1) ∷ [])
    ∷ []

-- ---- what accepted calls come to
unfoldable pub runs : List Example
runs =
    -- a commit's five numbers of each code, and what it leaves
    usual (A 1 0 5 ++ P 2 1 1 ++ S 2 0 3 ++ L 4 1 0)
    (four (asks (execute 0) (executed 0 0 none) ∷ asks (execute 1) (executed 0 0 none) ∷ asks (execute 2) (executed 0 0 none)
    ∷ asks (execute 3) (executed 15 0 none)
    ∷ looks (replicate 8 0) eight
    ∷ asks commit (committed 0 1 1 5 0) ∷ asks commit (committed 1 2 2 10 0)
    ∷ looks (0 ∷ 5 ∷ 10 ∷ 0 ∷ 0 ∷ 0 ∷ 0 ∷ 0 ∷ []) eight
    ∷ asks commit (committed 2 4 3 10 0) ∷ asks commit (committed 3 3 4 15 0)
    ∷ looks (0 ∷ 5 ∷ 10 ∷ 0 ∷ 15 ∷ 0 ∷ 0 ∷ 0 ∷ []) (10 ∷ 11 ∷ 12 ∷ 10 ∷ 14 ∷ 15 ∷ 16 ∷ 17 ∷ []) ∷ []))
    -- register 0 is an ordinary one; a register is its own operand
    ∷ usual (A 0 0 5 ++ P 0 0 0) (drains 2 (replicate 10 7) (finished 2)
    (0 ∷ 1 ∷ 0 ∷ 5 ∷ 0 ∷ 1 ∷ 2 ∷ 0 ∷ 10 ∷ 0 ∷ []) ∷ [])
    -- sums are modulo 2 ^ 32, of values and of addresses
    ∷ usual (A 1 0 4294967295 ++ A 2 1 1 ++ A 2 1 2 ++ P 3 1 1 ++ L 4 1 4 ++ S 3 1 5)
    (drains 6 (replicate 30 7) (finished 6)
    (0 ∷ 1 ∷ 1 ∷ 4294967295 ∷ 0 ∷ 1 ∷ 1 ∷ 2 ∷ 0 ∷ 0 ∷ 2 ∷ 1 ∷ 2 ∷ 1 ∷ 0 ∷ 3 ∷ 2 ∷ 3 ∷ 4294967294 ∷ 0 ∷ 4 ∷ 3 ∷ 4 ∷ 13 ∷ 0
    ∷ 5 ∷ 4 ∷ 4 ∷ 4294967294 ∷ 0 ∷ [])
    ∷ looks (0 ∷ 4294967295 ∷ 1 ∷ 4294967294 ∷ 13 ∷ 0 ∷ 0 ∷ 0 ∷ [])
    (10 ∷ 11 ∷ 12 ∷ 13 ∷ 4294967294 ∷ 15 ∷ 16 ∷ 17 ∷ []) ∷ [])
    -- a load takes the word of the nearest older store, which is not in memory yet
    ∷ usual (A 1 0 5 ++ S 1 0 3 ++ L 2 0 3)
    (three (asks (execute 0) (executed 0 0 none) ∷ asks (execute 1) (executed 0 0 none) ∷ asks (execute 2) (executed 5 1 none)
    ∷ looks (replicate 8 0) eight ∷ []))
    -- The load went before the store: squashed from position 2. The next issue is that instruction, and then the one after it.
    ∷ usual (A 1 0 5 ++ S 1 0 3 ++ L 2 0 3 ++ A 3 2 1)
    (four (asks (execute 2) (executed 13 0 none) ∷ asks (execute 3) (executed 0 0 none) ∷ asks (execute 0) (executed 0 0 none)
    ∷ asks (execute 1) (executed 0 0 (some 2)) ∷ asks (execute 2) (refused 7) ∷ asks issue (named 2) ∷ asks issue (named 3)
    ∷ asks issue (refused 5)
    ∷ asks (execute 3) (refused 9) ∷ asks (execute 2) (executed 5 1 none) ∷ asks (execute 3) (executed 0 0 none)
    ∷ asks commit (committed 0 1 1 5 0) ∷ asks commit (committed 1 4 3 5 0) ∷ asks commit (committed 2 3 2 5 1)
    ∷ asks commit (committed 3 1 3 6 0) ∷ asks issue (refused 6) ∷ asks commit (refused 11) ∷ []))
    -- R 1: the row whose marks are all younger is evicted, and squashed from position 1
    ∷ tight (L 1 0 5 ++ L 2 0 6 ++ L 3 0 6)
    (three (asks (execute 2) (executed 16 0 none) ∷ asks (execute 1) (executed 16 0 none)
    ∷ asks (execute 0) (executed 15 0 (some 1))
    ∷ asks commit (committed 0 3 1 15 0) ∷ asks issue (named 0) ∷ asks (execute 0) (executed 16 0 none)
    ∷ asks commit (committed 1 3 2 16 0) ∷ []))
    -- a squash, and the issues after it; the first entry stays as it was
    ∷ usual (A 1 0 5 ++ A 2 0 6 ++ A 3 0 7 ++ A 4 0 8)
    (four (asks (execute 0) (executed 0 0 none) ∷ asks (execute 1) (executed 0 0 none) ∷ asks (squash 1) done
    ∷ asks (execute 0) (refused 8) ∷ asks (execute 1) (refused 7) ∷ asks issue (named 1) ∷ asks (execute 1) (executed 0 0 none)
    ∷ asks commit (committed 0 1 1 5 0) ∷ asks commit (committed 1 1 2 6 0) ∷ asks issue (named 0) ∷ asks (squash 0) done
    ∷ asks issue (named 0) ∷ asks (execute 0) (executed 0 0 none) ∷ asks commit (committed 2 1 3 7 0) ∷ []))
    -- finish stops at its limit; with fewer than five places left; at the program's end. The rest of the list is left.
    ∷ usual script
    (drains 0 (replicate 5 7) (finished 0) (replicate 5 7) ∷ asks commit (refused 11)
    ∷ drains 2 (replicate 16 7) (finished 2)
    (0 ∷ 1 ∷ 1 ∷ 5 ∷ 0 ∷ 1 ∷ 4 ∷ 3 ∷ 5 ∷ 0 ∷ 7 ∷ 7 ∷ 7 ∷ 7 ∷ 7 ∷ 7 ∷ [])
    ∷ asks commit (refused 11) ∷ asks issue (named 0)
    ∷ looks (0 ∷ 5 ∷ 0 ∷ 0 ∷ 0 ∷ 0 ∷ 0 ∷ 0 ∷ []) (10 ∷ 11 ∷ 12 ∷ 5 ∷ 14 ∷ 15 ∷ 16 ∷ 17 ∷ []) ∷ [])
    ∷ usual script
    (drains 9 (replicate 4 7) (finished 0) (replicate 4 7) ∷ asks commit (refused 11)
    ∷ drains 9 (replicate 5 7) (finished 1)
    (0 ∷ 1 ∷ 1 ∷ 5 ∷ 0 ∷ []) ∷ asks commit (refused 11)
    ∷ drains 9 (replicate 9 7) (finished 1)
    (1 ∷ 4 ∷ 3 ∷ 5 ∷ 0 ∷ 7 ∷ 7 ∷ 7 ∷ 7 ∷ []) ∷ asks commit (refused 11) ∷ [])
    ∷ usual script
    (drains 9 (replicate 17 7) (finished 3)
    (0 ∷ 1 ∷ 1 ∷ 5 ∷ 0 ∷ 1 ∷ 4 ∷ 3 ∷ 5 ∷ 0 ∷ 2 ∷ 3 ∷ 2 ∷ 5 ∷ 0 ∷ 7 ∷ 7 ∷ [])
    ∷ drains 1 (replicate 5 7) (finished 0) (replicate 5 7) ∷ asks issue (refused 6) ∷ asks commit (refused 11) ∷ [])
    ∷ usual [] (drains 1 (replicate 5 7) (finished 0) (replicate 5 7) ∷ [])
    -- the first three stops do nothing for the oldest, which waits on
    ∷ usual script
    (asks issue (named 0) ∷ drains 0 (replicate 5 7) (finished 0) (replicate 5 7)
    ∷ drains 1 (replicate 4 7) (finished 0) (replicate 4 7) ∷ asks commit (refused 12) ∷ [])
    -- a fault, of a store and of a load: the oldest stays, executed
    ∷ usual (A 1 0 5 ++ S 1 0 8 ++ A 2 0 1)
    (drains 9 (replicate 10 7) (finished 1)
    (0 ∷ 1 ∷ 1 ∷ 5 ∷ 0 ∷ 7 ∷ 7 ∷ 7 ∷ 7 ∷ 7 ∷ [])
    ∷ asks (execute 0) (refused 8) ∷ asks commit (refused 13) ∷ looks (0 ∷ 5 ∷ 0 ∷ 0 ∷ 0 ∷ 0 ∷ 0 ∷ 0 ∷ []) eight
    ∷ drains 9 (replicate 5 7) (finished 0) (replicate 5 7) ∷ asks issue (named 1) ∷ [])
    ∷ usual (L 1 0 8)
    (drains 9 (replicate 5 7) (finished 0) (replicate 5 7) ∷ asks (execute 0) (refused 8) ∷ asks commit (refused 13) ∷ [])
    -- Younger entries are live: one that went too early is squashed and issued again. Those that stay keep what they are.
    ∷ usual script
    (three (asks (execute 2) (executed 13 0 none)
    ∷ drains 9 (replicate 17 7) (finished 3)
    (0 ∷ 1 ∷ 1 ∷ 5 ∷ 0 ∷ 1 ∷ 4 ∷ 3 ∷ 5 ∷ 0 ∷ 2 ∷ 3 ∷ 2 ∷ 5 ∷ 0 ∷ 7 ∷ 7 ∷ []) ∷ []))
    ∷ usual (A 1 0 5 ++ A 2 0 6 ++ A 3 0 7)
    (three (asks (execute 1) (executed 0 0 none) ∷ drains 1 (replicate 7 7) (finished 1)
    (0 ∷ 1 ∷ 1 ∷ 5 ∷ 0 ∷ 7 ∷ 7 ∷ [])
    ∷ asks (execute 0) (refused 8) ∷ asks (execute 2) (refused 7) ∷ asks commit (committed 1 1 2 6 0) ∷ asks commit (refused 12)
    ∷ []))
    ∷ []

-- ---- B and H

-- an instruction alone: it executes, and its commit answers this
abbrev pub lone : List ℕ → Answer → Example
lone program answer =
    usual program (asks issue (named 0) ∷ asks (execute 0) (executed 0 0 none) ∷ asks commit answer ∷ [])

-- of two instructions the younger executes first, with this value; then the older squashes so
abbrev pub early : List ℕ → ℕ → Answer → Example
early program v answer = usual program (two (asks (execute 1) (executed v 0 none) ∷ asks (execute 0) answer ∷ []))

unfoldable pub parts : List Example
parts =
    -- "the low byte of register d", "its low 16 bits": lower byte numbers are the lower bits. The byte number and the whole
    -- word are recorded, and the word is written.
    usual
    (A 1 0 4042322160 ++ B 1 0 0 ++ B 1 0 1 ++ B 1 0 2 ++ B 1 0 3 ++ A 1 0 67305985 ++ B 1 0 0 ++ B 1 0 3 ++ H 1 0 4 ++ H 1 0 6)
    (drains 10 (replicate 50 7) (finished 10)
    (0 ∷ 1 ∷ 1 ∷ 4042322160 ∷ 0 ∷ 1 ∷ 5 ∷ 0 ∷ 240 ∷ 0 ∷ 2 ∷ 5 ∷ 1 ∷ 61680 ∷ 0 ∷ 3 ∷ 5 ∷ 2 ∷ 15790320 ∷ 0
    ∷ 4 ∷ 5 ∷ 3 ∷ 4042322160 ∷ 0 ∷ 5 ∷ 1 ∷ 1 ∷ 67305985 ∷ 0 ∷ 6 ∷ 5 ∷ 0 ∷ 4042321921 ∷ 0 ∷ 7 ∷ 5 ∷ 3 ∷ 32567297 ∷ 0
    ∷ 8 ∷ 6 ∷ 4 ∷ 513 ∷ 0 ∷ 9 ∷ 6 ∷ 6 ∷ 33620481 ∷ 0 ∷ [])
    ∷ looks (0 ∷ 67305985 ∷ 0 ∷ 0 ∷ 0 ∷ 0 ∷ 0 ∷ 0 ∷ []) (32567297 ∷ 33620481 ∷ 12 ∷ 13 ∷ 14 ∷ 15 ∷ 16 ∷ 17 ∷ []) ∷ [])
    -- the byte number is modulo 2 ^ 32
    ∷ usual (A 1 0 4294967295 ++ B 1 1 6)
    (drains 2 (replicate 10 7) (finished 2)
    (0 ∷ 1 ∷ 1 ∷ 4294967295 ∷ 0 ∷ 1 ∷ 5 ∷ 5 ∷ 65291 ∷ 0 ∷ []) ∷ [])
    -- It reads the word as a load does, here an older store's that is not in memory yet, and a younger load takes the whole
    -- word. Its executed answer's value is 0.
    ∷ usual (A 1 0 511 ++ S 0 0 2 ++ B 1 0 9 ++ L 2 0 2)
    (four (asks (execute 0) (executed 0 0 none) ∷ asks (execute 1) (executed 0 0 none) ∷ asks (execute 2) (executed 0 0 none)
    ∷ asks (execute 3) (executed 65280 1 none) ∷ looks (replicate 8 0) eight
    ∷ asks commit (committed 0 1 1 511 0) ∷ asks commit (committed 1 4 2 0 0) ∷ asks commit (committed 2 5 9 65280 0)
    ∷ asks commit (committed 3 3 2 65280 1)
    ∷ looks (0 ∷ 511 ∷ 65280 ∷ 0 ∷ 0 ∷ 0 ∷ 0 ∷ 0 ∷ []) (10 ∷ 11 ∷ 65280 ∷ 13 ∷ 14 ∷ 15 ∷ 16 ∷ 17 ∷ []) ∷ []))
    -- two side by side in one word, the younger after the older
    ∷ usual (A 1 0 511 ++ H 1 0 8 ++ H 1 0 10)
    (three (asks (execute 0) (executed 0 0 none) ∷ asks (execute 1) (executed 0 0 none) ∷ asks (execute 2) (executed 0 0 none)
    ∷ asks commit (committed 0 1 1 511 0) ∷ asks commit (committed 1 6 8 511 0) ∷ asks commit (committed 2 6 10 33489407 0) ∷ []))
    -- One that went before an older store to its word is squashed, and so is a load that went before one of these, unless the
    -- word stays what it took.
    ∷ early (S 0 0 2 ++ B 0 0 9) 0 (executed 0 0 (some 1)) ∷ early (S 0 0 2 ++ H 0 0 10) 0 (executed 0 0 (some 1))
    ∷ early (B 0 0 8 ++ B 0 0 9) 0 (executed 0 0 (some 1)) ∷ early (B 0 0 8 ++ H 0 0 8) 0 (executed 0 0 (some 1))
    ∷ early (H 0 0 8 ++ B 0 0 11) 0 (executed 0 0 (some 1)) ∷ early (H 0 0 8 ++ H 0 0 10) 0 (executed 0 0 (some 1))
    ∷ early (B 0 0 8 ++ L 1 0 2) 12 (executed 0 0 (some 1)) ∷ early (H 0 0 8 ++ L 1 0 2) 12 (executed 0 0 (some 1))
    ∷ early (B 0 0 9 ++ L 1 0 2) 12 (executed 0 0 none) ∷ early (H 0 0 10 ++ L 1 0 2) 12 (executed 0 0 none)
    ∷ early (B 0 0 9 ++ B 0 0 8) 0 (executed 0 0 none) ∷ early (H 0 0 10 ++ H 0 0 8) 0 (executed 0 0 none)
    -- not by the next word's, nor by a load; a store that is met first ends the walk
    ∷ early (S 0 0 1 ++ B 0 0 8) 0 (executed 0 0 none) ∷ early (B 0 0 7 ++ B 0 0 8) 0 (executed 0 0 none)
    ∷ early (L 1 0 2 ++ B 0 0 8) 0 (executed 12 0 none) ∷ early (B 0 0 8 ++ S 0 0 2) 0 (executed 0 0 none)
    ∷ usual (B 0 0 9 ++ S 0 0 2 ++ L 1 0 2)
    (three (asks (execute 1) (executed 0 0 none) ∷ asks (execute 2) (executed 0 1 none)
    ∷ asks (execute 0) (executed 0 0 none) ∷ []))
    -- 9: the writer of s and of d waits; they are nobody's writer
    ∷ usual (A 1 0 5 ++ B 0 1 0) (two (asks (execute 1) (refused 9) ∷ []))
    ∷ usual (A 1 0 5 ++ B 1 0 0) (two (asks (execute 1) (refused 9) ∷ []))
    ∷ usual (A 1 0 5 ++ H 0 1 0) (two (asks (execute 1) (refused 9) ∷ []))
    ∷ usual (A 1 0 5 ++ H 1 0 0) (two (asks (execute 1) (refused 9) ∷ []))
    ∷ usual (B 1 0 3 ++ A 2 1 0) (two (asks (execute 1) (executed 0 0 none) ∷ []))
    ∷ usual (H 1 0 3 ++ A 2 1 0) (two (asks (execute 1) (executed 0 0 none) ∷ []))
    -- rows go by the word: 10 at another word, none in the same one, and an eviction
    ∷ tight (B 0 0 20 ++ B 0 0 24) (two (asks (execute 0) (executed 0 0 none) ∷ asks (execute 1) (refused 10) ∷ []))
    ∷ tight (B 0 0 20 ++ H 0 0 22) (two (asks (execute 0) (executed 0 0 none) ∷ asks (execute 1) (executed 0 0 none) ∷ []))
    ∷ tight (B 0 0 21 ++ L 1 0 5) (two (asks (execute 0) (executed 0 0 none) ∷ asks (execute 1) (executed 15 1 none) ∷ []))
    ∷ tight (H 0 0 20 ++ L 1 0 6) (two (asks (execute 1) (executed 16 0 none) ∷ asks (execute 0) (executed 0 0 (some 1)) ∷ []))
    ∷ tight (L 1 0 6 ++ B 0 0 20) (two (asks (execute 1) (executed 0 0 none) ∷ asks (execute 0) (executed 16 0 (some 1)) ∷ []))
    -- "A fault is a word number of W or more": byte 31 is of the last of eight words, byte 32 is past it
    ∷ lone (B 1 0 31) (committed 0 5 31 17 0) ∷ lone (H 1 0 30) (committed 0 6 30 17 0)
    ∷ lone (B 1 0 32) (refused 13) ∷ lone (H 1 0 32) (refused 13)
    -- 14: an H at an odd byte number; 13 comes first; an odd B is fine
    ∷ lone (H 1 0 1) (refused 14) ∷ lone (H 1 0 3) (refused 14) ∷ lone (H 1 0 31) (refused 14) ∷ lone (H 1 0 33) (refused 13)
    ∷ lone (B 1 0 1) (committed 0 5 1 10 0)
    -- "executes as at the byte below": a younger load takes the word so made; finish stops there and leaves it executed
    ∷ usual (A 1 0 511 ++ H 1 0 5 ++ L 2 0 1)
    (three (asks (execute 0) (executed 0 0 none) ∷ asks (execute 1) (executed 0 0 none) ∷ asks (execute 2) (executed 511 1 none)
    ∷ drains 9 (replicate 10 7) (finished 1)
    (0 ∷ 1 ∷ 1 ∷ 511 ∷ 0 ∷ 7 ∷ 7 ∷ 7 ∷ 7 ∷ 7 ∷ [])
    ∷ asks commit (refused 14) ∷ looks (0 ∷ 511 ∷ 0 ∷ 0 ∷ 0 ∷ 0 ∷ 0 ∷ 0 ∷ []) eight ∷ []))
    ∷ usual (A 1 0 511 ++ H 1 0 7 ++ L 2 0 1)
    (drains 9 (replicate 10 7) (finished 1)
    (0 ∷ 1 ∷ 1 ∷ 511 ∷ 0 ∷ 7 ∷ 7 ∷ 7 ∷ 7 ∷ 7 ∷ [])
    ∷ asks (execute 0) (refused 8) ∷ asks commit (refused 14) ∷ asks issue (named 1)
    ∷ asks (execute 1) (executed 33488907 1 none) ∷ drains 9 (replicate 5 7) (finished 0) (replicate 5 7) ∷ [])
    -- 3 with 14, 4 with 14
    ∷ usual (H 1 0 1)
    (asks issue (named 0) ∷ asks (execute 0) (executed 0 0 none) ∷ lend (H 1 0 1) (replicate 9 0) ∷ asks commit (refused 3) ∷ [])
    ∷ row 1 1 1 8 (H 1 0 1) eight done
    (asks issue (named 0) ∷ asks (execute 0) (executed 0 0 none) ∷ lend (B 1 0 1) eight ∷ refuse 4 4 [])
    ∷ []

-- ---- how far the word came

-- six instructions in eight stages
abbrev pub six : List ℕ → List Step → Example
six program steps =
    row 1 4 8 8 program eight done (four (asks issue (named 4) ∷ asks issue (named 5) ∷ steps))

unfoldable pub distances : List Example
distances =
    -- 02's example: two stores to a word, and a load of each of two words
    six (A 1 0 5 ++ S 1 0 3 ++ A 2 0 6 ++ S 2 0 3 ++ L 3 0 3 ++ L 4 0 4)
    (asks (execute 0) (executed 0 0 none) ∷ asks (execute 1) (executed 0 0 none) ∷ asks (execute 2) (executed 0 0 none)
    ∷ asks (execute 3) (executed 0 0 none) ∷ asks (execute 4) (executed 6 1 none) ∷ asks (execute 5) (executed 14 0 none)
    ∷ drains 9 (replicate 30 7) (finished 6)
    (0 ∷ 1 ∷ 1 ∷ 5 ∷ 0 ∷ 1 ∷ 4 ∷ 3 ∷ 5 ∷ 0 ∷ 2 ∷ 1 ∷ 2 ∷ 6 ∷ 0 ∷ 3 ∷ 4 ∷ 3 ∷ 6 ∷ 0 ∷ 4 ∷ 3 ∷ 3 ∷ 6 ∷ 1 ∷ 5 ∷ 3 ∷ 4 ∷ 14 ∷ 0
    ∷ []) ∷ [])
    -- Every instruction counts: those without memory, those that wait, a load of the word, a store to another. The distance
    -- stays when the store commits.
    ∷ six (S 0 0 3 ++ A 1 0 1 ++ A 2 0 1 ++ L 3 0 3 ++ S 1 0 4 ++ L 4 0 3)
    (asks (execute 0) (executed 0 0 none) ∷ asks (execute 1) (executed 0 0 none) ∷ asks (execute 3) (executed 0 3 none)
    ∷ asks (execute 4) (executed 0 0 none) ∷ asks (execute 5) (executed 0 5 none) ∷ asks commit (committed 0 4 3 0 0)
    ∷ asks commit (committed 1 1 1 1 0) ∷ asks (execute 0) (executed 0 0 none) ∷ asks commit (committed 2 1 2 1 0)
    ∷ asks commit (committed 3 3 3 0 3) ∷ asks commit (committed 4 4 4 1 0) ∷ asks commit (committed 5 3 4 0 5) ∷ [])
    -- A store that waits is none: the older one's word is taken. Once it executes, the load is squashed and comes again, and its
    -- word is nearer.
    ∷ usual (A 1 0 5 ++ S 0 0 3 ++ S 1 0 3 ++ L 2 0 3)
    (four (asks (execute 1) (executed 0 0 none) ∷ asks (execute 3) (executed 0 2 none) ∷ asks (execute 0) (executed 0 0 none)
    ∷ asks (execute 2) (executed 0 0 (some 3)) ∷ asks issue (named 3) ∷ asks (execute 3) (executed 5 1 none)
    ∷ asks commit (committed 0 1 1 5 0) ∷ asks commit (committed 1 4 3 0 0) ∷ asks commit (committed 2 4 3 5 0)
    ∷ asks commit (committed 3 3 2 5 1) ∷ []))
    -- A younger store is none. A load that executes when its store has committed takes memory's word.
    ∷ usual (A 1 0 5 ++ S 1 0 3 ++ L 2 0 3 ++ S 0 0 3)
    (four (asks (execute 0) (executed 0 0 none) ∷ asks (execute 1) (executed 0 0 none) ∷ asks (execute 3) (executed 0 0 none)
    ∷ asks commit (committed 0 1 1 5 0) ∷ asks commit (committed 1 4 3 5 0) ∷ asks (execute 0) (executed 5 0 none)
    ∷ asks commit (committed 2 3 2 5 0) ∷ []))
    -- Positions, not stages: in three stages the fourth instruction has the first one's stage. Finish commits what executed
    -- before it with its distance, and executes the rest as the oldest.
    ∷ row 1 4 3 8 (A 1 0 5 ++ A 2 0 6 ++ S 1 0 3 ++ L 3 0 3 ++ L 4 0 3) eight done
    (drains 2 (replicate 10 7) (finished 2) (0 ∷ 1 ∷ 1 ∷ 5 ∷ 0 ∷ 1 ∷ 1 ∷ 2 ∷ 6 ∷ 0 ∷ [])
    ∷ three (asks (execute 0) (executed 0 0 none) ∷ asks (execute 2) (executed 5 2 none) ∷ asks (execute 1) (executed 5 1 none)
    ∷ asks (squash 2) done
    ∷ drains 9 (replicate 15 7) (finished 3) (2 ∷ 4 ∷ 3 ∷ 5 ∷ 0 ∷ 3 ∷ 3 ∷ 3 ∷ 5 ∷ 1 ∷ 4 ∷ 3 ∷ 4 ∷ 5 ∷ 0 ∷ []) ∷ []))
    -- a store of a part counts, by its word; of a part's own search nothing is answered or recorded
    ∷ usual (A 1 0 5 ++ B 1 0 12 ++ L 2 0 3 ++ H 1 0 14)
    (four (asks (execute 0) (executed 0 0 none) ∷ asks (execute 1) (executed 0 0 none) ∷ asks (execute 2) (executed 5 1 none)
    ∷ asks (execute 3) (executed 0 0 none) ∷ asks commit (committed 0 1 1 5 0) ∷ asks commit (committed 1 5 12 5 0)
    ∷ asks commit (committed 2 3 2 5 1) ∷ asks commit (committed 3 6 14 327685 0) ∷ []))
    -- a word number of W or more: 0 without an older store, else its word and distance; neither commits
    ∷ usual (A 1 0 5 ++ S 1 0 8 ++ L 2 0 8 ++ L 3 0 9)
    (four (asks (execute 0) (executed 0 0 none) ∷ asks (execute 1) (executed 0 0 none) ∷ asks (execute 2) (executed 5 1 none)
    ∷ asks (execute 3) (executed 0 0 none) ∷ asks commit (committed 0 1 1 5 0) ∷ asks commit (refused 13) ∷ []))
    -- whatever an entry holds, only a load commits with a distance
    ∷ usual (A 1 0 5) (asks issue (named 0)
    ∷ spoil 0 (record { instruction = Add 1 0 5; index = 0; fate = Executed 5 0; distance = 3 })
    ∷ asks commit (committed 0 1 1 5 0) ∷ [])
    ∷ usual (L 1 0 5) (asks issue (named 0)
    ∷ spoil 0 (record { instruction = Load 1 0 5; index = 0; fate = Executed 5 5; distance = 3 })
    ∷ asks commit (committed 0 3 1 5 3) ∷ [])
    ∷ []

-- ---- a store of the word already there

-- four instructions over a memory of zeros
abbrev pub zeros : List ℕ → List Step → Example
zeros program steps = row 1 4 4 8 program (replicate 8 0) done (four steps)

-- an entry of this instruction and index that holds 13 at this address; `spoil` has its load take 0
abbrev pub took13 : Instruction → ℕ → ℕ → Entry
took13 i index a = entry i index (Executed 13 a)

-- the third entry is such a one; the two before it execute, and the second squashes from here
abbrev pub misread : List ℕ → Instruction → ℕ → Option ℕ → Example
misread program i a gone =
    usual program
    (three (spoil 2 (took13 i 2 a) ∷ asks (execute 0) (executed 0 0 none) ∷ asks (execute 1) (executed 0 0 gone) ∷ []))

unfoldable pub same_words : List Example
same_words =
    -- The load took 13, and then the store of 13 executes: it is kept, and commits with the distance that it came.
    usual (A 1 0 13 ++ S 1 0 3 ++ L 2 0 3)
    (three (asks (execute 2) (executed 13 0 none) ∷ asks (execute 0) (executed 0 0 none) ∷ asks (execute 1) (executed 0 0 none)
    ∷ asks (execute 2) (refused 8) ∷ asks commit (committed 0 1 1 13 0) ∷ asks commit (committed 1 4 3 13 0)
    ∷ asks commit (committed 2 3 2 13 0) ∷ []))
    -- of another word: it is squashed
    ∷ usual (A 1 0 14 ++ S 1 0 3 ++ L 2 0 3)
    (three (asks (execute 2) (executed 13 0 none) ∷ asks (execute 0) (executed 0 0 none)
    ∷ asks (execute 1) (executed 0 0 (some 2)) ∷ []))
    -- It took its word from a store two positions older; a nearer one stores the same word, or another.
    ∷ zeros (A 1 0 7 ++ S 1 0 5 ++ S 1 0 5 ++ L 2 0 5)
    (asks (execute 0) (executed 0 0 none) ∷ asks (execute 1) (executed 0 0 none) ∷ asks (execute 3) (executed 7 2 none)
    ∷ asks (execute 2) (executed 0 0 none) ∷ asks commit (committed 0 1 1 7 0) ∷ asks commit (committed 1 4 5 7 0)
    ∷ asks commit (committed 2 4 5 7 0) ∷ asks commit (committed 3 3 2 7 2) ∷ [])
    ∷ zeros (A 1 0 7 ++ S 1 0 5 ++ S 0 0 5 ++ L 2 0 5)
    (asks (execute 0) (executed 0 0 none) ∷ asks (execute 1) (executed 0 0 none) ∷ asks (execute 3) (executed 7 2 none)
    ∷ asks (execute 2) (executed 0 0 (some 3)) ∷ asks commit (committed 0 1 1 7 0) ∷ asks commit (committed 1 4 5 7 0)
    ∷ asks commit (committed 2 4 5 0 0) ∷ asks issue (named 0) ∷ asks (execute 0) (executed 0 0 none)
    ∷ asks commit (committed 3 3 2 0 0) ∷ [])
    -- A byte's store is met by the word that it took, 0; a load behind it, which took the word that it made, is kept with it.
    ∷ zeros (A 1 0 1 ++ S 0 0 0 ++ B 1 0 1 ++ L 2 0 0)
    (asks (execute 0) (executed 0 0 none) ∷ asks (execute 2) (executed 0 0 none) ∷ asks (execute 3) (executed 256 1 none)
    ∷ asks (execute 1) (executed 0 0 none) ∷ asks commit (committed 0 1 1 1 0) ∷ asks commit (committed 1 4 0 0 0)
    ∷ asks commit (committed 2 5 1 256 0) ∷ asks commit (committed 3 3 2 256 1)
    ∷ looks (0 ∷ 1 ∷ 256 ∷ 0 ∷ 0 ∷ 0 ∷ 0 ∷ 0 ∷ []) (256 ∷ replicate 7 0) ∷ [])
    -- It is not met by the word that it made.
    ∷ zeros (A 1 0 256 ++ A 2 0 1 ++ S 1 0 0 ++ B 2 0 1)
    (asks (execute 0) (executed 0 0 none) ∷ asks (execute 1) (executed 0 0 none) ∷ asks (execute 3) (executed 0 0 none)
    ∷ asks (execute 2) (executed 0 0 (some 3)) ∷ [])
    -- A half word that leaves the word as it was, of a larger register.
    ∷ zeros (A 1 0 65536 ++ H 1 0 14 ++ L 2 0 3 ++ H 1 0 12)
    (asks (execute 2) (executed 0 0 none) ∷ asks (execute 0) (executed 0 0 none) ∷ asks (execute 3) (executed 0 0 none)
    ∷ asks (execute 1) (executed 0 0 none) ∷ asks commit (committed 0 1 1 65536 0) ∷ asks commit (committed 1 6 14 0 0)
    ∷ asks commit (committed 2 3 2 0 0) ∷ asks commit (committed 3 6 12 0 0) ∷ [])
    -- A finish executes the store: the load stays as it was, and commits without executing again.
    ∷ usual (A 1 0 13 ++ S 1 0 3 ++ L 2 0 3)
    (three (asks (execute 2) (executed 13 0 none)
    ∷ drains 2 (replicate 10 7) (finished 2) (0 ∷ 1 ∷ 1 ∷ 13 ∷ 0 ∷ 1 ∷ 4 ∷ 3 ∷ 13 ∷ 0 ∷ [])
    ∷ asks (execute 0) (refused 8) ∷ asks commit (committed 2 3 2 13 0) ∷ []))
    -- The table's word decides, not the entry's value, not memory's and not the one that the store sees. Here the entry holds 13,
    -- as memory does, and the table 0: of a load and of a part's store, met by a word and by a part.
    ∷ misread (A 1 0 13 ++ S 1 0 3 ++ L 2 0 3) (Load 2 0 3) 3 (some 2)
    ∷ misread (A 1 0 0 ++ S 1 0 3 ++ L 2 0 3) (Load 2 0 3) 3 none
    ∷ misread (A 1 0 13 ++ S 1 0 3 ++ B 2 0 12) (Byte 2 0 12) 12 (some 2)
    ∷ misread (A 1 0 0 ++ S 1 0 3 ++ H 2 0 12) (Half 2 0 12) 12 none
    ∷ misread (A 1 0 0 ++ B 1 0 12 ++ L 2 0 3) (Load 2 0 3) 3 none
    ∷ misread (A 1 0 13 ++ H 1 0 12 ++ L 2 0 3) (Load 2 0 3) 3 (some 2)
    -- The walk ends at a load with the word stored, though a load behind it took another.
    ∷ usual (S 0 0 3 ++ L 1 0 3 ++ L 2 0 3)
    (three (asks (execute 2) (executed 13 0 none)
    ∷ spoil 1 (took13 (Load 1 0 3) 1 3)
    ∷ asks (execute 0) (executed 0 0 none) ∷ []))
    ∷ []

-- ---- issue numbers
unfoldable pub numberings : List Example
numberings =
    -- Each issue takes the next number. No other call and no refusal moves it, and a squashed one's number is not taken again.
    usual (A 1 0 5 ++ A 2 0 6 ++ A 3 0 7)
    (numbers 0 [] ∷ three (numbers 3 (0 ∷ 1 ∷ 2 ∷ []) ∷ asks (execute 0) (executed 0 0 none) ∷ asks (execute 3) (refused 7)
    ∷ numbers 3 (0 ∷ 1 ∷ 2 ∷ []) ∷ asks (squash 1) done ∷ numbers 3 (0 ∷ []) ∷ asks issue (named 1) ∷ numbers 4 (0 ∷ 3 ∷ [])
    ∷ asks commit (committed 0 1 1 5 0) ∷ numbers 4 (3 ∷ [])
    -- a finish issues the last one
    ∷ drains 9 (replicate 10 7) (finished 2) (1 ∷ 1 ∷ 2 ∷ 6 ∷ 0 ∷ 2 ∷ 1 ∷ 3 ∷ 7 ∷ 0 ∷ []) ∷ numbers 5 []
    ∷ asks issue (refused 6) ∷ numbers 5 [] ∷ []))
    -- an execution squashes, as a call and in a finish, which issues again
    ∷ usual script
    (three (asks (execute 2) (executed 13 0 none) ∷ asks (execute 0) (executed 0 0 none)
    ∷ asks (execute 1) (executed 0 0 (some 2)) ∷ numbers 3 (0 ∷ 1 ∷ []) ∷ asks issue (named 2) ∷ numbers 4 (0 ∷ 1 ∷ 3 ∷ []) ∷ []))
    ∷ usual script
    (three (asks (execute 2) (executed 13 0 none)
    ∷ drains 2 (replicate 10 7) (finished 2) (0 ∷ 1 ∷ 1 ∷ 5 ∷ 0 ∷ 1 ∷ 4 ∷ 3 ∷ 5 ∷ 0 ∷ []) ∷ numbers 3 []
    ∷ drains 1 (replicate 5 7) (finished 1) (2 ∷ 3 ∷ 2 ∷ 5 ∷ 0 ∷ []) ∷ numbers 4 [] ∷ []))
    -- it wraps from 4,294,967,295 to 0, in an issue and in a finish
    ∷ usual (A 1 0 5 ++ A 2 0 6) (renumber 4294967295 ∷ two (numbers 1 (4294967295 ∷ 0 ∷ []) ∷ []))
    ∷ usual (A 1 0 5)
    (renumber 4294967295 ∷ drains 1 (replicate 5 7) (finished 1) (0 ∷ 1 ∷ 1 ∷ 5 ∷ 0 ∷ []) ∷ numbers 0 [] ∷ [])
    ∷ []

-- ---- damaged machines that 2 lets pass
unfoldable pub damaged : List Example
damaged =
    -- Table and entry hold different words of a store: a load takes the table's and a commit writes it, but answers the entry's
    -- value; so in a finish, and of stores of a part.
    usual (A 1 0 5 ++ S 1 0 3 ++ L 2 0 3)
    (three (asks (execute 0) (executed 0 0 none) ∷ asks (execute 1) (executed 0 0 none) ∷ refile 1 (stored 3 9)
    ∷ asks (execute 2) (executed 9 1 none) ∷ asks commit (committed 0 1 1 5 0) ∷ asks commit (committed 1 4 3 5 0)
    ∷ looks (0 ∷ 5 ∷ 0 ∷ 0 ∷ 0 ∷ 0 ∷ 0 ∷ 0 ∷ []) (10 ∷ 11 ∷ 12 ∷ 9 ∷ 14 ∷ 15 ∷ 16 ∷ 17 ∷ []) ∷ []))
    ∷ usual (A 1 0 5 ++ S 1 0 3)
    (two (asks (execute 0) (executed 0 0 none) ∷ asks (execute 1) (executed 0 0 none) ∷ refile 1 (stored 3 9)
    ∷ drains 2 (replicate 10 7) (finished 2) (0 ∷ 1 ∷ 1 ∷ 5 ∷ 0 ∷ 1 ∷ 4 ∷ 3 ∷ 5 ∷ 0 ∷ [])
    ∷ looks (0 ∷ 5 ∷ 0 ∷ 0 ∷ 0 ∷ 0 ∷ 0 ∷ 0 ∷ []) (10 ∷ 11 ∷ 12 ∷ 9 ∷ 14 ∷ 15 ∷ 16 ∷ 17 ∷ []) ∷ []))
    ∷ usual (B 0 0 12 ++ H 0 0 16)
    (two (asks (execute 0) (executed 0 0 none) ∷ asks (execute 1) (executed 0 0 none) ∷ refile 0 (merged 3 13 9)
    ∷ refile 1 (merged 4 14 8) ∷ asks commit (committed 0 5 12 0 0) ∷ asks commit (committed 1 6 16 0 0)
    ∷ looks (replicate 8 0) (10 ∷ 11 ∷ 12 ∷ 9 ∷ 8 ∷ 15 ∷ 16 ∷ 17 ∷ []) ∷ []))
    -- of a load: an operand is the entry's value, and so are the commit's and the register's
    ∷ usual (L 1 0 3 ++ A 2 1 0)
    (two (asks (execute 0) (executed 13 0 none) ∷ refile 0 (loaded 3 9) ∷ asks (execute 1) (executed 0 0 none)
    ∷ asks commit (committed 0 3 1 13 0) ∷ asks commit (committed 1 1 2 13 0)
    ∷ looks (0 ∷ 13 ∷ 13 ∷ 0 ∷ 0 ∷ 0 ∷ 0 ∷ 0 ∷ []) eight ∷ []))
    -- Indices that do not follow one another: after a squash the next issue is the first squashed instruction, after a called
    -- one, one of an execution and one in a finish.
    ∷ usual (A 1 0 5 ++ A 1 0 5 ++ A 1 0 5 ++ A 1 0 5)
    (three (spoil 1 (entry (Add 1 0 5) 3 Waiting) ∷ asks (squash 1) done ∷ asks issue (named 1) ∷ asks issue (refused 6)
    ∷ asks (execute 0) (executed 0 0 none) ∷ asks (execute 1) (executed 0 0 none) ∷ asks commit (committed 0 1 1 5 0)
    ∷ asks commit (committed 3 1 1 5 0) ∷ []))
    ∷ usual (S 0 0 3 ++ L 1 0 3 ++ L 1 0 3 ++ L 1 0 3)
    (three (spoil 1 (entry (Load 1 0 3) 3 Waiting) ∷ asks (execute 1) (executed 13 0 none)
    ∷ asks (execute 0) (executed 0 0 (some 1)) ∷ asks issue (named 1) ∷ asks issue (refused 6)
    ∷ asks (execute 1) (executed 0 1 none) ∷ asks commit (committed 0 4 3 0 0) ∷ asks commit (committed 3 3 1 0 1) ∷ []))
    ∷ usual (S 0 0 3 ++ L 1 0 3 ++ L 1 0 3 ++ L 1 0 3)
    (three (spoil 1 (entry (Load 1 0 3) 3 Waiting) ∷ asks (execute 1) (executed 13 0 none)
    ∷ drains 9 (replicate 15 7) (finished 2) (0 ∷ 4 ∷ 3 ∷ 0 ∷ 0 ∷ 3 ∷ 3 ∷ 1 ∷ 0 ∷ 0 ∷ 7 ∷ 7 ∷ 7 ∷ 7 ∷ 7 ∷ []) ∷ []))
    -- and the next instruction stays where nothing is squashed
    ∷ usual (A 1 0 5 ++ A 1 0 5 ++ A 1 0 5 ++ A 1 0 5)
    (two (spoil 1 (entry (Add 1 0 5) 3 Waiting) ∷ asks (execute 1) (executed 0 0 none) ∷ asks issue (named 2)
    ∷ asks (execute 2) (executed 0 0 none) ∷ asks (execute 0) (executed 0 0 none) ∷ asks commit (committed 0 1 1 5 0)
    ∷ asks commit (committed 3 1 1 5 0) ∷ asks commit (committed 2 1 1 5 0) ∷ []))
    ∷ []

-- the whole table, the longest program first
abbrev pub shorter : List Example
shorter = openings ++ refusals ++ unlikes ++ runs ++ parts ++ distances ++ same_words ++ numberings ++ damaged

abbrev pub examples : List Example
examples = longest ∷ shorter
