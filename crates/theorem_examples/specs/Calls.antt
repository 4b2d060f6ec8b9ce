-- Examples of lists of calls on an opened machine: what they answer, their record and what is needed next, as a table;
-- proofs/Cases.antt shows that every row comes out. The theorem compares the run with the machine: a mistake made in both alike
-- shows here.
-- Assumes nothing.
use Rattle.std.specs.Prelude.{Bool, true, false, List, [], ◌∷◌, ◌++◌, ℕ, length, replicate}
use Rattle.std.proofs.Math.Option.{none, some}
use Rattle.engine.specs.Contract.{refused, named, executed, done, committed, finished}
use Rattle.machine_model.specs.Calls.{banked, buffered, Call, issue, execute, squash, commit, finish, Answer, opened}
use Rattle.sequential.specs.Play.{play, start, answers_of, all_accepted}
use Rattle.theorem.specs.Truth.{next}
use Rattle.sequential.specs.Examples.{five, A, L, S, B, H, bytes, mixed, mixed_commits, laid, laid_commits}

-- what calls come to: their answers, whether none was refused, the record, the number of commits and the calls needed next
pub record PlayOutcome : Type 0 where
  pub answers : List Answer
  pub accepted : Bool
  pub record' : List ℕ
  pub commits : ℕ
  pub needs : List Call

pub record PlayExample : Type 0 where
  pub program : List ℕ
  pub memory : List ℕ
  pub calls : List Call
  pub outcome : PlayOutcome

-- what a row's calls come to after an opening with one bank, four rows, four stages and as many words as the memory has
abbrev pub played_to : PlayExample → PlayOutcome
played_to e =
    let x = start (opened (banked 1 4 4 (length e.memory)) e.program) e.memory in
    let y = play buffered e.program x e.calls in
    record {
      answers = answers_of buffered e.program x e.calls;
      accepted = all_accepted buffered e.program x e.calls;
      record' = y.record';
      commits = y.commits;
      needs = next e.program y;
    }

-- program, memory and calls; then what they come to
abbrev pub called : List ℕ → List ℕ → List Call → List Answer → Bool → List ℕ → ℕ → List Call → PlayExample
called program memory calls answers accepted numbers commits needs =
    record {
      program = program;
      memory = memory;
      calls = calls;
      outcome = record { answers = answers; accepted = accepted; record' = numbers; commits = commits; needs = needs };
    }

-- of the program of 01's script: r1 becomes 5, it is stored at 3, and r2 loads 3, from eight words of 0
abbrev pub played : List Call → List Answer → Bool → List ℕ → ℕ → List Call → PlayExample
played = called (A 1 0 5 ++ S 1 0 3 ++ L 2 0 3) (replicate 8 0)

unfoldable pub call_table : List PlayExample
call_table =
    -- The empty list. With nothing live the next instruction is issued, executed and committed.
    played [] [] true [] 0 (issue ∷ execute 0 ∷ commit ∷ [])
    -- An oldest that waits is executed and committed; one that has executed is committed.
    ∷ played (issue ∷ []) (named 0 ∷ []) true [] 0 (execute 0 ∷ commit ∷ [])
    ∷ played (issue ∷ execute 0 ∷ []) (named 0 ∷ executed 0 0 none ∷ []) true [] 0 (commit ∷ [])
    ∷ played (issue ∷ issue ∷ execute 0 ∷ commit ∷ []) (named 0 ∷ named 1 ∷ executed 0 0 none ∷ committed 0 1 1 5 0 ∷ []) true
    (five 0 1 1 5 0) 1 (execute 0 ∷ commit ∷ [])
    -- A squash commits nothing; after it the first squashed instruction is issued again.
    ∷ played (issue ∷ squash 0 ∷ issue ∷ execute 0 ∷ commit ∷ [])
    (named 0 ∷ done ∷ named 0 ∷ executed 0 0 none ∷ committed 0 1 1 5 0 ∷ []) true (five 0 1 1 5 0) 1
    (issue ∷ execute 0 ∷ commit ∷ [])
    -- Refused calls add nothing, and one among others is seen wherever it stands.
    ∷ played (commit ∷ []) (refused 11 ∷ []) false [] 0 (issue ∷ execute 0 ∷ commit ∷ [])
    ∷ played (issue ∷ commit ∷ execute 0 ∷ []) (named 0 ∷ refused 12 ∷ executed 0 0 none ∷ []) false [] 0 (commit ∷ [])
    -- 01's steps. The load goes before the store, is squashed by it, and goes again.
    ∷ played
    (issue ∷ issue ∷ issue ∷ execute 2 ∷ execute 0 ∷ execute 1 ∷ commit ∷ commit ∷ issue ∷ execute 0 ∷ commit ∷ [])
    (named 0 ∷ named 1 ∷ named 2 ∷ executed 0 0 none ∷ executed 0 0 none ∷ executed 0 0 (some 2) ∷ committed 0 1 1 5 0
    ∷ committed 1 4 3 5 0 ∷ named 0 ∷ executed 5 0 none ∷ committed 2 3 2 5 0 ∷ [])
    true (five 0 1 1 5 0 ++ five 1 4 3 5 0 ++ five 2 3 2 5 0) 3 (issue ∷ execute 0 ∷ commit ∷ [])
    -- The load executes with its store at the position before it. It keeps this distance when the store has committed.
    ∷ played (issue ∷ issue ∷ issue ∷ execute 0 ∷ execute 1 ∷ execute 2 ∷ commit ∷ commit ∷ commit ∷ [])
    (named 0 ∷ named 1 ∷ named 2 ∷ executed 0 0 none ∷ executed 0 0 none ∷ executed 5 1 none ∷ committed 0 1 1 5 0
    ∷ committed 1 4 3 5 0 ∷ committed 2 3 2 5 1 ∷ [])
    true (five 0 1 1 5 0 ++ five 1 4 3 5 0 ++ five 2 3 2 5 1) 3 (issue ∷ execute 0 ∷ commit ∷ [])
    -- Every instruction between them counts. A finish records the distance that it finds, also of a store that has committed,
    -- and 0 of a load that it executes itself.
    ∷ called (A 1 0 5 ++ S 1 0 3 ++ A 2 0 6 ++ L 3 0 3 ++ L 4 0 3) (replicate 8 0)
    (issue ∷ issue ∷ issue ∷ issue ∷ execute 0 ∷ execute 1 ∷ execute 3 ∷ commit ∷ commit ∷ finish 9 (replicate 17 7) ∷ [])
    (named 0 ∷ named 1 ∷ named 2 ∷ named 3 ∷ executed 0 0 none ∷ executed 0 0 none ∷ executed 5 2 none ∷ committed 0 1 1 5 0
    ∷ committed 1 4 3 5 0 ∷ finished 3 ∷ [])
    true (five 0 1 1 5 0 ++ five 1 4 3 5 0 ++ five 2 1 2 6 0 ++ five 3 3 3 5 2 ++ five 4 3 4 5 0) 5
    (issue ∷ execute 0 ∷ commit ∷ [])
    -- A finish counts for what it answers. Of its list, here places with 7 in each, only that many commits are recorded.
    ∷ played (finish 0 (replicate 10 7) ∷ []) (finished 0 ∷ []) true [] 0 (issue ∷ execute 0 ∷ commit ∷ [])
    ∷ played (finish 1 (replicate 10 7) ∷ []) (finished 1 ∷ []) true (five 0 1 1 5 0) 1 (issue ∷ execute 0 ∷ commit ∷ [])
    -- Each takes five places: none in four, one in five and in nine, two in ten.
    ∷ played (finish 9 (replicate 4 7) ∷ []) (finished 0 ∷ []) true [] 0 (issue ∷ execute 0 ∷ commit ∷ [])
    ∷ played (finish 9 (replicate 5 7) ∷ []) (finished 1 ∷ []) true (five 0 1 1 5 0) 1 (issue ∷ execute 0 ∷ commit ∷ [])
    ∷ played (finish 9 (replicate 9 7) ∷ []) (finished 1 ∷ []) true (five 0 1 1 5 0) 1 (issue ∷ execute 0 ∷ commit ∷ [])
    ∷ played (finish 9 (replicate 10 7) ∷ []) (finished 2 ∷ []) true (five 0 1 1 5 0 ++ five 1 4 3 5 0) 2
    (issue ∷ execute 0 ∷ commit ∷ [])
    -- Commits and finishes in one list, a squash and a refusal among them.
    ∷ played
    (issue ∷ execute 0 ∷ commit ∷ issue ∷ issue ∷ squash 0 ∷ finish 1 (replicate 5 7) ∷ commit ∷ finish 9 (replicate 99 7) ∷ [])
    (named 0 ∷ executed 0 0 none ∷ committed 0 1 1 5 0 ∷ named 0 ∷ named 1 ∷ done ∷ finished 1 ∷ refused 11 ∷ finished 1 ∷ [])
    false (five 0 1 1 5 0 ++ five 1 4 3 5 0 ++ five 2 3 2 5 0) 3 (issue ∷ execute 0 ∷ commit ∷ [])
    -- A fault stops a finish, and leaves the oldest executed; its commit is refused.
    ∷ called (A 1 0 2 ++ L 2 1 0) (4 ∷ 5 ∷ []) (finish 5 (replicate 99 7) ∷ commit ∷ []) (finished 1 ∷ refused 13 ∷ []) false
    (five 0 1 1 2 0) 1 (commit ∷ [])
    -- Two bytes of one word, the younger first: it is squashed by the older, and its store goes again.
    ∷ called (A 1 0 255 ++ B 1 0 0 ++ B 1 0 1) (replicate 8 0)
    (issue ∷ issue ∷ issue ∷ execute 0 ∷ execute 2 ∷ execute 1 ∷ commit ∷ commit ∷ commit ∷ finish 1 (replicate 5 7) ∷ [])
    (named 0 ∷ named 1 ∷ named 2 ∷ executed 0 0 none ∷ executed 0 0 none ∷ executed 0 0 (some 2) ∷ committed 0 1 1 255 0
    ∷ committed 1 5 0 255 0 ∷ refused 11 ∷ finished 1 ∷ [])
    false (five 0 1 1 255 0 ++ five 1 5 0 255 0 ++ five 2 5 1 65535 0) 3 (issue ∷ execute 0 ∷ commit ∷ [])
    -- Out of order, with a squash by each part, and by a finish alone the record is the same.
    ∷ called mixed (0 ∷ [])
    (issue ∷ issue ∷ issue ∷ issue ∷ execute 0 ∷ execute 3 ∷ execute 2 ∷ execute 1 ∷ commit ∷ commit ∷ issue ∷ execute 0
    ∷ finish 9 (replicate 26 7) ∷ [])
    (named 0 ∷ named 1 ∷ named 2 ∷ named 3 ∷ executed 0 0 none ∷ executed 0 0 none ∷ executed 0 0 (some 3) ∷ executed 0 0 (some 2)
    ∷ committed 0 1 1 511 0 ∷ committed 1 5 3 (bytes 0 0 0 255) 0 ∷ named 0 ∷ executed 0 0 none ∷ finished 3 ∷ [])
    true mixed_commits 5 (issue ∷ execute 0 ∷ commit ∷ [])
    ∷ called mixed (0 ∷ []) (finish 9 (replicate 26 7) ∷ []) (finished 5 ∷ []) true mixed_commits 5
    (issue ∷ execute 0 ∷ commit ∷ [])
    -- A load goes before a part that leaves its word as it was, and is kept; the part went before a store of another word, and is
    -- squashed by that.
    ∷ called laid (0 ∷ [])
    (issue ∷ issue ∷ issue ∷ issue ∷ execute 0 ∷ execute 3 ∷ execute 2 ∷ execute 1 ∷ commit ∷ commit ∷ issue ∷ execute 0
    ∷ commit ∷ issue ∷ execute 0 ∷ commit ∷ [])
    (named 0 ∷ named 1 ∷ named 2 ∷ named 3 ∷ executed 0 0 none ∷ executed 0 0 none ∷ executed 0 0 none
    ∷ executed 0 0 (some 2) ∷ committed 0 1 1 511 0 ∷ committed 1 4 0 511 0 ∷ named 0 ∷ executed 0 0 none ∷ committed 2 5 0 256 0
    ∷ named 0 ∷ executed 256 0 none ∷ committed 3 3 2 256 0 ∷ [])
    true laid_commits 4 (issue ∷ execute 0 ∷ commit ∷ [])
    -- A part and a load take the words of older parts that are not in memory yet; nothing is squashed.
    ∷ called (B 0 0 3 ++ L 1 0 0 ++ B 0 0 4) (replicate 8 0)
    (issue ∷ issue ∷ issue ∷ execute 0 ∷ execute 1 ∷ execute 2 ∷ commit ∷ commit ∷ [])
    (named 0 ∷ named 1 ∷ named 2 ∷ executed 0 0 none ∷ executed 0 1 none ∷ executed 0 0 none ∷ committed 0 5 3 0 0
    ∷ committed 1 3 1 0 1 ∷ [])
    true (five 0 5 3 0 0 ++ five 1 3 1 0 1) 2 (commit ∷ [])
    -- A load is kept by a store of the word that it took, and commits with the distance that it came.
    ∷ called (A 1 0 7 ++ S 1 0 5 ++ S 1 0 5 ++ L 2 0 5) (replicate 8 0)
    (issue ∷ issue ∷ issue ∷ issue ∷ execute 0 ∷ execute 1 ∷ execute 3 ∷ execute 2 ∷ commit ∷ commit ∷ commit ∷ commit ∷ [])
    (named 0 ∷ named 1 ∷ named 2 ∷ named 3 ∷ executed 0 0 none ∷ executed 0 0 none ∷ executed 7 2 none ∷ executed 0 0 none
    ∷ committed 0 1 1 7 0 ∷ committed 1 4 5 7 0 ∷ committed 2 4 5 7 0 ∷ committed 3 3 2 7 2 ∷ [])
    true (five 0 1 1 7 0 ++ five 1 4 5 7 0 ++ five 2 4 5 7 0 ++ five 3 3 2 7 2) 4 (issue ∷ execute 0 ∷ commit ∷ [])
    -- A part's store is kept by a store of the word that it took, and with it a load of the word that it made.
    ∷ called (A 1 0 1 ++ S 0 0 0 ++ B 1 0 1 ++ L 2 0 0) (replicate 8 0)
    (issue ∷ issue ∷ issue ∷ issue ∷ execute 0 ∷ execute 2 ∷ execute 3 ∷ execute 1 ∷ commit ∷ commit ∷ commit ∷ commit ∷ [])
    (named 0 ∷ named 1 ∷ named 2 ∷ named 3 ∷ executed 0 0 none ∷ executed 0 0 none ∷ executed 256 1 none ∷ executed 0 0 none
    ∷ committed 0 1 1 1 0 ∷ committed 1 4 0 0 0 ∷ committed 2 5 1 256 0 ∷ committed 3 3 2 256 1 ∷ [])
    true (five 0 1 1 1 0 ++ five 1 4 0 0 0 ++ five 2 5 1 256 0 ++ five 3 3 2 256 1) 4 (issue ∷ execute 0 ∷ commit ∷ [])
    -- A part at 4W stops a finish; one at 4W - 1 does not.
    ∷ called (A 1 0 7 ++ B 1 0 7 ++ B 1 0 8) (0 ∷ 0 ∷ []) (finish 9 (replicate 99 7) ∷ commit ∷ []) (finished 2 ∷ refused 13 ∷ [])
    false (five 0 1 1 7 0 ++ five 1 5 7 (bytes 0 0 0 7) 0) 2 (commit ∷ [])
    -- An H at an odd byte number executes, and a load takes the word; no commit and no finish takes it further.
    ∷ called (A 1 0 7 ++ H 1 0 5 ++ L 2 0 1) (0 ∷ 0 ∷ [])
    (issue ∷ issue ∷ execute 0 ∷ commit ∷ issue ∷ execute 0 ∷ execute 1 ∷ commit ∷ commit ∷ finish 3 (replicate 99 7) ∷ [])
    (named 0 ∷ named 1 ∷ executed 0 0 none ∷ committed 0 1 1 7 0 ∷ named 1 ∷ executed 0 0 none ∷ executed 7 1 none ∷ refused 14
    ∷ refused 14 ∷ finished 0 ∷ [])
    false (five 0 1 1 7 0) 1 (commit ∷ [])
    ∷ []
