-- The limits and the refusals as rows of examples: every limit of an opening at its edge and one past it, every number of every
-- call, and every two conditions of a call that can hold at once. (2 is specs/Damaged.antt's, but for a refused opening.)
-- Assumes nothing.
use Rattle.std.specs.Prelude.{List, [], ◌∷◌, ◌++◌, map, ℕ, suc, replicate}
use Rattle.std.proofs.Math.Option.{none, some}
use Rattle.table.specs.View.{tabulate}
use Rattle.engine.specs.declared.Part.TheVariants.{Byte, Half}
use Rattle.engine.specs.Contract.{refused, done, named, executed}
use Rattle.buffer_model.specs.Answers.{Answer}
use Rattle.buffer_model.specs.Calls.{issue, execute_load, execute_store, execute_part, execute_other, squash, commit}
use Rattle.buffer_model.specs.Examples.{Turn, call, call_on, Example, τ}

-- sizes, the words of a memory of zeros, the calls and the answers
abbrev pub row : ℕ → ℕ → ℕ → ℕ → ℕ → List Turn → List Answer → Example
row B R n W lent turns answers =
    record { banks = B; rows = R; stages = n; words = W; memory = replicate lent 0; turns = turns; answers = answers }

-- an opening alone
abbrev pub opens : ℕ → ℕ → ℕ → ℕ → ℕ → Answer → Example
opens B R n W lent answer = row B R n W lent [] (answer ∷ [])

-- the answers of k issues on an opened table
abbrev pub first_tickets : ℕ → List Answer
first_tickets = tabulate (λ (p : ℕ). named (τ p p))

-- one word more or fewer than a memory of 8 words
abbrev pub short : List ℕ
short = replicate 7 0

abbrev pub long : List ℕ
long = replicate 9 0

unfoldable pub openings : List Example
openings =
    -- B is 1, 2, 4 or 8.
    opens 0 1 1 1 1 (refused 1) ∷ opens 1 1 1 1 1 done ∷ opens 2 1 1 1 1 done ∷ opens 3 1 1 1 1 (refused 1)
    ∷ opens 4 1 1 1 1 done ∷ opens 5 1 1 1 1 (refused 1) ∷ opens 6 1 1 1 1 (refused 1) ∷ opens 7 1 1 1 1 (refused 1)
    ∷ opens 8 1 1 1 1 done ∷ opens 9 1 1 1 1 (refused 1) ∷ opens 16 1 1 1 1 (refused 1)
    -- R is 1 to 8.
    ∷ opens 1 0 1 1 1 (refused 1) ∷ opens 1 8 1 1 1 done ∷ opens 1 9 1 1 1 (refused 1)
    -- n is 1 to 16.
    ∷ opens 1 1 0 1 1 (refused 1) ∷ opens 1 1 16 1 1 done ∷ opens 1 1 17 1 1 (refused 1)
    -- W is 1 to 4,096.
    ∷ opens 1 1 1 0 0 (refused 1) ∷ opens 1 1 1 4096 4096 done ∷ opens 1 1 1 4097 4097 (refused 1)
    -- Memory length is not W.
    ∷ opens 1 1 1 1 0 (refused 3) ∷ opens 1 1 1 1 2 (refused 3)
    ∷ opens 8 8 16 4096 4095 (refused 3) ∷ opens 8 8 16 4096 4097 (refused 3)
    -- 1 and 3 at once: 1.
    ∷ opens 3 1 1 1 0 (refused 1) ∷ opens 1 0 1 1 2 (refused 1) ∷ opens 1 1 17 1 2 (refused 1) ∷ opens 1 1 1 0 1 (refused 1)
    ∷ opens 1 1 1 4097 4096 (refused 1)
    -- The table of a refused opening breaks the rules: 2.
    ∷ row 1 1 1 1 0
    (map call (issue ∷ execute_load (τ 0 0) 0 ∷ execute_part (τ 0 0) Half 0 0 ∷ squash (τ 0 0) ∷ commit ∷ []))
    (refused 3 ∷ replicate 5 (refused 2))
    ∷ []

unfoldable pub calls : List Example
calls =
    -- 5: one stage; issue numbers go on from one holder of a stage to the next.
    row 1 1 1 1 1
    (map call (issue ∷ issue ∷ execute_other (τ 0 0) ∷ commit ∷ issue ∷ squash (τ 0 1) ∷ issue ∷ issue ∷ []))
    (done ∷ named (τ 0 0) ∷ refused 5 ∷ executed 0 0 none ∷ named (τ 0 0) ∷ named (τ 0 1) ∷ done ∷ named (τ 0 2) ∷ refused 5 ∷ [])
    -- 5: sixteen stages take sixteen references. After a commit the next goes to the first stage, past the last.
    ∷ row 1 1 16 1 1
    (map call (replicate 17 issue ++ (execute_other (τ 0 0) ∷ commit ∷ issue ∷ issue ∷ squash (τ 15 15) ∷ issue ∷ [])))
    (done ∷ first_tickets 16
    ++ (refused 5 ∷ executed 0 0 none ∷ named (τ 0 0) ∷ named (τ 0 16) ∷ refused 5 ∷ done ∷ named (τ 15 17) ∷ []))
    -- 7: a stage that is not live; a stage of n or more; a number that the stage's reference does not have, larger or smaller;
    -- a committed reference.
    ∷ row 1 4 2 8 8
    (map call
    (issue ∷ execute_other (τ 1 0) ∷ squash (τ 1 1) ∷ execute_other (τ 2 0) ∷ squash (τ 2 0) ∷ execute_other (τ 0 1)
    ∷ squash (τ 0 1) ∷ squash (τ 0 0) ∷ issue ∷ execute_other (τ 0 0) ∷ squash (τ 0 0) ∷ execute_other (τ 0 1) ∷ commit
    ∷ execute_other (τ 0 1) ∷ execute_part (τ 0 1) Byte 0 9 ∷ squash (τ 0 1) ∷ []))
    (done ∷ named (τ 0 0) ∷ refused 7 ∷ refused 7 ∷ refused 7 ∷ refused 7 ∷ refused 7
    ∷ refused 7 ∷ done ∷ named (τ 0 1) ∷ refused 7 ∷ refused 7 ∷ executed 0 0 none ∷ named (τ 0 1)
    ∷ refused 7 ∷ refused 7 ∷ refused 7 ∷ [])
    -- 7: with stage 1 the oldest of two, stage 0 is at position 1, and stage 2 is no stage.
    ∷ row 1 4 2 8 8
    (map call
    (issue ∷ execute_other (τ 0 0) ∷ commit ∷ issue ∷ issue
    ∷ execute_other (τ 2 2) ∷ squash (τ 2 2) ∷ execute_other (τ 0 2) ∷ squash (τ 0 2) ∷ []))
    (done ∷ named (τ 0 0) ∷ executed 0 0 none ∷ named (τ 0 0) ∷ named (τ 1 1) ∷ named (τ 0 2)
    ∷ refused 7 ∷ refused 7 ∷ executed 0 0 none ∷ done ∷ [])
    -- 8: executed, whatever it executed.
    ∷ row 1 4 4 8 8
    (map call
    (replicate 4 issue
    ++ (execute_other (τ 0 0) ∷ execute_load (τ 1 1) 5 ∷ execute_store (τ 2 2) 6 7 ∷ execute_part (τ 3 3) Byte 6 7
    ∷ execute_other (τ 0 0) ∷ execute_load (τ 1 1) 5 ∷ execute_store (τ 2 2) 6 7 ∷ execute_part (τ 3 3) Byte 6 7
    ∷ execute_part (τ 0 0) Half 6 7 ∷ execute_load (τ 3 3) 1 ∷ [])))
    (done ∷ first_tickets 4 ++ replicate 4 (executed 0 0 none) ++ replicate 6 (refused 8))
    -- 10: eight rows hold eight addresses; the ninth stalls, as a load and as a store, and one of the eight does not. (Byte 31 is
    -- of word 7, byte 32 of word 8.)
    ∷ row 1 8 16 8 8
    (map call
    (replicate 10 issue ++ tabulate (λ (p : ℕ). execute_load (τ p p) p) 8
    ++ (execute_load (τ 8 8) 8 ∷ execute_store (τ 8 8) 8 7 ∷ execute_part (τ 8 8) Byte 32 7 ∷ execute_load (τ 8 8) 7
    ∷ execute_part (τ 9 9) Byte 31 7 ∷ [])))
    (done ∷ first_tickets 10 ++ replicate 8 (executed 0 0 none)
    ++ (refused 10 ∷ refused 10 ∷ refused 10 ∷ executed 0 0 none ∷ executed 0 0 none ∷ []))
    -- A ninth address at the oldest position evicts the youngest row: squash from 8.
    ∷ row 1 8 16 8 8
    (map call
    (replicate 10 issue ++ tabulate (λ (p : ℕ). execute_load (τ (suc p) (suc p)) p) 8 ++ (execute_load (τ 0 0) 8 ∷ [])))
    (done ∷ first_tickets 10 ++ replicate 8 (executed 0 0 none) ++ (executed 0 0 (some (τ 8 8)) ∷ []))
    -- 10: eight banks of a row: address 8 is of bank 0, 15 of bank 7, 64 of bank 0.
    ∷ row 8 1 16 8 8
    (map call
    (replicate 9 issue ++ tabulate (λ (p : ℕ). execute_load (τ p p) p) 8
    ++ (execute_load (τ 8 8) 8 ∷ execute_load (τ 8 8) 15 ∷ execute_load (τ 8 8) 64 ∷ execute_load (τ 8 8) 7 ∷ [])))
    (done ∷ first_tickets 9 ++ replicate 8 (executed 0 0 none)
    ++ (refused 10 ∷ refused 10 ∷ refused 10 ∷ executed 0 0 none ∷ []))
    -- 11, 12 and 13; a store at W - 1 is committed, and a later load takes its word from memory.
    ∷ row 1 1 4 8 8
    (map call
    (commit ∷ issue ∷ commit ∷ execute_store (τ 0 0) 7 9 ∷ commit ∷ commit ∷ issue ∷ issue
    ∷ execute_load (τ 1 1) 7 ∷ execute_other (τ 2 2) ∷ commit ∷ commit ∷ issue ∷ execute_store (τ 3 3) 8 9 ∷ commit ∷ []))
    (done ∷ refused 11 ∷ named (τ 0 0) ∷ refused 12 ∷ executed 0 0 none ∷ named (τ 0 0) ∷ refused 11 ∷ named (τ 1 1)
    ∷ named (τ 2 2) ∷ executed 9 0 none ∷ executed 0 0 none ∷ named (τ 1 1) ∷ named (τ 2 2) ∷ named (τ 3 3) ∷ executed 0 0 none
    ∷ refused 13 ∷ [])
    -- 3 of every call that is lent memory, too short or too long; issue and squash are lent none.
    ∷ row 1 1 4 8 8
    (call_on short issue
    ∷ call_on short (execute_load (τ 0 0) 5) ∷ call_on long (execute_load (τ 0 0) 5)
    ∷ call_on short (execute_store (τ 0 0) 5 7) ∷ call_on long (execute_store (τ 0 0) 5 7)
    ∷ call_on short (execute_part (τ 0 0) Half 5 7) ∷ call_on long (execute_part (τ 0 0) Half 5 7)
    ∷ call_on short (execute_other (τ 0 0)) ∷ call_on long (execute_other (τ 0 0))
    ∷ call (execute_other (τ 0 0)) ∷ call_on short commit ∷ call_on long commit ∷ call_on short (squash (τ 0 0)) ∷ [])
    (done ∷ named (τ 0 0) ∷ replicate 8 (refused 3) ++ (executed 0 0 none ∷ refused 3 ∷ refused 3 ∷ done ∷ []))
    -- Two at once: 3 with 11, with 12, with 7; then the oldest has executed at W.
    ∷ row 1 1 4 8 8
    (call_on short commit ∷ call issue ∷ call_on short commit ∷ call_on short (execute_load (τ 1 1) 5) ∷ call (execute_load (τ 0 0) 8)
    -- 3 with 13, with 8, with 10;
    ∷ call_on short commit ∷ call_on short (execute_load (τ 0 0) 8) ∷ call issue ∷ call_on short (execute_load (τ 1 1) 5)
    -- 7 with 8, with 10; 8 with 10.
    ∷ call (execute_load (τ 0 1) 8) ∷ call (execute_load (τ 1 0) 5) ∷ call (execute_load (τ 0 0) 5)
    -- Alone: 10, 13.
    ∷ call (execute_load (τ 1 1) 5) ∷ call commit ∷ [])
    (done ∷ refused 3 ∷ named (τ 0 0) ∷ refused 3 ∷ refused 3 ∷ executed 0 0 none
    ∷ refused 3 ∷ refused 3 ∷ named (τ 1 1) ∷ refused 3
    ∷ refused 7 ∷ refused 7 ∷ refused 8
    ∷ refused 10 ∷ refused 13 ∷ [])
    ∷ []
