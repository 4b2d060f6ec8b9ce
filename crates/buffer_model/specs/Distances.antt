-- How far a load's word came, as rows of examples: how many positions older the store is, whatever stands between, 0 for memory
-- and 0 of everything but a load. proofs/Starred.antt shows that every row comes out.
-- Six stages, and a memory of words 1 2 3 4 and 5 6 7 8, by their bytes (specs/PartStores.antt).
-- Assumes nothing.
use Rattle.std.specs.Prelude.{List, [], ◌∷◌, ◌++◌, map, ℕ, suc, replicate}
use Rattle.std.proofs.Math.Option.{none, some}
use Rattle.table.specs.View.{tabulate}
use Rattle.engine.specs.declared.Part.TheVariants.{Byte, Half}
use Rattle.engine.specs.Contract.{refused, done, named, executed}
use Rattle.buffer_model.specs.Answers.{Answer}
use Rattle.buffer_model.specs.Calls.{Call, issue, execute_load, execute_store, execute_part, execute_other, squash, commit}
use Rattle.buffer_model.specs.Examples.{call, Example, τ}
use Rattle.buffer_model.specs.Edges.{row, first_tickets}
use Rattle.buffer_model.specs.PartStores.{bytes, issued}

-- Four of six are committed and four issued after them: positions 0 to 5 are at stages 4, 5, 0, 1, 2, 3.
abbrev pub turned : List Call → List Answer → Example
turned calls answers =
    issued 1 2 6
    (tabulate (λ (p : ℕ). execute_other (τ p p)) 4 ++ replicate 4 commit ++ replicate 4 issue ++ calls)
    (replicate 4 (executed 0 0 none) ++ first_tickets 4
    ++ (named (τ 0 6) ∷ named (τ 1 7) ∷ named (τ 2 8) ∷ named (τ 3 9) ∷ answers))

unfoldable pub distances : List Example
distances =
    -- 0 stores, and each of the five after it takes its word from there; of sixteen stages the last is 15 positions younger.
    issued 1 1 6
    (execute_store (τ 0 0) 0 7 ∷ tabulate (λ (p : ℕ). execute_load (τ (suc p) (suc p)) 0) 5)
    (executed 0 0 none ∷ tabulate (λ (p : ℕ). executed 7 (suc p) none) 5)
    ∷ row 1 1 16 1 1
    (map call (replicate 16 issue ++ (execute_store (τ 0 0) 0 7 ∷ execute_load (τ 15 15) 0 ∷ [])))
    (done ∷ first_tickets 16 ++ (executed 0 0 none ∷ executed 7 15 none ∷ []))
    -- Everything between counts: a store to another word, a reference that touches no memory, one that waits, a load.
    ∷ issued 1 2 6
    (execute_store (τ 0 0) 0 7 ∷ execute_store (τ 1 1) 1 8 ∷ execute_other (τ 2 2) ∷ execute_load (τ 4 4) 1 ∷ execute_load (τ 5 5) 0
    ∷ [])
    (executed 0 0 none ∷ executed 0 0 none ∷ executed 0 0 none ∷ executed 8 3 none ∷ executed 7 5 none ∷ [])
    -- The nearest executed store counts, not the oldest, and not the younger one at 5.
    ∷ issued 1 1 6
    (execute_store (τ 0 0) 0 7 ∷ execute_store (τ 1 1) 0 8 ∷ execute_store (τ 5 5) 0 9 ∷ execute_load (τ 4 4) 0 ∷ [])
    (executed 0 0 none ∷ executed 0 0 none ∷ executed 0 0 none ∷ executed 8 3 none ∷ [])
    -- By position, not by stage number: stages 3 and 2 are 5 and 3 positions from stages 4 and 5, past the last stage;
    ∷ turned
    (execute_store (τ 4 4) 0 7 ∷ execute_store (τ 5 5) 1 8 ∷ execute_load (τ 0 6) 0 ∷ execute_load (τ 2 8) 1 ∷ execute_load (τ 3 9) 0
    ∷ [])
    (executed 0 0 none ∷ executed 0 0 none ∷ executed 7 2 none ∷ executed 8 3 none ∷ executed 7 5 none ∷ [])
    -- stage 1 is nearer to stage 3 than stage 5 is.
    ∷ turned
    (execute_store (τ 5 5) 0 7 ∷ execute_store (τ 1 7) 0 8 ∷ execute_load (τ 0 6) 0 ∷ execute_load (τ 3 9) 0 ∷ [])
    (executed 0 0 none ∷ executed 0 0 none ∷ executed 7 1 none ∷ executed 8 2 none ∷ [])
    -- A byte and a half word are stores to their words. Their own answers have 0, though they take a word too.
    ∷ issued 1 2 6
    (execute_store (τ 0 0) 0 (bytes 20 21 22 23) ∷ execute_part (τ 1 1) Byte 1 9 ∷ execute_other (τ 2 2)
    ∷ execute_part (τ 3 3) Half 6 (bytes 30 31 0 0) ∷ execute_load (τ 4 4) 0 ∷ execute_load (τ 5 5) 1 ∷ [])
    (executed 0 0 none ∷ executed 0 0 none ∷ executed 0 0 none
    ∷ executed 0 0 none ∷ executed (bytes 20 9 22 23) 3 none ∷ executed (bytes 5 6 30 31) 2 none ∷ [])
    -- 0 for memory: an older load of the word, an older store to the other word, an older one that waits, a younger store.
    ∷ issued 1 2 6
    (execute_load (τ 0 0) 0 ∷ execute_store (τ 1 1) 1 7 ∷ execute_store (τ 4 4) 0 8 ∷ execute_load (τ 3 3) 0 ∷ [])
    (executed (bytes 1 2 3 4) 0 none ∷ executed 0 0 none ∷ executed 0 0 none ∷ executed (bytes 1 2 3 4) 0 none ∷ [])
    -- A store of memory's own word is a store.
    ∷ issued 1 1 3
    (execute_store (τ 0 0) 0 (bytes 1 2 3 4) ∷ execute_load (τ 2 2) 0 ∷ [])
    (executed 0 0 none ∷ executed (bytes 1 2 3 4) 2 none ∷ [])
    -- At W or more: 0 without a store there, else as elsewhere.
    ∷ issued 1 3 4
    (execute_store (τ 0 0) 2 7 ∷ execute_part (τ 1 1) Byte 12 9 ∷ execute_load (τ 2 2) 4 ∷ execute_load (τ 3 3) 2 ∷ [])
    (executed 0 0 none ∷ executed 0 0 none ∷ executed 0 0 none ∷ executed 7 3 none ∷ [])
    -- Commits move load and store alike; once the store is committed its word comes from memory.
    ∷ issued 1 1 6
    (execute_other (τ 0 0) ∷ execute_store (τ 1 1) 0 7 ∷ execute_load (τ 3 3) 0 ∷ commit ∷ execute_load (τ 4 4) 0 ∷ commit
    ∷ execute_load (τ 5 5) 0 ∷ [])
    (executed 0 0 none ∷ executed 0 0 none ∷ executed 7 2 none ∷ named (τ 0 0) ∷ executed 7 3 none ∷ named (τ 1 1)
    ∷ executed 7 0 none ∷ [])
    -- 2 stores late and squashes the load that took the word of 0; executed again, it takes the word of 2.
    ∷ issued 1 1 6
    (execute_store (τ 0 0) 0 7 ∷ execute_load (τ 5 5) 0 ∷ execute_store (τ 2 2) 0 8 ∷ issue ∷ execute_load (τ 5 6) 0 ∷ [])
    (executed 0 0 none ∷ executed 7 5 none ∷ executed 0 0 (some (τ 5 5)) ∷ named (τ 5 6) ∷ executed 8 3 none ∷ [])
    -- 2 is squashed: what is issued after it takes the word of 0.
    ∷ issued 1 1 4
    (execute_store (τ 0 0) 0 7 ∷ execute_store (τ 2 2) 0 8 ∷ execute_load (τ 3 3) 0 ∷ squash (τ 2 2) ∷ issue ∷ issue
    ∷ execute_load (τ 3 5) 0 ∷ [])
    (executed 0 0 none ∷ executed 0 0 none ∷ executed 8 1 none ∷ done ∷ named (τ 2 4) ∷ named (τ 3 5)
    ∷ executed 7 3 none ∷ [])
    -- A store older than the one that a load took its word from keeps that load, and moves nothing for the next.
    ∷ issued 1 1 5
    (execute_store (τ 0 0) 0 7 ∷ execute_store (τ 2 2) 0 8 ∷ execute_load (τ 3 3) 0 ∷ execute_store (τ 1 1) 0 9
    ∷ execute_load (τ 3 3) 0 ∷ execute_load (τ 4 4) 0 ∷ [])
    (executed 0 0 none ∷ executed 0 0 none ∷ executed 8 1 none ∷ executed 0 0 none
    ∷ refused 8 ∷ executed 8 2 none ∷ [])
    ∷ []
