-- Stores of a word that is already there, as rows of examples: which loads an older store spares, because they took the word that
-- it stores, and which it squashes. proofs/Starred.antt shows that every row comes out.
-- Six stages, and a memory of words 1 2 3 4 and 5 6 7 8, by their bytes (specs/PartStores.antt).
-- Assumes nothing.
use Rattle.std.specs.Prelude.{List, [], ◌∷◌, ◌++◌}
use Rattle.std.proofs.Math.Option.{Option, none, some}
use Rattle.table.specs.declared.Ticket.{Ticket}
use Rattle.engine.specs.declared.Part.TheVariants.{Byte, Half}
use Rattle.engine.specs.Contract.{refused, named, executed}
use Rattle.buffer_model.specs.Answers.{Answer}
use Rattle.buffer_model.specs.Calls.{Call, execute_load, execute_store, execute_part, commit}
use Rattle.buffer_model.specs.Examples.{Example, τ}
use Rattle.buffer_model.specs.PartStores.{bytes, issued}
use Rattle.buffer_model.specs.Distances.{turned}

-- 1 executes to word 0, then 2 loads it, then 0 stores there: squashed from `gone`, or nothing is
abbrev pub stores : Call → Answer → Answer → Call → Option Ticket → Example
stores met says behind store gone =
    issued 1 1 3 (met ∷ execute_load (τ 2 2) 0 ∷ store ∷ []) (says ∷ behind ∷ executed 0 0 gone ∷ [])

-- What 1 took is memory's word, 1 2 3 4. A word, a byte and a half word that leave this word spare 1 and the load behind it,
-- whatever that took; each that leaves another squashes from 1.
abbrev pub against : Call → Answer → Answer → List Example
against met says behind =
    stores met says behind (execute_store (τ 0 0) 0 (bytes 1 2 3 4)) none
    ∷ stores met says behind (execute_part (τ 0 0) Byte 1 (bytes 2 9 9 9)) none
    ∷ stores met says behind (execute_part (τ 0 0) Half 3 (bytes 3 4 9 9)) none
    ∷ stores met says behind (execute_store (τ 0 0) 0 (bytes 1 2 3 5)) (some (τ 1 1))
    ∷ stores met says behind (execute_part (τ 0 0) Byte 1 1) (some (τ 1 1))
    ∷ stores met says behind (execute_part (τ 0 0) Half 2 (bytes 3 5 0 0)) (some (τ 1 1))
    ∷ []

unfoldable pub same_words : List Example
same_words =
    -- 1 is a load, a byte's store and a half word's. A part's store is met by the word that it took, not by the one it stored.
    against (execute_load (τ 1 1) 0) (executed (bytes 1 2 3 4) 0 none) (executed (bytes 1 2 3 4) 0 none)
    ++ against (execute_part (τ 1 1) Byte 0 9) (executed 0 0 none) (executed (bytes 9 2 3 4) 1 none)
    ++ against (execute_part (τ 1 1) Half 3 (bytes 8 9 0 0)) (executed 0 0 none) (executed (bytes 1 2 8 9) 1 none)
    -- The word that 1 stored squashes from 1, though the load behind it took this word.
    ++ (stores (execute_part (τ 1 1) Byte 0 9) (executed 0 0 none) (executed (bytes 9 2 3 4) 1 none)
    (execute_store (τ 0 0) 0 (bytes 9 2 3 4)) (some (τ 1 1))
    -- A part's store that leaves its word as it was is met by that word.
    ∷ stores (execute_part (τ 1 1) Byte 0 1) (executed 0 0 none) (executed (bytes 1 2 3 4) 1 none)
    (execute_store (τ 0 0) 0 (bytes 1 2 3 4)) none
    -- The word taken decides, not memory's: 2 took 7 of 0; 1 stores 7, and nothing is squashed; memory's word, and 2 is.
    ∷ issued 1 1 4
    (execute_store (τ 0 0) 0 7 ∷ execute_load (τ 2 2) 0 ∷ execute_store (τ 1 1) 0 7 ∷ execute_load (τ 3 3) 0 ∷ [])
    (executed 0 0 none ∷ executed 7 2 none ∷ executed 0 0 none ∷ executed 7 2 none ∷ [])
    ∷ issued 1 1 3
    (execute_store (τ 0 0) 0 7 ∷ execute_load (τ 2 2) 0 ∷ execute_store (τ 1 1) 0 (bytes 1 2 3 4) ∷ [])
    (executed 0 0 none ∷ executed 7 2 none ∷ executed 0 0 (some (τ 2 2)) ∷ [])
    -- A spared load is spared again by a further store of its word, 2, at which the walk from 1 then ends; without that one a
    -- store of another word between squashes it.
    ∷ issued 1 1 4
    (execute_load (τ 3 3) 0 ∷ execute_store (τ 0 0) 0 (bytes 1 2 3 4) ∷ execute_store (τ 2 2) 0 (bytes 1 2 3 4)
    ∷ execute_store (τ 1 1) 0 6 ∷ [])
    (executed (bytes 1 2 3 4) 0 none ∷ executed 0 0 none ∷ executed 0 0 none ∷ executed 0 0 none ∷ [])
    ∷ issued 1 1 3
    (execute_load (τ 2 2) 0 ∷ execute_store (τ 0 0) 0 (bytes 1 2 3 4) ∷ execute_store (τ 1 1) 0 6 ∷ [])
    (executed (bytes 1 2 3 4) 0 none ∷ executed 0 0 none ∷ executed 0 0 (some (τ 2 2)) ∷ [])
    -- The walk ends at the load that took the word stored: 1 is spared, and so are 2, a byte's store, and 3, which took its word.
    ∷ issued 1 1 4
    (execute_load (τ 1 1) 0 ∷ execute_part (τ 2 2) Byte 0 9 ∷ execute_load (τ 3 3) 0 ∷ execute_store (τ 0 0) 0 (bytes 1 2 3 4) ∷ [])
    (executed (bytes 1 2 3 4) 0 none ∷ executed 0 0 none ∷ executed (bytes 9 2 3 4) 1 none ∷ executed 0 0 none ∷ [])
    -- A store met first ends it too: the load of 2, which took the word of 1, is spared, whatever 0 stores.
    ∷ issued 1 1 3
    (execute_store (τ 1 1) 0 7 ∷ execute_load (τ 2 2) 0 ∷ execute_store (τ 0 0) 0 8 ∷ [])
    (executed 0 0 none ∷ executed 7 1 none ∷ executed 0 0 none ∷ [])
    -- A spared load commits, after the store.
    ∷ issued 1 1 2
    (execute_load (τ 1 1) 0 ∷ execute_store (τ 0 0) 0 (bytes 1 2 3 4) ∷ commit ∷ commit ∷ [])
    (executed (bytes 1 2 3 4) 0 none ∷ executed 0 0 none ∷ named (τ 0 0) ∷ named (τ 1 1) ∷ [])
    -- At W or more a load takes 0: a store of 0 there spares it, a byte that is not 0 squashes it.
    ∷ issued 1 1 2
    (execute_load (τ 1 1) 2 ∷ execute_store (τ 0 0) 2 0 ∷ commit ∷ [])
    (executed 0 0 none ∷ executed 0 0 none ∷ refused 13 ∷ [])
    ∷ issued 1 1 2
    (execute_load (τ 1 1) 2 ∷ execute_part (τ 0 0) Byte 11 1 ∷ [])
    (executed 0 0 none ∷ executed 0 0 (some (τ 1 1)) ∷ [])
    -- Positions 0 to 5 at stages 4, 5, 0, 1, 2, 3: across the last stage, too.
    ∷ turned
    (execute_load (τ 1 7) 0 ∷ execute_load (τ 3 9) 1 ∷ execute_store (τ 5 5) 0 (bytes 1 2 3 4) ∷ execute_store (τ 0 6) 1 9 ∷ [])
    (executed (bytes 1 2 3 4) 0 none ∷ executed (bytes 5 6 7 8) 0 none ∷ executed 0 0 none ∷ executed 0 0 (some (τ 3 9)) ∷ [])
    -- One row: an eviction squashes whatever the words. 1 took 1 2 3 4 at word 0, and 0 stores it at word 1.
    ∷ issued 1 1 2
    (execute_load (τ 1 1) 0 ∷ execute_store (τ 0 0) 1 (bytes 1 2 3 4) ∷ [])
    (executed (bytes 1 2 3 4) 0 none ∷ executed 0 0 (some (τ 1 1)) ∷ [])
    ∷ [])
