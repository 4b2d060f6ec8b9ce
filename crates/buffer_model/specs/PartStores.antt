-- Stores of bytes and half words as rows of examples: the word that each leaves at every byte number, for a younger load and in
-- memory; what it reads; what it squashes and what squashes it; its row. proofs/Starred.antt shows that every row comes out.
-- Words are written by their bytes, the lowest byte number first: word 0 holds 1 2 3 4 and word 1, the last, 5 6 7 8.
-- Assumes nothing.
use Rattle.std.specs.Prelude.{List, [], ◌∷◌, ◌++◌, map, ℕ, ◌+◌, ◌*◌, replicate}
use Rattle.std.proofs.Math.Option.{none, some}
use Rattle.engine.specs.declared.Part.{Part}
use Rattle.engine.specs.declared.Part.TheVariants.{Byte, Half}
use Rattle.engine.specs.Contract.{refused, done, named, executed}
use Rattle.buffer_model.specs.Answers.{Answer}
use Rattle.buffer_model.specs.Calls.{Call, issue, execute_load, execute_store, execute_part, execute_other, squash, commit}
use Rattle.buffer_model.specs.Examples.{call, Example, τ}
use Rattle.buffer_model.specs.Edges.{first_tickets}

-- the word of these bytes
abbrev pub bytes : ℕ → ℕ → ℕ → ℕ → ℕ
bytes b0 b1 b2 b3 = b0 + b1 * 256 + b2 * 65536 + b3 * 16777216

-- B banks of R rows, and k issues before the calls
abbrev pub issued : ℕ → ℕ → ℕ → List Call → List Answer → Example
issued B R k calls answers =
    record {
      banks = B;
      rows = R;
      stages = 6;
      words = 2;
      memory = bytes 1 2 3 4 ∷ bytes 5 6 7 8 ∷ [];
      turns = map call (replicate k issue ++ calls);
      answers = done ∷ first_tickets k ++ answers;
    }

-- A store of the part of 9 10 11 12 at byte number b answers 0. A younger load of word a then takes w, and so does a load after
-- the store's commit, from memory.
abbrev pub leaves : Part → ℕ → ℕ → ℕ → Example
leaves part b a w =
    issued 1 1 2
    (execute_part (τ 0 0) part b (bytes 9 10 11 12) ∷ execute_load (τ 1 1) a
    ∷ commit ∷ squash (τ 1 1) ∷ issue ∷ execute_load (τ 1 2) a ∷ [])
    (executed 0 0 none ∷ executed w 1 none
    ∷ named (τ 0 0) ∷ done ∷ named (τ 1 2) ∷ executed w 0 none ∷ [])

-- The same at a word number of W or more: it reads 0, and its commit is refused.
abbrev pub faults : Part → ℕ → ℕ → ℕ → Example
faults part b a w =
    issued 1 1 2
    (execute_part (τ 0 0) part b (bytes 9 10 11 12) ∷ execute_load (τ 1 1) a ∷ commit ∷ [])
    (executed 0 0 none ∷ executed w 1 none ∷ refused 13 ∷ [])

unfoldable pub part_stores : List Example
part_stores =
    -- A byte at every byte number,
    leaves Byte 0 0 (bytes 9 2 3 4) ∷ leaves Byte 1 0 (bytes 1 9 3 4)
    ∷ leaves Byte 2 0 (bytes 1 2 9 4) ∷ leaves Byte 3 0 (bytes 1 2 3 9)
    ∷ leaves Byte 4 1 (bytes 9 6 7 8) ∷ leaves Byte 5 1 (bytes 5 9 7 8)
    ∷ leaves Byte 6 1 (bytes 5 6 9 8) ∷ leaves Byte 7 1 (bytes 5 6 7 9)
    -- and a half word: at an odd byte number as at the byte below, and the buffer commits it.
    ∷ leaves Half 0 0 (bytes 9 10 3 4) ∷ leaves Half 1 0 (bytes 9 10 3 4)
    ∷ leaves Half 2 0 (bytes 1 2 9 10) ∷ leaves Half 3 0 (bytes 1 2 9 10)
    ∷ leaves Half 4 1 (bytes 9 10 7 8) ∷ leaves Half 5 1 (bytes 9 10 7 8)
    ∷ leaves Half 6 1 (bytes 5 6 9 10) ∷ leaves Half 7 1 (bytes 5 6 9 10)
    -- From byte 4W on, and at the last byte number of all.
    ∷ faults Byte 8 2 (bytes 9 0 0 0) ∷ faults Byte 11 2 (bytes 0 0 0 9)
    ∷ faults Half 8 2 (bytes 9 10 0 0) ∷ faults Half 9 2 (bytes 9 10 0 0) ∷ faults Half 10 2 (bytes 0 0 9 10)
    ∷ faults Byte 4294967295 1073741823 (bytes 0 0 0 9) ∷ faults Half 4294967295 1073741823 (bytes 0 0 9 10)
    -- 0 stores a word, 1 a byte in it: it goes into the word of 0, not of memory. 2 stores a half word in what 1 left.
    ∷ issued 1 1 4
    (execute_store (τ 0 0) 0 (bytes 20 21 22 23) ∷ execute_part (τ 1 1) Byte 1 9 ∷ execute_part (τ 2 2) Half 2 (bytes 30 31 0 0)
    ∷ execute_load (τ 3 3) 0 ∷ commit ∷ commit ∷ commit ∷ squash (τ 3 3) ∷ issue ∷ execute_load (τ 3 4) 0 ∷ [])
    (executed 0 0 none ∷ executed 0 0 none ∷ executed 0 0 none
    ∷ executed (bytes 20 9 30 31) 1 none ∷ named (τ 0 0) ∷ named (τ 1 1) ∷ named (τ 2 2) ∷ done ∷ named (τ 3 4)
    ∷ executed (bytes 20 9 30 31) 0 none ∷ [])
    -- Four bytes, highest first, make the word; each was merged into the one before.
    ∷ issued 1 1 5
    (execute_part (τ 0 0) Byte 7 23 ∷ execute_part (τ 1 1) Byte 6 22 ∷ execute_part (τ 2 2) Byte 5 21 ∷ execute_part (τ 3 3) Byte 4 20
    ∷ execute_load (τ 4 4) 1 ∷ [])
    (executed 0 0 none ∷ executed 0 0 none ∷ executed 0 0 none ∷ executed 0 0 none ∷ executed (bytes 20 21 22 23) 1 none ∷ [])
    -- Neither a store to the other word is read nor a younger one: the byte goes into memory's word.
    ∷ issued 1 2 4
    (execute_store (τ 0 0) 1 77 ∷ execute_store (τ 2 2) 0 88 ∷ execute_part (τ 1 1) Byte 0 9 ∷ squash (τ 2 2) ∷ issue
    ∷ execute_load (τ 2 4) 0 ∷ [])
    (executed 0 0 none ∷ executed 0 0 none ∷ executed 0 0 none ∷ done ∷ named (τ 2 4) ∷ executed (bytes 9 2 3 4) 1 none ∷ [])
    -- Walking from an older store, the load side of a part's store is met before its store side: 1 stores a byte, then 0 stores
    -- the word, another byte of it, or the same: squash from 1.
    ∷ issued 1 1 3
    (execute_part (τ 1 1) Byte 1 9 ∷ execute_load (τ 2 2) 0 ∷ execute_store (τ 0 0) 0 5 ∷ [])
    (executed 0 0 none ∷ executed (bytes 1 9 3 4) 1 none ∷ executed 0 0 (some (τ 1 1)) ∷ [])
    ∷ issued 1 1 3
    (execute_part (τ 1 1) Byte 1 9 ∷ execute_load (τ 2 2) 0 ∷ execute_part (τ 0 0) Byte 2 9 ∷ [])
    (executed 0 0 none ∷ executed (bytes 1 9 3 4) 1 none ∷ executed 0 0 (some (τ 1 1)) ∷ [])
    ∷ issued 1 1 3
    (execute_part (τ 1 1) Half 1 9 ∷ execute_part (τ 2 2) Byte 3 8 ∷ execute_part (τ 0 0) Half 0 9 ∷ [])
    (executed 0 0 none ∷ executed 0 0 none ∷ executed 0 0 (some (τ 1 1)) ∷ [])
    -- The squashed one executes again, in what the older one left.
    ∷ issued 1 1 3
    (execute_part (τ 1 1) Byte 1 9 ∷ execute_part (τ 0 0) Byte 2 10 ∷ issue ∷ execute_part (τ 1 3) Byte 1 9 ∷ issue
    ∷ execute_load (τ 2 4) 0 ∷ [])
    (executed 0 0 none ∷ executed 0 0 (some (τ 1 1)) ∷ named (τ 1 3) ∷ executed 0 0 none ∷ named (τ 2 4)
    ∷ executed (bytes 1 9 10 4) 1 none ∷ [])
    -- A store of a word met first ends the walk: 1 stores the word, 2 a byte in it, then 0 stores: nothing is squashed.
    ∷ issued 1 1 4
    (execute_store (τ 1 1) 0 5 ∷ execute_part (τ 2 2) Byte 1 9 ∷ execute_part (τ 0 0) Byte 0 7 ∷ execute_load (τ 3 3) 0 ∷ [])
    (executed 0 0 none ∷ executed 0 0 none ∷ executed 0 0 none ∷ executed (bytes 5 9 0 0) 1 none ∷ [])
    ∷ issued 1 1 3
    (execute_store (τ 1 1) 0 5 ∷ execute_part (τ 2 2) Byte 1 9 ∷ execute_store (τ 0 0) 0 7 ∷ [])
    (executed 0 0 none ∷ executed 0 0 none ∷ executed 0 0 none ∷ [])
    -- A load between them is met before a part's store: squash from 1.
    ∷ issued 1 1 3
    (execute_load (τ 1 1) 0 ∷ execute_part (τ 2 2) Byte 1 9 ∷ execute_store (τ 0 0) 0 7 ∷ [])
    (executed (bytes 1 2 3 4) 0 none ∷ executed 0 0 none ∷ executed 0 0 (some (τ 1 1)) ∷ [])
    -- A part's store violates a younger load of its word, whichever bytes it stores, unless it leaves the word as it was.
    ∷ issued 1 1 3
    (execute_load (τ 2 2) 0 ∷ execute_part (τ 0 0) Byte 3 9 ∷ [])
    (executed (bytes 1 2 3 4) 0 none ∷ executed 0 0 (some (τ 2 2)) ∷ [])
    ∷ issued 1 1 3
    (execute_load (τ 2 2) 1 ∷ execute_part (τ 0 0) Half 4 (bytes 5 6 0 0) ∷ [])
    (executed (bytes 5 6 7 8) 0 none ∷ executed 0 0 none ∷ [])
    -- Not a load of the other word, or of the word whose number is the byte's.
    ∷ issued 1 3 3
    (execute_load (τ 1 1) 0 ∷ execute_load (τ 2 2) 4 ∷ execute_part (τ 0 0) Byte 4 9 ∷ [])
    (executed (bytes 1 2 3 4) 0 none ∷ executed 0 0 none ∷ executed 0 0 none ∷ [])
    -- 0 stores a part, 2 the word; 1 then takes what 0 left.
    ∷ issued 1 1 3
    (execute_part (τ 0 0) Byte 0 9 ∷ execute_store (τ 2 2) 0 7 ∷ execute_load (τ 1 1) 0 ∷ [])
    (executed 0 0 none ∷ executed 0 0 none ∷ executed (bytes 9 2 3 4) 1 none ∷ [])
    -- Commit five of six; a half word at stage 5 is seen by a load at stage 0, past the last.
    ∷ issued 1 1 6
    (execute_other (τ 0 0) ∷ execute_other (τ 1 1) ∷ execute_other (τ 2 2) ∷ execute_other (τ 3 3) ∷ execute_other (τ 4 4)
    ∷ commit ∷ commit ∷ commit ∷ commit ∷ commit ∷ issue
    ∷ execute_part (τ 5 5) Half 6 (bytes 30 31 0 0) ∷ execute_load (τ 0 6) 1 ∷ [])
    (replicate 5 (executed 0 0 none)
    ++ (named (τ 0 0) ∷ named (τ 1 1) ∷ named (τ 2 2) ∷ named (τ 3 3) ∷ named (τ 4 4) ∷ named (τ 0 6)
    ∷ executed 0 0 none ∷ executed (bytes 5 6 30 31) 1 none ∷ []))
    -- One row: 0 holds it for word 0. A part's store in word 1 stalls, one in word 0 does not.
    ∷ issued 1 1 2
    (execute_load (τ 0 0) 0 ∷ execute_part (τ 1 1) Byte 4 9 ∷ execute_part (τ 1 1) Half 5 9 ∷ execute_part (τ 1 1) Byte 3 9 ∷ [])
    (executed (bytes 1 2 3 4) 0 none ∷ refused 10 ∷ refused 10 ∷ executed 0 0 none ∷ [])
    -- 0 stores a part there: a load of word 1 stalls.
    ∷ issued 1 1 2
    (execute_part (τ 0 0) Half 3 9 ∷ execute_load (τ 1 1) 1 ∷ execute_part (τ 1 1) Byte 4 9 ∷ execute_other (τ 1 1) ∷ [])
    (executed 0 0 none ∷ refused 10 ∷ refused 10 ∷ executed 0 0 none ∷ [])
    -- A part's store evicts a younger row, and its own row is evicted: squash from the row's oldest mark.
    ∷ issued 1 1 3
    (execute_load (τ 1 1) 0 ∷ execute_load (τ 2 2) 0 ∷ execute_part (τ 0 0) Byte 4 9 ∷ [])
    (executed (bytes 1 2 3 4) 0 none ∷ executed (bytes 1 2 3 4) 0 none ∷ executed 0 0 (some (τ 1 1)) ∷ [])
    ∷ issued 1 1 3
    (execute_part (τ 1 1) Byte 4 9 ∷ execute_load (τ 2 2) 1 ∷ execute_load (τ 0 0) 0 ∷ [])
    (executed 0 0 none ∷ executed (bytes 9 6 7 8) 1 none ∷ executed (bytes 1 2 3 4) 0 (some (τ 1 1)) ∷ [])
    -- Two rows, both of parts' stores: the one whose oldest mark is youngest is evicted, squash from 2; 1 stays and commits.
    ∷ issued 1 2 4
    (execute_part (τ 1 1) Half 0 9 ∷ execute_part (τ 2 2) Byte 8 9 ∷ execute_part (τ 3 3) Byte 1 9 ∷ execute_part (τ 0 0) Byte 4 9
    ∷ commit ∷ commit ∷ issue ∷ execute_load (τ 2 4) 0 ∷ [])
    (executed 0 0 none ∷ executed 0 0 none ∷ executed 0 0 none ∷ executed 0 0 (some (τ 2 2))
    ∷ named (τ 0 0) ∷ named (τ 1 1) ∷ named (τ 2 4) ∷ executed (bytes 9 0 3 4) 0 none ∷ [])
    -- Two banks of a row go by word numbers: bytes 3 and 4 are of banks 0 and 1, and byte 8, of bank 0, stalls.
    ∷ issued 2 1 3
    (execute_part (τ 0 0) Byte 3 9 ∷ execute_part (τ 1 1) Byte 4 9 ∷ execute_part (τ 2 2) Byte 8 9 ∷ execute_part (τ 2 2) Byte 1 9
    ∷ [])
    (executed 0 0 none ∷ executed 0 0 none ∷ refused 10 ∷ executed 0 0 none ∷ [])
    ∷ []
