-- The rules as one test, row after row, in the form that the code computes. It is true exactly where the rules of
-- specs/Rules.antt hold (proofs/Lawful.antt).
-- Assumes nothing.
use Rattle.std.specs.Prelude.{Bool, ◌&&◌, ◌||◌, not, List, ℕ, zero, suc, ◌+◌, ◌*◌, ◌/◌, ◌%◌, leb, ltb, eqb, get_or}
use Rattle.std.specs.Int.Bits.{bit_and, bit_or}
use Rattle.marks.specs.Circle.{firsts}
use Rattle.marks.specs.Counting.{every}
use Rattle.table.specs.declared.Table.{Table}
use Rattle.table.specs.Limits.{rows_most, rows_in, sizes_fit}
use Rattle.table.specs.Bank.{bank}

-- the marks of row r, of either kind
abbrev pub marks_of : List ℕ → List ℕ → ℕ → ℕ
marks_of loads stores r = bit_or (get_or loads r 0) (get_or stores r 0)

-- the stages that bear a mark in the first k rows
unfoldable pub marks_below : List ℕ → List ℕ → ℕ → ℕ
marks_below loads stores zero = 0
marks_below loads stores (suc k) = bit_or (marks_below loads stores k) (marks_of loads stores k)

-- the i-th row of bank b is free or has another address than a
abbrev pub other_address : List ℕ → List ℕ → List ℕ → ℕ → ℕ → ℕ → Bool
other_address addresses loads stores b a i =
    eqb (marks_of loads stores (b * rows_most + i)) 0 || not (eqb (get_or addresses (b * rows_most + i) 0) a)

-- Row r is free, or its marks and its address are as the rules say, seen against the rows before it: `usable` are the live
-- executed stages.
unfoldable pub row_fits : ℕ → ℕ → ℕ → List ℕ → List ℕ → List ℕ → ℕ → Bool
row_fits banks rows usable addresses loads stores r =
    eqb (marks_of loads stores r) 0
    || eqb (bit_and (marks_of loads stores r) usable) (marks_of loads stores r)
    && eqb (bit_and (marks_of loads stores r) (marks_below loads stores r)) 0
    && eqb (r / rows_most) (bank banks (get_or addresses r 0))
    && ltb (r % rows_most) rows
    && every (other_address addresses loads stores (r / rows_most) (get_or addresses r 0)) (r % rows_most)

-- the stages that may bear a mark: live and executed
abbrev pub usable : ℕ → ℕ → ℕ → ℕ → ℕ
usable oldest stages live executed = bit_and executed (firsts oldest stages live)

-- the rules, over the parts of a table
unfoldable pub lawful_by : ℕ → ℕ → ℕ → ℕ → ℕ → ℕ → ℕ → List ℕ → List ℕ → List ℕ → Bool
lawful_by banks rows stages words oldest live executed addresses loads stores =
    sizes_fit banks rows stages words && leb live stages && ltb oldest stages
    && every (row_fits banks rows (usable oldest stages live executed) addresses loads stores) (rows_in banks)

abbrev pub lawful : Table → Bool
lawful t =
    lawful_by t.banks t.rows t.stages t.words t.oldest t.live t.executed t.addresses t.loads t.stores
