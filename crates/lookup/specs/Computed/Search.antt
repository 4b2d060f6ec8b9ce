-- How the table is searched, as the code does it. Positions are of the window of n stages from stage o on; a row's marks are a
-- set of stages. The laws in proofs/ say what each search finds on the list of references.
-- Assumes nothing.
use Rattle.std.specs.Prelude.{Bool, cond, not, ◌&&◌, Option, Some, None, List, ℕ, zero, suc, ◌+◌, ◌-◌, ◌*◌, eqb, ltb, get_or}
use Rattle.std.specs.Int.Bits.{bit_or}
use Rattle.marks.specs.Stages.{has}
use Rattle.marks.specs.Circle.{stage}
use Rattle.table.specs.declared.Table.{Table}
use Rattle.table.specs.Limits.{rows_most, rows_in}
use Rattle.table.specs.Bank.{bank}
use Rattle.table.specs.Computed.Check.{marks_of}
use Rattle.table.specs.Reference.{Fate, waiting, other, accessed, lacks, holds, loaded, stored}
use Rattle.lookup.specs.declared.Place.{Place}
use Rattle.lookup.specs.declared.Taken.{Taken}
use Rattle.lookup.specs.declared.Mark.{Mark}
use Rattle.lookup.specs.declared.Mark.TheVariants.{Absent, Load, Store}

-- one more than the largest number below n that has f; 0 where none has
unfoldable pub find : (ℕ → Bool) → ℕ → ℕ
find f zero = 0
find f (suc n) = cond (f n) (suc n) (find f n)

-- such a number as the code has it, the number itself if there is one
abbrev pub one_more : Option ℕ → ℕ
one_more None = 0
one_more (Some k) = k + 1

-- the first number from q on that has f; q + k where none of the k numbers from q on has
unfoldable pub seek : (ℕ → Bool) → ℕ → ℕ → ℕ
seek f zero q = q
seek f (suc k) q = cond (f q) q (seek f k (suc q))

-- the i-th row of bank b bears marks and belongs to address a
abbrev pub belongs : List ℕ → List ℕ → List ℕ → ℕ → ℕ → ℕ → Bool
belongs addresses loads stores b a i =
    not (eqb (marks_of loads stores (b * rows_most + i)) 0) && eqb (get_or addresses (b * rows_most + i) 0) a

-- the i-th row of bank b is free
abbrev pub free : List ℕ → List ℕ → ℕ → ℕ → Bool
free loads stores b i = eqb (marks_of loads stores (b * rows_most + i)) 0

-- the set w has the stage at position q
abbrev pub marked : ℕ → ℕ → ℕ → ℕ → Bool
marked o n w q = has w (stage o n q)

-- how far below p a search from p down was that found k, one more than a position; 0 where it found none
abbrev pub below : ℕ → ℕ → ℕ
below p k = cond (eqb k 0) 0 (suc p - k)

-- how many positions older than p the nearest store mark is; 0 where there is none
abbrev pub nearest : ℕ → ℕ → ℕ → ℕ → ℕ
nearest o n stores p = below p (find (marked o n stores) p)

-- what a load at position p takes from row r: the nearest older store's word, else w
abbrev pub forward : ℕ → ℕ → List ℕ → List ℕ → ℕ → ℕ → ℕ → Taken
forward o n stores values r p w =
    let d = nearest o n (get_or stores r 0) p in
    record { word = cond (eqb d 0) w (get_or values (stage o n (p - d)) 0); distance = d }

-- the first marked position younger than p; `live` where there is none
abbrev pub met_at : ℕ → ℕ → ℕ → ℕ → ℕ → ℕ
met_at o n live marks p = seek (marked o n marks) (live - suc p) (suc p)

-- how many references a store of the word v at position p leaves in its address's row: the first younger mark decides, and of
-- a load the word that its stage took
abbrev pub violation_point : ℕ → ℕ → ℕ → ℕ → ℕ → List ℕ → ℕ → ℕ → ℕ
violation_point o n live load store taken p v =
    let q = met_at o n live (bit_or load store) p in
    cond (ltb q live && (marked o n load q && not (eqb (get_or taken (stage o n q) 0) v))) q live

-- the position of a row's oldest mark; `live` where it has none
abbrev pub oldest_mark : ℕ → ℕ → ℕ → ℕ → ℕ
oldest_mark o n live marks = seek (marked o n marks) live 0

-- the oldest mark of the i-th row of bank b
abbrev pub bank_mark : ℕ → ℕ → ℕ → List ℕ → List ℕ → ℕ → ℕ → ℕ
bank_mark o n live loads stores b i = oldest_mark o n live (marks_of loads stores (b * rows_most + i))

-- the marks of the first k rows of bank b, as one set
unfoldable pub bank_marks : List ℕ → List ℕ → ℕ → ℕ → ℕ
bank_marks loads stores b zero = 0
bank_marks loads stores b (suc k) = bit_or (bank_marks loads stores b k) (marks_of loads stores (b * rows_most + k))

-- one more than the place in bank b of the row whose oldest mark is at position q; 0 where no row has it there
abbrev pub opened_at : ℕ → ℕ → ℕ → ℕ → List ℕ → List ℕ → ℕ → ℕ → ℕ
opened_at o n live rows loads stores b q = find (λ (i : ℕ). eqb (bank_mark o n live loads stores b i) q) rows

-- position q is the oldest mark of a row of bank b
abbrev pub opened : ℕ → ℕ → ℕ → ℕ → List ℕ → List ℕ → ℕ → ℕ → Bool
opened o n live rows loads stores b q = not (eqb (opened_at o n live rows loads stores b q) 0)

-- The search for a row to evict, for a reference at position p, goes from the youngest position down: the first that is the
-- oldest mark of a row decides. The row is evicted if that mark is younger than p, and the references before it stay; else the
-- reference stalls.
abbrev pub evicted : ℕ → ℕ → ℕ → ℕ → List ℕ → List ℕ → ℕ → ℕ → Place
evicted o n live rows loads stores b p =
    let k = find (opened o n live rows loads stores b) live in
    cond (ltb (suc p) k)
    (record { row = b * rows_most + (opened_at o n live rows loads stores b (k - 1) - 1); left = k - 1 })
    (record { row = 0; left = 0 })

-- a row of bank b for an address that has none
abbrev pub allocated_row : ℕ → ℕ → ℕ → ℕ → List ℕ → List ℕ → ℕ → ℕ → Place
allocated_row o n live rows loads stores b p =
    cond (eqb (find (free loads stores b) rows) 0) (evicted o n live rows loads stores b p)
    (record { row = b * rows_most + (find (free loads stores b) rows - 1); left = live })

-- one more than the place in bank b of the row of address a; 0 where it has none
abbrev pub row_of : ℕ → List ℕ → List ℕ → List ℕ → ℕ → ℕ → ℕ
row_of rows addresses loads stores b a = find (belongs addresses loads stores b a) rows

-- the row in which an execution at position p to address a in bank b is marked, and how many references stay
abbrev pub place_for : ℕ → ℕ → ℕ → ℕ → List ℕ → List ℕ → List ℕ → ℕ → ℕ → ℕ → Place
place_for o n live rows addresses loads stores b a p =
    cond (eqb (row_of rows addresses loads stores b a) 0) (allocated_row o n live rows loads stores b p)
    (record { row = b * rows_most + (row_of rows addresses loads stores b a - 1); left = live })

-- How many stay of a store of the word v that is given row r, where `left` of them have it: a row that was taken from another
-- address has squashed already, and any other row has the marks of this address alone.
abbrev pub left_after : ℕ → ℕ → ℕ → List ℕ → List ℕ → List ℕ → ℕ → ℕ → ℕ → ℕ → ℕ
left_after o n live loads stores taken r left p v =
    cond (ltb left live) left (violation_point o n live (get_or loads r 0) (get_or stores r 0) taken p v)

-- what the marks of the first k rows say of stage s
unfoldable pub mark_of : List ℕ → List ℕ → List ℕ → List ℕ → ℕ → ℕ → Mark
mark_of addresses loads stores values s zero = Absent
mark_of addresses loads stores values s (suc k) =
    cond (has (get_or stores k 0) s) (Store (get_or addresses k 0) (get_or values s 0))
    (cond (has (get_or loads k 0) s) (Load (get_or addresses k 0)) (mark_of addresses loads stores values s k))

-- what a fate says of a commit: the address, and the word of a store
abbrev pub mark_by : Fate → Mark
mark_by waiting = Absent
mark_by other = Absent
mark_by (accessed a l lacks) = Load a
mark_by (accessed a l (holds v)) = Store a v

-- a mark as the fate of an executed reference; the word that a load took plays no part in its commit
abbrev pub marked_fate : Mark → Fate
marked_fate Absent = other
marked_fate (Load a) = loaded a 0
marked_fate (Store a v) = stored a v

-- The same of a table.

abbrev pub forward_in : Table → ℕ → ℕ → ℕ → Taken
forward_in t r p w = forward t.oldest t.stages t.stores t.values r p w

abbrev pub violation_in : Table → ℕ → ℕ → ℕ → ℕ → ℕ
violation_in t load store p v = violation_point t.oldest t.stages t.live load store t.taken p v

abbrev pub mark_in : Table → ℕ → Mark
mark_in t s = mark_of t.addresses t.loads t.stores t.values s (rows_in t.banks)

abbrev pub marks_in : Table → ℕ → ℕ
marks_in t b = bank_marks t.loads t.stores b t.rows

abbrev pub opened_in : Table → ℕ → ℕ → ℕ
opened_in t b q = opened_at t.oldest t.stages t.live t.rows t.loads t.stores b q

abbrev pub evicted_in : Table → ℕ → ℕ → Place
evicted_in t b p = evicted t.oldest t.stages t.live t.rows t.loads t.stores b p

abbrev pub free_in : Table → ℕ → ℕ
free_in t b = find (free t.loads t.stores b) t.rows

abbrev pub allocated_in : Table → ℕ → ℕ → Place
allocated_in t b p = allocated_row t.oldest t.stages t.live t.rows t.loads t.stores b p

abbrev pub row_in : Table → ℕ → ℕ → ℕ
row_in t b a = row_of t.rows t.addresses t.loads t.stores b a

abbrev pub place_in : Table → ℕ → ℕ → Place
place_in t a p = place_for t.oldest t.stages t.live t.rows t.addresses t.loads t.stores (bank t.banks a) a p

abbrev pub left_in : Table → Place → ℕ → ℕ → ℕ
left_in t q p v = left_after t.oldest t.stages t.live t.loads t.stores t.taken q.row q.left p v
