-- The steps that the calls make on a table, as the code makes them.
-- Assumes nothing.
use Rattle.std.specs.Prelude.{Bool, cond, List, map, ◌++◌, ℕ, ◌+◌, ◌-◌, ◌%◌, ◌^◌, ltb, get_or, set, take, drop}
use Rattle.std.specs.Int.Bits.{bit_and, bit_or}
use Rattle.marks.specs.Circle.{firsts}
use Rattle.table.specs.declared.Table.{Table}
use Rattle.table.specs.Limits.{rows_in}
use Rattle.table.specs.View.{stage_of}

-- t with another window, other issue numbers, other executed stages and other arrays, under its sizes
abbrev pub rebuilt : Table → ℕ → ℕ → ℕ → ℕ → List ℕ → List ℕ → List ℕ → List ℕ → List ℕ → List ℕ → Table
rebuilt t oldest live next executed numbers addresses loads stores values taken =
    record {
      banks = t.banks;
      rows = t.rows;
      stages = t.stages;
      words = t.words;
      oldest = oldest;
      live = live;
      next = next;
      executed = executed;
      numbers = numbers;
      addresses = addresses;
      loads = loads;
      stores = stores;
      values = values;
      taken = taken;
    }

-- the same under its issue numbers
abbrev pub remade : Table → ℕ → ℕ → ℕ → List ℕ → List ℕ → List ℕ → List ℕ → List ℕ → Table
remade t oldest live executed addresses loads stores values taken =
    rebuilt t oldest live t.next executed t.numbers addresses loads stores values taken

-- the mark words, the first n of them with nothing outside the set m
abbrev pub within : ℕ → List ℕ → ℕ → List ℕ
within n words m = map (λ (w : ℕ). bit_and w m) (take n words) ++ drop n words

-- the window of k stages from stage o on: marks outside it go, in the rows of the banks in use
abbrev pub narrowed : Table → ℕ → ℕ → Table
narrowed t o k =
    remade t o k t.executed t.addresses
    (within (rows_in t.banks) t.loads (firsts o t.stages k))
    (within (rows_in t.banks) t.stores (firsts o t.stages k))
    t.values t.taken

-- the oldest has left the window
abbrev pub retired : Table → Table
retired t = narrowed t (stage_of t 1) (t.live - 1)

-- mark words of so many banks and of a window of n stages from o on, of which `left` of `live` references stay
abbrev pub cut_marks : ℕ → ℕ → ℕ → ℕ → ℕ → List ℕ → List ℕ
cut_marks banks o n live left words = cond (ltb left live) (within (rows_in banks) words (firsts o n left)) words

-- the table of which the first `left` references stay
abbrev pub cut : Table → ℕ → Table
cut t left =
    remade t t.oldest left t.executed t.addresses
    (cut_marks t.banks t.oldest t.stages t.live left t.loads)
    (cut_marks t.banks t.oldest t.stages t.live left t.stores)
    t.values t.taken

-- a new youngest reference in the next stage, not executed
abbrev pub grown : Table → Table
grown t =
    rebuilt t t.oldest (t.live + 1) ((t.next + 1) % 2 ^ 32)
    (bit_and t.executed (firsts t.oldest t.stages t.live))
    (set t.numbers (stage_of t t.live) t.next)
    t.addresses t.loads t.stores t.values t.taken

-- t with stage s executed, and with these arrays
abbrev pub executing : Table → ℕ → List ℕ → List ℕ → List ℕ → List ℕ → List ℕ → Table
executing t s addresses loads stores values taken =
    remade t t.oldest t.live (bit_or t.executed (2 ^ s)) addresses loads stores values taken

-- stage s has executed without memory
abbrev pub noted : Table → ℕ → Table
noted t s = executing t s t.addresses t.loads t.stores t.values t.taken

-- the mark words with stage s more in row r
abbrev pub with_stage : List ℕ → ℕ → ℕ → List ℕ
with_stage words r s = set words r (bit_or (get_or words r 0) (2 ^ s))

-- the same where `on`
abbrev pub marking : List ℕ → Bool → ℕ → ℕ → List ℕ
marking words on r s = cond on (with_stage words r s) words

-- the words by stage, with v at stage s where `on`
abbrev pub keeping : List ℕ → Bool → ℕ → ℕ → List ℕ
keeping words on s v = cond on (set words s v) words

-- stage s marked in row r, which is now address a's, as a load that took the word w, and as a store with the word v
abbrev pub access_marked : Table → ℕ → ℕ → ℕ → Bool → Bool → ℕ → ℕ → Table
access_marked t r s a load store v w =
    executing t s (set t.addresses r a) (marking t.loads load r s) (marking t.stores store r s)
    (keeping t.values store s v) (keeping t.taken load s w)
