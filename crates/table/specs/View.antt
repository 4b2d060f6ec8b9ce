-- The plain state of a table. It forgets a row's place in its bank, values without a store mark, words taken without a load
-- mark, and what stands at free rows, at rows of banks that the sizes do not give and at stages that are not live
-- (specs/Same.antt says that it forgets nothing else).
-- Assumes nothing.
use Rattle.std.specs.Prelude.{Bool, true, false, cond, ◌||◌, List, [], ◌∷◌, ◌++◌, ℕ, zero, suc, get_or}
use Rattle.marks.specs.Stages.{has}
use Rattle.marks.specs.Circle.{stage}
use Rattle.table.specs.declared.Table.{Table}
use Rattle.table.specs.Limits.{rows_in}
use Rattle.table.specs.Reference.{Side, lacks, holds, Fate, waiting, other, accessed, Ref, ref, State}

-- the stage at position p of the window
abbrev pub stage_of : Table → ℕ → ℕ
stage_of t p = stage t.oldest t.stages p

abbrev pub address : Table → ℕ → ℕ
address t r = get_or t.addresses r 0

-- row r bears a load mark at stage s
abbrev pub load_mark : Table → ℕ → ℕ → Bool
load_mark t r s = has (get_or t.loads r 0) s

-- row r bears a store mark at stage s
abbrev pub store_mark : Table → ℕ → ℕ → Bool
store_mark t r s = has (get_or t.stores r 0) s

-- row r bears a mark at stage s
abbrev pub mark : Table → ℕ → ℕ → Bool
mark t r s = load_mark t r s || store_mark t r s

-- the word of the store of stage s
abbrev pub value : Table → ℕ → ℕ
value t s = get_or t.values s 0

-- the word that the load of stage s took
abbrev pub taken : Table → ℕ → ℕ
taken t s = get_or t.taken s 0

-- a mark stands for the word v
abbrev pub word_if : Bool → ℕ → Side
word_if true v = holds v
word_if false v = lacks

-- what the marks of row r at stage s say
abbrev pub access : Table → ℕ → ℕ → Fate
access t r s = accessed (address t r) (word_if (load_mark t r s) (taken t s)) (word_if (store_mark t r s) (value t s))

-- what the marks of the first k rows say of stage s; without a mark it executed without memory
unfoldable pub mark_fate : Table → ℕ → ℕ → Fate
mark_fate t s zero = other
mark_fate t s (suc k) = cond (mark t k s) (access t k s) (mark_fate t s k)

abbrev pub fate_at : Table → ℕ → Fate
fate_at t s = cond (has t.executed s) (mark_fate t s (rows_in t.banks)) waiting

-- the live reference at position p
abbrev pub ref_at : Table → ℕ → Ref
ref_at t p = ref (get_or t.numbers (stage_of t p) 0) (fate_at t (stage_of t p))

-- f 0, f 1, .. up to below k
unfoldable pub tabulate : {A : Type 0} → (ℕ → A) → ℕ → List A
tabulate f zero = []
tabulate f (suc k) = tabulate f k ++ (f k ∷ [])

abbrev pub view : Table → State
view t =
    record {
      banks = t.banks;
      rows = t.rows;
      stages = t.stages;
      words = t.words;
      oldest = t.oldest;
      next = t.next;
      refs = tabulate (ref_at t) t.live;
    }
