-- When two states count as equal: they differ only in the place of a row in its bank, in values without a store mark, in words
-- taken without a load mark, or in what stands at free rows and at stages that are not live. Rows are those of the banks that
-- the sizes give.
-- Assumes nothing.
use Rattle.std.specs.Prelude.{◌≡◌, true, ℕ, ◌/◌, ◌<◌, get_or}
use Rattle.marks.specs.Stages.{has}
use Rattle.table.specs.declared.Table.{Table}
use Rattle.table.specs.Limits.{rows_most, rows_in}
use Rattle.table.specs.View.{address, load_mark, store_mark, mark, value, taken}
use Rattle.table.specs.Rules.{Live}

-- row q of u is row r of t, perhaps at another place of the bank: address, marks, values at store marks and words taken at load
-- marks
pub record SameRow (t u : Table) (r q : ℕ) : Type 0 where
  pub row : q < rows_in u.banks
  pub bank : q / rows_most ≡ r / rows_most
  pub address : address u q ≡ address t r
  pub loads : (s : ℕ) → load_mark u q s ≡ load_mark t r s
  pub stores : (s : ℕ) → store_mark u q s ≡ store_mark t r s
  pub values : (s : ℕ) → store_mark t r s ≡ true → value u s ≡ value t s
  pub taken : (s : ℕ) → load_mark t r s ≡ true → taken u s ≡ taken t s

pub record Same (t u : Table) : Type 0 where
  pub banks : u.banks ≡ t.banks
  pub rows : u.rows ≡ t.rows
  pub stages : u.stages ≡ t.stages
  pub words : u.words ≡ t.words
  pub oldest : u.oldest ≡ t.oldest
  pub live : u.live ≡ t.live
  pub next : u.next ≡ t.next
  -- at live stages
  pub numbers : (s : ℕ) → Live t s → get_or u.numbers s 0 ≡ get_or t.numbers s 0
  pub executed : (s : ℕ) → Live t s → has u.executed s ≡ has t.executed s
  -- rows that are not free
  pub there : (r s : ℕ) → r < rows_in t.banks → mark t r s ≡ true → (q : ℕ) × SameRow t u r q
  pub back : (r s : ℕ) → r < rows_in u.banks → mark u r s ≡ true → (q : ℕ) × SameRow u t r q
