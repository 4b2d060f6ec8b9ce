-- The table's own rules, sentence by sentence. Rows are those of the banks that the sizes give.
-- Assumes nothing.
use Rattle.std.specs.Prelude.{◌≡◌, true, ℕ, ◌/◌, ◌%◌, ◌≤◌, ◌<◌}
use Rattle.marks.specs.Stages.{has}
use Rattle.marks.specs.Circle.{position}
use Rattle.table.specs.declared.Table.{Table}
use Rattle.table.specs.Limits.{rows_most, rows_in, sizes_fit}
use Rattle.table.specs.Bank.{bank}
use Rattle.table.specs.View.{address, mark}

-- stage s holds a live reference
pub record Live (t : Table) (s : ℕ) : Type 0 where
  pub stage : s < t.stages
  pub position : position t.oldest t.stages s < t.live

pub record Rules (t : Table) : Type 0 where
  -- Sizes lie in the limits.
  pub sizes : sizes_fit t.banks t.rows t.stages t.words ≡ true
  -- Live references number at most n, and the oldest's stage is below n.
  pub live_bounded : t.live ≤ t.stages
  pub start : t.oldest < t.stages
  -- Marks lie on live, executed stages only.
  pub live : (r s : ℕ) → r < rows_in t.banks → mark t r s ≡ true → Live t s
  pub executed : (r s : ℕ) → r < rows_in t.banks → mark t r s ≡ true → has t.executed s ≡ true
  -- Each live stage bears its marks (a load's, a store's or both) in one row, if it executed to memory, otherwise none. (That
  -- it executed to memory is what its marks say.)
  pub one_row : (r q s : ℕ) → r < rows_in t.banks → q < rows_in t.banks → mark t r s ≡ true → mark t q s ≡ true → r ≡ q
  -- No address has two rows (a row without marks is free),
  pub one_address : (r q s u : ℕ) → r < rows_in t.banks → q < rows_in t.banks → mark t r s ≡ true → mark t q u ≡ true
      → address t r ≡ address t q → r ≡ q
  -- and every row lies in its address's bank.
  pub in_bank : (r s : ℕ) → r < rows_in t.banks → mark t r s ≡ true → r / rows_most ≡ bank t.banks (address t r)
  pub in_rows : (r s : ℕ) → r < rows_in t.banks → mark t r s ≡ true → r % rows_most < t.rows
