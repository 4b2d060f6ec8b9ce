-- What a search of a table goes by: the arrays have their lengths, the sizes lie in their limits, and the window in the stages. Of
-- a table in code that keeps its rules that is so (proofs/Fitting.antt).
-- Assumes nothing.
use Rattle.std.specs.Prelude.{◌≡◌, ◌≤◌, ◌<◌, length}
use Rattle.table.specs.declared.Table.{Table}
use Rattle.table.specs.Limits.{banks_most, rows_most, stages_most, slots}

pub record Lengths (t : Table) : Type 0 where
  pub numbers : length t.numbers ≡ stages_most
  pub addresses : length t.addresses ≡ slots
  pub loads : length t.loads ≡ slots
  pub stores : length t.stores ≡ slots
  pub values : length t.values ≡ stages_most
  pub taken : length t.taken ≡ stages_most

pub record Fits (t : Table) : Type 0 where
  pub lengths : Lengths t
  pub some_bank : 0 < t.banks
  pub banks : t.banks ≤ banks_most
  pub some_row : 0 < t.rows
  pub rows : t.rows ≤ rows_most
  pub oldest : t.oldest < t.stages
  pub live : t.live ≤ t.stages
  pub stages : t.stages ≤ stages_most
