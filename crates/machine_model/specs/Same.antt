-- When two machines count as equal: they differ only in the place of a row in its bank, in values without a store mark, in words
-- taken without a load mark, or in what stands at free rows and at stages that are not live, entries of the window among it.
-- Assumes nothing.
use Rattle.std.specs.Prelude.{◌≡◌, ℕ, get_or}
use Rattle.table.specs.Rules.{Live}
use Rattle.table.specs.Same.{Same}
use Rattle.machine_model.specs.declared.Machine.{Machine}
use Rattle.machine_model.specs.Window.{blank_entry}

pub record SameMachine (m u : Machine) : Type 0 where
  pub table : Same m.table u.table
  -- at live stages
  pub window : (s : ℕ) → Live m.table s → get_or u.window s blank_entry ≡ get_or m.window s blank_entry
  pub registers : u.registers ≡ m.registers
  pub count : u.count ≡ m.count
  pub next : u.next ≡ m.next
