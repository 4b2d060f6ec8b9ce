-- The machine after each step, as the code makes it.
-- Assumes nothing.
use Rattle.std.specs.Prelude.{◌≡◌, cond, List, ◌∷◌, [], ℕ, ◌+◌, ◌^◌, ◌<◌, eqb, ltb, get_or, set, length}
use Rattle.lookup.specs.declared.Mark.{Mark}
use Rattle.table.specs.Fits.{Lengths}
use Rattle.table.specs.Limits.{stages_most}
use Rattle.table.specs.View.{stage_of}
use Rattle.engine.specs.declared.Effect.{Effect}
use Rattle.engine.specs.Computed.Effect.{apply_effect, effect_at}
use Rattle.engine.specs.Computed.Steps.{cut, grown, retired}
use Rattle.machine_model.specs.declared.Committed.{Committed}
use Rattle.machine_model.specs.declared.Entry.{Entry}
use Rattle.machine_model.specs.declared.Fate.TheVariants.{Executed}
use Rattle.machine_model.specs.declared.Machine.{Machine}
use Rattle.machine_model.specs.Program.{registers_most}
use Rattle.machine_model.specs.Window.{blank_entry, entry_with, pending, reference}
use Rattle.machine_model.specs.Calls.{new_entry, registers_after, value_by}
use Rattle.machine_model.specs.Contract.{entry_of}
use Rattle.machine_laws.specs.Computed.Parts.{action_by, mark_with}

-- the lengths of a machine's arrays and the size of its count, which a machine in code has
pub record Sized (m : Machine) : Type 0 where
  pub lengths : Lengths m.table
  pub window : length m.window ≡ stages_most
  pub registers : length m.registers ≡ registers_most
  pub small : m.count < 2 ^ 32

-- the entry at the oldest's stage
abbrev pub own : Machine → Entry
own m = get_or m.window m.table.oldest blank_entry

-- what it is to the buffer's commit, with the table's word at that stage
abbrev pub own_mark : Machine → Mark
own_mark m = mark_with (reference (own m)) (get_or m.table.values m.table.oldest 0)

-- after an issue
abbrev pub issued_over : List ℕ → Machine → Machine
issued_over program m =
    record {
      table = grown m.table;
      window = set m.window (stage_of m.table m.table.live) (new_entry program m.next);
      registers = m.registers;
      count = m.count;
      next = m.next + 1;
    }

-- after an execution at stage s with this effect
abbrev pub executed_over : Machine → ℕ → Effect → Machine
executed_over m s q =
    record {
      table = apply_effect m.table q s;
      window = set m.window s (entry_with (get_or m.window s blank_entry) (Executed q.value q.address) q.distance);
      registers = m.registers;
      count = m.count;
      next = cond (ltb q.left m.table.live) (entry_of m q.left).index m.next;
    }

-- after the first part of a finish's turn: where nothing is live the next instruction is issued
abbrev pub begun_over : List ℕ → Machine → Machine
begun_over program m = cond (eqb m.table.live 0) (issued_over program m) m

-- after the second part: where the oldest waits, it executes with what the registers hold
abbrev pub oldest_effect : List ℕ → Machine → Effect
oldest_effect memory m = effect_at m.table 0 memory (action_by m.registers (own m).instruction)

abbrev pub ready_over : List ℕ → Machine → Machine
ready_over memory m = cond (pending (own m).fate) (executed_over m m.table.oldest (oldest_effect memory m)) m

-- after a squash at position p
abbrev pub squashed_over : Machine → ℕ → Machine
squashed_over m p =
    record {
      table = cut m.table p;
      window = m.window;
      registers = m.registers;
      count = m.count;
      next = (entry_of m p).index;
    }

-- after a commit
abbrev pub committed_over : Machine → Machine
committed_over m =
    record {
      table = retired m.table;
      window = m.window;
      registers = registers_after m.registers (own m).instruction (value_by (own m).fate);
      count = m.count;
      next = m.next;
    }

-- the numbers of a commit, as they stand in a list
abbrev pub numbers_of : Committed → List ℕ
numbers_of c = c.index ∷ c.code ∷ c.target ∷ c.value ∷ c.distance ∷ []
