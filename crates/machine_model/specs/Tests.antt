-- The conditions 2, 3 and 4 as tests of a machine: whether window and table agree, and whether program and window do.
-- Assumes nothing.
use Rattle.std.specs.Prelude.{Bool, not, ◌&&◌, List, [], ◌∷◌, ℕ, ◌*◌, eqb, length}
use Rattle.marks.specs.Counting.{every}
use Rattle.table.specs.View.{stage_of, fate_at}
use Rattle.table.specs.Computed.Check.{lawful}
use Rattle.engine.specs.Conditions.{refusal, when}
use Rattle.machine_model.specs.declared.Machine.{Machine}
use Rattle.machine_model.specs.Program.{per_instruction, program_fits}
use Rattle.machine_model.specs.Window.{reference}
use Rattle.machine_model.specs.Calls.{matches_program}
use Rattle.machine_model.specs.Contract.{entry_of, agree}

-- the window agrees with the table at the first k positions
abbrev pub agreeing : Machine → ℕ → Bool
agreeing m k = every (λ (p : ℕ). agree (reference (entry_of m p)) (fate_at m.table (stage_of m.table p))) k

-- the program is the opened one, and the live entries are its instructions
abbrev pub fitting : List ℕ → Machine → Bool
fitting program m =
    program_fits program && eqb (length program) (per_instruction * m.count)
    && every (λ (p : ℕ). matches_program program m.count (entry_of m p)) m.table.live

-- the conditions 2, 3 and 4, in that order, of a call lent a memory of this length
abbrev pub validate_of : Machine → List ℕ → ℕ → ℕ
validate_of m program lent =
    refusal
    (when (not (lawful m.table && agreeing m m.table.live)) 2 ∷ when (not (eqb lent m.table.words)) 3
    ∷ when (not (fitting program m)) 4
    ∷ [])
