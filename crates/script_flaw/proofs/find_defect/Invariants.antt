-- `script_flaw::find_defect` meets its contract. The loop's invariant: what the bytes that are left say of the field now open
-- is what the whole line says. Assumes nothing.
use Rattle.std.proofs.Common.{◌≡◌, ◌+◌, ◌≤◌, drop}
use Rattle.text.specs.Fields.{empty}
use Rattle.flaw_model.specs.Flaw.{no_number}
use Rattle.flaw_model.specs.Computed.Looking.{open_of}
use Rattle.script_flaw.proofs.find_defect.Given as goal

abbrev pub invariant-loop-b : goal.invariant-loop-b
invariant-loop-b l =
    (no_number l.letter l.k (open_of l.so_far) (drop l.b-index l.fields) ≡ no_number l.letter 2 empty l.fields)
    × (l.k ≤ l.b-index + 2)
