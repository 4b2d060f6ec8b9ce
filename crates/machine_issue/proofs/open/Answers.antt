-- `machine_issue::open` meets its contract: the three refusals and the opening are the first check that holds, and that none
-- does. Assumes nothing.
use Rattle.std.proofs.Common.{◌≡◌, ◌/◌, Bool, true, ◌&&◌, leb, length, sym, ap, ◌∙◌, eq-eqb}
use mathlib.Core.Bool.{and-eq-true_iff}
use Rattle.table.specs.declared.Table.{Table}
use Rattle.table.specs.Limits.{sizes_fit}
use Rattle.machine_model.specs.Program.{per_instruction, program_most}
use Rattle.machine_model.specs.Contract.{empty_machine}
use Rattle.machine_model.proofs.Opened.{opens_done}
use Rattle.machine_issue.proofs.open.Goals as goal
use Rattle.machine_issue.proofs.open.Goals.{After-empty-2}

-- past the first test sizes and program lie in their limits
limits_at : (c : After-empty-2)
    → (sizes_fit c.args.banks c.args.rows c.args.stages c.args.words && leb (length c.args.program.now) program_most) ≡ true
limits_at c =
    ap (λ (b : Bool). b && leb (length c.args.program.now) program_most) (sym c.sizes_fit.ensures)
    ∙ c.if-not-sizes_fit-program.false

pub returns : goal.returns
returns c =
    let fit =
    ((and-eq-true_iff (sizes_fit c.args.banks c.args.rows c.args.stages c.args.words)
    (leb (length c.args.program.now) program_most)
    ).0
    (limits_at c)
    ).0 in
    rw (c.empty-2.ensures ∙ ap (λ (t : Table). empty_machine t (length c.args.program.now / per_instruction)) c.empty.ensures)
    (opens_done _ _ _ fit
    (rw (
      limits_at c,
      eq-eqb _ _ c.if-memory-words.false,
      sym c.program_fits.ensures ∙ c.if-not-program_fits.false,
    )))
