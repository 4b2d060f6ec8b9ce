-- Assumes nothing.
use Rattle.std.proofs.Common.{◌≡◌, ◌%◌, length, refl, ap, ◌∙◌, arith, eq-eqb, ne_eqb}
use Rattle.marks.specs.Counting.{every}
use Rattle.marks.proofs.Counts.{every_next}
use Rattle.machine_model.specs.Program.{program_fits}
use Rattle.machine_isa.proofs.program_fits.Goals as goal

pub returns-then-program-ne0 : goal.returns-then-program-ne0
unfolding program_fits
returns-then-program-ne0 c = rw (ne_eqb (length c.args.program.now % 4) 0 c.if-program-ne0.true)

pub loop-i-init : goal.loop-i-init
unfolding every
loop-i-init c = refl

pub loop-i-preserved : goal.loop-i-preserved
loop-i-preserved c =
    let n = c.numbers_at-n.ensures in
    every_next _ _ c.loop-i.invariant
    (c.well_formed-fit.ensures ∙ rw (n.code_value.0, n.code_value.1, n.s_value.0, n.s_value.1))

pub returns : goal.returns
unfolding program_fits
returns c =
    let size = length c.args.program.now in
    let whole : size % 4 ≡ 0 = omega arith in
    rw (eq-eqb (size % 4) 0 whole) (c.loop-i.invariant ∙ ap (every _) (omega arith))
