-- Assumes nothing.
use mathlib.Core.Path.{◌≡◌, refl, ap, ap₂, sym, ◌∙◌}
use mathlib.Core.Bool.{◌&&◌}
use Prim.Native.Nat.{◌+◌, ◌*◌}
use native.Mathlib.Omega.{arith}
use lib.Bits.{bit_or}
use Rattle.marks.specs.Counting.{every}
use Rattle.table.specs.Limits.{rows_most}
use Rattle.table.specs.Computed.Check.{marks_below, row_fits}
use Rattle.table.proofs.Banked.{every_more, taken_more, free_more}
use Rattle.table_rules.proofs.rows_fit.Goals as goal
use Rattle.table_rules.proofs.rows_fit.Goals.{then-used-ne0, else-used-ne0}

pub loop-b-init : goal.loop-b-init
unfolding every marks_below
loop-b-init c = (refl, refl)

pub loop-b-preserved : goal.loop-b-preserved
loop-b-preserved c =
    let at = c.loop-b in
    let t = c.args.t.now in
    let test = row_fits t.banks t.rows c.args.allowed t.addresses t.loads t.stores in
    let first = at.b * rows_most in
    let next : first + rows_most ≡ (at.b + 1) * rows_most = omega arith in
    let used = c.marks_from-used.ensures in
    let bank : c.if-used-ne0.fit ≡ every test (first + rows_most) =
    elim c.if-used-ne0.branch [
      | then-used-ne0 w ↦
          w.fit-is ∙ ap₂ ◌&&◌ {v = every (λ i. test (first + i)) rows_most} at.invariant.0 w.bank_fits-fit.ensures
          ∙ every_more test first rows_most
      | else-used-ne0 w ↦
          w.fit-is ∙ at.invariant.0 ∙ free_more t.loads t.stores first _ _ _ _ rows_most (sym used ∙ w.if-used-ne0.false)
    ] in (
      bank ∙ ap (every test) next,
      ap₂ bit_or at.invariant.1 used ∙ taken_more t.loads t.stores first rows_most ∙ ap (marks_below t.loads t.stores) next,
    )

pub returns : goal.returns
returns c = c.loop-b.invariant.0 ∙ ap (every _) (omega arith)
