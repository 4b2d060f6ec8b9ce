-- Assumes nothing.
use mathlib.Core.Path.{refl, sym, ap₂, ◌∙◌}
use Prim.Native.Nat.{◌<◌}
use native.Mathlib.Omega.{arith}
use lib.Bits.{bit_or}
use borrow.Author.Tests.{eq-eqb, ne_eqb}
use Rattle.table.specs.Limits.{banks_most}
use Rattle.table.proofs.Sizes.{bank_lt}
use Rattle.machine_laws.specs.Computed.Parts.{union}
use Rattle.machine_laws.proofs.Agreeing.{union_in, union_out}
use Rattle.machine_window.proofs.marks_at.Goals as goal
use Rattle.machine_window.proofs.marks_at.Goals.{After-bank_of-first, then-table-r, else-table-r}

-- the bank is one of those that the arrays have places for
bank_low : (c : After-bank_of-first) → c.bank_of-first.result < banks_most
bank_low c =
    let t = c.args.t in
    omega (arith, bank_lt t.table.now.banks c.args.a t.fits.some_bank, t.fits.banks, c.bank_of-first.ensures)

pub overflow_mul-first : goal.overflow_mul-first
overflow_mul-first c = omega (arith, bank_low c)

pub loop-i-init : goal.loop-i-init
unfolding union
loop-i-init c = (omega (arith, bank_low c), refl, refl)

pub loop-i-preserved : goal.loop-i-preserved
loop-i-preserved c =
    let inv = c.loop-i.invariant in
    elim c.if-table-r.branch [
      | then-table-r w ↦ let same = eq-eqb _ _ w.if-table-r.true in (
        inv.0,
        w.loads-is ∙ ap₂ bit_or inv.1 refl ∙ sym (union_in _ _ _ same),
        w.stores-is ∙ ap₂ bit_or inv.2 refl ∙ sym (union_in _ _ _ same),
      )
      | else-table-r w ↦ let differs = ne_eqb _ _ w.if-table-r.false in (
        inv.0,
        w.loads-is ∙ inv.1 ∙ sym (union_out _ _ _ differs),
        w.stores-is ∙ inv.2 ∙ sym (union_out _ _ _ differs),
      )
    ]
