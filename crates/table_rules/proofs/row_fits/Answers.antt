-- `table_rules::row_fits` meets its contract: a free row passes the definition's first test; of another the code computes the
-- remaining tests in the definition's order. Assumes nothing.
use borrow.Author.Rules.{rules}
use borrow.Author.Tests.{eq-eqb, ne_eqb}
use Rattle.table.specs.Computed.Check.{row_fits}
use Rattle.table_rules.proofs.row_fits.Goals as goal

pub returns-then-marks-eq0 : goal.returns-then-marks-eq0
unfolding row_fits
returns-then-marks-eq0 c = search (rules, eq-eqb)

pub returns : goal.returns
unfolding row_fits
returns c =
    rw (
      ← c.marks_in-marks.ensures,
      ne_eqb _ 0 c.if-marks-eq0.false,
      c.address_alone.ensures,
      c.bank_of.ensures,
      c.requires.2,
    )
