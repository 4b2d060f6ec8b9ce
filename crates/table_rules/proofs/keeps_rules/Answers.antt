-- `table_rules::keeps_rules` meets its contract: each early return is a test of the definition that fails; past them the first
-- three hold, and the rest is what `rows_fit` ensures at the live executed stages. Assumes nothing.
use mathlib.Core.Path.{sym, ◌∙◌}
use native.Mathlib.Omega.{arith}
use borrow.Author.Tests.{le-leb, lt-leb, lt-ltb, le-ltb}
use Rattle.table.specs.Computed.Check.{lawful_by}
use Rattle.table.proofs.Sizes.{sizes}
use Rattle.table_rules.proofs.keeps_rules.Goals as goal

pub returns-then-not-sizes_fit-clause-kept : goal.returns-then-not-sizes_fit-clause-kept
unfolding lawful_by
returns-then-not-sizes_fit-clause-kept c = rw (sym c.sizes_fit.ensures ∙ c.if-not-sizes_fit.true)

pub returns-then-live-stages-clause-kept : goal.returns-then-live-stages-clause-kept
unfolding lawful_by
returns-then-live-stages-clause-kept c = rw (sym c.sizes_fit.ensures ∙ c.if-not-sizes_fit.false, lt-leb _ _ c.if-live-stages.true)

pub returns-then-oldest-stages-clause-kept : goal.returns-then-oldest-stages-clause-kept
unfolding lawful_by
returns-then-oldest-stages-clause-kept c = rw (sym c.sizes_fit.ensures ∙ c.if-not-sizes_fit.false, le-leb _ _ c.if-live-stages.false, le-ltb _ _ c.if-oldest-stages.true)

pub invariant_of-circle : goal.invariant_of-circle
invariant_of-circle c =
    let fit = sizes _ _ _ _ (sym c.sizes_fit.ensures ∙ c.if-not-sizes_fit.false) in
    record { starts = c.if-oldest-stages.false; narrow = omega (arith, fit.stages) }

pub rows_fit-requires : goal.rows_fit-requires
rows_fit-requires c =
    let fit = sizes _ _ _ _ (sym c.sizes_fit.ensures ∙ c.if-not-sizes_fit.false) in
    (fit.some_bank, fit.banks)

pub returns-clause-kept : goal.returns-clause-kept
unfolding lawful_by
returns-clause-kept c =
    rw (
      sym c.sizes_fit.ensures ∙ c.if-not-sizes_fit.false,
      le-leb _ _ c.if-live-stages.false,
      lt-ltb _ _ c.if-oldest-stages.false,
      ← c.first_stages.ensures,
    )
    c.rows_fit.ensures
