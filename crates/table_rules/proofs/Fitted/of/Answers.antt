-- Assumes nothing.
use mathlib.Core.Path.{sym, ◌∙◌}
use Rattle.table.proofs.Fitting.{lawful_fit}
use Rattle.table_rules.proofs.Fitted.of.Goals as goal

pub invariant_of-result : goal.invariant_of-result
invariant_of-result c =
    let told = c.keeps_rules.ensures in
    record { fits = lawful_fit _ (sym told.kept ∙ c.if-not-keeps_rules.false) told.lengths }
