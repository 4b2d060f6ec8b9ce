-- `table_rules::sizes_fit` meets its contract: the code computes the definition's tests in its order.
-- Assumes nothing.
use mathlib.Core.Path.{refl}
use Rattle.table.specs.Limits.{sizes_fit}
use Rattle.table_rules.proofs.sizes_fit.Goals as goal

pub returns : goal.returns
unfolding sizes_fit
returns c = refl
