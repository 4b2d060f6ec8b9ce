-- `buffer_moves::open` meets its contract: the two refusals and the opening are the first check that holds, and that none does.
-- Assumes nothing.
use Rattle.std.proofs.Common.{sym, ◌∙◌, eq-eqb}
use Rattle.buffer_model.proofs.Opening.{opens_done}
use Rattle.buffer_moves.proofs.open.Goals as goal

pub returns : goal.returns
returns c =
    rw c.empty.ensures
    (opens_done _ _ _ _ _ (sym c.sizes_fit.ensures ∙ c.if-not-sizes_fit.false)
    (rw (sym c.sizes_fit.ensures ∙ c.if-not-sizes_fit.false, eq-eqb _ _ c.if-memory-words.false)))
