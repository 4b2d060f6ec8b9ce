-- `buffer_moves::squash_in` meets its contract: broken rules are refused with 2 (broken_meets), and a ticket that names nothing
-- with 7 (squash_unnamed). Past both the table is the step `cut` at the ticket's position. Assumes nothing.
use Rattle.std.proofs.Common.{sym, ◌∙◌}
use Rattle.std.proofs.lemmas.Result.{err_from_is_err_and}
use Rattle.table.proofs.Lawful.{lawful_rules}
use Rattle.buffer_model.specs.Calls.{squash}
use Rattle.buffer_model.proofs.MeetingContract.{broken_meets}
use Rattle.buffer_model.proofs.Moving.{squash_unnamed, squash_meets}
use Rattle.buffer_moves.proofs.squash_in.Goals as goal

pub returns-in_err-held : goal.returns-in_err-held
returns-in_err-held c m =
    let exit = err_from_is_err_and c.from_residual.result c.from_residual.ensures.1 in
    let broken = c.in_err-held.ensures.broken in
    rw (exit.1, exit.2, broken.0) (broken_meets _ (squash _) m broken.1)

pub returns-then-not-names : goal.returns-then-not-names
returns-then-not-names c =
    let kept = c.in_ok-held.ensures.kept in
    squash_unnamed _ (lawful_rules _ kept.1) _ (rw kept.0 at (sym c.names.ensures ∙ c.if-not-names.true))

pub returns : goal.returns
returns c m =
    let kept = c.in_ok-held.ensures.kept in
    rw (c.cut.ensures, c.position_of-p.ensures, c.circle.ensures.0, c.circle.ensures.1, kept.0)
    (squash_meets _ (lawful_rules _ kept.1) _ (rw kept.0 at (sym c.names.ensures ∙ c.if-not-names.false)) m)
