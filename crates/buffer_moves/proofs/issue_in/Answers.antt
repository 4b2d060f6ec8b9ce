-- `buffer_moves::issue_in` meets its contract: broken rules are refused with 2 (broken_meets), and a full window with 5
-- (issue_full). Past both the table is the step `grown`. Assumes nothing.
use Rattle.std.proofs.Common.{arith}
use Rattle.std.proofs.lemmas.Result.{err_from_is_err_and}
use Rattle.table.proofs.Lawful.{lawful_rules}
use Rattle.buffer_model.specs.Calls.{issue}
use Rattle.buffer_model.proofs.MeetingContract.{broken_meets}
use Rattle.buffer_model.proofs.Moving.{issue_full, issue_meets}
use Rattle.buffer_moves.proofs.issue_in.Goals as goal

pub returns-in_err-checked : goal.returns-in_err-checked
returns-in_err-checked c m =
    let exit = err_from_is_err_and c.from_residual.result c.from_residual.ensures.1 in
    let broken = c.in_err-checked.ensures.broken in
    rw (exit.1, exit.2, broken.0) (broken_meets _ issue m broken.1)

pub returns-then-t : goal.returns-then-t
returns-then-t c = issue_full _ (lawful_rules _ c.in_ok-checked.ensures.kept.1) c.if-t.true

pub returns : goal.returns
returns c m =
    let rules = lawful_rules _ c.in_ok-checked.ensures.kept.1 in
    let fits = rw c.in_ok-checked.ensures.kept.0 at c.in_ok-checked.field-0.fits in
    rw (c.grow.ensures.table, c.grow.ensures.ticket)
    (issue_meets _ rules fits.lengths (omega (arith, rules.live_bounded, c.if-t.false)) m)
