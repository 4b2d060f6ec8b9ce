-- `machine_commit::commit_in` meets its contract. The validation's refusals are those of machine_laws/proofs/Checking.antt, and
-- those of the conditions 11 to 14 and the commit itself those of machine_laws/proofs/Committed.antt. Assumes nothing.
use mathlib.Core.Path.{sym}
use Rattle.std.proofs.lemmas.Result.{err_from_is_err_and}
use Rattle.engine.proofs.Refusals.{number_some}
use Rattle.machine_model.specs.Calls.{commit}
use Rattle.machine_model.proofs.Answering.{validate_passes}
use Rattle.machine_laws.proofs.Checking.{check_turns}
use Rattle.machine_laws.proofs.Committed.{commit_refused, committed_meets}
use Rattle.machine_commit.proofs.commit_in.Goals as goal

pub returns-in_err-validate : goal.returns-in_err-validate
returns-in_err-validate c =
    let exit = err_from_is_err_and c.from_residual.result c.from_residual.ensures.1 in
    rw (exit.1, exit.2) (check_turns _ _ commit _ c.in_err-validate.ensures.number (number_some _))

pub returns-in_err-commit_refusal : goal.returns-in_err-commit_refusal
returns-in_err-commit_refusal c =
    let left = c.from_residual-in_err-commit_refusal in
    let exit = err_from_is_err_and left.result left.ensures.1 in
    rw (exit.1, exit.2)
    (commit_refused _ _ _ (validate_passes _ _ _ (sym c.in_ok-validate.ensures.number)) _ c.in_err-commit_refusal.ensures
    (number_some _))

pub returns : goal.returns
returns c =
    rw (c.commit_oldest.ensures.machine, c.commit_oldest.ensures.memory, c.commit_oldest.ensures.answer)
    (committed_meets _ _ _ (validate_passes _ _ _ (sym c.in_ok-validate.ensures.number)) (sym c.in_ok-commit_refusal.ensures))
