-- `machine_issue::squash_in` meets its contract: the validation's refusals are those of machine_laws/proofs/Checking.antt, and
-- refusal 7 and the squash itself those of machine_laws/proofs/Moved.antt. Assumes nothing.
use Rattle.std.proofs.Common.{sym, arith}
use Rattle.std.proofs.lemmas.Result.{err_from_is_err_and}
use Rattle.engine.proofs.Refusals.{number_some}
use Rattle.machine_model.specs.Calls.{squash}
use Rattle.machine_model.proofs.Answering.{validate_passes}
use Rattle.machine_laws.proofs.Checking.{check_turns}
use Rattle.machine_laws.proofs.Moved.{squash_beyond, squash_meets}
use Rattle.machine_issue.proofs.squash_in.Goals as goal

pub returns-in_err-validate : goal.returns-in_err-validate
returns-in_err-validate c w =
    let exit = err_from_is_err_and c.from_residual.result c.from_residual.ensures.1 in
    rw (exit.1, exit.2) (check_turns _ _ (squash _) w c.in_err-validate.ensures.number (number_some _))

pub returns-then-p-m : goal.returns-then-p-m
returns-then-p-m c w =
    squash_beyond _ _ (validate_passes _ _ _ (sym c.in_ok-validate.ensures.number)) w _ c.if-p-m.true

pub returns : goal.returns
returns c w =
    rw c.squash_from.ensures
    (squash_meets _ _ (validate_passes _ _ _ (sym c.in_ok-validate.ensures.number)) w _ (omega (arith, c.if-p-m.false)))
