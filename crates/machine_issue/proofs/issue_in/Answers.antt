-- `machine_issue::issue_in` meets its contract: the validation's refusals are those of machine_laws/proofs/Checking.antt, and
-- those of the conditions 5 and 6 and the issue itself those of machine_laws/proofs/Moved.antt. Assumes nothing.
use Rattle.std.proofs.Common.{◌<◌, eqb, sym, arith}
use Rattle.std.proofs.lemmas.Result.{err_from_is_err_and}
use borrow.Author.Tests.{eqb-false}
use Rattle.table.specs.Fits.{Fits}
use Rattle.engine.proofs.Refusals.{number_some}
use Rattle.machine_model.specs.Calls.{issue}
use Rattle.machine_model.proofs.Answering.{Passed, validate_passes}
use Rattle.machine_laws.proofs.Checking.{check_turns}
use Rattle.machine_laws.proofs.Formed.{program_small}
use Rattle.machine_laws.proofs.Refusals.{issue_free}
use Rattle.machine_laws.proofs.Moved.{issue_refused, issue_meets}
use Rattle.machine_issue.proofs.issue_in.Goals as goal
use Rattle.machine_issue.proofs.issue_in.Goals.{In_ok-issue_refusal}

passed_at : (c : In_ok-issue_refusal) → Passed c.args.m.now c.args.program.now c.args.m.now.table.words
passed_at c = validate_passes _ _ _ (sym c.in_ok-validate.ensures.number)

fits_at : (c : In_ok-issue_refusal) → Fits c.args.m.now.table
fits_at c = rw c.in_ok-validate.ensures.table at c.in_ok-validate.field-0.fits

-- none of the conditions 5 and 6 holds: there is room, and an instruction is left
free_at : (c : In_ok-issue_refusal)
    → let m = c.args.m.now in (m.table.live < m.table.stages) × (m.next < m.count)
free_at c =
    let m = c.args.m.now in
    let t = m.table in
    let free = issue_free (eqb t.live t.stages) m.count m.next (sym c.in_ok-issue_refusal.ensures) in
    (omega (arith, (passed_at c).sound.rules.live_bounded, eqb-false t.live t.stages free.0), free.1)

pub returns-in_err-validate : goal.returns-in_err-validate
returns-in_err-validate c w =
    let exit = err_from_is_err_and c.from_residual.result c.from_residual.ensures.1 in
    rw (exit.1, exit.2) (check_turns _ _ issue w c.in_err-validate.ensures.number (number_some _))

pub returns-in_err-issue_refusal : goal.returns-in_err-issue_refusal
returns-in_err-issue_refusal c w =
    let left = c.from_residual-in_err-issue_refusal in
    let exit = err_from_is_err_and left.result left.ensures.1 in
    rw (exit.1, exit.2)
    (issue_refused _ _ (validate_passes _ _ _ (sym c.in_ok-validate.ensures.number)) w _ c.in_err-issue_refusal.ensures
    (number_some _))

pub issue_next-requires-clause-formed : goal.issue_next-requires-clause-formed
issue_next-requires-clause-formed c =
    let at = (goal.at.issue_next-requires-clause-formed c).In_ok-issue_refusal in
    program_small _ _ _ (passed_at at).fits (passed_at at).counted (free_at at).1

pub returns : goal.returns
returns c w =
    let at = (goal.at.returns c).In_ok-issue_refusal in
    let free = free_at at in
    let sized = c.in_ok-validate.ensures.sized in
    rw c.issue_next.ensures (issue_meets _ _ (passed_at at) w sized.lengths sized.window free.0 free.1)
