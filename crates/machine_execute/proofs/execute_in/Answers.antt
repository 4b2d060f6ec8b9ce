-- `machine_execute::execute_in` meets its contract. The validation's refusals are those of machine_laws/proofs/Checking.antt,
-- those of the conditions 7, 8 and 9, and the stall after them, those of machine_laws/proofs/Executions.antt. Past them what
-- the effect changes lies in its bounds (found_bounds), and the machine is the one with the effect applied (executed_meets).
-- Assumes nothing.
use mathlib.Core.Path.{◌≡◌, sym}
use mathlib.Core.Option.{some}
use Prim.Native.Nat.{◌<◌}
use native.Mathlib.Nat.{le_of_lt}
use lib.ListN.{length}
use Rattle.std.proofs.lemmas.Result.{err_from_is_err_and}
use Rattle.engine.specs.Computed.Effect.{effect_at}
use Rattle.engine.proofs.Effects.{found_bounds}
use Rattle.engine.proofs.Lengths.{stage_small}
use Rattle.engine.proofs.Refusals.{number_some}
use Rattle.machine_model.specs.Calls.{execute}
use Rattle.machine_model.specs.Contract.{entry_of}
use Rattle.machine_model.proofs.Answering.{Passed, validate_passes}
use Rattle.machine_laws.proofs.Checking.{check_turns}
use Rattle.machine_laws.proofs.Formed.{like_small}
use Rattle.machine_laws.proofs.Executions.{asked, execute_why, asked_refused, asked_passed, stall_refused, executed_meets}
use Rattle.machine_execute.proofs.execute_in.Goals as goal
use Rattle.machine_execute.proofs.execute_in.Goals.{After-effect_of-effect}

module _ (c : After-effect_of-effect) where
  -- past the validation none of the conditions 2, 3 and 4 holds, nor then of 7, 8 and 9
  passed : Passed c.args.m.now c.args.program.now (length c.args.memory.now)
  passed = validate_passes _ _ _ (sym c.in_ok-held.ensures.number)

  free : execute_why c.args.m.now c.args.program.now c.args.memory.now c.args.p passed ≡ 0
  free = sym c.in_ok-asked.ensures.number

  live : c.args.p < c.args.m.now.table.live
  live = (asked_passed c.args.m.now c.args.program.now c.args.memory.now c.args.p passed free).0

  asks : asked c.args.m.now c.args.program.now c.args.memory.now c.args.p passed ≡ some c.in_ok-asked.asked.action
  asks = c.in_ok-asked.ensures.asked.2

  -- the effect found is the definition's
  found : c.effect_of-effect.result ≡ effect_at c.args.m.now.table c.args.p c.args.memory.now c.in_ok-asked.asked.action
  found = rw (c.word_below-below.ensures, c.in_ok-held.ensures.table) at c.effect_of-effect.ensures

pub returns-in_err-held : goal.returns-in_err-held
returns-in_err-held c =
    let exit = err_from_is_err_and c.from_residual.result c.from_residual.ensures.1 in
    rw (exit.1, exit.2) (check_turns _ _ (execute _) _ c.in_err-held.ensures.number (number_some _))

pub asked_at-requires-clause-operands_exist : goal.asked_at-requires-clause-operands_exist
asked_at-requires-clause-operands_exist c h =
    let passed : Passed c.args.m.now c.args.program.now (length c.args.memory.now) =
    validate_passes _ _ _ (sym c.in_ok-held.ensures.number) in
    like_small c.args.program.now c.args.m.now.count (entry_of c.args.m.now c.args.p) passed.fits passed.counted
    (passed.alike c.args.p h)

pub returns-in_err-asked : goal.returns-in_err-asked
returns-in_err-asked c =
    let exit = err_from_is_err_and c.from_residual-in_err-asked.result c.from_residual-in_err-asked.ensures.1 in
    rw (exit.1, exit.2)
    (asked_refused _ _ _ _ (validate_passes _ _ _ (sym c.in_ok-held.ensures.number)) _ c.in_err-asked.ensures.number
    (number_some _))

pub returns-then-effect-eq0 : goal.returns-then-effect-eq0
returns-then-effect-eq0 c =
    let at = (goal.at.returns-then-effect-eq0 c).After-effect_of-effect in
    stall_refused _ _ _ _ (passed at) (free at) _ (asks at) _ (found at) c.if-effect-eq0.true

pub execute_stage-requires : goal.execute_stage-requires
execute_stage-requires c =
    let at = (goal.at.execute_stage-requires c).After-effect_of-effect in
    let rules = (passed at).sound.rules in
    let lies = found_bounds _ rules _ (live at) _ _ (found at) c.if-effect-eq0.false in
    let asked = c.in_ok-asked.ensures.asked in (
      rw c.in_ok-held.ensures.table at c.in_ok-held.held.fits,
      lies.1,
      lies.2,
      rw asked.0 (stage_small _ rules _ (le_of_lt (live at))),
    )

pub returns : goal.returns
returns c =
    let at = (goal.at.returns c).After-effect_of-effect in
    let sized = c.in_ok-held.ensures.sized in
    rw (c.execute_stage.ensures, c.execute_answer-answer.ensures)
    (executed_meets _ _ _ _ (passed at) (free at) _ (asks at) sized.window sized.lengths _ c.in_ok-asked.ensures.asked.0 _
    (found at) c.if-effect-eq0.false)
