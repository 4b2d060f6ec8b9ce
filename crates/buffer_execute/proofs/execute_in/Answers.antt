-- `buffer_execute::execute_in` meets its contract. Broken rules are refused with 2 (broken_meets). An early refusal is the
-- definition's (early_refused); past it the ticket is ready (ready), and the effect found is the definition's. Where it leaves
-- nothing the execution stalls; else what it changes lies in its bounds (bounds), and the table is the one with the effect
-- applied (executes_meets). Assumes nothing.
use mathlib.Core.List.{List}
use mathlib.Core.Path.{◌≡◌, sym, ap, ◌∙◌}
use Prim.Native.Nat.{ℕ, ◌≤◌, ◌<◌}
use native.Mathlib.Omega.{arith}
use Rattle.std.proofs.lemmas.Result.{err_from_is_err_and}
use Rattle.table.specs.declared.Table.{Table}
use Rattle.table.specs.declared.Ticket.{Ticket}
use Rattle.table.specs.Limits.{stages_most, slots}
use Rattle.table.specs.Rules.{Rules}
use Rattle.table.specs.View.{view}
use Rattle.table.specs.Fits.{Fits}
use Rattle.table.proofs.Lawful.{lawful_rules}
use Rattle.engine.specs.declared.Action.{Action}
use Rattle.engine.specs.declared.Effect.{Effect}
use Rattle.engine.specs.Answers.{number}
use Rattle.engine.specs.Computed.Effect.{effect_at}
use Rattle.engine.proofs.Effects.{found_bounds}
use Rattle.engine.proofs.Lengths.{fits}
use Rattle.engine.proofs.Refusals.{number_some}
use Rattle.buffer_model.specs.Refusals.{place}
use Rattle.buffer_model.proofs.MeetingContract.{broken_meets}
use Rattle.buffer_model.proofs.Executing.{early_by, ready, early_refused, stalls, executes_meets}
use Rattle.buffer_execute.proofs.execute_in.Goals as goal
use Rattle.buffer_execute.proofs.execute_in.Goals.{After-effect_of-effect}

-- the references that stay, the row and the stage lie in their bounds
bounds : (t : Table) (rules : Rules t) (τ : Ticket) (m : List ℕ) (act : Action) → early_by t τ m ≡ 0 → {q : Effect}
    → q ≡ effect_at t (place (view t) τ) m act → (q.left ≡ 0 → ⊥)
    → (q.left ≤ t.live) × (q.row < slots) × (τ.stage < stages_most)
bounds t rules τ m act early found stays =
    let now = ready t rules τ m early in
    let b = found_bounds t rules _ now.live m act found stays in
    (b.1, b.2, omega (arith, now.stage, (fits t rules).stages))

module _ (c : After-effect_of-effect) where
  abbrev t : Table
  t = c.args.t.now

  lawful : Rules t
  lawful = lawful_rules t c.in_ok-held.ensures.kept.1

  fit : Fits t
  fit = rw c.in_ok-held.ensures.kept.0 at c.in_ok-held.held.fits

  early : early_by t c.args.ticket c.args.memory.now ≡ 0
  early = rw c.in_ok-held.ensures.kept.0 at (sym c.in_ok-ready.ensures)

  found : c.effect_of-effect.result ≡ effect_at t (place (view t) c.args.ticket) c.args.memory.now c.args.action
  found =
      rw (c.position_of-p.ensures, c.circle.ensures.0, c.circle.ensures.1, c.word_below-below.ensures, c.in_ok-held.ensures.kept.0)
      at c.effect_of-effect.ensures

pub returns-in_err-held : goal.returns-in_err-held
returns-in_err-held c =
    let exit = err_from_is_err_and c.from_residual.result c.from_residual.ensures.1 in
    let broken = c.in_err-held.ensures.broken in
    rw (exit.1, exit.2, broken.0) (broken_meets _ _ _ broken.1)

pub returns-in_err-ready : goal.returns-in_err-ready
returns-in_err-ready c =
    let exit = err_from_is_err_and c.from_residual-in_err-ready.result c.from_residual-in_err-ready.ensures.1 in
    let kept = c.in_ok-held.ensures.kept in
    rw (exit.1, exit.2)
    (early_refused _ (lawful_rules _ kept.1) _ _ _ (number c.in_err-ready.field-0.0) (rw kept.0 at c.in_err-ready.ensures)
    (number_some _))

pub returns-then-effect-eq0 : goal.returns-then-effect-eq0
returns-then-effect-eq0 c =
    let at = (goal.at.returns-then-effect-eq0 c).After-effect_of-effect in
    stalls _ (lawful at) _ _ _ (early at) _ (found at) c.if-effect-eq0.true

pub apply-requires : goal.apply-requires
apply-requires c =
    let at = (goal.at.apply-requires c).After-effect_of-effect in
    let within = bounds _ (lawful at) _ _ _ (early at) (found at) c.if-effect-eq0.false in
    (fit at, omega (arith, within.0, (lawful at).live_bounded), within.1, within.2)

pub returns : goal.returns
returns c =
    let at = (goal.at.returns c).After-effect_of-effect in
    executes_meets _ (lawful at) _ _ _ (early at) _ (found at) (fit at).lengths c.if-effect-eq0.false _ c.answered.ensures _
    (rw c.in_ok-held.ensures.kept.0 at c.squashed_from-squashed.ensures) _ c.apply.ensures
