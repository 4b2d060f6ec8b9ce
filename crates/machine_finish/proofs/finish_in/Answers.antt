-- Assumes nothing.
use Rattle.std.proofs.Common.{◌≡◌, ℕ, ◌-◌, ◌*◌, ◌<◌, ◌≤◌, false, ◌&&◌, ◌||◌, eqb, ltb, leb, length, sym, refl, ap, ◌∙◌, ap₂, arith, ltb-false, leb-false}
use Rattle.std.proofs.lemmas.Result.{err_from_is_err_and}
use Rattle.table.specs.Fits.{Fits}
use Rattle.table.proofs.Fates.{neither}
use Rattle.table.proofs.Fitting.{rules_fit}
use Rattle.engine.specs.Contract.{finished}
use Rattle.engine.proofs.Refusals.{number_some}
use Rattle.machine_model.specs.Calls.{Answer, buffered, finish, program_done, per_commit, begun, ready}
use Rattle.machine_model.specs.Contract.{plain, tabled}
use Rattle.machine_model.specs.Tests.{validate_of}
use Rattle.machine_model.proofs.Answering.{Passed, validate_passes}
use Rattle.machine_model.proofs.Finishes.{finishes_limit, finishes_stops, turn_stops, turn_goes, remains_all, remains_goes}
use Rattle.machine_model.proofs.Sounding.{over_plain}
use Rattle.machine_laws.specs.Computed.Parts.{commit_number}
use Rattle.machine_laws.specs.Computed.Steps.{own}
use Rattle.machine_laws.proofs.Checking.{check_turns}
use Rattle.machine_laws.proofs.ChecksKept.{validate_lent, commit_passes}
use Rattle.machine_laws.proofs.FinishStep.{
  Along,
  turn_begun,
  own_small,
  oldest_bounds,
  turn_ready,
  along_passed,
  turn_refused,
  turn_clean,
  turn_commits,
  turn_sized,
  finish_meets,
}
use Rattle.machine_laws.proofs.Formed.{program_small}
use Rattle.machine_finish.proofs.finish_in.Goals as goal
use Rattle.machine_finish.proofs.finish_in.Goals.{At-loop-n, Else-places-m, After-begin_turn, After-execute_oldest, In_default}

pub returns-in_err-validate : goal.returns-in_err-validate
returns-in_err-validate c =
    let exit = err_from_is_err_and c.from_residual.result c.from_residual.ensures.1 in
    rw (exit.1, exit.2) (check_turns _ _ (finish _ _) _ c.in_err-validate.ensures.number (number_some _))

pub loop-n-init : goal.loop-n-init
loop-n-init c =
    record {
      passes = sym c.in_ok-validate.ensures.number;
      lent = refl;
      rest = remains_all _ _ _ _ _;
      sized = c.in_ok-validate.ensures.sized;
    }

-- the machine, the program and the memory passed the validation
passed_at : (c : At-loop-n) → Passed c.args.m.now c.args.program.now (length c.args.memory.now)
passed_at c = validate_passes _ _ _ (sym c.in_ok-validate.ensures.number)

-- the machine at the loop's head passes the validation with the memory as it is there
passes_at : (c : At-loop-n) → validate_of c.loop-n.m c.args.program.now (length c.loop-n.memory) ≡ 0
passes_at c = validate_lent c.loop-n.m _ _ _ (sym c.loop-n.invariant.lent) c.loop-n.invariant.passes

passed_in : (c : At-loop-n) → Passed c.loop-n.m c.args.program.now (length c.loop-n.memory)
passed_in c = validate_passes c.loop-n.m c.args.program.now (length c.loop-n.memory) (passes_at c)

-- the code's test is that of the definition
test_at : (c : At-loop-n)
    → let m = c.loop-n.m in
    let taken = c.loop-n.n * per_commit in
    (ltb (length c.args.list.now - taken) per_commit || program_done (plain m))
    ≡ (ltb (length c.loop-n.list - taken) per_commit || (eqb m.table.live 0 && leb m.count m.next))
test_at c =
    ap₂ ◌||◌ (ap (λ (k : ℕ). ltb (k - c.loop-n.n * per_commit) per_commit) (sym c.loop-n.invariant.rest.size))
    (over_plain c.loop-n.m)

-- in a turn: a commit has its places, and there is something to commit
more_at : (c : Else-places-m)
    → (ltb (length c.args.list.now - c.loop-n.n * per_commit) per_commit || program_done (plain c.loop-n.m)) ≡ false
more_at c = test_at (goal.at.Else-places-m c).At-loop-n ∙ c.if-places-m.false

open_at : (c : Else-places-m)
    → (per_commit ≤ length c.args.list.now - c.loop-n.n * per_commit) × (program_done (plain c.loop-n.m) ≡ false)
open_at c =
    let places = length c.args.list.now - c.loop-n.n * per_commit in
    let tests = neither (ltb places per_commit) (program_done (plain c.loop-n.m)) (more_at c) in
    (ltb-false places per_commit tests.0, tests.1)

-- where nothing is live an instruction is left
left_at : (c : Else-places-m) → c.loop-n.m.table.live ≡ 0 → c.loop-n.m.next < c.loop-n.m.count
left_at c empty =
    let m = c.loop-n.m in
    leb-false m.count m.next
    (ap (λ (k : ℕ). eqb k 0 && leb m.count m.next) (sym empty) ∙ sym (over_plain m) ∙ (open_at c).1)

pub returns-then-places-m : goal.returns-then-places-m
returns-then-places-m c =
    let l = (goal.at.returns-then-places-m c).At-loop-n in
    finish_meets _ _ _ c.loop-n.m _ _ _ _ _ _ _ (passed_at l) c.loop-n.invariant.rest
    (finishes_stops buffered _ _ _ _ _ (test_at l ∙ c.if-places-m.true))
    (passed_in l).sound

fits_at : (c : At-loop-n) → Fits c.loop-n.m.table
fits_at c = rules_fit _ (passed_in c).sound.rules c.loop-n.invariant.sized.lengths

pub begin_turn-requires-clause-fits : goal.begin_turn-requires-clause-fits
begin_turn-requires-clause-fits c = fits_at (goal.at.begin_turn-requires-clause-fits c).At-loop-n

pub begin_turn-requires-clause-next : goal.begin_turn-requires-clause-next
begin_turn-requires-clause-next c empty =
    let at = goal.at.begin_turn-requires-clause-next c in
    let passed = passed_in at.At-loop-n in
    let fit = fits_at at.At-loop-n in
    let left = left_at at.Else-places-m empty in
    let formed = program_small _ _ _ passed.fits passed.counted left in
    (omega (arith, empty, fit.oldest), left, formed.0, formed.1, formed.2)

-- something is live, issued before or in this turn
begun_at : (c : After-begin_turn)
    → let w = c.loop-n.memory in
    Along c.args.program.now w (begun c.args.program.now (plain c.loop-n.m) w) c.begin_turn.new.m
begun_at c =
    let at = goal.at.After-begin_turn c in
    rw c.begin_turn.ensures
    (turn_begun _ c.loop-n.m _ (passes_at at.At-loop-n) c.loop-n.invariant.sized (left_at at.Else-places-m))

pub execute_oldest-requires-clause-some : goal.execute_oldest-requires-clause-some
execute_oldest-requires-clause-some c =
    let at = (goal.at.execute_oldest-requires-clause-some c).After-begin_turn in
    let a = begun_at at in
    (rules_fit _ (along_passed a).sound.rules a.sized.lengths, a.some, own_small c.loop-n.m a)

pub execute_oldest-requires-clause-bounds : goal.execute_oldest-requires-clause-bounds
execute_oldest-requires-clause-bounds c idle =
    let bounds = oldest_bounds c.loop-n.m (begun_at (goal.at.execute_oldest-requires-clause-bounds c).After-begin_turn) idle in
    (bounds.1, bounds.2)

-- the oldest has executed
ready_at : (c : After-execute_oldest)
    → let w = c.loop-n.memory in
    Along c.args.program.now w (ready c.args.program.now (plain c.loop-n.m) w) c.execute_oldest.new.m
ready_at c =
    rw c.execute_oldest.ensures (turn_ready c.loop-n.m (begun_at (goal.at.After-execute_oldest c).After-begin_turn))

ready_fits : (c : After-execute_oldest) → Fits c.execute_oldest.new.m.table
ready_fits c = let a = ready_at c in rules_fit _ (along_passed a).sound.rules a.sized.lengths

pub offset_bounds-m-m : goal.offset_bounds-m-m
offset_bounds-m-m c =
    let fit = ready_fits (goal.at.offset_bounds-m-m c).After-execute_oldest in
    omega (arith, fit.oldest, fit.stages)

pub bounds-m-m : goal.bounds-m-m
bounds-m-m c =
    let fit = ready_fits (goal.at.bounds-m-m c).After-execute_oldest in
    omega (arith, fit.oldest, fit.stages)

-- its commit is refused: the finish ends with the oldest executed
pub returns-in-Err : goal.returns-in-Err
returns-in-Err c =
    let at = goal.at.returns-in-Err c in
    let along = ready_at at.After-execute_oldest in
    let sound = (along_passed along).sound in
    finish_meets _ _ _ c.loop-n.m _ _ _ _ _ _ _ (passed_at at.At-loop-n) c.loop-n.invariant.rest
    (turn_stops tabled _ c.loop-n.m _ _ _ _ _ _ _ c.loop-n-test.true (more_at at.Else-places-m) sound along.is _ _ refl
    (turn_refused along _ c.in-Err.ensures (number_some _)))
    sound

free_at : (c : In_default)
    → let u = c.execute_oldest.new.m in
    commit_number (own u) u.table.live u.table.words ≡ 0
free_at c = sym c.in_default.ensures

pub commit_oldest-committed-requires-clause-some : goal.commit_oldest-committed-requires-clause-some
commit_oldest-committed-requires-clause-some c =
    let at = (goal.at.commit_oldest-committed-requires-clause-some c).After-execute_oldest in
    (ready_fits at, (ready_at at).some)

pub commit_oldest-committed-requires-clause-clean : goal.commit_oldest-committed-requires-clause-clean
commit_oldest-committed-requires-clause-clean c =
    let at = goal.at.commit_oldest-committed-requires-clause-clean c in
    turn_clean (ready_at at.After-execute_oldest) (free_at at.In_default)

pub loop-n-preserved : goal.loop-n-preserved
loop-n-preserved c =
    let at = goal.at.loop-n-preserved c in
    let e = at.Else-places-m in
    let r = ready_at at.After-execute_oldest in
    let none = free_at at.In_default in
    let told = c.commit_oldest-committed.ensures in
    let meets = turn_commits r none _ told.memory in
    rw told.machine
    (record {
      passes =
          commit_passes c.execute_oldest.new.m _ _ _
          (validate_lent c.execute_oldest.new.m c.args.program.now _ _ c.loop-n.invariant.lent r.passes)
          _
          _
          _
          meets;
      lent = c.commit_oldest-committed.auto.memory ∙ c.loop-n.invariant.lent;
      rest =
          remains_goes _ _ _ _ _ _ _ _ _ c.loop-n.invariant.rest _ _ _ _ _ _ _ _ c.loop-n-test.true (open_at e).0
          (turn_goes tabled _ c.loop-n.m _ _ _ _ _ _ _ c.loop-n-test.true (more_at e) (along_passed r).sound
          r.is
          _
          _
          _
          _
          _
          _
          (sym told.answer)
          meets)
          c.list_commit.ensures;
      sized = turn_sized r;
    })

said : {n k : ℕ} → n ≡ k → ◌≡◌ {A = Answer} (finished n) (finished k)
said e = ap finished e

pub returns : goal.returns
returns c =
    let l = (goal.at.returns c).At-loop-n in
    let all : c.loop-n.n ≡ c.args.k = omega arith in
    rw (said all)
    at (finish_meets _ _ _ c.loop-n.m _ _ _ _ _ _ _ (passed_at l) c.loop-n.invariant.rest
    (finishes_limit buffered _ _ _ _ _ (omega (arith, c.loop-n-test.false)))
    (passed_in l).sound)
