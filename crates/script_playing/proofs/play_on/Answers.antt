-- Each way through the loop of `script_playing::play_on` is one law of player_model/proofs/Ways.antt. The loop's sum fits, since
-- a place in a buffer is below 2 ^ 63. Assumes nothing.
use mathlib.Core.Logic.{inl, inr}
use mathlib.Core.Path.{◌≡◌, refl, sym, ap, subst, ◌∙◌}
use mathlib.Core.List.{List}
use Prim.Native.Nat.{ℕ}
use native.Mathlib.Omega.{arith}
use Rattle.player_model.specs.declared.Phase.TheVariants.{Stepping}
use Rattle.player_model.specs.declared.Order.{Order}
use Rattle.player_model.specs.Playing.{player, is_over, order_at}
use Rattle.player_model.proofs.StepContract.{Puts, steps_lent, filling_none, filling_size, filling_ends}
use Rattle.player_model.proofs.Ways.{issue_quiet, execute_quiet, squash_quiet, commit_quiet, Ready, AtLine, bad_way, turn_way}
use Rattle.player_model.proofs.Ways.{quiet_way, commit_way, limit_way, stop_way, finish_way, word_way, end_way}
use Rattle.script_playing.proofs.play_on.Goals as goal
use Rattle.script_playing.proofs.play_on.Goals.{In-loop-at}

-- a turn of the loop, with room for a step
ready : (c : In-loop-at)
    → let l = c.loop-at in
    let a = c.args in
    Ready a.s.now a.program.now a.p a.memory.now a.out.now
    (player l.phase l.cursor l.line l.commits a.p.used l.machine) l.memory l.out l.at
ready c = record { filling = c.loop-at.invariant; room = c.loop-at-test.true }

-- a line of the script, with its order
at_line : (c : In-loop-at) (r : Order) → c.loop-at.phase ≡ Stepping
    → r ≡ order_at c.args.s.now c.loop-at.cursor c.loop-at.line → AtLine (ready c) r
at_line c r is order = record { stepping = is; order = order }

-- what the call of `put` wrote, by the lines that it was given
puts_as : {out into xs ys : List ℕ} {at end : ℕ} → Puts out at xs into end → xs ≡ ys → Puts out at ys into end
puts_as {out} {into} {at = at} {end = end} put same = subst (λ (l : List ℕ). Puts out at l into end) same put

pub overflow_add-at : goal.overflow_add-at
overflow_add-at c = let h = c.loop-at.invariant.within in omega arith

pub loop-at-smaller-in-Bad : goal.loop-at-smaller-in-Bad
loop-at-smaller-in-Bad c =
    (bad_way (ready (goal.at.loop-at-smaller-in-Bad c).In-loop-at) c.in-Bad.is (puts_as c.put-at.ensures c.bad_line.ensures)).0

pub loop-at-preserved-in-Bad : goal.loop-at-preserved-in-Bad
loop-at-preserved-in-Bad c =
    (bad_way (ready (goal.at.loop-at-preserved-in-Bad c).In-loop-at) c.in-Bad.is (puts_as c.put-at.ensures c.bad_line.ensures)).1

pub loop-at-smaller-in-Turn : goal.loop-at-smaller-in-Turn
loop-at-smaller-in-Turn c =
    (turn_way
    (at_line (goal.at.loop-at-smaller-in-Turn c).In-loop-at _ c.in-Stepping.is c.next_order-order.ensures)
    c.in-Turn.is).0

pub loop-at-preserved-in-Turn : goal.loop-at-preserved-in-Turn
loop-at-preserved-in-Turn c =
    (turn_way
    (at_line (goal.at.loop-at-preserved-in-Turn c).In-loop-at _ c.in-Stepping.is c.next_order-order.ensures)
    c.in-Turn.is).1

pub loop-at-smaller-in-Issue : goal.loop-at-smaller-in-Issue
loop-at-smaller-in-Issue c =
    (quiet_way
    (at_line (goal.at.loop-at-smaller-in-Issue c).In-loop-at _ c.in-Stepping.is c.next_order-order.ensures)
    c.in-Issue.is (c.issue-done.ensures _) refl (issue_quiet c.issue-done.result.answer) refl (λ piece r after s. s)).0

pub loop-at-preserved-in-Issue : goal.loop-at-preserved-in-Issue
loop-at-preserved-in-Issue c =
    (quiet_way
    (at_line (goal.at.loop-at-preserved-in-Issue c).In-loop-at _ c.in-Stepping.is c.next_order-order.ensures)
    c.in-Issue.is (c.issue-done.ensures _) refl (issue_quiet c.issue-done.result.answer) refl (λ piece r after s. s)).1

pub loop-at-smaller-in-Execute : goal.loop-at-smaller-in-Execute
loop-at-smaller-in-Execute c =
    (quiet_way
    (at_line (goal.at.loop-at-smaller-in-Execute c).In-loop-at _ c.in-Stepping.is c.next_order-order.ensures)
    c.in-Execute.is c.execute-done.ensures refl (execute_quiet c.execute-done.result.answer) refl (λ piece r after s. s)).0

pub loop-at-preserved-in-Execute : goal.loop-at-preserved-in-Execute
loop-at-preserved-in-Execute c =
    (quiet_way
    (at_line (goal.at.loop-at-preserved-in-Execute c).In-loop-at _ c.in-Stepping.is c.next_order-order.ensures)
    c.in-Execute.is c.execute-done.ensures refl (execute_quiet c.execute-done.result.answer) refl (λ piece r after s. s)).1

pub loop-at-smaller-in-Squash : goal.loop-at-smaller-in-Squash
loop-at-smaller-in-Squash c =
    (quiet_way
    (at_line (goal.at.loop-at-smaller-in-Squash c).In-loop-at _ c.in-Stepping.is c.next_order-order.ensures)
    c.in-Squash.is (c.squash-done.ensures _) refl (squash_quiet c.squash-done.result.answer) refl (λ piece r after s. s)).0

pub loop-at-preserved-in-Squash : goal.loop-at-preserved-in-Squash
loop-at-preserved-in-Squash c =
    (quiet_way
    (at_line (goal.at.loop-at-preserved-in-Squash c).In-loop-at _ c.in-Stepping.is c.next_order-order.ensures)
    c.in-Squash.is (c.squash-done.ensures _) refl (squash_quiet c.squash-done.result.answer) refl (λ piece r after s. s)).1

pub loop-at-smaller-in-Err : goal.loop-at-smaller-in-Err
loop-at-smaller-in-Err c =
    (quiet_way
    (at_line (goal.at.loop-at-smaller-in-Err c).In-loop-at _ c.in-Stepping.is c.next_order-order.ensures)
    c.in-Commit.is c.commit-done.ensures c.commit-done.auto.memory (commit_quiet _ c.in-Err.is) refl
    (λ piece r after s. s)).0

pub loop-at-preserved-in-Err : goal.loop-at-preserved-in-Err
loop-at-preserved-in-Err c =
    (quiet_way
    (at_line (goal.at.loop-at-preserved-in-Err c).In-loop-at _ c.in-Stepping.is c.next_order-order.ensures)
    c.in-Commit.is c.commit-done.ensures c.commit-done.auto.memory (commit_quiet _ c.in-Err.is) refl
    (λ piece r after s. s)).1

pub loop-at-smaller-in-Ok : goal.loop-at-smaller-in-Ok
loop-at-smaller-in-Ok c =
    (commit_way
    (at_line (goal.at.loop-at-smaller-in-Ok c).In-loop-at _ c.in-Stepping.is c.next_order-order.ensures)
    _ c.in-Commit.is c.commit-done.ensures c.commit-done.auto.memory c.in-Ok.is c.one_more-more.ensures
    (puts_as c.put-at-in-Ok.ensures c.committed_lines-lines.ensures)).0

pub loop-at-preserved-in-Ok : goal.loop-at-preserved-in-Ok
loop-at-preserved-in-Ok c =
    (commit_way
    (at_line (goal.at.loop-at-preserved-in-Ok c).In-loop-at _ c.in-Stepping.is c.next_order-order.ensures)
    _ c.in-Commit.is c.commit-done.ensures c.commit-done.auto.memory c.in-Ok.is c.one_more-more.ensures
    (puts_as c.put-at-in-Ok.ensures c.committed_lines-lines.ensures)).1

pub loop-at-smaller-then-k-eq0 : goal.loop-at-smaller-then-k-eq0
loop-at-smaller-then-k-eq0 c =
    (limit_way (ready (goal.at.loop-at-smaller-then-k-eq0 c).In-loop-at) c.in-Finishing.is c.if-k-eq0.true).0

pub loop-at-preserved-then-k-eq0 : goal.loop-at-preserved-then-k-eq0
loop-at-preserved-then-k-eq0 c =
    (limit_way (ready (goal.at.loop-at-preserved-then-k-eq0 c).In-loop-at) c.in-Finishing.is c.if-k-eq0.true).1

pub loop-at-smaller-then-commits_of-eq0 : goal.loop-at-smaller-then-commits_of-eq0
loop-at-smaller-then-commits_of-eq0 c =
    (stop_way
    (ready (goal.at.loop-at-smaller-then-commits_of-eq0 c).In-loop-at)
    c.finish-done.result.answer c.in-Finishing.is c.if-k-eq0.false c.finish-done.ensures c.finish-done.auto.memory
    (sym c.commits_of.ensures ∙ c.if-commits_of-eq0.true)).0

pub loop-at-preserved-then-commits_of-eq0 : goal.loop-at-preserved-then-commits_of-eq0
loop-at-preserved-then-commits_of-eq0 c =
    (stop_way
    (ready (goal.at.loop-at-preserved-then-commits_of-eq0 c).In-loop-at)
    c.finish-done.result.answer c.in-Finishing.is c.if-k-eq0.false c.finish-done.ensures c.finish-done.auto.memory
    (sym c.commits_of.ensures ∙ c.if-commits_of-eq0.true)).1

pub loop-at-smaller-in-Finishing : goal.loop-at-smaller-in-Finishing
loop-at-smaller-in-Finishing c =
    (finish_way
    (ready (goal.at.loop-at-smaller-in-Finishing c).In-loop-at)
    c.finish-done.result.answer c.in-Finishing.is c.if-k-eq0.false c.finish-done.ensures c.finish-done.auto.memory
    (λ none. c.if-commits_of-eq0.false (c.commits_of.ensures ∙ none)) c.one_more-commits.ensures
    (puts_as c.put-at-in-Finishing.ensures c.committed_lines-lines-in-Finishing.ensures)).0

pub loop-at-preserved-in-Finishing : goal.loop-at-preserved-in-Finishing
loop-at-preserved-in-Finishing c =
    (finish_way
    (ready (goal.at.loop-at-preserved-in-Finishing c).In-loop-at)
    c.finish-done.result.answer c.in-Finishing.is c.if-k-eq0.false c.finish-done.ensures c.finish-done.auto.memory
    (λ none. c.if-commits_of-eq0.false (c.commits_of.ensures ∙ none)) c.one_more-commits.ensures
    (puts_as c.put-at-in-Finishing.ensures c.committed_lines-lines-in-Finishing.ensures)).1

pub loop-at-smaller-then-a-memory : goal.loop-at-smaller-then-a-memory
loop-at-smaller-then-a-memory c =
    (word_way
    (ready (goal.at.loop-at-smaller-then-a-memory c).In-loop-at)
    c.in-Words.is c.if-a-memory.true (c.put_word_at-at.ensures.writes, c.put_word_at-at.ensures.upper_bound)).0

pub loop-at-preserved-then-a-memory : goal.loop-at-preserved-then-a-memory
loop-at-preserved-then-a-memory c =
    (word_way
    (ready (goal.at.loop-at-preserved-then-a-memory c).In-loop-at)
    c.in-Words.is c.if-a-memory.true (c.put_word_at-at.ensures.writes, c.put_word_at-at.ensures.upper_bound)).1

pub loop-at-smaller : goal.loop-at-smaller
loop-at-smaller c =
    (end_way
    (ready (goal.at.loop-at-smaller c).In-loop-at)
    c.in-Words.is c.if-a-memory.false c.ending_of-ending.ensures (puts_as c.put-at-in-Words.ensures c.end_line.ensures)).0

pub loop-at-preserved : goal.loop-at-preserved
loop-at-preserved c =
    (end_way
    (ready (goal.at.loop-at-preserved c).In-loop-at)
    c.in-Words.is c.if-a-memory.false c.ending_of-ending.ensures (puts_as c.put-at-in-Words.ensures c.end_line.ensures)).1

pub overflow_add-next : goal.overflow_add-next
overflow_add-next c = let h = steps_lent c.loop-at.invariant.steps in omega arith

pub loop-at-init : goal.loop-at-init
loop-at-init c = filling_none _ _ _ _ _

pub shape_of-memory-after-loop-at : goal.shape_of-memory-after-loop-at
shape_of-memory-after-loop-at c = steps_lent c.loop-at.invariant.steps

pub shape_of-out-after-loop-at : goal.shape_of-out-after-loop-at
shape_of-out-after-loop-at c = filling_size c.loop-at.invariant

pub returns-after-loop-at : goal.returns-after-loop-at
returns-after-loop-at c = filling_ends c.loop-at.invariant (inr c.loop-at-test.false)

pub shape_of-memory-in-Over : goal.shape_of-memory-in-Over
shape_of-memory-in-Over c = steps_lent c.loop-at.invariant.steps

pub shape_of-out-in-Over : goal.shape_of-out-in-Over
shape_of-out-in-Over c = filling_size c.loop-at.invariant

pub returns-in-Over : goal.returns-in-Over
returns-in-Over c = filling_ends c.loop-at.invariant (inl (ap is_over c.in-Over.is))
