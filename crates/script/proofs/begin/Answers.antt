-- `script::begin` meets its contract: each way it goes is one law of player_model/proofs/Beginnings.antt. The opening
-- was lent the places of the program from 0 up to `used`. Assumes nothing.
use mathlib.Core.Bool.{false}
use mathlib.Core.Path.{◌≡◌, sym, ◌∙◌}
use Prim.Native.Nat.{◌≤◌}
use native.Mathlib.Omega.{arith}
use lib.ListN.{length}
use Rattle.machine_model.specs.Program.{program_most}
use Rattle.player_model.specs.Playing.{wrongly_lent}
use Rattle.player_model.proofs.Heads.{headed}
use Rattle.player_model.proofs.Beginnings.{lent_rightly, begins_over, begins_long, begins_headless, begins_open}
use Rattle.script.proofs.begin.Goals as goal
use Rattle.script.proofs.begin.Goals.{Else-wrongly_lent}

-- past the first test all is lent rightly, and so there is room for a program
right_at : (c : Else-wrongly_lent)
    → let a = c.args in
    wrongly_lent a.s.now a.whole a.program.now a.memory.now ≡ false
right_at c = sym c.wrongly_lent.ensures ∙ c.if-wrongly_lent.false

room_at : (c : Else-wrongly_lent) → program_most ≤ length c.args.program.now
room_at c =
    let a = c.args in
    (lent_rightly a.s.now a.whole a.program.now a.memory.now (right_at c)).0

pub returns-then-wrongly_lent : goal.returns-then-wrongly_lent
returns-then-wrongly_lent c = begins_over (sym c.wrongly_lent.ensures ∙ c.if-wrongly_lent.true) c.idle.ensures

pub returns-then-s-gt-MOST : goal.returns-then-s-gt-MOST
returns-then-s-gt-MOST c =
    begins_long (right_at (goal.at.returns-then-s-gt-MOST c).Else-wrongly_lent) c.if-s-gt-MOST.true c.idle-then-s-gt-MOST.ensures

pub read_program-cursor-requires : goal.read_program-cursor-requires
read_program-cursor-requires c = room_at (goal.at.read_program-cursor-requires c).Else-wrongly_lent

pub slice_bounds-open-end : goal.slice_bounds-open-end
slice_bounds-open-end c =
    let room = room_at (goal.at.slice_bounds-open-end c).Else-wrongly_lent in
    omega arith

pub returns-in_default : goal.returns-in_default
returns-in_default c =
    begins_headless (right_at (goal.at.returns-in_default c).Else-wrongly_lent) c.if-s-gt-MOST.false
    (sym c.in_default.ensures) c.idle-in_default.ensures

pub returns : goal.returns
returns c =
    let start = (goal.at.returns c).Else-wrongly_lent in
    let room = room_at start in
    begins_open (right_at start) c.if-s-gt-MOST.false (headed _ (sym c.in-Some.ensures))
    c.read_program-cursor.ensures (omega arith) (c.fill.ensures.after (λ y e. e)) c.open-opened.ensures
