-- `script_steps::ending_of` meets its contract, by script_model/proofs/Endings.antt: with nothing live the two numbers
-- decide, and otherwise the entry at position 0, if the window has its stage. Assumes nothing.
use mathlib.Core.Path.{◌≡◌, refl, sym, ◌∙◌}
use mathlib.Core.Bool.{Bool, true, false, cond}
use native.Mathlib.Omega.{arith}
use lib.ListN.{length}
use borrow.Author.Rules.{rules}
use borrow.Author.Tests.{ltb-false}
use Rattle.table.specs.Limits.{stages_most}
use Rattle.machine_model.specs.Contract.{plain}
use Rattle.machine_model.specs.Window.{blank_entry}
use Rattle.script_model.specs.declared.Ending.TheVariants.{Open, Fault}
use Rattle.script_model.specs.Output.{ending}
use Rattle.script_model.proofs.Endings.{ending_done, ending_open, ending_entry, ending_past}
use Rattle.script_steps.proofs.ending_of.Goals as goal
use Rattle.script_steps.proofs.ending_of.Goals.{After-has_faulted}

pub returns-then-m : goal.returns-then-m
returns-then-m c = sym (ending_done c.args.m.now (search rules) (search rules))

pub returns-then-live-eq0 : goal.returns-then-live-eq0
returns-then-live-eq0 c = sym (ending_open c.args.m.now (search rules) (search rules))

pub returns-in_default : goal.returns-in_default
returns-in_default c =
    sym (ending_past c.args.m.now _ (omega arith) c.first_stage-first.ensures (ltb-false _ _ (sym c.in_default.ensures.lookup.0)))

-- what the test of the entry says
told_at : (t : Bool) (c : After-has_faulted) → c.has_faulted.result ≡ t
    → ending (plain c.args.m.now) ≡ cond t Fault Open
told_at t c is =
    ending_entry c.args.m.now _ _ t (omega arith) c.first_stage-first.ensures (c.in-Some.ensures.lookup.3.1 blank_entry)
    (sym is ∙ c.has_faulted.ensures)

pub returns-then-has_faulted : goal.returns-then-has_faulted
returns-then-has_faulted c = sym (told_at true (goal.at.returns-then-has_faulted c).After-has_faulted c.if-has_faulted.true)

pub returns : goal.returns
returns c = sym (told_at false (goal.at.returns c).After-has_faulted c.if-has_faulted.false)
