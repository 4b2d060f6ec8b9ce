-- `script_flaw::look` meets its contract: behind a line without a reason the reader stands at the next one. Assumes nothing.
use Rattle.std.proofs.Common.{sym, ◌∙◌}
use Rattle.flaw_model.proofs.Looking.{looks_on}
use Rattle.script_flaw.proofs.look.Goals as goal

pub returns-else-is_some : goal.returns-else-is_some
returns-else-is_some c =
    let a = c.args in
    looks_on a.s.now a.at c.in-Whole.from c.in-Whole.to a.part c.read_item-item.result c.reason_in-reason.result
    (sym c.take_line-taken.ensures.0 ∙ c.in-Whole.is) c.read_item-item.ensures c.reason_in-reason.ensures
    (sym c.is_some.ensures ∙ c.if-is_some.false) _ c.next_part.ensures _ c.take_line-taken.ensures.1
