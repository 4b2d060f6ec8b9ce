-- `embed_machine::arb_m_execute` meets its contract: the machine's own, carried over to images by `crosses`. Assumes nothing.
use mathlib.Core.Path.{ap, ◌∙◌}
use Rattle.embed_image.specs.Telling.{numbers_of}
use Rattle.embed_image.proofs.Crossing.{crosses}
use Rattle.embed_machine.proofs.arb_m_execute.Goals as goal

pub returns : goal.returns
returns c =
    crosses _ _ _
    c.machine_by.ensures
    c.execute-done.ensures (c.execute_numbers-numbers.ensures ∙ ap numbers_of (c.by_number.ensures _))
    c.crossed.ensures
