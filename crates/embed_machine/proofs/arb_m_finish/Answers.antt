-- `embed_machine::arb_m_finish` meets its contract: the machine's own, carried over to images by `crosses`. Assumes nothing.
use mathlib.Core.Path.{ap, ◌∙◌}
use Rattle.embed_image.specs.Telling.{numbers_of}
use Rattle.embed_image.proofs.Crossing.{crosses}
use Rattle.embed_machine.proofs.arb_m_finish.Goals as goal

pub returns : goal.returns
returns c =
    crosses _ _ _
    c.machine_by.ensures
    c.finish-done.ensures (c.finish_numbers-numbers.ensures ∙ ap numbers_of (c.by_number.ensures _))
    c.crossed.ensures
