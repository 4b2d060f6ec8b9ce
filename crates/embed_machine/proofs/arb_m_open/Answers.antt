-- `embed_machine::arb_m_open` meets its contract: the machine's own, and the image is the machine's. Assumes nothing.
use mathlib.Core.Path.{ap, ◌∙◌}
use Rattle.embed_image.specs.Telling.{numbers_of}
use Rattle.embed_image.proofs.Crossing.{starts}
use Rattle.embed_machine.proofs.arb_m_open.Goals as goal

pub returns : goal.returns
returns c =
    starts _ _ _ c.open-done.ensures (c.done_numbers.ensures ∙ ap numbers_of (c.by_number.ensures _)) c.image_of.ensures
