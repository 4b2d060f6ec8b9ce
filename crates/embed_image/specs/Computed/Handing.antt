-- What a call hands back: of a refusal the image that was passed, else the machine's.
-- Assumes nothing.
use Rattle.std.specs.Prelude.{Bool, true, false, eqb}
use Rattle.machine_model.specs.declared.Machine.{Machine}
use Rattle.embed_image.specs.declared.Image.{Image}
use Rattle.embed_image.specs.declared.Numbers.{Numbers}
use Rattle.embed_image.specs.declared.Answered.{Answered}
use Rattle.embed_image.specs.Slots.{image_of}

abbrev pub handed : Bool → Image → Machine → Image
handed true passed m = image_of m
handed false passed m = passed

abbrev pub answered_by : Image → Machine → Numbers → Answered
answered_by passed m n = record { image = handed (eqb n.refusal 0) passed m; numbers = n }
