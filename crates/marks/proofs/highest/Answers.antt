-- The leading zeros of a word that is not 0, and the bits from its highest one down, make the width (proofs/Tops.antt).
-- Assumes nothing.
use Rattle.std.proofs.Common.{arith}
use Rattle.marks.specs.Stages.{width}
use Rattle.marks.proofs.Tops.{highest_is}
use Rattle.marks.proofs.highest.Goals as goal

pub returns : goal.returns
returns c = omega (arith, highest_is width c.args.word c.requires c.ranges.word.fits)
