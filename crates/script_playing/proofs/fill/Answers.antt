-- `script_playing::fill` meets its contract: it plays on with the places of the lent program that the player uses.
-- Assumes nothing.
use mathlib.Core.Path.{sym, ap, ◌∙◌}
use Prim.Native.Nat.{ℕ}
use native.Mathlib.Nat.{sub-zero}
use lib.ListN.{take}
use Rattle.script_playing.proofs.fill.Goals as goal

pub returns : goal.returns
returns c =
    let program = c.args.program.now in
    c.play_on.ensures program
    (sym c.places-used.ensures.1 ∙ ap (λ (k : ℕ). take k program) (sym (sub-zero c.places-used.result)))
