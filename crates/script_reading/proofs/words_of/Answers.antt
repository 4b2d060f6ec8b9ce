-- `script_reading::words_of` meets its contract: player_model/proofs/Heads.antt says how many words are asked for, and
-- that the limits bound them. Assumes nothing.
use mathlib.Core.Path.{sym}
use native.Mathlib.Omega.{arith}
use Rattle.player_model.proofs.Heads.{headed, words_none, words_told}
use Rattle.script_reading.proofs.words_of.Goals as goal

pub returns-in-None-clause-value : goal.returns-in-None-clause-value
returns-in-None-clause-value c = words_none c.args.s.now (omega arith) (sym c.in-None.ensures)

pub returns-in-Some : goal.returns-in-Some
returns-in-Some c =
    let s = c.args.s.now in
    let w = words_told s (omega arith) (headed s (sym c.in-Some.ensures)) in
    record { value = w.0; upper_bound = w.1 }
