-- `script_reading::code_of` meets its contract: the code of a byte is its place among the letters. Assumes nothing.
use mathlib.Core.Path.{sym}
use Rattle.script_model.proofs.Letters.{code_met, code_none}
use Rattle.script_reading.proofs.code_of.Goals as goal

pub returns-in_err-code : goal.returns-in_err-code
returns-in_err-code c = rw (code_none c.args.b (sym c.in_err-code.ensures)) c.from_residual.ensures

pub returns : goal.returns
returns c = rw (code_met c.args.b c.in_ok-code.code (sym c.in_ok-code.ensures)) c.then_some.ensures
