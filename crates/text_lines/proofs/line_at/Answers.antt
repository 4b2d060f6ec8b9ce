-- `text_lines::line_at` meets its contract: text/proofs/Splits.antt says what a search for the line feed finds.
-- Assumes nothing.
use native.Mathlib.Omega.{arith}
use Rattle.text.proofs.Splits.{line_found, line_missed}
use Rattle.text_lines.proofs.line_at.Goals as goal

pub returns-in-Some : goal.returns-in-Some
returns-in-Some c = line_found c.args.s.now c.args.at c.in-Some.n (omega arith) c.in-Some.ensures

pub returns-in-None : goal.returns-in-None
returns-in-None c = line_missed c.args.s.now c.args.at (omega arith) c.in-None.ensures
