-- `text_numbers::read_fields` meets its contract. The loop's invariant: what the bytes that are left make of the numbers so far is
-- what the whole line makes. Assumes nothing.
use mathlib.Core.Path.{◌≡◌}
use lib.ListN.{drop}
use Rattle.std.specs.Prelude.{Some}
use Rattle.text.specs.Fields.{largest, bytes, closed, fields}
use Rattle.text.specs.Computed.Reader.{shown, fitting}
use Rattle.text_numbers.proofs.read_fields.Given as goal

abbrev pub invariant-loop-b : goal.invariant-loop-b
invariant-loop-b l = fitting (closed (bytes largest (shown (Some l.n)) (drop l.b-index l.s))) ≡ fitting (fields largest l.s)
