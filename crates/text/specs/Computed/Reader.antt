-- The fields of a line as the code holds them: what they say while a line is read, and once it is read.
-- Assumes nothing.
use Rattle.std.specs.Prelude.{cond, List, ℕ, leb, ltb, length}
use Rattle.std.specs.Prelude.{Option as Answer, None, Some}
use Rattle.std.proofs.Math.Option.{Option, none, some}
use Rattle.arrayvec.specs.ArrayVec.{ArrayVec}
use Rattle.text.specs.Fields.{Open, empty, value, Reading, bad, reading}
use Rattle.text.specs.declared.Numbers.{Numbers}

-- how many fields there may be
abbrev pub capacity : ℕ
capacity = 64

-- a reading with more fields than there is room for, the open one among them, is bad
abbrev pub few : Reading → Reading
few bad = bad
few (reading ns o) = cond (ltb (length ns) capacity) (reading ns o) bad

-- the open field
abbrev pub opened : Answer ℕ → Open
opened None = empty
opened (Some x) = value x

-- what is read so far, with room left for the open field; no numbers: it is bad
abbrev pub shown : Answer Numbers → Reading
shown None = bad
shown (Some n) = few (reading n.closed.items (opened n.open))

-- after these fields, a digit that makes this of the open one; where it makes nothing, it is not taken
abbrev pub with_digit : List ℕ → Answer ℕ → Reading
with_digit ns None = bad
with_digit ns (Some x) = reading ns (value x)

-- the fields, if there are not too many
abbrev pub fitting : Option (List ℕ) → Option (List ℕ)
fitting none = none
fitting (some ns) = cond (leb (length ns) capacity) (some ns) none

-- what is told once the line is read
abbrev pub parsed_fields : Answer (ArrayVec ℕ) → Option (List ℕ)
parsed_fields None = none
parsed_fields (Some v) = some v.items
