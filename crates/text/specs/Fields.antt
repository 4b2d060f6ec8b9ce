-- Fields of a line: numbers in decimal up to a limit, parted by commas.
-- Assumes nothing.
use Rattle.std.specs.Prelude.{cond, ◌&&◌, List, [], ◌∷◌, ◌++◌, ℕ, ◌+◌, ◌-◌, ◌*◌, eqb, leb, ltb}
use Rattle.std.proofs.Math.Option.{Option, none, some}
use Rattle.text.specs.Decimal.{decimal}

-- "numbers in decimal up to 4294967295": the limit of each number of a script
abbrev pub largest : ℕ
largest = 4294967295

-- numbers parted by commas (44), as they are written
unfoldable pub fields_text : List ℕ → List ℕ
fields_text [] = []
fields_text (n ∷ []) = decimal n
fields_text (n ∷ m ∷ ns) = decimal n ++ (44 ∷ fields_text (m ∷ ns))

-- What is read so far: the fields before the last comma, and the field now open: none of its digits yet, or its value; a field
-- that is 0 takes no further digit.
pub data Open : Type 0 where
  empty : Open
  value : ℕ → Open

pub data Reading : Type 0 where
  bad : Reading
  reading : List ℕ → Open → Reading

-- one digit more, up to the limit
abbrev pub digit : ℕ → ℕ → Open → List ℕ → Reading
digit limit d empty ns = cond (leb d limit) (reading ns (value d)) bad
digit limit d (value x) ns = cond (ltb 0 x && leb (x * 10 + d) limit) (reading ns (value (x * 10 + d))) bad

-- a comma closes a field that has digits
abbrev pub comma : Open → List ℕ → Reading
comma empty ns = bad
comma (value x) ns = reading (ns ++ (x ∷ [])) empty

-- one byte more
abbrev pub byte : ℕ → Reading → ℕ → Reading
byte limit bad b = bad
byte limit (reading ns o) b = cond (eqb b 44) (comma o ns) (cond (leb 48 b && leb b 57) (digit limit (b - 48) o ns) bad)

-- all of these bytes, one after the other
unfoldable pub bytes : ℕ → Reading → List ℕ → Reading
bytes limit r [] = r
bytes limit r (b ∷ bs) = bytes limit (byte limit r b) bs

-- the fields, if the bytes are numbers parted by commas
abbrev pub closed : Reading → Option (List ℕ)
closed bad = none
closed (reading ns empty) = none
closed (reading ns (value x)) = some (ns ++ (x ∷ []))

abbrev pub fields : ℕ → List ℕ → Option (List ℕ)
fields limit bs = closed (bytes limit (reading [] empty) bs)
