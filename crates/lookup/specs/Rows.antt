-- The rows of a bank, read off the list of references. A row in use belongs to one address, and is known here by its oldest
-- mark: the first live reference that has executed to that address. Which bank an address is of is a parameter, β.
-- Assumes nothing.
use Rattle.std.specs.Prelude.{Bool, false, ◌&&◌, ◌||◌, not, List, [], ◌∷◌, ℕ, eqb, length, take}
use Rattle.marks.specs.Counting.{count, last}
use Rattle.table.specs.Reference.{Fate, waiting, other, accessed, Ref, ref, fate_of, at}

-- a reference with this fate has executed to address a
abbrev pub touches : ℕ → Fate → Bool
touches a waiting = false
touches a other = false
touches a (accessed b l s) = eqb b a

-- one of these references has executed to address a: the address has a row
unfoldable pub touched : ℕ → List Ref → Bool
touched a [] = false
touched a (ref n f ∷ refs) = touches a f || touched a refs

-- address b is of bank h, and none of these older references has executed to it
abbrev pub first_access : (ℕ → ℕ) → ℕ → ℕ → List Ref → Bool
first_access β h b older = eqb (β b) h && not (touched b older)

-- a reference with this fate, after these older ones, is the oldest mark of a row of bank h
abbrev pub allocates_by : (ℕ → ℕ) → ℕ → List Ref → Fate → Bool
allocates_by β h older waiting = false
allocates_by β h older other = false
allocates_by β h older (accessed b l s) = first_access β h b older

-- the reference at position p is the oldest mark of a row of bank h
abbrev pub allocates_row : (ℕ → ℕ) → ℕ → List Ref → ℕ → Bool
allocates_row β h refs p = allocates_by β h (take p refs) (fate_of (at refs p))

-- how many rows of bank h are in use
abbrev pub rows_in_use : (ℕ → ℕ) → ℕ → List Ref → ℕ
rows_in_use β h refs = count (allocates_row β h refs) (length refs)

-- the oldest mark of the row of bank h whose oldest mark is youngest
abbrev pub youngest_row : (ℕ → ℕ) → ℕ → List Ref → ℕ
youngest_row β h refs = last (allocates_row β h refs) (length refs)
