-- Execute load: the value is that of the youngest executed store to this address among older live references. Without one it
-- is the memory word, or 0 when the address is W or more. The distance is how many positions older that store is, 0 for memory.
-- Assumes nothing.
use Rattle.std.specs.Prelude.{Bool, true, false, cond, ◌&&◌, List, [], ◌∷◌, ℕ, zero, suc, eqb, get_or, take}
use Rattle.table.specs.Reference.{Side, lacks, holds, Fate, waiting, other, accessed, Ref, ref, fate_of, at, State}

-- the word of a store, or w without one
abbrev pub word_or : Side → ℕ → ℕ
word_or lacks w = w
word_or (holds v) w = v

-- the word at address a after a reference, where w stood there before it: an executed store to a puts its own
abbrev pub word_after : Fate → ℕ → ℕ → ℕ
word_after waiting a w = w
word_after other a w = w
word_after (accessed b l s) a w = cond (eqb b a) (word_or s w) w

-- the word at address a that a reference sees which is younger than all of these
unfoldable pub seen : List Ref → ℕ → ℕ → ℕ
seen [] a w = w
seen (ref n f ∷ refs) a w = seen refs a (word_after f a w)

-- what a load of address a at position p takes; memory has no word at W or more, so 0 is read there
abbrev pub forwarded : State → List ℕ → ℕ → ℕ → ℕ
forwarded P memory p a = seen (take p P.refs) a (get_or memory a 0)

-- a word was stored
abbrev pub holds_word : Side → Bool
holds_word lacks = false
holds_word (holds v) = true

-- a reference with this fate is an executed store to address a
abbrev pub stores_to : ℕ → Fate → Bool
stores_to a waiting = false
stores_to a other = false
stores_to a (accessed b l s) = eqb b a && holds_word s

-- a distance from one position younger; memory stays memory
abbrev pub further : ℕ → ℕ
further d = cond (eqb d 0) 0 (suc d)

-- how many positions older than p the youngest executed store to address a is; 0 without one
unfoldable pub distance : List Ref → ℕ → ℕ → ℕ
distance refs zero a = 0
distance refs (suc p) a = cond (stores_to a (fate_of (at refs p))) 1 (further (distance refs p a))
