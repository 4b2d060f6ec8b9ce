-- The plain state: what 01 says of a table, as a list of live references in program order, oldest first.
-- Assumes nothing.
use Rattle.std.specs.Prelude.{Bool, true, false, List, ℕ, get_or}

-- One side of an access, its load or its store: the word that was loaded or stored, or that it has no such side.
pub data Side : Type 0 where
  lacks : Side
  holds : ℕ → Side

-- What became of a reference (its status): not executed; executed without memory; or executed to an address, with the word that
-- its load took there and the word that it stored there.
pub data Fate : Type 0 where
  waiting : Fate
  other : Fate
  accessed : ℕ → Side → Side → Fate

-- a reference with this fate has not executed
abbrev pub idle : Fate → Bool
idle waiting = true
idle other = false
idle (accessed a l s) = false

-- a load of an address that took the word w; a store at an address of the word v
abbrev pub loaded : ℕ → ℕ → Fate
loaded a w = accessed a (holds w) lacks

abbrev pub stored : ℕ → ℕ → Fate
stored a v = accessed a lacks (holds v)

-- a load of an address that took w and a store there of v, the word made of it
abbrev pub merged : ℕ → ℕ → ℕ → Fate
merged a w v = accessed a (holds w) (holds v)

-- A live reference: its issue number (sequence tag) and its fate.
pub data Ref : Type 0 where
  ref : ℕ → Fate → Ref

abbrev pub number_of : Ref → ℕ
number_of (ref n f) = n

abbrev pub fate_of : Ref → Fate
fate_of (ref n f) = f

-- what stands where no reference is
abbrev pub blank : Ref
blank = ref 0 waiting

-- the reference at position p
abbrev pub at : List Ref → ℕ → Ref
at refs p = get_or refs p blank

-- The sizes, the stage of the oldest, the next issue number, and the live references.
pub record State : Type 0 where
  pub banks : ℕ
  pub rows : ℕ
  pub stages : ℕ
  pub words : ℕ
  pub oldest : ℕ
  pub next : ℕ
  pub refs : List Ref
