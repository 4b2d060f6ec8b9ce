-- Tables that break the table's own rules, each in one of them, beside tables like them that keep them all, some with the fates
-- that are seen in them. Every call on a broken one is refused with 2 and hands everything back; proofs/Broken.antt shows it of
-- every table here.
-- Stage s in a mark word is 2 ^ s: 1, 2, 4 and 8 are stages 0 to 3. Rows 0, 1 and 2 are of bank 0; of bank 1 the first row is
-- bank1, of bank 2 bank2.
-- Assumes nothing.
use Rattle.std.specs.Prelude.{◌≡◌, List, [], ◌∷◌, map, ℕ, ◌+◌, ◌*◌, replicate, set}
use Rattle.table.specs.declared.Table.{Table}
use Rattle.table.specs.Limits.{rows_most, stages_most, slots}
use Rattle.table.specs.Reference.{Fate, waiting, loaded, stored, merged, fate_of}
use Rattle.table.specs.View.{view}
use Rattle.table.specs.Rules.{Rules}
use Rattle.engine.specs.Contract.{refused}
use Rattle.buffer_model.specs.Answers.{Answer}
use Rattle.buffer_model.specs.Calls.{Call}
use Rattle.buffer_model.specs.Contract.{Meets}

-- a table, and whether it keeps the rules; one that keeps them, and the fates of its live references, oldest first
pub data Case : Type 0 where
  keeps : Table → Case
  breaks : Table → Case
  shows : Table → List Fate → Case

abbrev pub fates : Table → List Fate
fates t = map fate_of (view t).refs

-- so it is of the table, and of every call on it
abbrev pub Told : Case → Type 0
Told (keeps t) = Rules t
Told (breaks t) =
    (c : Call) (m v : List ℕ) (said : Answer) (u : Table) → Meets t c m said u v → (said ≡ refused 2) × (u ≡ t) × (v ≡ m)
Told (shows t seen) = Rules t × (fates t ≡ seen)

abbrev pub AllTold : List Case → Type 0
AllTold [] = Unit {0}
AllTold (d ∷ cases) = Told d × AllTold cases

abbrev pub table : ℕ → ℕ → ℕ → ℕ → ℕ → ℕ → ℕ → List ℕ → List ℕ → List ℕ → List ℕ → List ℕ → Table
table B R n W oldest live executed addresses loads stores values taken =
    record {
      banks = B;
      rows = R;
      stages = n;
      words = W;
      oldest = oldest;
      live = live;
      next = 0;
      executed = executed;
      numbers = replicate stages_most 0;
      addresses = addresses;
      loads = loads;
      stores = stores;
      values = values;
      taken = taken;
    }

-- zeros at every stage
abbrev pub no_words : List ℕ
no_words = replicate stages_most 0

-- zeros but for x at row r, and for y at row q
abbrev pub one : ℕ → ℕ → List ℕ
one r x = set (replicate slots 0) r x

abbrev pub two : ℕ → ℕ → ℕ → ℕ → List ℕ
two r x q y = set (one r x) q y

-- the first rows of banks 1 and 2
abbrev pub bank1 : ℕ
bank1 = rows_most

abbrev pub bank2 : ℕ
bank2 = 2 * rows_most

-- a table without marks, with these sizes, oldest and number of live references
abbrev pub bare : ℕ → ℕ → ℕ → ℕ → ℕ → ℕ → Table
bare B R n W oldest live = table B R n W oldest live 0 (one 0 0) (one 0 0) (one 0 0) no_words no_words

-- Two banks of two rows, four stages, of which 2, 3 and 0 are live, from the oldest on.
abbrev pub window : ℕ → List ℕ → List ℕ → List ℕ → Table
window executed addresses loads stores = table 2 2 4 8 2 3 executed addresses loads stores no_words no_words

-- these words at stages 0 to 3
abbrev pub words_by : ℕ → ℕ → ℕ → ℕ → List ℕ
words_by v0 v1 v2 v3 = set (set (set (set no_words 0 v0) 1 v1) 2 v2) 3 v3

-- the same with these words stored, and with 20, 21, 22 and 23 taken by loads
abbrev pub wording : ℕ → List ℕ → List ℕ → List ℕ → ℕ → ℕ → ℕ → ℕ → Table
wording executed addresses loads stores v0 v1 v2 v3 =
    table 2 2 4 8 2 3 executed addresses loads stores (words_by v0 v1 v2 v3) (words_by 20 21 22 23)

unfoldable pub cases : List Case
cases =
    -- stages 2 and 3 have executed: a load of 4, in row 0, and a store at 5, in bank 1
    keeps (window 12 (two 0 4 bank1 5) (one 0 4) (one bank1 8))
    -- "Sizes lie in the limits."
    ∷ breaks (bare 3 2 4 8 0 0) ∷ breaks (bare 0 2 4 8 0 0) ∷ keeps (bare 4 2 4 8 0 0)
    ∷ breaks (bare 2 9 4 8 0 0) ∷ breaks (bare 2 0 4 8 0 0) ∷ keeps (bare 2 8 4 8 0 0)
    ∷ breaks (bare 2 2 17 8 0 0) ∷ keeps (bare 2 2 16 8 0 0)
    ∷ breaks (bare 2 2 4 4097 0 0) ∷ breaks (bare 2 2 4 0 0 0) ∷ keeps (bare 2 2 4 4096 0 0)
    -- "Live references number at most n,"
    ∷ breaks (bare 2 2 4 8 0 5) ∷ keeps (bare 2 2 4 8 0 4)
    -- "and the oldest's stage is below n."
    ∷ breaks (bare 2 2 4 8 4 0) ∷ keeps (bare 2 2 4 8 3 0)
    -- "Marks lie on live, executed stages only." Stage 1 is not live, nor is stage 4; as executed stages they break nothing.
    ∷ breaks (window 14 (two 0 4 bank1 5) (one 0 6) (one bank1 8)) ∷ breaks (window 28 (two 0 4 bank1 5) (one 0 20) (one bank1 8))
    ∷ keeps (window 30 (two 0 4 bank1 5) (one 0 4) (one bank1 8))
    -- Stage 0 is live; it has not executed, then it has.
    ∷ breaks (window 12 (two 0 4 bank1 5) (one 0 5) (one bank1 8)) ∷ keeps (window 13 (two 0 4 bank1 5) (one 0 5) (one bank1 8))
    -- "Each live stage bears one mark, in one row, if it executed to memory, otherwise none", and "one stage may bear both marks,
    -- in one row". Stage 3 bears both marks in bank 1, and is seen with its own words; stages 3 and 0 bear both in a row where
    -- stage 2 stored; stage 3 does where stage 2 loaded; then one stage bears a load mark, one both, one a store mark.
    ∷ shows (wording 12 (two 0 4 bank1 5) (two 0 4 bank1 8) (one bank1 8) 1 2 3 9) (loaded 4 22 ∷ merged 5 23 9 ∷ waiting ∷ [])
    ∷ shows (wording 13 (one bank1 5) (one bank1 9) (one bank1 13) 7 2 3 9) (stored 5 3 ∷ merged 5 23 9 ∷ merged 5 20 7 ∷ [])
    ∷ shows (wording 12 (one bank1 5) (one bank1 12) (one bank1 8) 1 2 3 9) (loaded 5 22 ∷ merged 5 23 9 ∷ waiting ∷ [])
    ∷ shows (wording 13 (two 0 4 bank1 5) (two 0 4 bank1 8) (two 0 1 bank1 8) 7 2 3 9)
    (loaded 4 22 ∷ merged 5 23 9 ∷ stored 4 7 ∷ [])
    -- Stage 3 bears a load mark in row 0 and a store mark in bank 1, or in row 1; both in bank 1 and a load mark, a store mark or
    -- both in row 0; both, where it has not executed; stage 1, which is not live, bears both.
    ∷ breaks (window 12 (two 0 4 bank1 5) (one 0 12) (one bank1 8)) ∷ breaks (window 12 (two 0 4 1 6) (one 0 12) (one 1 8))
    ∷ breaks (window 12 (two 0 4 bank1 5) (two 0 12 bank1 8) (one bank1 8))
    ∷ breaks (window 12 (two 0 4 bank1 5) (two 0 4 bank1 8) (two 0 8 bank1 8))
    ∷ breaks (window 12 (two 0 4 bank1 5) (two 0 12 bank1 8) (two 0 8 bank1 8))
    ∷ breaks (window 4 (two 0 4 bank1 5) (two 0 4 bank1 8) (one bank1 8))
    ∷ breaks (window 14 (two 0 4 bank1 5) (two 0 4 bank1 2) (one bank1 2))
    -- Stage 3 bears none.
    ∷ keeps (window 12 (one 0 4) (one 0 4) (one 0 0))
    -- "No address has two rows": 4 has rows 0 and 1; row 1 is 6's; row 1 is free.
    ∷ breaks (window 12 (two 0 4 1 4) (one 0 4) (one 1 8)) ∷ keeps (window 12 (two 0 4 1 6) (one 0 4) (one 1 8))
    ∷ keeps (window 12 (two 0 4 1 4) (one 0 4) (one 0 0))
    -- "and every row lies in its address's bank": row 0 is 5's, which is of bank 1; one of bank 1 is 6's, which is of bank 0;
    ∷ breaks (window 12 (one 0 5) (one 0 4) (one 0 0)) ∷ breaks (window 12 (two 0 4 bank1 6) (one 0 4) (one bank1 8))
    -- a row is the third of bank 0, one the third of bank 1, where each has two rows.
    ∷ breaks (window 12 (two 0 4 2 6) (one 0 4) (one 2 8))
    ∷ breaks (window 12 (two 0 4 (bank1 + 2) 5) (one 0 4) (one (bank1 + 2) 8))
    -- Rows of banks that the sizes do not give are no part of the table: here one of bank 2 has marks.
    ∷ keeps (window 12 (one 0 4) (two 0 4 bank2 255) (one bank2 255))
    ∷ []
