-- What `mark_at` finds of a stage is what its fate says of a commit.
-- Assumes nothing.
use mathlib.Core.Path.{◌≡◌, refl}
use mathlib.Core.Bool.{Bool, true, false, cond, ◌||◌}
use Prim.Native.Nat.{ℕ, zero, suc}
use Rattle.table.specs.declared.Table.{Table}
use Rattle.table.specs.Reference.{Fate, accessed}
use Rattle.table.specs.View.{store_mark, load_mark, address, value, taken, word_if, mark_fate}
use Rattle.lookup.specs.declared.Mark.{Mark}
use Rattle.lookup.specs.declared.Mark.TheVariants.{Load, Store}
use Rattle.lookup.specs.Computed.Search.{mark_of, mark_by}

row_marked : (st ld : Bool) (a v w : ℕ) (m : Mark) (f : Fate) → m ≡ mark_by f
    → cond st (Store a v) (cond ld (Load a) m) ≡ mark_by (cond (ld || st) (accessed a (word_if ld w) (word_if st v)) f)
row_marked true true a v w m f e = refl
row_marked true false a v w m f e = refl
row_marked false true a v w m f e = refl
row_marked false false a v w m f e = e

pub marks_told : (t : Table) (s k : ℕ)
    → mark_of t.addresses t.loads t.stores t.values s k ≡ mark_by (mark_fate t s k)
unfolding mark_fate mark_of
marks_told t s zero = refl
marks_told t s (suc k) =
    row_marked (store_mark t k s) (load_mark t k s) (address t k) (value t s) (taken t s)
    (mark_of t.addresses t.loads t.stores t.values s k)
    (mark_fate t s k)
    (marks_told t s k)
