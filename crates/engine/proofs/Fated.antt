-- A live reference has executed where the bit of its stage is set, and then what the marks of its stage say is what its fate
-- says of a commit (mark_told), of a store with the stage's value as its word (stored_word).
-- Assumes nothing.
use mathlib.Core.Path.{◌≡◌, refl, sym, ap, ◌∙◌}
use mathlib.Core.Bool.{Bool, true, false, cond, not, ◌||◌}
use mathlib.Core.List.{List}
use Prim.Native.Nat.{ℕ, zero, suc, ◌<◌}
use native.Mathlib.Omega.{arith}
use Rattle.marks.specs.Stages.{has}
use Rattle.table.specs.declared.Table.{Table}
use Rattle.table.specs.Limits.{rows_in}
use Rattle.table.specs.Reference.{Side, Fate, waiting, other, accessed, idle, lacks, holds, fate_of, at}
use Rattle.table.specs.View.{stage_of, store_mark, load_mark, address, value, taken, word_if, mark_fate, view}
use Rattle.table.proofs.Fates.{executed_bit, at_refs}
use Rattle.lookup.specs.Computed.Search.{mark_of, mark_by, marked_fate}
use Rattle.lookup.proofs.Telling.{marks_told}
use Rattle.engine.specs.Conditions.{faults}
use Rattle.engine.specs.Execution.{written}

module _ (t : Table) (p : ℕ) (h : p < t.live) where
  pub executed_at : not (idle (fate_of (at (view t).refs p))) ≡ has t.executed (stage_of t p)
  executed_at = rw (at_refs t p h) (executed_bit t (stage_of t p))

  -- what the marks of its stage say of an executed live reference
  pub mark_told : has t.executed (stage_of t p) ≡ true
      → mark_of t.addresses t.loads t.stores t.values (stage_of t p) (rows_in t.banks)
      ≡ mark_by (fate_of (at (view t).refs p))
  mark_told e = rw (at_refs t p h, e) (marks_told t (stage_of t p) (rows_in t.banks))

-- what a fate says of a commit is all that the commit goes by
pub told_faults : (words : ℕ) (f : Fate) → faults words (marked_fate (mark_by f)) ≡ faults words f
told_faults words waiting = refl
told_faults words other = refl
told_faults words (accessed a l lacks) = refl
told_faults words (accessed a l (holds v)) = refl

pub told_written : (memory : List ℕ) (f : Fate) → written memory (marked_fate (mark_by f)) ≡ written memory f
told_written memory waiting = refl
told_written memory other = refl
told_written memory (accessed a l lacks) = refl
told_written memory (accessed a l (holds v)) = refl

-- what the marks of the first k rows say of a stage that stored
marks_word : (t : Table) (s k a v : ℕ) (l : Side) → mark_fate t s k ≡ accessed a l (holds v) → value t s ≡ v
unfolding mark_fate
marks_word t s zero a v l e = absurd (let z : ◌≡◌ {A = ℕ} 0 1 = cc in omega arith)
marks_word t s (suc k) a v l e = go (load_mark t k s) (store_mark t k s) (marks_word t s k a v l) e
  where
    go : (ld st : Bool) → (mark_fate t s k ≡ accessed a l (holds v) → value t s ≡ v)
        → cond (ld || st) (accessed (address t k) (word_if ld (taken t s)) (word_if st (value t s))) (mark_fate t s k)
        ≡ accessed a l (holds v)
        → value t s ≡ v
    go true true rest f = cc
    go false true rest f = cc
    go true false rest f = absurd (let z : ◌≡◌ {A = ℕ} 0 1 = cc in omega arith)
    go false false rest f = rest f

-- the word of a live store is its stage's value
pub stored_word : (t : Table) (p a v : ℕ) (l : Side) → p < t.live → fate_of (at (view t).refs p) ≡ accessed a l (holds v)
    → value t (stage_of t p) ≡ v
stored_word t p a v l h e = go (has t.executed (stage_of t p)) (sym (ap fate_of (at_refs t p h)) ∙ e)
  where
    go : (b : Bool) → cond b (mark_fate t (stage_of t p) (rows_in t.banks)) waiting ≡ accessed a l (holds v)
        → value t (stage_of t p) ≡ v
    go true f = marks_word t (stage_of t p) (rows_in t.banks) a v l f
    go false f = absurd (let z : ◌≡◌ {A = ℕ} 0 1 = cc in omega arith)
