-- What a commit leaves in memory is what a younger load saw there: a store's word at its address, and every other word as it
-- was. Assumes nothing.
use mathlib.Core.Bool.{Bool, true, false, cond}
use mathlib.Core.List.{List}
use mathlib.Core.Path.{◌≡◌, refl, sym, ap}
use Prim.Native.Nat.{ℕ, ◌<◌}
use lib.Dec.{eqb}
use lib.ListN.{length, get_or, set}
use lib.Seq.{get_or-set_same, get_or-set_other}
use borrow.Author.Tests.{eqb-true, eqb-false, leb-false}
use Rattle.table.specs.Reference.{Side, lacks, holds, Fate, waiting, other, accessed}
use Rattle.lookup.specs.Forwarding.{word_or, word_after}
use Rattle.engine.specs.Execution.{written_at, written}
use Rattle.engine.specs.Conditions.{faults}

-- a list after a set, by a test of the index
pub set_test : {A : Type 0} (g : ℕ → A) (l : List ℕ) (d k v : ℕ) → d < length l
    → cond (eqb d k) (g v) (g (get_or l k 0)) ≡ g (get_or (set l d v) k 0)
set_test g l d k v h = go (eqb d k) refl
  where
    go : (t : Bool) → eqb d k ≡ t → cond t (g v) (g (get_or l k 0)) ≡ g (get_or (set l d v) k 0)
    go true e = rw (← eqb-true d k e) (ap g (sym (get_or-set_same l d v 0 h)))
    go false e = ap g (sym (get_or-set_other l d k v 0 (λ i. eqb-false d k e (sym i))))

pub seen_written : (memory : List ℕ) (f : Fate) (b : ℕ) → faults (length memory) f ≡ false
    → word_after f b (get_or memory b 0) ≡ get_or (written memory f) b 0
seen_written memory waiting b h = refl
seen_written memory other b h = refl
seen_written memory (accessed a l s) b h = go s
  where
    same : (t : Bool) (w : ℕ) → cond t w w ≡ w
    same true w = refl
    same false w = refl

    go : (s : Side) → cond (eqb a b) (word_or s (get_or memory b 0)) (get_or memory b 0) ≡ get_or (written_at memory a s) b 0
    go lacks = same (eqb a b) (get_or memory b 0)
    go (holds v) = set_test (λ (x : ℕ). x) memory a b v (leb-false (length memory) a h)
