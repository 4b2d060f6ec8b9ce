-- Where the oldest waits every mark is younger, so that it gets a row and never stalls. Assumes nothing.
use mathlib.Core.Path.{◌≡◌}
use mathlib.Core.Bool.{Bool, true, false, cond}
use Prim.Native.Nat.{◌<◌}
use native.Mathlib.Omega.{arith}
use lib.ListN.{length}
use Rattle.table.specs.Bank.{bank}
use Rattle.table.specs.Reference
use Rattle.table.specs.Reference.{Side, lacks, holds, waiting, other, accessed, fate_of, at, State}
use Rattle.lookup.specs.Outcome.{allocate_row, kept_in_row, survivors}
use Rattle.lookup.specs.Rows.{touched}
use Rattle.lookup.proofs.Violations.{checked_after}
use Rattle.lookup.proofs.Firsts.{never_stalls}

pub oldest_leaves : (P : State) → 0 < P.rows → 0 < length P.refs → fate_of (at P.refs 0) ≡ waiting
    → (f : Reference.Fate) → survivors P 0 f ≡ 0 → ⊥
oldest_leaves P rows live w waiting z = omega arith
oldest_leaves P rows live w other z = omega arith
oldest_leaves P rows live w (accessed a l s) z = go (touched a P.refs) s z
  where
    go : (t : Bool) (s : Side) → cond t (kept_in_row P 0 a s) (allocate_row P 0 (bank P.banks a)) ≡ 0 → ⊥
    go true lacks y = omega arith
    go true (holds v) y = omega (arith, checked_after P 0 a v live)
    go false s y = never_stalls P (bank P.banks a) rows live w y
