-- Assumes nothing.
use mathlib.Core.List.{List, [], ◌∷◌}
use mathlib.Core.Path.{◌≡◌, refl, ap, ◌∙◌}
use Prim.Native.Nat.{ℕ, zero, suc, ◌<◌}
use native.Mathlib.Nat.{le_of_suc-le-suc, not-suc-le-zero}
use native.Mathlib.Numerals.{add-one}
use native.Mathlib.Omega.{arith}
use lib.Bits.{bit_and}
use lib.ListN.{length, get_or, set}
use Rattle.table.specs.Limits.{rows_in}
use Rattle.engine.specs.Computed.Steps.{within}
use Rattle.engine_steps.proofs.keep.Goals as goal

within_more : (words : List ℕ) (m i : ℕ) → i < length words
    → set (within i words m) i (bit_and (get_or (within i words m) i 0) m) ≡ within (suc i) words m
within_more [] m i h = absurd (not-suc-le-zero h)
within_more (w ∷ words) m zero h = refl
within_more (w ∷ words) m (suc i) h = ap (◌∷◌ (bit_and w m)) (within_more words m i (le_of_suc-le-suc h))

pub loop-i-init : goal.loop-i-init
loop-i-init c = (omega arith, refl)

pub loop-i-preserved : goal.loop-i-preserved
loop-i-preserved c =
    let at = c in
    let args = at.args in
    let short : at.loop-i.i < length args.words.now = omega arith in (
      omega arith,
      ap (λ (l : List ℕ). set l at.loop-i.i (bit_and (get_or l at.loop-i.i 0) args.stay)) at.loop-i.invariant.1
          ∙ rw add-one (within_more args.words.now args.stay at.loop-i.i short),
    )

pub returns : goal.returns
returns c =
    let at = c in
    let args = at.args in
    let reached : at.loop-i.i ≡ rows_in args.banks = omega arith in
    at.loop-i.invariant.1 ∙ ap (λ (n : ℕ). within n args.words.now args.stay) reached
