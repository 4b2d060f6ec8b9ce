-- A fresh table has no live reference and bears no mark, so the rules ask only that its sizes fit, and its list of references
-- is empty. A refused opening's table has no stage, so that it breaks the rules.
-- Assumes nothing.
use mathlib.Core.Path.{◌≡◌, refl, sym, ap, ap₂, ◌∙◌}
use mathlib.Core.Bool.{true, false, ◌||◌, true≢false}
use Prim.Native.Nat.{ℕ, ◌<◌}
use native.Mathlib.Omega.{arith}
use lib.ListN.{get_or, replicate, get_or-replicate}
use Rattle.marks.specs.Stages.{has}
use Rattle.marks.proofs.Sets.{has_zero}
use Rattle.table.specs.Limits.{slots, rows_in, sizes_fit}
use Rattle.table.specs.Rules.{Rules}
use Rattle.table.specs.View.{mark, tabulate, view}
use Rattle.table.proofs.Sizes.{sizes}
use Rattle.engine.specs.Opening.{opening, fresh}

no_bit : (r s : ℕ) → r < slots → has (get_or (replicate slots 0) r 0) s ≡ false
no_bit r s h = ap (λ (w : ℕ). has w s) (get_or-replicate slots r 0 0 h) ∙ has_zero s

module _ (banks rows stages words : ℕ) where
  no_mark : sizes_fit banks rows stages words ≡ true → (r s : ℕ) → r < rows_in banks
      → mark (fresh banks rows stages words) r s ≡ true → ⊥
  no_mark fit r s h e =
      let small : r < slots = omega (arith, (sizes banks rows stages words fit).banks) in
      true≢false (sym e ∙ ap₂ ◌||◌ (no_bit r s small) (no_bit r s small))

  pub fresh_rules : sizes_fit banks rows stages words ≡ true → Rules (fresh banks rows stages words)
  fresh_rules fit =
      record {
        sizes = fit;
        live_bounded = omega arith;
        start = (sizes banks rows stages words fit).some_stage;
        live = λ r s h m. absurd (no_mark fit r s h m);
        executed = λ r s h m. absurd (no_mark fit r s h m);
        one_row = λ r q s h l m n. absurd (no_mark fit r s h m);
        one_address = λ r q s u h l m n e. absurd (no_mark fit r s h m);
        in_bank = λ r s h m. absurd (no_mark fit r s h m);
        in_rows = λ r s h m. absurd (no_mark fit r s h m);
      }

  pub fresh_view : view (fresh banks rows stages words) ≡ opening banks rows stages words
  unfolding tabulate
  fresh_view = refl

-- the table of a refused opening
pub no_rules : Rules (fresh 0 0 0 0) → ⊥
no_rules rules = let none : 0 < 0 = rules.start in omega arith
