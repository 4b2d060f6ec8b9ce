-- Opening: how the contract `Opens` is met, by a refusal and by a fresh table.
-- Assumes nothing.
use mathlib.Core.Path.{◌≡◌, refl, sym, ap, ◌∙◌}
use mathlib.Core.Bool.{true}
use mathlib.Core.List.{List}
use Prim.Native.Nat.{ℕ}
use Rattle.table.specs.Limits.{sizes_fit}
use Rattle.engine.specs.Conditions.{refusal}
use Rattle.engine.specs.Contract.{refused, done}
use Rattle.engine.specs.Opening.{fresh}
use Rattle.engine.proofs.Opening.{fresh_rules, fresh_view}
use Rattle.buffer_model.specs.Refusals.{open_checks}
use Rattle.buffer_model.specs.Contract.{Opens}

module _ (banks rows stages words : ℕ) (m : List ℕ) where
  pub opens_refused : (k : ℕ) → (k ≡ 0 → ⊥) → refusal (open_checks banks rows stages words m) ≡ k
      → Opens banks rows stages words m (refused k) (fresh 0 0 0 0)
  opens_refused k some e =
      record {
        refuses = λ j _ f. (ap refused (sym e ∙ f), refl);
        opens = λ f. absurd (some (sym e ∙ f));
        state = λ f. absurd (some (sym e ∙ f));
      }

  pub opens_done : sizes_fit banks rows stages words ≡ true → refusal (open_checks banks rows stages words m) ≡ 0
      → Opens banks rows stages words m done (fresh banks rows stages words)
  opens_done fit e =
      record {
        refuses = λ j some f. absurd (some (sym f ∙ e));
        opens = λ _. (refl, refl);
        state = λ _. (fresh_rules banks rows stages words fit, fresh_view banks rows stages words);
      }
