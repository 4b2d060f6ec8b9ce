-- Opening: how the contract `Opens` is met. A fresh machine's table is a fresh one, with no live reference, so nothing is to
-- agree, its list of entries is empty, and the table keeps its rules where the sizes fit. The limits of a program are 01's.
-- Assumes nothing.
use mathlib.Core.Bool.{true}
use mathlib.Core.List.{List}
use mathlib.Core.Path.{◌≡◌, refl, sym, ap, ◌∙◌}
use Prim.Native.Nat.{ℕ, ◌/◌}
use native.Mathlib.Nat.{not-suc-le-zero}
use lib.ListN.{length}
use Rattle.table.specs.View.{tabulate}
use Rattle.engine.specs.Contract.{refused, done}
use Rattle.engine.specs.Conditions.{refusal}
use Rattle.engine.proofs.Opening.{fresh_rules}
use Rattle.machine_model.specs.Program.{per_instruction, instructions_most, program_most, registers_most}
use Rattle.machine_model.specs.Calls.{Opening, banked, buffered, open_checks, opened}
use Rattle.machine_model.specs.Contract.{fresh_machine, plain, Sound, Opens}

pub fresh_sound : (o : Opening) (count : ℕ) → buffered.fits o ≡ true → Sound (fresh_machine o count)
fresh_sound (banked banks rows stages words) count fit =
    record { rules = fresh_rules banks rows stages words fit; agrees = λ p h. absurd (not-suc-le-zero h) }

pub fresh_plain : (o : Opening) (program : List ℕ) → plain (fresh_machine o (length program / per_instruction)) ≡ opened o program
unfolding tabulate
fresh_plain (banked banks rows stages words) program = refl

module _ (o : Opening) (program w : List ℕ) where
  pub opens_refused : (k : ℕ) → (k ≡ 0 → ⊥) → refusal (open_checks o program w) ≡ k
      → Opens o program w (refused k) (fresh_machine (banked 0 0 0 0) 0)
  opens_refused k some e =
      record {
        refuses = λ j _ f. (ap refused (sym e ∙ f), refl);
        opens = λ f. absurd (some (sym e ∙ f));
        state = λ f. absurd (some (sym e ∙ f));
      }

  pub opens_done : buffered.fits o ≡ true → refusal (open_checks o program w) ≡ 0
      → Opens o program w done (fresh_machine o (length program / per_instruction))
  opens_done fit e =
      record {
        refuses = λ j some f. absurd (some (sym f ∙ e));
        opens = λ _. (refl, refl);
        state = λ _. (fresh_sound o (length program / per_instruction) fit, fresh_plain o program);
      }

-- 01's numbers: "a program has 0 to 256 instructions, four 32-bit numbers each", "a program of more than 1,024 numbers", "eight
-- registers"
pub program_limits : (instructions_most ≡ 256) × (per_instruction ≡ 4) × (program_most ≡ 1024) × (registers_most ≡ 8)
program_limits = (refl, refl, refl, refl)
