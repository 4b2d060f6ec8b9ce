-- The number that the code's validation finds: where it is 0 none of the conditions 2, 3 and 4 holds (check_passes), and any other
-- number is the call's refusal (check_turns), because each call's own checks begin with those of the validation.
-- Assumes nothing.
use mathlib.Core.Bool.{Bool, true, false, not, ◌&&◌}
use mathlib.Core.List.{List, [], ◌∷◌}
use mathlib.Core.Path.{◌≡◌, refl, sym, ◌∙◌}
use Prim.Native.Nat.{ℕ}
use lib.Dec.{eqb}
use Rattle.table.specs.Computed.Check.{lawful}
use Rattle.engine.specs.Contract.{refused}
use Rattle.engine.specs.Conditions.{when, refusal}
use Rattle.machine_model.specs.declared.Machine.{Machine}
use Rattle.machine_model.specs.Calls.{buffered, Call, lent_to}
use Rattle.machine_model.specs.Contract.{plain, Meets}
use Rattle.machine_model.specs.Tests.{agreeing, fitting, validate_of}
use Rattle.machine_model.proofs.Sounding.{tests_sound, broken_tests}
use Rattle.machine_model.proofs.Answering.{broken_meets, refused_meets, fits_same, Passed, validate_passes}
use Rattle.machine_laws.proofs.Refusals.{length_for, length_turned, program_turned}

-- 0: none of them holds
module _ (m : Machine) (program : List ℕ) (lent : ℕ) {why : ℕ} (found : why ≡ validate_of m program lent) (none : why ≡ 0) where
  pub check_none : validate_of m program lent ≡ 0
  check_none = sym found ∙ none

  pub check_passes : Passed m program lent
  check_passes = validate_passes m program lent check_none

pub check_turns : (m : Machine) (program : List ℕ) (c : Call) (w : List ℕ) {k : ℕ}
    → k ≡ validate_of m program (length_for buffered (plain m) c w) → (k ≡ 0 → ⊥) → Meets program m c w (refused k) m w (lent_to c)
check_turns m program c w {k} found some =
    go (lawful m.table && agreeing m m.table.live) (eqb lent m.table.words) (fitting program m) refl
    refl refl (sym found)
  where
    lent : ℕ
    lent = length_for buffered (plain m) c w

    go : (a b d : Bool) → (lawful m.table && agreeing m m.table.live) ≡ a
        → eqb lent m.table.words ≡ b → fitting program m ≡ d
        → refusal (when (not a) 2 ∷ when (not b) 3 ∷ when (not d) 4 ∷ []) ≡ k
        → Meets program m c w (refused k) m w (lent_to c)
    go false b d e f g number = rw (← number) (broken_meets program m c w (broken_tests m e))
    go true false d e f g number =
        rw (← number) (refused_meets program m c w 3 (tests_sound m e) (length_turned buffered (plain m) program c w f))
    go true true false e f g number =
        rw (← number)
        (refused_meets program m c w 4 (tests_sound m e) (program_turned buffered (plain m) program c w f (fits_same program m ∙ g)))
    go true true true e f g number = absurd (some (sym number))
