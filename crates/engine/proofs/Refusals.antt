-- The refusals of the code: their numbers stand in the order of the conditions, none is 0, and a call that is turned down with a
-- number answers that number. Assumes nothing.
use mathlib.Core.Path.{◌≡◌, refl}
use mathlib.Core.List.{List, [], ◌∷◌, map}
use native.Mathlib.Omega.{arith}
use Rattle.std.specs.Prelude.{Result, Ok, Err}
use Rattle.engine.specs.declared.Refusal.{Refusal}
use Rattle.engine.specs.declared.Refusal.TheVariants as refusal
use Rattle.engine.specs.Conditions.{order}
use Rattle.engine.specs.Contract.{Answer, refused}
use Rattle.engine.specs.Answers.{number, says, turned_down}

abbrev pub refusals : List Refusal
refusals =
    refusal.Sizes ∷ refusal.Rules ∷ refusal.Memory ∷ refusal.Program ∷ refusal.Full ∷ refusal.Over ∷ refusal.Unnamed
    ∷ refusal.Executed
    ∷ refusal.Operand
    ∷ refusal.Stalled
    ∷ refusal.Empty
    ∷ refusal.Waiting
    ∷ refusal.Fault
    ∷ refusal.Misaligned
    ∷ []

pub numbers_in_order : map number refusals ≡ order
numbers_in_order = refl

pub number_some : (r : Refusal) → number r ≡ 0 → ⊥
number_some refusal.Sizes z = omega arith
number_some refusal.Rules z = omega arith
number_some refusal.Memory z = omega arith
number_some refusal.Program z = omega arith
number_some refusal.Full z = omega arith
number_some refusal.Over z = omega arith
number_some refusal.Unnamed z = omega arith
number_some refusal.Executed z = omega arith
number_some refusal.Operand z = omega arith
number_some refusal.Stalled z = omega arith
number_some refusal.Empty z = omega arith
number_some refusal.Waiting z = omega arith
number_some refusal.Fault z = omega arith
number_some refusal.Misaligned z = omega arith

module _ {A N : Type 0} (accepted : A → Answer N) where
  pub says_refused : (said : Result A Refusal) → (turned_down said ≡ 0 → ⊥) → says accepted said ≡ refused (turned_down said)
  says_refused (Ok a) some = absurd (some refl)
  says_refused (Err r) some = refl
