-- The number that crosses: 2 of an image whose machine breaks the rules, else that of the first of the call's conditions that
-- holds, and 0 where none does. So 0 says that the call was accepted, and another number that it was refused.
-- Assumes nothing.
use mathlib.Core.Path.{◌≡◌, refl, sym, ap, ◌∙◌}
use mathlib.Core.List.{List}
use mathlib.Core.Logic.{⊎_elim}
use mathlib.Core.Option.{none, some}
use Prim.Native.Nat.{ℕ}
use Rattle.engine.specs.Conditions.{refusal}
use Rattle.engine.specs.Contract.{refused, done, named, executed, committed, finished}
use Rattle.engine.proofs.Meeting.{Accepts}
use Rattle.engine.proofs.Numbered.{refused_or, zero_accepts, broken_number, first_number}
use Rattle.machine_model.specs.Calls.{Call, Answer, checks_of}
use Rattle.machine_model.specs.Contract.{plain, Sound}
use Rattle.machine_model.proofs.Ordered.{decides}
use Rattle.embed_image.specs.declared.Image.{Image}
use Rattle.embed_image.specs.declared.Numbers.{Numbers}
use Rattle.embed_image.specs.declared.Answered.{Answered}
use Rattle.embed_image.specs.Slots.{machine_by}
use Rattle.embed_image.specs.Telling.{numbers_of}
use Rattle.embed_image.specs.Crossing.{Crosses}

abbrev pub number : Answer → ℕ
number said = (numbers_of said).refusal

accepted_zero : (said : Answer) → Accepts said → number said ≡ 0
accepted_zero (refused k) ok = absurd ok
accepted_zero done ok = refl
accepted_zero (named p) ok = refl
accepted_zero (executed v d none) ok = refl
accepted_zero (executed v d (some p)) ok = refl
accepted_zero (committed i c r v d) ok = refl
accepted_zero (finished n) ok = refl

pub number_refuses : (said : Answer) → (number said ≡ 0 → ⊥) → (k : ℕ) × (said ≡ refused k)
number_refuses said not-zero = ⊎_elim (λ w. w) (λ ok. absurd (not-zero (accepted_zero said ok))) (refused_or said)

module _ (program : List ℕ) (passed : Image) (c : Call) (w : List ℕ) {r : Answered} {v kept : List ℕ}
    (x : Crosses program passed c w r v kept) where
  crossed : r.numbers.refusal ≡ number x.said
  crossed = ap (λ (n : Numbers). n.refusal) x.numbers_are

  pub number_crosses : Sound (machine_by passed) → r.numbers.refusal ≡ refusal (checks_of program c (plain (machine_by passed)) w)
  number_crosses sound =
      crossed ∙ first_number (decides program (machine_by passed) c w x.meets) number (λ k. refl) accepted_zero sound

  pub broken_crosses : (Sound (machine_by passed) → ⊥) → r.numbers.refusal ≡ 2
  broken_crosses breaks =
      crossed ∙ broken_number (decides program (machine_by passed) c w x.meets) number (λ k. refl) accepted_zero breaks

  pub zero_accepted : r.numbers.refusal ≡ 0 → Accepts x.said
  zero_accepted z =
      zero_accepts (decides program (machine_by passed) c w x.meets) number (λ k. refl) accepted_zero (sym crossed ∙ z)
