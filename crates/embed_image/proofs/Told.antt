-- Nothing of an answer is lost: the numbers that crossed tell the answer that the call gave. Assumes nothing.
use mathlib.Core.Path.{◌≡◌, refl, sym, ap, ◌∙◌}
use mathlib.Core.List.{List}
use mathlib.Core.Logic.{⊎_elim}
use mathlib.Core.Option.{Option, none, some}
use Prim.Native.Nat.{ℕ}
use borrow.Author.Tests.{ne_eqb}
use Rattle.engine.specs.Contract.{refused, executed}
use Rattle.engine.proofs.Numbered.{refused_or, refused_some}
use Rattle.machine_model.specs.Calls.{buffered, Plain, Call, issue, execute, squash, commit, finish, Answer}
use Rattle.machine_model.proofs.Ordered.{accepted, decides}
use Rattle.embed_image.specs.declared.Image.{Image}
use Rattle.embed_image.specs.declared.Answered.{Answered}
use Rattle.embed_image.specs.Slots.{machine_by}
use Rattle.embed_image.specs.Telling.{numbers_of, told}
use Rattle.embed_image.specs.Crossing.{Crosses}

refusal_tells : (c : Call) (k : ℕ) → (k ≡ 0 → ⊥) → told c (numbers_of (refused k)) ≡ refused k
refusal_tells c k not-zero = rw (ne_eqb k 0 not-zero) refl

execution_tells : (p v d : ℕ) (from : Option ℕ) → told (execute p) (numbers_of (executed v d from)) ≡ executed v d from
execution_tells p v d none = refl
execution_tells p v d (some q) = refl

acceptance_tells : (program : List ℕ) (c : Call) (X : Plain) (w : List ℕ)
    → told c (numbers_of (accepted buffered program c X w).answer) ≡ (accepted buffered program c X w).answer
acceptance_tells program issue X w = refl
acceptance_tells program (execute p) X w = execution_tells p _ _ _
acceptance_tells program (squash p) X w = refl
acceptance_tells program commit X w = refl
acceptance_tells program (finish k list) X w = refl

pub numbers_tell : (program : List ℕ) (passed : Image) (c : Call) (w : List ℕ) {r : Answered} {v kept : List ℕ}
    (x : Crosses program passed c w r v kept) → told c r.numbers ≡ x.said
numbers_tell program passed c w x =
    let decided = decides program (machine_by passed) c w x.meets in
    ap (told c) x.numbers_are
    ∙ ⊎_elim
    (λ h. same (refused h.0) h.1 (refusal_tells c h.0 (refused_some decided h.0 h.1)))
    (λ ok. same _ (decided.accepted ok).answer (acceptance_tells program c _ w))
    (refused_or x.said)
  where
    same : (a : Answer) → x.said ≡ a → told c (numbers_of a) ≡ a → told c (numbers_of x.said) ≡ x.said
    same a e h = ap (λ (b : Answer). told c (numbers_of b)) e ∙ h ∙ sym e
