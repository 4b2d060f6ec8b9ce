-- Calls on images are calls on the machines that they are, so that the record theorem is one of C callers (record_crosses): any
-- calls from an opening that answered 0, refused ones among them, have the record, registers and memory of the sequential run.
-- Assumes nothing.
use mathlib.Core.Path.{◌≡◌, refl, sym, ap, subst, ◌∙◌}
use mathlib.Core.List.{List}
use Prim.Native.Nat.{ℕ, zero, suc}
use native.Mathlib.Omega.{arith}
use Rattle.engine.specs.Conditions.{refusal}
use Rattle.engine.specs.Contract.{refused, done}
use Rattle.machine_model.specs.Calls.{Opening, Call, Answer, open_checks}
use Rattle.machine_model.specs.Contract.{tabled, Meets, Opens}
use Rattle.theorem.specs.Life.{Life, born, lived}
use Rattle.theorem.specs.Truth.{CallsTruth}
use Rattle.theorem.proofs.Buffered.{buffer_owes}
use Rattle.theorem.proofs.Closing.{calls_theorem}
use Rattle.embed_image.specs.declared.Image.{Image}
use Rattle.embed_image.specs.declared.Numbers.{Numbers}
use Rattle.embed_image.specs.declared.Answered.{Answered}
use Rattle.embed_image.specs.Slots.{machine_by}
use Rattle.embed_image.specs.Crossing.{Starts}
use Rattle.embed_image.specs.Lives.{ImageLife, begun, called}
use Rattle.embed_image.proofs.Zero.{number}
use Rattle.embed_image.proofs.Told.{numbers_tell}

pub life_of : {program : List ℕ} {i : Image} {w : List ℕ} {cs : List Call} {answers : List Answer} {u : Image}
    {v record' : List ℕ} {n : ℕ} → ImageLife program i w cs answers u v record' n
    → Life tabled program (machine_by i) w cs answers (machine_by u) v record' n
life_of begun = born
life_of {program} (called {u = u} {v = v} {y = y} {list = list} {r = r} c life x) =
    lived c (life_of life)
    (subst (λ (a : Answer). Meets program (machine_by u) c v a (machine_by r.image) y list)
    (sym (numbers_tell program u c v x)) x.meets)

module _ {o : Opening} {program w : List ℕ} {r : Answered} (started : Starts o program w r)
    (accepted : r.numbers.refusal ≡ 0) where
  -- an opening that answered 0 was done
  was_done : started.said ≡ done
  was_done = go (refusal (open_checks o program w)) refl
    where
      zero_said : number started.said ≡ 0
      zero_said = sym (ap (λ (n : Numbers). n.refusal) started.numbers_are) ∙ accepted

      go : (k : ℕ) → refusal (open_checks o program w) ≡ k → started.said ≡ done
      go zero e = (started.opens.opens e).0
      go (suc k) e =
          let is : started.said ≡ refused (suc k) = (started.opens.refuses (suc k) (λ z. omega (arith, z)) e).0 in
          let none : suc k ≡ 0 = sym (ap number is) ∙ zero_said in
          absurd (omega (arith, none))

  pub record_crosses : {cs : List Call} {answers : List Answer} {u : Image} {v record' : List ℕ} {n : ℕ}
      → ImageLife program r.image w cs answers u v record' n → CallsTruth tabled program w (machine_by u) v record' n
  record_crosses life =
      calls_theorem buffer_owes
      (subst (λ (a : Answer). Opens o program w a (machine_by r.image)) was_done started.opens) (life_of life)
