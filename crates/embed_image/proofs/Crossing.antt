-- A call that met the machine's contract meets it on images: a refusal leaves the machine, so that the image that was passed is
-- what it hands back; without one the image handed back is the machine's.
-- Assumes nothing.
use mathlib.Core.Path.{◌≡◌, refl, sym, ap, subst, ◌∙◌}
use mathlib.Core.Bool.{Bool, true, false}
use mathlib.Core.List.{List}
use mathlib.Core.Logic.{⊎_elim}
use Prim.Native.Nat.{ℕ}
use lib.Dec.{eqb}
use borrow.Author.Tests.{eqb-true, eqb-false}
use Rattle.engine.specs.Contract.{refused}
use Rattle.machine_model.specs.declared.Machine.{Machine}
use Rattle.machine_model.specs.Calls.{Opening, Call, Answer}
use Rattle.machine_model.specs.Contract.{Meets, Opens}
use Rattle.machine_model.proofs.Sounding.{sound_or}
use Rattle.embed_image.specs.declared.Image.{Image}
use Rattle.embed_image.specs.declared.Numbers.{Numbers}
use Rattle.embed_image.specs.declared.Answered.{Answered}
use Rattle.embed_image.specs.Slots.{machine_by, image_of}
use Rattle.embed_image.specs.Telling.{numbers_of}
use Rattle.embed_image.specs.Crossing.{Crosses, Starts}
use Rattle.embed_image.specs.Computed.Handing.{handed, answered_by}
use Rattle.embed_image.proofs.Round.{round}
use Rattle.embed_image.proofs.Zero.{number_refuses}

-- a refused call hands back the machine that it was passed
refused_leaves : (program : List ℕ) (m : Machine) (c : Call) (w : List ℕ) {said : Answer} {u : Machine} {v kept : List ℕ}
    → Meets program m c w said u v kept → (k : ℕ) → said ≡ refused k → u ≡ m
refused_leaves program m c w meets k e =
    ⊎_elim (λ sound. (meets.refuses sound k (sym (meets.answer sound) ∙ e)).1) (λ breaks. (meets.broken breaks).1) (sound_or m)

pub crosses : (program : List ℕ) (c : Call) (w : List ℕ) {passed : Image} {m : Machine} {said : Answer} {u : Machine}
    {v kept : List ℕ} {n : Numbers} {r : Answered} → m ≡ machine_by passed → Meets program m c w said u v kept → n ≡ numbers_of said
    → r ≡ answered_by passed u n → Crosses program passed c w r v kept
crosses program c w {passed} {m} {said} {u} {v} {kept} {n} {r} is-machine met numbered made =
    go (eqb n.refusal 0) refl
  where
    meets : Meets program (machine_by passed) c w said u v kept
    meets = subst (λ (x : Machine). Meets program x c w said u v kept) is-machine met

    to : (b : Bool) → eqb n.refusal 0 ≡ b → r ≡ record { image = handed b passed u; numbers = n }
    to b h = made ∙ ap (λ (x : Bool). record { image = handed x passed u; numbers = n }) h

    go : (b : Bool) → eqb n.refusal 0 ≡ b → Crosses program passed c w r v kept
    go true h =
        let is = to true h in
        record {
          said = said;
          meets = subst (λ (x : Machine). Meets program (machine_by passed) c w said x v kept)
              (sym (ap (λ (x : Answered). machine_by x.image) is ∙ round u)) meets;
          numbers_are = ap (λ (x : Answered). x.numbers) is ∙ numbered;
          unchanged = λ some. absurd (some (ap (λ (x : Answered). x.numbers.refusal) is ∙ eqb-true _ _ h));
        }
    go false h =
        let is = to false h in
        let refuses = number_refuses said (λ z. eqb-false _ _ h (ap (λ (x : Numbers). x.refusal) numbered ∙ z)) in
        record {
          said = said;
          meets = subst (λ (x : Machine). Meets program (machine_by passed) c w said x v kept)
              (refused_leaves program (machine_by passed) c w meets refuses.0 refuses.1
              ∙ sym (ap (λ (x : Answered). machine_by x.image) is)) meets;
          numbers_are = ap (λ (x : Answered). x.numbers) is ∙ numbered;
          unchanged = λ some. ap (λ (x : Answered). x.image) is;
        }

pub starts : (o : Opening) (program w : List ℕ) {said : Answer} {u : Machine} {n : Numbers} {i : Image}
    → Opens o program w said u → n ≡ numbers_of said → i ≡ image_of u → Starts o program w (record { image = i; numbers = n })
starts o program w {said} {u} opened numbered made =
    record {
      said = said;
      opens = subst (λ (x : Machine). Opens o program w said x) (sym (ap machine_by made ∙ round u)) opened;
      numbers_are = numbered;
    }
