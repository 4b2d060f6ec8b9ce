-- "Checks go from the smallest number up. A call is refused when a condition in its rows holds, and only then": of every call
-- of a machine over any engine through its contract, 2 among its conditions (decides_over), and of its opening (opening_goes). The
-- numbers of each call's conditions rise, from above 2 on in all but the opening, so that the engine's law of such a call
-- gives it.
-- Assumes nothing.
use mathlib.Core.Bool.{true}
use mathlib.Core.List.{List}
use mathlib.Core.Logic.{◌⊎◌}
use mathlib.Core.Path.{◌≡◌, refl, sym, subst}
use Prim.Native.Nat.{ℕ}
use lib.ListN.{length}
use Rattle.engine.specs.Conditions.{refusal, holds, rising_from}
use Rattle.engine.specs.Contract
use Rattle.engine.specs.Contract.{judged}
use Rattle.engine.proofs.Meeting.{Accepts}
use Rattle.engine.proofs.Deciding.{GoesBy, list_goes, Decides, meets_decides}
use Rattle.machine_model.specs.declared.Machine.{Machine}
use Rattle.machine_model.specs.Over
use Rattle.machine_model.specs.Over.{Engine, Realization, Call, issue, execute, squash, commit, finish, lent_to, Answer}
use Rattle.machine_model.specs.Over.{known, drained}
use Rattle.machine_model.specs.Calls.{buffered}
use Rattle.machine_model.specs.Contract.{tabled, plain, Sound, Meets}
use Rattle.machine_model.proofs.Sounding.{sound_or}

module _ {O S : Type 0} (E : Engine O S) (program : List ℕ) where
  -- the numbers of a call's conditions rise, and the first of them is above 2
  call_rises : (c : Call) (X : Over.Plain S) (memory : List ℕ) → rising_from 2 (Over.checks_of E program c X memory) ≡ true
  call_rises issue X memory = refl
  call_rises (execute p) X memory = refl
  call_rises (squash p) X memory = refl
  call_rises commit X memory = refl
  call_rises (finish k list) X memory = refl

  -- what a call comes to that is not refused
  abbrev pub accepted : Call → Over.Plain S → List ℕ → Over.Result S
  accepted issue X memory = Over.issuing E program X memory
  accepted (execute p) X memory =
      let f = known (Over.evaluated E X memory p) in
      Over.executing E X memory p f (Over.survivors_of E X memory p f)
  accepted (squash p) X memory = Over.squashing E X memory p
  accepted commit X memory = Over.committing E X memory
  accepted (finish k list) X memory = drained list (Over.finishes E program k (length list) X memory)

  accepted_accepts : (c : Call) (X : Over.Plain S) (memory : List ℕ) → Accepts (accepted c X memory).answer
  accepted_accepts issue X memory = tt
  accepted_accepts (execute p) X memory = tt
  accepted_accepts (squash p) X memory = tt
  accepted_accepts commit X memory = tt
  accepted_accepts (finish k list) X memory = tt

  -- it is judged by its conditions
  responds : (c : Call) (X : Over.Plain S) (memory : List ℕ)
      → Over.respond E program c X memory
      ≡ judged (refusal (Over.checks_of E program c X memory)) X memory (lent_to c) (accepted c X memory)
  unfolding Over.respond
  responds issue X memory = refl
  responds (execute p) X memory = refl
  responds (squash p) X memory = refl
  responds commit X memory = refl
  responds (finish k list) X memory = refl

-- a machine is sound or not, as a test tells
abbrev pub Tested : {O S : Type 0} {E : Engine O S} → Realization E → Type 0
Tested R = (m : R.Machine) → R.Sound m ⊎ (R.Sound m → ⊥)

module _ {O S : Type 0} {E : Engine O S} (R : Realization E) where
  -- It is refused with k exactly if k is the smallest number of a condition that holds, 2 among them (that the machine is not
  -- sound); otherwise it comes to what its definition says.
  pub decides_over : Tested R → (program : List ℕ) (m : R.Machine) (c : Call) (w : List ℕ) {said : Answer} {u : R.Machine}
      {v kept : List ℕ} → Over.Meets R program m c w said u v kept
      → Decides R.Sound R.plain m (Over.checks_of E program c (R.plain m) w) (accepted E program c (R.plain m) w) said u v
      kept
  decides_over tests program m c w {said} {u} {v} {kept} meets =
      let X = R.plain m in
      meets_decides R.Sound R.plain m w (lent_to c) (Over.checks_of E program c X w) (accepted E program c X w) (tests m)
      (call_rises E program c X w) (accepted_accepts E program c X w)
      (subst (λ (r : Over.Result S). Contract.Meets R.Sound R.plain m r w (lent_to c) said u v kept)
      (responds E program c X w) meets)

  -- an opening: its conditions are those of the list, whose numbers rise
  pub opening_goes : (o : O) (program memory : List ℕ) {said : Answer} {u : R.Machine} → Over.Opens R o program memory said u
      → GoesBy (λ (k : ℕ). holds k (Over.open_checks E o program memory) ≡ true) said
  opening_goes o program memory {said} opens =
      list_goes (Over.open_checks E o program memory) refl said (λ some. (opens.refuses _ some refl).0)
      (λ z. subst Accepts (sym (opens.opens z).0) tt)

-- of the machine over the buffer
pub decides : (program : List ℕ) (m : Machine) (c : Call) (w : List ℕ) {said : Answer} {u : Machine} {v kept : List ℕ}
    → Meets program m c w said u v kept
    → Decides Sound plain m (Over.checks_of buffered program c (plain m) w) (accepted buffered program c (plain m) w) said u v kept
decides program m c w meets = decides_over tabled sound_or program m c w meets
