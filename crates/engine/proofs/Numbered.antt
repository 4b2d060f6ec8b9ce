-- The number that tells whether a call was refused: k of a refusal with k, and 0 of every other answer. Of a call that meets
-- its contract it is 2 where the state breaks the rules, and else the number of the first condition that holds, 0 where none
-- does: so 0 says that the call was accepted. No condition has the number 0. Assumes nothing.
use mathlib.Core.Bool.{Bool, true, false}
use mathlib.Core.List.{List}
use mathlib.Core.Logic.{◌⊎◌, inl, inr, ⊎_elim}
use mathlib.Core.Path.{◌≡◌, refl, sym, ap, ◌∙◌}
use Prim.Native.Nat.{ℕ, ◌≤◌}
use native.Mathlib.Omega.{arith}
use lib.Dec.{eqb}
use borrow.Author.Tests.{eqb-true, eqb-false}
use Rattle.engine.specs.Conditions.{Check, refusal, rank}
use Rattle.engine.specs.Contract.{Answer, refused, done, named, executed, committed, finished, Result}
use Rattle.engine.proofs.Meeting.{Accepts}
use Rattle.engine.proofs.Refusing.{refusal_holds, refusal_first_from}
use Rattle.engine.proofs.Deciding.{Holds, Decides}

-- an answer is a refusal, or it is none
pub refused_or : {N : Type 0} (a : Answer N) → ((k : ℕ) × (a ≡ refused k)) ⊎ Accepts a
refused_or (refused k) = inl (k, refl)
refused_or done = inr tt
refused_or (named τ) = inr tt
refused_or (executed v d s) = inr tt
refused_or (committed i c r v d) = inr tt
refused_or (finished n) = inr tt

module _ {S P N : Type 0} {Lawful : S → Type 0} {view : S → P} {t : S} {checks : List Check} {r : Result P N} {said : Answer N}
    {u : S} {v kept : List ℕ} (decided : Decides Lawful view t checks r said u v kept) where
  -- a refusal's number is not 0
  pub refused_some : (k : ℕ) → said ≡ refused k → k ≡ 0 → ⊥
  refused_some k e z =
      omega (arith, decided.goes.stands k (decided.goes.refused_first k e).0, ap rank z)

  module _ (number : Answer N → ℕ) (of-refused : (k : ℕ) → number (refused k) ≡ k)
      (of-accepted : (a : Answer N) → Accepts a → number a ≡ 0) where
    pub zero_accepts : number said ≡ 0 → Accepts said
    zero_accepts z =
        ⊎_elim (λ w. absurd (refused_some w.0 w.1 (sym (ap number w.1 ∙ of-refused w.0) ∙ z))) (λ ok. ok)
        (refused_or said)

    pub broken_number : (Lawful t → ⊥) → number said ≡ 2
    broken_number breaks =
        ap number
        (decided.goes.first_refused 2 (
          inl (refl, breaks),
          λ j.
              ⊎_elim (λ b. omega (arith, ap rank b.0))
              (λ h. let first = refusal_first_from 2 checks j decided.rises h in omega (arith, first.0, first.1)),
        ))
        ∙ of-refused 2

    pub first_number : Lawful t → number said ≡ refusal checks
    first_number lawful = go (eqb (refusal checks) 0) refl
      where
        held : (k : ℕ) → Holds Lawful t checks k → (rank 2 ≤ rank (refusal checks)) × (rank (refusal checks) ≤ rank k)
        held k =
            ⊎_elim (λ b. absurd (b.1 lawful))
            (λ h. let first = refusal_first_from 2 checks k decided.rises h in (omega (arith, first.0), first.1))

        go : (b : Bool) → eqb (refusal checks) 0 ≡ b → number said ≡ refusal checks
        go true e =
            let z = eqb-true (refusal checks) 0 e in
            ⊎_elim (λ w. absurd (omega (arith, (held w.0 (decided.goes.refused_first w.0 w.1).0).0, ap rank z)))
            (λ ok. of-accepted said ok ∙ sym z) (refused_or said)
        go false e =
            ap number
            (decided.goes.first_refused (refusal checks)
            (inr (refusal_holds checks (eqb-false (refusal checks) 0 e)), λ j h. (held j h).1))
            ∙ of-refused (refusal checks)
