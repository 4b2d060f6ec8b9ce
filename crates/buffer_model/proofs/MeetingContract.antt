-- How the buffer's contract is met: by a refusal with 2 where the table breaks its rules, by a refusal with the number that
-- the call's conditions give, and, where they give none, by what the call comes to.
-- Assumes nothing.
use mathlib.Core.Path.{◌≡◌, sym, ap, ◌∙◌}
use mathlib.Core.Bool.{Bool, true, false, not}
use mathlib.Core.List.{List, []}
use Prim.Native.Nat.{ℕ}
use borrow.Author.Tests.{not-true, not-false}
use Rattle.table.specs.declared.Table.{Table}
use Rattle.table.specs.Reference.{State}
use Rattle.table.specs.View.{view}
use Rattle.table.specs.Rules.{Rules}
use Rattle.table.specs.Computed.Check.{lawful}
use Rattle.table.proofs.Lawful.{lawful_rules, lawful_broken}
use Rattle.engine.specs.Contract.{refused, judged}
use Rattle.engine.proofs.Meeting
use Rattle.engine.proofs.Meeting.{judged_refused, judged_accepted, Accepts}
use Rattle.buffer_model.specs.Answers.{Answer}
use Rattle.buffer_model.specs.Calls.{Call, issue, execute, squash, commit, accepted_result, refusal_of, respond}
use Rattle.buffer_model.specs.Contract.{Meets}

-- what an accepted call answers is no refusal
pub accepts : (c : Call) (P : State) (m : List ℕ) → Accepts (accepted_result c P m).answer
accepts issue P m = tt
accepts (execute τ act) P m = tt
accepts (squash τ) P m = tt
accepts commit P m = tt

module _ (t : Table) (c : Call) (m : List ℕ) where
  pub broken_meets : lawful t ≡ false → Meets t c m (refused 2) t m
  broken_meets e = Meeting.broken_meets Rules view t (respond c (view t) m) m [] (lawful_broken t e)

  pub refused_meets : Rules t → (k : ℕ) → refusal_of c (view t) m ≡ k → (k ≡ 0 → ⊥) → Meets t c m (refused k) t m
  unfolding respond
  refused_meets rules k e some =
      Meeting.refused_meets Rules view t (respond c (view t) m) m [] k rules
      (ap (λ (j : ℕ). judged j (view t) m [] (accepted_result c (view t) m)) e
      ∙ judged_refused k (view t) m [] (accepted_result c (view t) m) some)

  pub accepted_meets : Rules t → refusal_of c (view t) m ≡ 0 → (said : Answer) (u : Table) (v : List ℕ)
      → said ≡ (accepted_result c (view t) m).answer → view u ≡ (accepted_result c (view t) m).state → v ≡ (accepted_result c (view t)
      m).memory
      → [] ≡ (accepted_result c (view t) m).list → Rules u → Meets t c m said u v
  unfolding respond
  accepted_meets rules e said u v a s w l after =
      Meeting.accepted_meets Rules view t (respond c (view t) m) m [] u v [] said (accepted_result c (view t) m) rules
      (judged_accepted (refusal_of c (view t) m) (view t) m [] (accepted_result c (view t) m) e)
      (accepts c (view t) m) a s w l after
