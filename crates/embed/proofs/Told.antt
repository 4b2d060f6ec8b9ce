-- Nothing of an answer is lost: the numbers that crossed tell the answer that the call gave. Assumes nothing.
use mathlib.Core.Path.{◌≡◌, refl, sym, ap, ◌∙◌}
use mathlib.Core.List.{List}
use mathlib.Core.Logic.{⊎_elim}
use mathlib.Core.Option.{Option, none, some}
use Prim.Native.Nat.{ℕ}
use borrow.Author.Tests.{ne_eqb}
use Rattle.table.specs.declared.Table.{Table}
use Rattle.table.specs.declared.Ticket.{Ticket}
use Rattle.table.specs.Reference.{State}
use Rattle.table.specs.View.{view}
use Rattle.engine.specs.declared.Action.{Action}
use Rattle.engine.specs.Contract.{refused, executed}
use Rattle.engine.proofs.Numbered.{refused_or, refused_some}
use Rattle.buffer_model.specs.Answers.{Answer}
use Rattle.buffer_model.specs.Calls.{Call, issue, execute, squash, commit, accepted_result}
use Rattle.buffer_model.specs.Contract.{Meets}
use Rattle.buffer_model.proofs.Ordered.{decides}
use Rattle.embed.specs.Crossing.{numbers_of, told}

refusal_tells : (c : Call) (k : ℕ) → (k ≡ 0 → ⊥) → told c (numbers_of (refused k)) ≡ refused k
refusal_tells c k not-zero = rw (ne_eqb k 0 not-zero) refl

execution_tells : (τ : Ticket) (act : Action) (v d : ℕ) (from : Option Ticket)
    → told (execute τ act) (numbers_of (executed v d from)) ≡ executed v d from
execution_tells τ act v d none = refl
execution_tells τ act v d (some at) = refl

acceptance_tells : (c : Call) (P : State) (m : List ℕ)
    → told c (numbers_of (accepted_result c P m).answer) ≡ (accepted_result c P m).answer
acceptance_tells issue P m = refl
acceptance_tells (execute τ act) P m = execution_tells τ act _ _ _
acceptance_tells (squash τ) P m = refl
acceptance_tells commit P m = refl

pub numbers_tell : (t : Table) (c : Call) (m : List ℕ) {said : Answer} {u : Table} {v : List ℕ} → Meets t c m said u v
    → told c (numbers_of said) ≡ said
numbers_tell t c m {said} meets =
    ⊎_elim
    (λ w. same (refused w.0) w.1 (refusal_tells c w.0 (refused_some (decides t c m meets) w.0 w.1)))
    (λ ok. same _ ((decides t c m meets).accepted ok).answer (acceptance_tells c (view t) m))
    (refused_or said)
  where
    same : (a : Answer) → said ≡ a → told c (numbers_of a) ≡ a → told c (numbers_of said) ≡ said
    same a e h = ap (λ (b : Answer). told c (numbers_of b)) e ∙ h ∙ sym e
