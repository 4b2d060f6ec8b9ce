-- The calls that move the window's young end: issue is refused with 5 where every stage is live and otherwise grows the table,
-- squash is refused with 7 where its ticket names no live reference and otherwise cuts the table at the ticket's position.
-- The checks are those of the plain state, and the views are those of the steps. Assumes nothing.
use mathlib.Core.Path.{◌≡◌, refl, sym, ap, ◌∙◌}
use mathlib.Core.Bool.{Bool, true, false, cond, not, and-eq-true_iff}
use mathlib.Core.List.{List}
use Prim.Native.Nat.{ℕ, ◌≤◌, ◌<◌}
use native.Mathlib.Nat.{ne_of_lt, le_of_lt}
use native.Mathlib.Omega.{arith}
use lib.Dec.{eqb}
use borrow.Author.Tests.{ltb-true, eq-eqb, ne_eqb}
use Rattle.marks.specs.Circle.{position}
use Rattle.table.specs.declared.Table.{Table}
use Rattle.table.specs.declared.Ticket.{Ticket}
use Rattle.table.specs.View.{stage_of, view}
use Rattle.table.specs.Rules.{Rules}
use Rattle.table.proofs.Fates.{length_refs}
use Rattle.engine.specs.Computed.Steps.{cut, grown}
use Rattle.table.specs.Fits.{Lengths}
use Rattle.engine.proofs.Narrowing.{cut_rules, cut_view}
use Rattle.engine.proofs.Growing.{grown_rules, grown_view}
use Rattle.engine.specs.Conditions.{refusal}
use Rattle.engine.specs.Contract.{refused, done, named}
use Rattle.buffer_model.specs.Refusals.{issue_checks, squash_checks}
use Rattle.buffer_model.specs.Calls.{issue, squash}
use Rattle.buffer_model.specs.Contract.{Meets}
use Rattle.table.specs.Computed.Naming.{named_by}
use Rattle.buffer_model.proofs.MeetingContract.{refused_meets, accepted_meets}
use Rattle.buffer_model.proofs.TestsAreTheView.{named_names}

-- the ticket of the reference that an issue adds at position p
abbrev pub ticket : Table → ℕ → Ticket
ticket t p = record { stage = stage_of t p; number = t.next }

-- whether every stage is live
full : (t : Table) (b : Bool) → eqb t.live t.stages ≡ b → refusal (issue_checks (view t)) ≡ cond b 5 0
full t b e = ap (λ (k : ℕ). cond (eqb k t.stages) 5 0) (length_refs t) ∙ ap (λ (c : Bool). cond c 5 0) e

-- the stage of a ticket that names a live reference is one of the table's, and is live
pub named_live : (t : Table) (τ : Ticket)
    → named_by t.oldest t.stages t.live t.numbers τ.stage τ.number ≡ true
    → (τ.stage < t.stages) × (position t.oldest t.stages τ.stage < t.live)
named_live t τ e =
    let all = (and-eq-true_iff _ _).0 e in
    (ltb-true _ _ all.0, ltb-true _ _ ((and-eq-true_iff _ _).0 all.1).0)

module _ (t : Table) (rules : Rules t) where
  pub issue_full : t.live ≡ t.stages → (m : List ℕ) → Meets t issue m (refused 5) t m
  issue_full e m =
      refused_meets t issue m rules 5 (full t true (eq-eqb t.live t.stages e)) (λ z. omega arith)

  pub issue_meets : Lengths t → t.live < t.stages → (m : List ℕ)
      → Meets t issue m (named (ticket t t.live)) (grown t) m
  issue_meets lengths room m =
      accepted_meets t issue m rules (full t false (ne_eqb t.live t.stages (ne_of_lt room)))
      (named (ticket t t.live))
      (grown t)
      m
      (ap (λ (p : ℕ). named (ticket t p)) (sym (length_refs t)))
      (grown_view t rules lengths room)
      refl
      refl
      (grown_rules t rules lengths room)

  -- whether the ticket names a live reference
  unnamed : (τ : Ticket) (b : Bool) → named_by t.oldest t.stages t.live t.numbers τ.stage τ.number ≡ b
      → refusal (squash_checks (view t) τ) ≡ cond (not b) 7 0
  unnamed τ b e = ap (λ (c : Bool). cond (not c) 7 0) (sym (named_names t rules τ) ∙ e)

  module _ (τ : Ticket) where
    pub squash_unnamed : named_by t.oldest t.stages t.live t.numbers τ.stage τ.number ≡ false
        → (m : List ℕ) → Meets t (squash τ) m (refused 7) t m
    squash_unnamed e m = refused_meets t (squash τ) m rules 7 (unnamed τ false e) (λ z. omega arith)

    pub squash_meets : named_by t.oldest t.stages t.live t.numbers τ.stage τ.number ≡ true
        → (m : List ℕ) → Meets t (squash τ) m done (cut t (position t.oldest t.stages τ.stage)) m
    squash_meets e m =
        let p = position t.oldest t.stages τ.stage in
        let few : p ≤ t.live = le_of_lt (named_live t τ e).1 in
        accepted_meets t (squash τ) m rules (unnamed τ true e) done (cut t p) m refl (cut_view t rules p few) refl refl
        (cut_rules t rules p few)
