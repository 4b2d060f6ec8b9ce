-- The tests that the code makes on a table that keeps its rules are those of its plain state: a ticket is named, and the
-- ticket that references are squashed from.
-- Assumes nothing.
use Rattle.std.specs.Prelude.{Some, None}
use mathlib.Core.Path.{◌≡◌, refl, sym, ap}
use mathlib.Core.Bool.{Bool, true, false, cond, ◌&&◌}
use mathlib.Core.Option.{none, some}
use Prim.Native.Nat.{ℕ, ◌<◌}
use lib.Dec.{eqb, ltb}
use lib.ListN.{length, get_or}
use borrow.Author.Tests.{ltb-true}
use Rattle.marks.proofs.Turns.{stage_position}
use Rattle.table.specs.declared.Table.{Table}
use Rattle.table.specs.declared.Ticket.{Ticket}
use Rattle.table.specs.Reference.{number_of, at}
use Rattle.table.specs.View.{stage_of, view}
use Rattle.table.specs.Rules.{Rules}
use Rattle.table.proofs.Fates.{length_refs, at_refs}
use Rattle.engine.specs.Answers.{as_option}
use Rattle.buffer_model.specs.Refusals.{place, names}
use Rattle.buffer_model.specs.Calls.{ticket_at, squash_from}
use Rattle.table.specs.Computed.Naming.{named_by}
use Rattle.buffer_model.specs.Computed.Parts.{cut_from}

-- two conjunctions agree where their first parts do and, under those, their second
both : (a b x y : Bool) → a ≡ b → (b ≡ true → x ≡ y) → (a && x) ≡ (b && y)
both a true x y e f = rw e (f refl)
both a false x y e f = rw e

module _ (t : Table) (rules : Rules t) where
  -- where the ticket's stage is live, its number is the reference's
  number_at : (τ : Ticket) → τ.stage < t.stages → place (view t) τ < t.live
      → get_or t.numbers τ.stage 0 ≡ number_of (at (view t).refs (place (view t) τ))
  number_at τ h l =
      rw (at_refs t (place (view t) τ) l) (ap (λ (s : ℕ). get_or t.numbers s 0)
      (sym (stage_position t.oldest t.stages rules.start τ.stage h)))

  pub named_names : (τ : Ticket)
      → named_by t.oldest t.stages t.live t.numbers τ.stage τ.number ≡ names (view t) τ
  named_names τ =
      both (ltb τ.stage t.stages) (ltb τ.stage t.stages) _ _ refl
      (λ (h : ltb τ.stage t.stages ≡ true).
      both (ltb (place (view t) τ) t.live) (ltb (place (view t) τ) (length (view t).refs)) _ _
      (ap (ltb (place (view t) τ)) (sym (length_refs t)))
      (λ (l : ltb (place (view t) τ) (length (view t).refs) ≡ true).
      ap (λ (n : ℕ). eqb n τ.number)
      (number_at τ (ltb-true _ _ h) (rw (length_refs t) at (ltb-true (place (view t) τ) (length (view t).refs) l)))))

  pub squash_from_lem : (left : ℕ)
      → as_option (cut_from t.oldest t.stages t.live left t.numbers) ≡ squash_from (view t) left
  squash_from_lem left = rw (length_refs t) (go (ltb left t.live) refl)
    where
      go : (b : Bool) → ltb left t.live ≡ b
          → as_option (cond b (Some (record { stage = stage_of t left; number = get_or t.numbers (stage_of t left) 0 })) None)
          ≡ cond b (some (ticket_at (view t) left)) none
      go true e = rw (at_refs t left (ltb-true _ _ e))
      go false e = refl
