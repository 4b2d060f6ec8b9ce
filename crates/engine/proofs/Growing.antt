-- The window grown: issue. No mark changes, and the marked stages were live before, so they are live and executed still
-- (grown_rules). The new stage is the one after the live ones: its number is set, and the mask of the live stages takes
-- it out of the executed ones (grown_new); the other references are as they were (grown_old). Assumes nothing.
use mathlib.Core.Bool.{Bool, true, false, ◌&&◌, and-true, and-false}
use mathlib.Core.List.{List, [], ◌∷◌, ◌++◌}
use mathlib.Core.Path.{◌≡◌, refl, ap, ap₂, subst, ◌∙◌}
use Prim.Native.Nat.{ℕ, ◌<◌}
use native.Mathlib.Nat.{le_refl, ne_of_lt}
use native.Mathlib.Numerals.{add-one}
use native.Mathlib.Omega.{arith}
use lib.ListN.{length}
use lib.Seq.{get_or-set_same, get_or-set_other}
use borrow.Author.Tests.{lt-ltb, le-ltb}
use Rattle.marks.specs.Circle.{firsts}
use Rattle.marks.specs.Stages.{has}
use Rattle.marks.proofs.Sets.{has_and}
use Rattle.marks.proofs.Turns.{stage_injective, firsts_at}
use Rattle.table.specs.declared.Table.{Table}
use Rattle.table.specs.Limits.{stages_most}
use Rattle.table.specs.Moves.{windowed, issued}
use Rattle.table.specs.Reference.{waiting, Ref, ref}
use Rattle.table.specs.Rules.{Rules}
use Rattle.table.specs.View.{stage_of, ref_at, tabulate, view}
use Rattle.table.proofs.Fates.{fates_same, fate_waiting}
use Rattle.table.proofs.Lists.{tabulate_same}
use Rattle.table.proofs.Owning.{mark_position}
use Rattle.engine.specs.Computed.Steps.{grown}
use Rattle.engine.proofs.Fewer.{fewer_rules}
use Rattle.table.specs.Fits.{Lengths}
use Rattle.engine.proofs.Lengths.{stage_small}

module _ (t : Table) (rules : Rules t) (lengths : Lengths t) (room : t.live < t.stages) where
  -- a stage is executed where it was and the mask of the live stages has it
  masked : (s : ℕ) (b : Bool) → has (firsts t.oldest t.stages t.live) s ≡ b
      → has (grown t).executed s ≡ (has t.executed s && b)
  masked s b e =
      has_and t.executed (firsts t.oldest t.stages t.live) s
      ∙ ap (λ (c : Bool). has t.executed s && c) e

  kept : (p : ℕ) → p < t.live → has (grown t).executed (stage_of t p) ≡ has t.executed (stage_of t p)
  kept p l =
      masked (stage_of t p) true
      (firsts_at t.oldest t.stages rules.start t.live p rules.live_bounded (omega arith) ∙ lt-ltb p t.live l)
      ∙ and-true (has t.executed (stage_of t p))

  pub grown_rules : Rules (grown t)
  grown_rules =
      fewer_rules t (grown t) rules
      (record { banks = refl; rows = refl; addresses = refl; loads = λ r s h m. m; stores = λ r s h m. m })
      rules.sizes (omega arith) rules.start
      (λ r s h m. let was = rules.live r s h m in record { stage = was.stage; position = omega arith })
      (λ r s h m.
      let place = mark_position t rules r s h m in
      subst (λ (u : ℕ). has (grown t).executed u ≡ has t.executed u) place.2 (kept place.0 place.1)
      ∙ rules.executed r s h m)

  apart : (p : ℕ) → p < t.live → stage_of t p ≡ stage_of t t.live → ⊥
  apart p l e =
      ne_of_lt l (stage_injective t.oldest t.stages rules.start p t.live (omega arith) room e)

  grown_old : (p : ℕ) → p < t.live → ref_at (grown t) p ≡ ref_at t p
  grown_old p l =
      ap₂ ref (get_or-set_other t.numbers (stage_of t t.live) (stage_of t p) t.next 0 (apart p l))
      (fates_same t (grown t) (stage_of t p) refl (kept p l) (λ r b. refl) (λ r b. refl) (λ r b m. refl)
      (λ r b m. refl) (λ r b m. refl))

  grown_new : ref_at (grown t) t.live ≡ ref t.next waiting
  grown_new =
      let s = stage_of t t.live in
      let small : s < stages_most = stage_small t rules t.live (le_refl t.live) in
      let fits : s < length t.numbers = omega (arith, lengths.numbers) in
      ap₂ ref (get_or-set_same t.numbers s t.next 0 fits)
      (fate_waiting (grown t) grown_rules s
      (masked s false
      (firsts_at t.oldest t.stages rules.start t.live t.live rules.live_bounded room
      ∙ le-ltb t.live t.live (le_refl t.live))
      ∙ and-false (has t.executed s)))

  pub grown_view : view (grown t) ≡ issued (view t)
  unfolding tabulate
  grown_view =
      ap (windowed (issued (view t)) t.oldest)
      (ap (tabulate (ref_at (grown t))) (add-one t.live)
      ∙ ap₂ (λ (l : List Ref) (x : Ref). l ++ (x ∷ []))
      (tabulate_same (ref_at (grown t)) (ref_at t) t.live grown_old) grown_new)
