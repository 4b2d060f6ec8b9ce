-- The returns of commit. Its conditions in the plain state are the code's tests: the oldest reference is at position 0, in
-- stage `oldest`, has executed where its bit is set, and its fate is what the marks of its stage say. Where none holds, the
-- table that is left is the one narrowed to all but the first reference.
-- Assumes nothing.
use mathlib.Core.Bool.{true, false, not}
use mathlib.Core.List.{List}
use mathlib.Core.Path.{◌≡◌, refl, sym, ap, ◌∙◌}
use Prim.Native.Nat.{ℕ, ◌-◌, ◌<◌}
use native.Mathlib.Omega.{arith}
use lib.Dec.{eqb}
use lib.ListN.{length, get_or}
use borrow.Author.Tests.{eq-eqb, ne_eqb, not-true, not-false}
use Rattle.marks.specs.Stages.{has}
use Rattle.marks.proofs.Turns.{stage_zero}
use Rattle.table.specs.declared.Table.{Table}
use Rattle.table.specs.Limits.{rows_in}
use Rattle.table.specs.Reference.{Fate, idle, fate_of, at}
use Rattle.table.specs.View.{stage_of, view}
use Rattle.table.specs.Rules.{Rules}
use Rattle.table.proofs.Fates.{length_refs, at_refs}
use Rattle.engine.specs.Computed.Steps.{narrowed}
use Rattle.engine.proofs.Narrowing.{retire_rules, retire_view}
use Rattle.engine.specs.Conditions.{faults}
use Rattle.engine.specs.Contract.{refused, named}
use Rattle.engine.specs.Execution.{written}
use Rattle.engine.proofs.Fated.{executed_at, mark_told, told_faults, told_written}
use Rattle.buffer_model.specs.Calls.{commit}
use Rattle.buffer_model.specs.Contract.{Meets}
use Rattle.lookup.specs.Computed.Search.{mark_of, mark_by, marked_fate}
use Rattle.buffer_model.proofs.MeetingContract.{refused_meets, accepted_meets}

-- what the marks say of the oldest reference
abbrev pub oldest_fate : Table → Fate
oldest_fate t = marked_fate (mark_of t.addresses t.loads t.stores t.values t.oldest (rows_in t.banks))

module _ (t : Table) (rules : Rules t) (m : List ℕ) where
  -- refusal 3: the memory lent has another length than W
  pub length_refused : (length m ≡ t.words → ⊥) → Meets t commit m (refused 3) t m
  length_refused h = refused_meets t commit m rules 3 (rw (ne_eqb (length m) t.words h)) (λ z. omega arith)

  -- refusal 11: nothing is live
  pub empty_refused : length m ≡ t.words → t.live ≡ 0 → Meets t commit m (refused 11) t m
  empty_refused w e =
      refused_meets t commit m rules 11 (rw (eq-eqb (length m) t.words w, length_refs t, e)) (λ z. omega arith)

  module _ (w : length m ≡ t.words) (some : 0 < t.live) where
    some_live : eqb (length (view t).refs) 0 ≡ false
    some_live = rw (length_refs t) (ne_eqb t.live 0 (λ z. omega arith))

    oldest_stage : stage_of t 0 ≡ t.oldest
    oldest_stage = stage_zero t.oldest t.stages rules.start

    oldest_executed : not (idle (fate_of (at (view t).refs 0))) ≡ has t.executed t.oldest
    oldest_executed = executed_at t 0 some ∙ ap (has t.executed) oldest_stage

    -- refusal 12: the oldest has not executed
    pub waiting_refused : has t.executed t.oldest ≡ false → Meets t commit m (refused 12) t m
    waiting_refused e =
        let idles : idle (fate_of (at (view t).refs 0)) ≡ true = not-false _ (oldest_executed ∙ e) in
        refused_meets t commit m rules 12 (rw (eq-eqb (length m) t.words w, some_live, idles))
        (λ z. omega arith)

    module _ (done : has t.executed t.oldest ≡ true) where
      oldest_done : idle (fate_of (at (view t).refs 0)) ≡ false
      oldest_done = not-true _ (oldest_executed ∙ done)

      -- what the marks of the oldest's stage say is what its fate says of the commit
      oldest_told : oldest_fate t ≡ marked_fate (mark_by (fate_of (at (view t).refs 0)))
      oldest_told =
          ap (λ (s : ℕ). marked_fate (mark_of t.addresses t.loads t.stores t.values s (rows_in t.banks)))
          (sym oldest_stage)
          ∙ ap marked_fate (mark_told t 0 some (ap (has t.executed) oldest_stage ∙ done))

      oldest_faults : faults t.words (fate_of (at (view t).refs 0)) ≡ faults t.words (oldest_fate t)
      oldest_faults =
          sym (ap (faults t.words) oldest_told ∙ told_faults t.words (fate_of (at (view t).refs 0)))

      -- refusal 13: the oldest's address is W or more
      pub fault_refused : faults t.words (oldest_fate t) ≡ true → Meets t commit m (refused 13) t m
      fault_refused f =
          refused_meets t commit m rules 13
          (rw (eq-eqb (length m) t.words w, some_live, oldest_done, oldest_faults ∙ f))
          (λ z. omega arith)

      -- the oldest reference leaves the window, and memory is what its fate makes of it
      pub commit_meets : faults t.words (oldest_fate t) ≡ false
          → Meets t commit m (named (record { stage = t.oldest; number = get_or t.numbers t.oldest 0 }))
          (narrowed t (stage_of t 1) (t.live - 1))
          (written m (oldest_fate t))
      commit_meets f =
          accepted_meets t commit m rules
          (rw (eq-eqb (length m) t.words w, some_live, oldest_done, oldest_faults ∙ f))
          (named (record { stage = t.oldest; number = get_or t.numbers t.oldest 0 }))
          (narrowed t (stage_of t 1) (t.live - 1))
          (written m (oldest_fate t))
          (rw (at_refs t 0 some, oldest_stage))
          (retire_view t rules some)
          (ap (written m) oldest_told ∙ told_written m (fate_of (at (view t).refs 0)))
          refl
          (retire_rules t rules some)
