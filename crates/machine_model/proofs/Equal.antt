-- Two sound machines have one plain state exactly when they count as equal. Their tables are the table's law; an entry of
-- the plain state stands at the stage of its position, and a live stage is that of one.
-- Assumes nothing.
use mathlib.Core.Path.{◌≡◌, sym, ap, ap₂, subst, ◌∙◌}
use Prim.Native.Nat.{ℕ, ◌<◌}
use native.Mathlib.Omega.{arith}
use lib.ListN.{get_or}
use Rattle.marks.specs.Circle.{stage, position}
use Rattle.marks.proofs.Turns.{stage_lt, position_stage, stage_position}
use Rattle.table.specs.Rules.{Live}
use Rattle.table.specs.Same.{Same}
use Rattle.table.specs.View.{stage_of, tabulate}
use Rattle.table.proofs.Equal.{same_view, view_same}
use Rattle.table.proofs.Lists.{tabulate_same}
use Rattle.machine_model.specs.declared.Machine.{Machine}
use Rattle.machine_model.specs.Window.{blank_entry, entry_at}
use Rattle.machine_model.specs.Calls.{Plain}
use Rattle.machine_model.specs.Contract.{entry_of, plain, Sound}
use Rattle.machine_model.specs.Same.{SameMachine}
use Rattle.machine_model.proofs.Sounding.{entry_at_lem}

module _ (m u : Machine) (sound : Sound m) (sound' : Sound u) where
  pub same_plain : SameMachine m u → plain u ≡ plain m
  same_plain same =
      let buffer = same_view m.table u.table sound.rules sound'.rules same.table in
      let entries : tabulate (entry_of u) u.table.live ≡ tabulate (entry_of m) m.table.live =
      ap (tabulate (entry_of u)) same.table.live
      ∙ tabulate_same (entry_of u) (entry_of m) m.table.live one
      in
      λ i. record {
        buffer = buffer i;
        entries = entries i;
        registers = same.registers i;
        count = same.count i;
        next = same.next i;
      }
    where
      one : (p : ℕ) → p < m.table.live → entry_of u p ≡ entry_of m p
      one p h =
          let t = m.table in
          let start = sound.rules.start in
          let room = sound.rules.live_bounded in
          let live : Live t (stage_of t p) =
          record {
            stage = stage_lt t.oldest t.stages start p (omega arith);
            position =
                subst (λ (k : ℕ). k < t.live) (sym (position_stage t.oldest t.stages start p (omega arith))) h;
          }
          in
          ap (λ (k : ℕ). get_or u.window k blank_entry)
          (ap₂ (λ (o n : ℕ). stage o n p) same.table.oldest same.table.stages)
          ∙ same.window (stage_of t p) live

  pub plain_same : plain u ≡ plain m → SameMachine m u
  plain_same one =
      record {
        table = table;
        window = λ s live.
            let t = m.table in
            let p = position t.oldest t.stages s in
            let b : p < u.table.live = subst (λ (k : ℕ). p < k) (sym table.live) live.position in
            let here : stage_of t p ≡ s = stage_position t.oldest t.stages sound.rules.start s live.stage in
            let there : stage_of u.table p ≡ s =
            ap (λ (X : Plain). stage X.buffer.oldest X.buffer.stages p) one ∙ here in
            ap (λ (k : ℕ). get_or u.window k blank_entry) (sym there)
            ∙ sym (entry_at_lem u p b) ∙ ap (λ (X : Plain). entry_at X.entries p) one ∙ entry_at_lem m p live.position
            ∙ ap (λ (k : ℕ). get_or m.window k blank_entry) here;
        registers = ap (λ (X : Plain). X.registers) one;
        count = ap (λ (X : Plain). X.count) one;
        next = ap (λ (X : Plain). X.next) one;
      }
    where
      table : Same m.table u.table
      table = view_same m.table u.table sound.rules sound'.rules (ap (λ (X : Plain). X.buffer) one)
