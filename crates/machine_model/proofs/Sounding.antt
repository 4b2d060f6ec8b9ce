-- A machine is sound exactly where its tests pass: the table's own rules, and the agreement of window and table at every
-- live position. The fates that are compared are those of the view, which the table's marks give (view_fate).
-- Assumes nothing.
use mathlib.Core.Bool.{true, false, ◌&&◌, true≢false, and-eq-true_iff}
use mathlib.Core.Logic.{◌⊎◌}
use mathlib.Core.Path.{◌≡◌, sym, ap, ap₂, ◌∙◌}
use Prim.Native.Nat.{ℕ, ◌<◌}
use lib.Dec.{eqb, leb}
use lib.ListN.{length}
use Rattle.marks.proofs.Counts.{every_at, every_from}
use Rattle.table.specs.declared.Table.{Table}
use Rattle.table.specs.Reference.{fate_of, at}
use Rattle.table.specs.View.{stage_of, fate_at, view}
use Rattle.table.specs.Computed.Check.{lawful}
use Rattle.table.proofs.Lists.{length_tabulate, at_tabulate}
use Rattle.table.proofs.Fates.{at_refs}
use Rattle.table.proofs.Lawful.{lawful_rules, rules_lawful}
use Rattle.engine.proofs.Deciding.{tested}
use Rattle.machine_model.specs.declared.Machine.{Machine}
use Rattle.machine_model.specs.Window.{blank_entry, entry_at, reference}
use Rattle.machine_model.specs.Calls.{program_done}
use Rattle.machine_model.specs.Contract.{entry_of, plain, agree, Sound}
use Rattle.machine_model.specs.Tests.{agreeing}

-- the entries of the plain state, by position
pub length_entries : (m : Machine) → length (plain m).entries ≡ m.table.live
length_entries m = length_tabulate (entry_of m) m.table.live

pub entry_at_lem : (m : Machine) (p : ℕ) → p < m.table.live → entry_at (plain m).entries p ≡ entry_of m p
entry_at_lem m p h = at_tabulate (entry_of m) m.table.live p blank_entry h

-- the fate of a live reference is what the table's marks say of its stage
pub view_fate : (t : Table) (p : ℕ) → p < t.live → fate_of (at (view t).refs p) ≡ fate_at t (stage_of t p)
view_fate t p h = ap fate_of (at_refs t p h)

module _ (m : Machine) where
  pub sound_tests : Sound m → (lawful m.table && agreeing m m.table.live) ≡ true
  sound_tests s =
      ap₂ ◌&&◌ (rules_lawful m.table s.rules)
      (every_from (λ (p : ℕ). agree (reference (entry_of m p)) (fate_at m.table (stage_of m.table p)))
      m.table.live
      (λ p h. ap (agree (reference (entry_of m p))) (sym (view_fate m.table p h)) ∙ s.agrees p h))

  pub tests_sound : (lawful m.table && agreeing m m.table.live) ≡ true → Sound m
  tests_sound h =
      let both = (and-eq-true_iff (lawful m.table) (agreeing m m.table.live)).0 h in
      record {
        rules = lawful_rules m.table both.0;
        agrees = λ p l.
            ap (agree (reference (entry_of m p))) (view_fate m.table p l)
            ∙ every_at (λ (q : ℕ). agree (reference (entry_of m q)) (fate_at m.table (stage_of m.table q)))
            m.table.live both.1 p l;
      }

  pub broken_tests : (lawful m.table && agreeing m m.table.live) ≡ false → Sound m → ⊥
  broken_tests h s = true≢false (sym (sound_tests s) ∙ h)

  pub sound_or : Sound m ⊎ (Sound m → ⊥)
  sound_or = tested (lawful m.table && agreeing m m.table.live) tests_sound broken_tests

-- nothing is live and no instruction is left, by the machine's own fields
pub over_plain : (m : Machine) → program_done (plain m) ≡ (eqb m.table.live 0 && leb m.count m.next)
over_plain m = ap (λ (n : ℕ). eqb n 0 && leb m.count m.next) (length_entries m)
