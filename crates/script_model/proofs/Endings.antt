-- How a script ends, by the machine that it left, whatever that is. With nothing live the entries are empty, and an entry that
-- is not there does not fault. Otherwise the oldest entry stands at the stage of position 0, if the window has that.
-- Assumes nothing.
use mathlib.Core.Bool.{Bool, false, cond, ◌&&◌}
use mathlib.Core.List.{List}
use mathlib.Core.Path.{◌≡◌, refl, sym, ap, ap₂, ◌∙◌}
use Prim.Native.Nat.{ℕ, ◌-◌, ◌≤◌, ◌<◌}
use native.Mathlib.Nat.{add-zero}
use native.Mathlib.Omega.{arith}
use lib.Dec.{eqb, leb}
use lib.ListN.{length, get_or, get_or-eq_default}
use borrow.Author.Tests.{le-leb, lt-leb, le-ltb, ne_eqb}
use Rattle.marks.specs.Circle.{stage}
use Rattle.table.specs.View.{stage_of, tabulate}
use Rattle.machine_model.specs.declared.Entry.{Entry}
use Rattle.machine_model.specs.declared.Machine.{Machine}
use Rattle.machine_model.specs.Window.{blank_entry, entry_at}
use Rattle.machine_model.specs.Contract.{entry_of, plain}
use Rattle.machine_model.proofs.Sounding.{entry_at_lem}
use Rattle.machine_model.proofs.Sounding.{over_plain}
use Rattle.script_model.specs.declared.Ending.TheVariants.{Open, Done, Fault}
use Rattle.script_model.specs.Output.{faulted, ending}

-- position 0 where the oldest's stage is none of the circle's
pub stage_past : (o n : ℕ) → n ≤ o → stage o n 0 ≡ o - n
stage_past o n h = rw (add-zero o, le-ltb o n h)

-- nothing is live: the numbers decide
ending_empty : (m : Machine) → m.table.live ≡ 0 → ending (plain m) ≡ cond (leb m.count m.next) Done Open
unfolding tabulate
ending_empty m e =
    ap
    (λ (k : ℕ).
    let es : List Entry = tabulate (entry_of m) k in
    cond (eqb (length es) 0 && leb m.count m.next) Done
    (cond (faulted m.table.words (entry_at es 0)) Fault Open))
    e

pub ending_done : (m : Machine) → m.table.live ≡ 0 → m.count ≤ m.next → ending (plain m) ≡ Done
ending_done m e h = ending_empty m e ∙ ap (λ (t : Bool). cond t Done Open) (le-leb m.count m.next h)

pub ending_open : (m : Machine) → m.table.live ≡ 0 → m.next < m.count → ending (plain m) ≡ Open
ending_open m e h = ending_empty m e ∙ ap (λ (t : Bool). cond t Done Open) (lt-leb m.count m.next h)

-- the entry at position 0 decides
ending_live : (m : Machine) → 0 < m.table.live
    → ending (plain m) ≡ cond (faulted m.table.words (entry_of m 0)) Fault Open
ending_live m h =
    ap₂ (λ (t : Bool) (e : Entry). cond t Done (cond (faulted m.table.words e) Fault Open))
    (over_plain m ∙ ap (λ (t : Bool). t && leb m.count m.next) (ne_eqb m.table.live 0 (omega arith)))
    (entry_at_lem m 0 h)

-- by the entry there
pub ending_entry : (m : Machine) (s : ℕ) (e : Entry) (t : Bool) → 0 < m.table.live → s ≡ stage_of m.table 0
    → e ≡ get_or m.window s blank_entry → t ≡ faulted m.table.words e
    → ending (plain m) ≡ cond t Fault Open
ending_entry m s e t h at is says =
    ending_live m h
    ∙ ap (λ (x : Entry). cond (faulted m.table.words x) Fault Open)
    (sym (is ∙ ap (λ (k : ℕ). get_or m.window k blank_entry) at))
    ∙ ap (λ (b : Bool). cond b Fault Open) (sym says)

-- and past the window
pub ending_past : (m : Machine) (s : ℕ) → 0 < m.table.live → s ≡ stage_of m.table 0 → length m.window ≤ s
    → ending (plain m) ≡ Open
ending_past m s h at out = ending_entry m s blank_entry false h at (sym (get_or-eq_default m.window blank_entry out)) refl
