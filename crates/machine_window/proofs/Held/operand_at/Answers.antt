-- `machine_window::Held::operand_at` meets its contract: what the search for a writer came to decides what the register holds
-- (register_found). Assumes nothing.
use mathlib.Core.Option.{some}
use mathlib.Core.Path.{◌≡◌, sym, ap, refl, ◌∙◌}
use Prim.Native.Nat.{◌+◌, ◌-◌}
use native.Mathlib.Omega.{arith}
use lib.ListN.{get_or}
use Rattle.marks.specs.Circle.{stage}
use Rattle.machine_model.specs.Window.{value_of}
use Rattle.machine_laws.proofs.Operands.{register_found}
use Rattle.machine_window.proofs.Held.operand_at.Goals as goal

pub returns-in-Some : goal.returns-in-Some
returns-in-Some c =
    let h = c.args.self in
    let t = h.circle in
    let q = c.in-Some.q in
    let law =
    register_found h.window.now t.oldest t.stages c.args.into.now c.args.k c.requires.within.0 (some (get_or h.registers.now c.args.k 0))
    c.args.p _ c.requires.packed c.in-Some.ensures.1 in
    let at : stage t.oldest t.stages q ≡ stage t.oldest t.stages (q + 1 - 1) = ap (stage t.oldest t.stages) (omega arith) in
    c.operand_of.ensures
    ∙ ap (λ e. value_of e.fate) c.entry_at.ensures
    ∙ sym (law.1 (λ z. omega arith) (stage t.oldest t.stages q) at)

pub returns-in-None : goal.returns-in-None
returns-in-None c =
    let h = c.args.self in
    let t = h.circle in
    let law =
    register_found h.window.now t.oldest t.stages c.args.into.now c.args.k c.requires.within.0 (some (get_or h.registers.now c.args.k 0))
    c.args.p _ c.requires.packed c.in-None.ensures.1 in
    sym (law.0 refl)
