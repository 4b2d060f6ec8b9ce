-- `machine_window::validate` meets its contract: the table that is passed on keeps its rules, so the definition goes by what the
-- code tests (told). Each early return is a test that fails where those before it passed, and past the last all have passed.
-- Assumes nothing.
use mathlib.Core.Bool.{true, not, ◌&&◌}
use mathlib.Core.List.{[], ◌∷◌}
use mathlib.Core.Path.{◌≡◌, sym, ◌∙◌}
use Prim.Native.Nat.{◌*◌}
use lib.Dec.{eqb}
use lib.ListN.{length}
use borrow.Author.Rules.{rules}
use borrow.Author.Tests.{eq-eqb, ne_eqb, not-true, not-false}
use Rattle.table.specs.Computed.Check.{lawful}
use Rattle.table.proofs.Lawful.{lawful_rules}
use Rattle.engine.specs.Conditions.{refusal, when}
use Rattle.machine_model.specs.Program.{per_instruction, program_fits}
use Rattle.machine_model.specs.Tests.{validate_of}
use Rattle.machine_laws.proofs.Agreeing.{validate_law}
use Rattle.machine_window.proofs.validate.Goals as goal
use Rattle.machine_window.proofs.validate.Goals.{After-pass_over-pass}

told : (c : After-pass_over-pass)
    → let m = c.args.m.now in
    let program = c.args.program.now in
    let pass = c.pass_over-pass.result in
    validate_of m program c.args.lent
    ≡ refusal
    (when (not pass.agrees) 2 ∷ when (not (eqb c.args.lent m.table.words)) 3
    ∷ when (not (program_fits program && eqb (length program) (per_instruction * m.count) && pass.fits)) 4
    ∷ [])
told c =
    let m = c.args.m.now in
    let same : c.in_ok-table.table.table.now ≡ m.table = search rules in
    let kept : lawful m.table ≡ true = search rules in
    validate_law m c.args.program.now c.args.lent (lawful_rules m.table kept)
    (rw same at c.pass_over-pass.ensures.agrees_value)
    (rw same at c.pass_over-pass.ensures.fits_value)

pub returns-then-not-pass-clause-number : goal.returns-then-not-pass-clause-number
returns-then-not-pass-clause-number c =
    let at = (goal.at.returns-then-not-pass-clause-number c).After-pass_over-pass in
    sym (told at ∙ rw (not-true _ c.if-not-pass.true))

pub returns-then-lent-m-clause-number : goal.returns-then-lent-m-clause-number
returns-then-lent-m-clause-number c =
    let at = (goal.at.returns-then-lent-m-clause-number c).After-pass_over-pass in
    sym (told at ∙ rw (not-false _ c.if-not-pass.false, ne_eqb _ _ c.if-lent-m.true))

pub returns-then-not-program_fits-clause-number : goal.returns-then-not-program_fits-clause-number
returns-then-not-program_fits-clause-number c =
    let at = (goal.at.returns-then-not-program_fits-clause-number c).After-pass_over-pass in
    sym (told at
    ∙ rw (
      not-false _ c.if-not-pass.false,
      eq-eqb _ _ c.if-lent-m.false,
      sym c.program_fits.ensures ∙ c.if-not-program_fits.true,
    ))

pub returns-then-program-m-clause-number : goal.returns-then-program-m-clause-number
returns-then-program-m-clause-number c =
    let at = (goal.at.returns-then-program-m-clause-number c).After-pass_over-pass in
    sym (told at
    ∙ rw (
      not-false _ c.if-not-pass.false,
      eq-eqb _ _ c.if-lent-m.false,
      sym c.program_fits.ensures ∙ c.if-not-program_fits.false,
      ne_eqb _ _ c.if-program-m.true,
    ))

pub returns-then-not-pass-2-clause-number : goal.returns-then-not-pass-2-clause-number
returns-then-not-pass-2-clause-number c =
    let at = (goal.at.returns-then-not-pass-2-clause-number c).After-pass_over-pass in
    let counted : length c.args.program.now ≡ per_instruction * c.args.m.now.count = search rules in
    sym (told at
    ∙ rw (
      not-false _ c.if-not-pass.false,
      eq-eqb _ _ c.if-lent-m.false,
      sym c.program_fits.ensures ∙ c.if-not-program_fits.false,
      eq-eqb _ _ counted,
      not-true _ c.if-not-pass-2.true,
    ))

pub returns-clause-number : goal.returns-clause-number
returns-clause-number c =
    let at = (goal.at.returns-clause-number c).After-pass_over-pass in
    let counted : length c.args.program.now ≡ per_instruction * c.args.m.now.count = search rules in
    sym (told at
    ∙ rw (
      not-false _ c.if-not-pass.false,
      eq-eqb _ _ c.if-lent-m.false,
      sym c.program_fits.ensures ∙ c.if-not-program_fits.false,
      eq-eqb _ _ counted,
      not-false _ c.if-not-pass-2.false,
    ))

pub returns-clause-sized : goal.returns-clause-sized
returns-clause-sized c =
    let same : c.in_ok-table.table.table.now ≡ c.args.m.now.table = search rules in
    record {
      lengths = rw same at c.in_ok-table.table.fits.lengths;
      window = c.pass_over-pass.ensures.long;
      registers = search rules;
      small = search rules;
    }
