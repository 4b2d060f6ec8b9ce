-- Assumes nothing.
use mathlib.Core.Path.{sym, ap, ◌∙◌}
use mathlib.Core.Option.{some}
use native.Mathlib.Omega.{arith}
use Rattle.std.specs.Prelude.{Some}
use Rattle.std.proofs.lemmas.Grind.{common_steps}
use Rattle.text.specs.Fields.{bad}
use Rattle.text.specs.Computed.Reader.{shown}
use Rattle.text.proofs.Reader.{read_on, read_bad, read_all, no_last, last_field, overfull}
use Rattle.text_numbers.proofs.read_fields.Goals as goal

pub returns-in_err-take_byte : goal.returns-in_err-take_byte
returns-in_err-take_byte c =
    let l = c.loop-b in
    rw c.from_residual.ensures
    (sym (read_bad _)
    ∙ read_on (shown (Some l.n)) bad c.args.s.now l.b-index (omega arith) (sym c.in_err-take_byte.ensures)
    ∙ l.invariant)

pub loop-b-preserved : goal.loop-b-preserved
loop-b-preserved c =
    let l = c.loop-b in
    read_on (shown (Some l.n)) _ c.args.s.now l.b-index (omega arith) c.in_ok-take_byte.ensures ∙ l.invariant

pub returns-in_err-open : goal.returns-in_err-open
returns-in_err-open c =
    let l = c.loop-b in
    let all = read_all (shown (Some l.n)) c.args.s.now l.b-index (omega arith) l.invariant in
    rw c.from_residual-in_err-open.ensures (no_last l.n.closed.items ∙ (rw c.in_err-open.was at all))

pub returns-in_err-ok : goal.returns-in_err-ok
returns-in_err-ok c =
    let l = c.loop-b in
    let all = read_all (shown (Some l.n)) c.args.s.now l.b-index (omega arith) l.invariant in
    rw c.from_residual-in_err-ok.ensures
    (overfull l.n.closed.items c.in_ok-open.field-0 (grind (arith, common_steps)) ∙ (rw c.in_ok-open.was at all))

pub returns : goal.returns
returns c =
    let l = c.loop-b in
    let all = read_all (shown (Some l.n)) c.args.s.now l.b-index (omega arith) l.invariant in
    ap some (grind (arith, common_steps))
    ∙ last_field l.n.closed.items c.in_ok-open.field-0 (grind (arith, common_steps))
    ∙ (rw c.in_ok-open.was at all)
