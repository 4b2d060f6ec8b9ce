-- `buffer_moves::commit_in` meets its contract. Broken rules are refused with 2 (broken_meets); each other return is a law of
-- proofs/Committing.antt on the table passed, given what the tests before it said: the rules hold, memory has W words,
-- a reference is live, the oldest has executed, it does not fault. Assumes nothing.
use Rattle.std.proofs.Common.{sym, ap, ◌∙◌, arith}
use Rattle.std.proofs.lemmas.Result.{err_from_is_err_and}
use Rattle.lookup.specs.Computed.Search.{marked_fate}
use Rattle.table.proofs.Lawful.{lawful_rules}
use Rattle.engine.specs.Conditions.{faults}
use Rattle.buffer_model.proofs.MeetingContract.{broken_meets}
use Rattle.buffer_model.proofs.Committing.{length_refused, empty_refused, waiting_refused, fault_refused, commit_meets}
use Rattle.buffer_moves.proofs.commit_in.Goals as goal

pub returns-in_err-checked : goal.returns-in_err-checked
returns-in_err-checked c =
    let exit = err_from_is_err_and c.from_residual.result c.from_residual.ensures.1 in
    let broken = c.in_err-checked.ensures.broken in
    rw (exit.1, exit.2, broken.0) (broken_meets _ _ _ broken.1)

pub returns-then-memory-words : goal.returns-then-memory-words
returns-then-memory-words c = length_refused _ (lawful_rules _ c.in_ok-checked.ensures.kept.1) _ c.if-memory-words.true

pub returns-then-live-eq0 : goal.returns-then-live-eq0
returns-then-live-eq0 c =
    empty_refused _ (lawful_rules _ c.in_ok-checked.ensures.kept.1) _ c.if-memory-words.false c.if-live-eq0.true

pub returns-then-not-contains : goal.returns-then-not-contains
returns-then-not-contains c =
    waiting_refused _ (lawful_rules _ c.in_ok-checked.ensures.kept.1) _ c.if-memory-words.false (omega arith)
    (sym c.contains.ensures ∙ c.if-not-contains.true)

pub returns-then-mark_faults : goal.returns-then-mark_faults
returns-then-mark_faults c =
    fault_refused _ (lawful_rules _ c.in_ok-checked.ensures.kept.1) _ c.if-memory-words.false (omega arith)
    (sym c.contains.ensures ∙ c.if-not-contains.false)
    (sym (c.mark_faults.ensures ∙ ap (faults _) (ap marked_fate c.mark_at-mark.ensures)) ∙ c.if-mark_faults.true)

pub returns : goal.returns
returns c =
    rw (c.retire.ensures, c.write_back.ensures, ap marked_fate c.mark_at-mark.ensures)
    (commit_meets _ (lawful_rules _ c.in_ok-checked.ensures.kept.1) _ c.if-memory-words.false (omega arith)
    (sym c.contains.ensures ∙ c.if-not-contains.false)
    (sym (c.mark_faults.ensures ∙ ap (faults _) (ap marked_fate c.mark_at-mark.ensures)) ∙ c.if-mark_faults.false))
