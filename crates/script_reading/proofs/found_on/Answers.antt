-- `script_reading::found_on` meets its contract: the bytes lent of a whole line are the line, and the reader stands behind it.
-- Assumes nothing.
use mathlib.Core.Path.{sym, ap, ◌∙◌}
use Prim.Native.Nat.{ℕ}
use Rattle.std.proofs.lemmas.Slice.{between_is}
use Rattle.text.specs.Lines.{line_at, after_line}
use Rattle.text.specs.declared.Line.{Line}
use Rattle.script_model.specs.Language.{parsed_line}
use Rattle.player_model.specs.Computed.Parts.{found_in}
use Rattle.player_model.proofs.Founds.{found_whole}
use Rattle.script_reading.proofs.found_on.Goals as goal

pub returns-in-Whole : goal.returns-in-Whole
returns-in-Whole c =
    let a = c.args in
    let w = c.in-Whole in
    let taken = c.take_line-line.ensures in
    let is = sym taken.0 ∙ w.is in
    c.take_four.ensures
    ∙ (ap (λ (i : ℕ). found_in a.first c.read_item.result i) (taken.1 ∙ ap (λ (l : Line). after_line l a.at) is)
    ∙ found_whole a.first a.s.now (line_at a.s.now a.at) w.from w.to _ is
    (c.read_item.ensures ∙ ap parsed_line (between_is a.s.now w.from w.to)))
