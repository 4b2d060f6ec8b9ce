-- `script_steps::next_order` meets its contract, by the line that the reader at the cursor hands out. A whole line ends within
-- the text, so it can be read, and the reader stands behind it; where there is none it stays.
-- Assumes nothing.
use mathlib.Core.Path.{◌≡◌, refl, sym, ap, ap₂, ◌∙◌}
use Prim.Native.Nat.{ℕ, ◌+◌}
use Rattle.text.specs.Lines.{line_at, after_line}
use Rattle.text.specs.declared.Line.{Line}
use Rattle.player_model.specs.declared.Ask.{Ask}
use Rattle.script_model.specs.declared.Item.{Item}
use Rattle.player_model.specs.declared.Order.{Order}
use Rattle.player_model.specs.Playing.{ask_in, order_by, order_at}
use Rattle.std.proofs.lemmas.Slice.{between_is}
use Rattle.script_model.specs.Language.{parsed_line}
use Rattle.script_steps.proofs.next_order.Goals as goal
use Rattle.script_steps.proofs.next_order.Goals.{After-take_line-found}

-- the line handed out is the text's, and where the reader stands then
line_at_lem : (c : After-take_line-found) {l : Line} → c.take_line-found.result.line ≡ l
    → line_at c.args.s.now c.args.cursor ≡ l
line_at_lem c is = sym c.take_line-found.ensures.0 ∙ is

next_at : (c : After-take_line-found) {l : Line} → c.take_line-found.result.line ≡ l
    → c.take_line-found.result.next ≡ after_line l c.args.cursor
next_at c is =
    c.take_line-found.ensures.1 ∙ ap (λ (l : Line). after_line l c.args.cursor) (line_at_lem c is)

-- by the line found: an order that is `order_by`'s but for the cursor, which is the reader's place
found_at : (c : After-take_line-found) {l : Line} → c.take_line-found.result.line ≡ l → (x : Ask) (n : ℕ)
    → let a = c.args in
    let o : ℕ → Order = λ i. record { ask = x; cursor = i; line = n } in
    o (after_line l a.cursor) ≡ order_by a.s.now a.cursor a.line l
    → o c.take_line-found.result.next ≡ order_at a.s.now a.cursor a.line
found_at c is x n e =
    let a = c.args in
    ap (λ (i : ℕ). let o : Order = record { ask = x; cursor = i; line = n } in o) (next_at c is)
    ∙ (e ∙ ap (order_by a.s.now a.cursor a.line) (sym (line_at_lem c is)))

pub returns-in-End : goal.returns-in-End
returns-in-End c = found_at (goal.at.returns-in-End c).After-take_line-found c.in-End.is _ _ refl

pub returns-in-Unended : goal.returns-in-Unended
returns-in-Unended c = found_at (goal.at.returns-in-Unended c).After-take_line-found c.in-Unended.is _ _ refl

pub returns-in-Whole : goal.returns-in-Whole
returns-in-Whole c =
    let a = c.args in
    let next = c.in-Whole.to + 1 in
    found_at (goal.at.returns-in-Whole c).After-take_line-found c.in-Whole.is _ _
    (ap₂ (λ (x : Ask) (n : ℕ). let o : Order = record { ask = x; cursor = next; line = n } in o)
    (c.ask_of.ensures ∙ ap (λ (i : Item). ask_in i a.line) (c.read_item-item.ensures ∙ ap parsed_line (between_is a.s.now c.in-Whole.from c.in-Whole.to))) c.one_more.ensures)
