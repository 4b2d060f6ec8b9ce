-- The four numbers of a line as the code finds them: they are the same where what was found is, and they are those of the item of a
-- whole line. Assumes nothing.
use mathlib.Core.Path.{◌≡◌, sym, ap, ap₂, ◌∙◌}
use mathlib.Core.Bool.{Bool}
use mathlib.Core.List.{List}
use Prim.Native.Nat.{ℕ, ◌+◌}
use native.Mathlib.Numerals.{add-one}
use lib.Seq.{slice}
use Rattle.text.specs.declared.Line.{Line}
use Rattle.text.specs.declared.Line.TheVariants.{Whole}
use Rattle.script_model.specs.declared.Item.{Item}
use Rattle.player_model.specs.declared.Four.{Four}
use Rattle.script_model.specs.Language.{parsed_line}
use Rattle.player_model.specs.Computed.Parts.{some_four, found_in, found_by}

-- four numbers found are the same four
pub same_four : {x y z w next a b c d at : ℕ} → some_four x y z w next ≡ some_four a b c d at
    → (x ≡ a) × (y ≡ b) × (z ≡ c) × (w ≡ d) × (next ≡ at)
same_four {x} {y} {z} {w} {next} {a} {b} {c} {d} {at} e =
    let f : Four = record { 0 = x; 1 = y; 2 = z; 3 = w; 4 = next } in
    let g : Four = record { 0 = a; 1 = b; 2 = c; 3 = d; 4 = at } in
    let same : f ≡ g = cc in (
      ap (λ (k : Four). k.0) same,
      ap (λ (k : Four). k.1) same,
      ap (λ (k : Four). k.2) same,
      ap (λ (k : Four). k.3) same,
      ap (λ (k : Four). k.4) same,
    )

pub found_whole : (first : Bool) (s : List ℕ) (line : Line) (from to : ℕ) (i : Item) → line ≡ Whole from to
    → i ≡ parsed_line (slice from to s) → found_in first i (to + 1) ≡ found_by first s line
found_whole first s line from to i is e = ap₂ (found_in first) e (add-one to) ∙ ap (found_by first s) (sym is)
