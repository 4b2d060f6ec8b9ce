-- The first bad line as it is found: commas counted, and one line after another.
-- Assumes nothing.
use mathlib.Core.Bool.{Bool, true, false, cond}
use mathlib.Core.Path.{◌≡◌, refl, sym, ap, subst, ◌∙◌}
use mathlib.Core.List.{List, []}
use Prim.Native.Nat.{ℕ, suc, ◌+◌, ◌-◌, ◌<◌, ◌≤◌}
use native.Mathlib.Numerals.{add-one}
use native.Mathlib.Omega.{arith}
use lib.ListN.{length, take, drop}
use lib.Seq.{drop-cons, slice}
use Rattle.std.specs.Prelude.{is_some, Option, Some, is_none, Result, ◌==◌, count_by, slice_range}
use Rattle.std.proofs.lemmas.List.{drop-take}
use Rattle.std.proofs.lemmas.List.Recursion.{is_count_by}
use Rattle.std.specs.declared.ops.ControlFlow.TheVariants.{Continue, Break}
use Rattle.text.specs.declared.Line.{Line}
use Rattle.text.specs.declared.Line.TheVariants.{End, Unended, Whole}
use Rattle.text.specs.Lines.{feed, line_at, after_line, Lines}
use Rattle.text.proofs.Splits.{line_end, line_unended, line_whole, line_is}
use Rattle.script_model.specs.declared.Item.{Item}
use Rattle.flaw_model.specs.declared.Part.{Part}
use Rattle.flaw_model.specs.declared.Flaw.{Flaw}
use Rattle.flaw_model.specs.declared.Reason.{Reason}
use Rattle.flaw_model.specs.declared.Reason.TheVariants as why
use Rattle.flaw_model.specs.Flaw.{commas}
use Rattle.flaw_model.specs.Flaw.{reason_in, next_part, flaw_at, of_end, flaw_from, flaw_in}
use Rattle.script_model.specs.Language.{parsed_line}
use Rattle.flaw_model.specs.Computed.Looking.{flaw_on, Looks}

-- ---- commas

one_more : (t : Bool) (n : ℕ) → cond t (suc n) n ≡ cond t (1 + n) n
one_more true n = omega arith
one_more false n = refl

pub commas_counted : (bs : List ℕ) → count_by (λ b. b == 44) bs ≡ commas bs
unfolding commas
commas_counted bs = sym (is_count_by commas (λ b. b == 44) refl (λ b bs. one_more (b == 44) (commas bs)) bs)

-- ---- one line after another

-- a part of a slice in two words
pub slice_as : (s : List ℕ) (from to : ℕ) → from ≤ to → slice_range s from to ≡ slice from to s
slice_as s from to h =
    let e : from + (to - from) ≡ to = omega arith in
    sym (ap (λ (n : ℕ). drop from (take n s)) (sym e) ∙ drop-take from (to - from) s)

abbrev flaw_by : ℕ → Part → Lines → Result ℕ Flaw
flaw_by n part ls = flaw_in n part ls

pub looks_end : (s : List ℕ) (at : ℕ) (part : Part) → line_at s at ≡ End → Looks s at part (Break (of_end part))
unfolding flaw_from
looks_end s at part e n = ap (flaw_by n part) (line_end s at (line_is s at End e))

pub looks_unended : (s : List ℕ) (at from : ℕ) (part : Part) → line_at s at ≡ Unended from → Looks s at part
    (Break (Some why.Unended))
unfolding flaw_from
looks_unended s at from part e n =
    let is = line_is s at (Unended from) e in
    ap (flaw_by n part) (line_unended s at is.2) ∙ ap (flaw_from n part []) (drop-cons s at 0 is.1)

module _ (s : List ℕ) (at from to : ℕ) (part : Part) (item : Item) (r : Option Reason) (e : line_at s at ≡ Whole from to)
    (says : item ≡ parsed_line (slice_range s from to)) (judged : r ≡ reason_in part item (slice_range s from to)) where
  -- what the line makes of the flaw, if it has a reason or not
  line_looked : (n : ℕ) → flaw_on s at n part ≡ cond (is_none r) (flaw_on s (to + 1) (suc n) (next_part part item)) (flaw_at n r)
  unfolding flaw_from
  line_looked n =
      let is = line_is s at (Whole from to) e in
      rw (judged, says, slice_as s from to (omega (arith, is.0, is.1)), is.0, is.1, add-one (feed s at))
      (ap (flaw_by n part) (line_whole s at (subst (λ (k : ℕ). k < length s) is.1 is.2)))

  pub looks_on : is_some r ≡ false → (next : Part) → next ≡ next_part part item → (behind : ℕ)
      → behind ≡ after_line (line_at s at) at → Looks s at part (Continue (next, behind))
  looks_on fine next steps behind ends =
      let is = line_is s at (Whole from to) e in
      let stands : behind ≡ to + 1 = ends ∙ ap (λ (l : Line). after_line l at) e in (
        λ n. rw (steps, stands) (line_looked n ∙ rw fine),
        omega (arith, is.0, is.1, stands),
        omega (arith, is.2, stands),
      )

  pub looks_bad : is_some r ≡ true → Looks s at part (Break r)
  looks_bad wrong n = line_looked n ∙ rw wrong

-- where the search ends, for the function that looks
pub ruleset looks = (looks_end, looks_unended, looks_bad)
