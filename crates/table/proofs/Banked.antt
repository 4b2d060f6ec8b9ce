-- Rows a bank at a time, as k rows from row n on. The stages that they mark join those of the rows before them
-- (taken_more), and so does their test (every_more). Where they mark no stage, each of them is free and passes its
-- test, so the test of all stands as it was (free_more): a union is empty only where both its sides are (or_zero).
-- Assumes nothing.
use mathlib.Core.Bool.{Bool, true, ◌&&◌, and-true, and_assoc, or_assoc}
use mathlib.Core.List.{List}
use mathlib.Core.Path.{◌≡◌, sym, ap, ap₂, ◌∙◌}
use Prim.Native.Nat.{ℕ, zero, suc, ◌+◌}
use native.Mathlib.Nat.{add-zero, add-suc}
use native.Mathlib.Numerals.{add-one}
use lib.Bits.{bit_or, or_self, or_zero_r}
use lib.ListN.{drop}
use lib.Seq.{get_or-drop}
use borrow.Author.Tests.{eq-eqb}
use Rattle.marks.specs.Stages.{has}
use Rattle.marks.specs.Counting.{every}
use Rattle.marks.proofs.Sets.{has_or, same_set}
use Rattle.table.specs.Computed.Check.{marks_of, marks_below, row_fits}

union_assoc : (a b c : ℕ) → bit_or (bit_or a b) c ≡ bit_or a (bit_or b c)
union_assoc a b c = same_set _ _ (λ k. simp has_or (or_assoc (has a k) (has b k) (has c k)))

or_zero : (a b : ℕ) → bit_or a b ≡ 0 → (a ≡ 0) × (b ≡ 0)
or_zero a b e =
    let l : a ≡ 0 =
    sym (or_zero_r a) ∙ ap (bit_or a) (sym e) ∙ sym (union_assoc a a b) ∙ ap (λ (w : ℕ). bit_or w b) (or_self a) ∙ e in
    (l, ap (λ (w : ℕ). bit_or w b) (sym l) ∙ e)

pub every_more : (f : ℕ → Bool) (n k : ℕ) → (every f n && every (λ i. f (n + i)) k) ≡ every f (n + k)
unfolding every
every_more f n zero = and-true (every f n) ∙ ap (every f) (sym (add-zero n))
every_more f n (suc k) =
    sym (and_assoc (every f n) (every (λ i. f (n + i)) k) (f (n + k)))
    ∙ ap (λ (t : Bool). t && f (n + k)) (every_more f n k) ∙ ap (every f) (sym (add-suc n k))

-- a loop's union of the marks of the rows passed, and those of the next one
pub marks_next : (loads stores : List ℕ) (n : ℕ) {all next : ℕ} → all ≡ marks_below loads stores n → next ≡ marks_of loads stores n
    → bit_or all next ≡ marks_below loads stores (n + 1)
unfolding marks_below
marks_next loads stores n e g = ap₂ bit_or e g ∙ ap (marks_below loads stores) (sym (add-one n))

module _ (loads stores : List ℕ) (n : ℕ) where
  -- the marks of the i-th row from row n on
  pub marks_from_lem : (i : ℕ) → marks_of (drop n loads) (drop n stores) i ≡ marks_of loads stores (n + i)
  marks_from_lem i = rw (get_or-drop n loads, get_or-drop n stores)

  pub taken_more : (k : ℕ)
      → bit_or (marks_below loads stores n) (marks_below (drop n loads) (drop n stores) k) ≡ marks_below loads stores (n + k)
  unfolding marks_below
  taken_more zero = or_zero_r (marks_below loads stores n) ∙ ap (marks_below loads stores) (sym (add-zero n))
  taken_more (suc k) =
      sym (union_assoc (marks_below loads stores n) (marks_below (drop n loads) (drop n stores) k) _)
      ∙ ap₂ bit_or (taken_more k) (marks_from_lem k) ∙ ap (marks_below loads stores) (sym (add-suc n k))

  pub free_more : (banks rows usable : ℕ) (addresses : List ℕ) (k : ℕ) → marks_below (drop n loads) (drop n stores) k ≡ 0
      → every (row_fits banks rows usable addresses loads stores) n
      ≡ every (row_fits banks rows usable addresses loads stores) (n + k)
  unfolding every marks_below row_fits
  free_more banks rows usable addresses zero e = ap (every _) (sym (add-zero n))
  free_more banks rows usable addresses (suc k) e =
      let both = or_zero (marks_below (drop n loads) (drop n stores) k) (marks_of (drop n loads) (drop n stores) k) e in
      let test = row_fits banks rows usable addresses loads stores in
      let passes : test (n + k) ≡ true = rw (eq-eqb (marks_of loads stores (n + k)) 0 (sym (marks_from_lem k) ∙ both.1)) in
      free_more banks rows usable addresses k both.0
      ∙ sym (and-true (every test (n + k))) ∙ ap (λ (t : Bool). every test (n + k) && t) (sym passes)
      ∙ ap (every test) (sym (add-suc n k))
