-- The rows of a bank on the plain list of references. An address is touched where some position touches it (touched_at,
-- touched_some), and a position is the oldest mark of a row where it touches an address of the bank that no older one
-- touches (opens_from, opens_to). The row that is chosen has the youngest of these positions (youngest_chosen). An
-- oldest reference that has not executed is none of them: so it never stalls, as each row of a full bank may be
-- evicted. Assumes nothing.
use mathlib.Core.Bool.{Bool, true, false, cond, not, ◌&&◌, ◌||◌, true≢false, or-true, and-eq-true_iff}
use mathlib.Core.List.{List, [], ◌∷◌}
use mathlib.Core.Path.{◌≡◌, refl, sym, ap, ap₂, ◌∙◌}
use Prim.Native.Nat.{ℕ, zero, suc, ◌≤◌, ◌<◌}
use native.Mathlib.Nat.{not-suc-le-zero, le_of_suc-le-suc}
use native.Mathlib.Omega.{arith}
use lib.Dec.{ltb, eqb}
use lib.ListN.{length, take}
use lib.Seq.{get_or-take, length-take-le}
use borrow.Author.Tests.{ltb-true, ltb-false, eqb-true, eq-eqb, not-true}
use Rattle.marks.specs.Counting.{count}
use Rattle.marks.proofs.Counts.{count_into, last_is}
use Rattle.table.specs.Bank.{bank}
use Rattle.table.specs.Reference.{Fate, waiting, other, accessed, Ref, ref, blank, fate_of, at, State}
use Rattle.lookup.specs.Rows.{touches, touched, allocates_by, allocates_row, rows_in_use, youngest_row}
use Rattle.lookup.specs.Outcome.{allocate_row}

pub touched_at : (a : ℕ) (refs : List Ref) (p : ℕ) → p < length refs → touches a (fate_of (at refs p)) ≡ true
    → touched a refs ≡ true
unfolding touched
touched_at a [] p h e = absurd (not-suc-le-zero h)
touched_at a (ref n f ∷ refs) zero h e = ap (λ (t : Bool). t || touched a refs) e
touched_at a (ref n f ∷ refs) (suc p) h e =
    ap (λ (t : Bool). touches a f || t) (touched_at a refs p (le_of_suc-le-suc h) e) ∙ or-true (touches a f)

pub touched_some : (a : ℕ) (refs : List Ref) → touched a refs ≡ true
    → (p : ℕ) × (p < length refs) × (touches a (fate_of (at refs p)) ≡ true)
unfolding touched
touched_some a [] e = absurd (true≢false (sym e))
touched_some a (ref n f ∷ refs) e = go (touches a f) refl e (touched_some a refs)
  where
    go : (t : Bool) → touches a f ≡ t → (t || touched a refs) ≡ true
        → (touched a refs ≡ true → (p : ℕ) × (p < length refs) × (touches a (fate_of (at refs p)) ≡ true))
        → (p : ℕ) × (p < suc (length refs)) × (touches a (fate_of (at (ref n f ∷ refs) p)) ≡ true)
    go true q d rest = (0, omega arith, q)
    go false q d rest = let w = rest d in (suc w.0, omega arith, w.2)

-- the same of the references older than position p
pub older_at : (a : ℕ) (refs : List Ref) (p q : ℕ) → q < p → p ≤ length refs → touches a (fate_of (at refs q)) ≡ true
    → touched a (take p refs) ≡ true
older_at a refs p q h l e =
    touched_at a (take p refs) q (rw (length-take-le p refs l) h)
    (ap (λ (r : Ref). touches a (fate_of r)) (get_or-take p refs q blank h) ∙ e)

pub older_some : (a : ℕ) (refs : List Ref) (p : ℕ) → p ≤ length refs → touched a (take p refs) ≡ true
    → (q : ℕ) × (q < p) × (touches a (fate_of (at refs q)) ≡ true)
older_some a refs p l e =
    let w = touched_some a (take p refs) e in
    let h : w.0 < p = rw (length-take-le p refs l) at w.1 in
    (w.0, h, ap (λ (r : Ref). touches a (fate_of r)) (sym (get_or-take p refs w.0 blank h)) ∙ w.2)

-- a position that touches an address of the bank, first among its elders, opens a row; and the other way round
pub opens_from : (β : ℕ → ℕ) (h : ℕ) (refs : List Ref) (p b : ℕ) → touches b (fate_of (at refs p)) ≡ true
    → β b ≡ h → touched b (take p refs) ≡ false → allocates_row β h refs p ≡ true
opens_from β h refs p b e k u = go (fate_of (at refs p)) e
  where
    go : (f : Fate) → touches b f ≡ true → allocates_by β h (take p refs) f ≡ true
    go waiting q = absurd (true≢false (sym q))
    go other q = absurd (true≢false (sym q))
    go (accessed c l s) q =
        let same : c ≡ b = eqb-true c b q in
        ap₂ ◌&&◌ (eq-eqb (β c) h (ap β same ∙ k))
        (ap not (ap (λ (x : ℕ). touched x (take p refs)) same ∙ u))

pub opens_to : (β : ℕ → ℕ) (h : ℕ) (refs : List Ref) (p : ℕ) → allocates_row β h refs p ≡ true
    → (b : ℕ) × (touches b (fate_of (at refs p)) ≡ true) × (β b ≡ h) × (touched b (take p refs) ≡ false)
opens_to β h refs p = go (fate_of (at refs p))
  where
    go : (f : Fate) → allocates_by β h (take p refs) f ≡ true
        → (b : ℕ) × (touches b f ≡ true) × (β b ≡ h) × (touched b (take p refs) ≡ false)
    go waiting q = absurd (true≢false (sym q))
    go other q = absurd (true≢false (sym q))
    go (accessed c l s) q =
        let both = (and-eq-true_iff (eqb (β c) h) (not (touched c (take p refs)))).0 q in
        (c, eq-eqb c c refl, eqb-true (β c) h both.0, not-true (touched c (take p refs)) both.1)

-- the row chosen is one of the bank, and no row of the bank has an oldest mark younger than its
pub youngest_chosen : (β : ℕ → ℕ) (h : ℕ) (refs : List Ref) (p : ℕ) → p < length refs → allocates_row β h refs p ≡ true
    → (youngest_row β h refs < length refs) × (allocates_row β h refs (youngest_row β h refs) ≡ true)
    × (p ≤ youngest_row β h refs)
youngest_chosen β h refs = last_is (allocates_row β h refs) (length refs)

-- where the oldest has not executed, a bank without a row that may be evicted has no row in use
none_used : (β : ℕ → ℕ) (h : ℕ) (refs : List Ref) → fate_of (at refs 0) ≡ waiting → youngest_row β h refs ≡ 0
    → rows_in_use β h refs ≤ 0
unfolding count
none_used β h refs w y =
    count_into (allocates_row β h refs) (allocates_row β h refs) (length refs) 0 (λ p. p)
    (λ p l e. absurd (not_first p l e)) (λ p q l r d e i. i)
  where
    not_first : (p : ℕ) → p < length refs → allocates_row β h refs p ≡ true → ⊥
    not_first p l e =
        let c = youngest_chosen β h refs p l e in
        let z : p ≡ 0 = omega arith in
        true≢false
        (sym e ∙ ap (allocates_row β h refs) z ∙ ap (allocates_by β h (take 0 refs)) w)

module _ (P : State) (h : ℕ) where
  -- how many rows of the bank are in use, and the oldest mark of the one that may be evicted
  abbrev used : ℕ
  used = rows_in_use (bank P.banks) h P.refs

  abbrev young : ℕ
  young = youngest_row (bank P.banks) h P.refs

  pub never_stalls : 0 < P.rows → 0 < length P.refs → fate_of (at P.refs 0) ≡ waiting → allocate_row P 0 h ≡ 0 → ⊥
  never_stalls some_row some w = go (ltb used P.rows) (ltb 0 young) refl refl
    where
      go : (t u : Bool) → ltb used P.rows ≡ t → ltb 0 young ≡ u → cond t (length P.refs) (cond u young 0) ≡ 0 → ⊥
      go true u e d z = omega arith
      go false true e d z = omega (arith, ltb-true)
      go false false e d z =
          let y : young ≤ 0 = ltb-false 0 young d in
          let full : P.rows ≤ used = ltb-false used P.rows e in
          omega (arith, none_used (bank P.banks) h P.refs w (omega arith))
