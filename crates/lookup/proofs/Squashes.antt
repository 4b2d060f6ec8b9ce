-- "a squash nobody called for comes when the list requires it and at no other time", of the plain list: an execution squashes
-- from position k on exactly where the list requires it (required, only_required), and a load of an address with a row, or an
-- execution without memory, never does. So an answer that names the first squashed reference, if there is one, names one
-- exactly there, and the one at k (names_required, names_only, names_none), however references are named. A violation is met
-- as Sentences says; of two rows to evict each is the youngest, so they are one.
-- Assumes nothing.
use mathlib.Core.Bool.{Bool, true, false, cond, true≢false}
use mathlib.Core.Option.{Option, none, some}
use mathlib.Core.Path.{◌≡◌, refl, sym, ◌∙◌}
use Prim.Native.Nat.{ℕ, zero, suc, ◌<◌}
use native.Mathlib.Nat.{le_refl, le_step, not-suc-le-zero}
use native.Mathlib.Omega.{arith}
use lib.Dec.{ltb}
use lib.ListN.{length}
use borrow.Author.Tests.{ltb-true, lt-ltb, eq-eqb}
use Rattle.marks.specs.Counting.{last}
use Rattle.table.specs.Reference.{Side, lacks, holds, Fate, waiting, other, accessed, State}
use Rattle.lookup.specs.Rows.{touched, allocates_row, youngest_row}
use Rattle.lookup.specs.Outcome.{allocate_row, survivors}
use Rattle.lookup.proofs.Sentences.{Violated, squashes_load, squashed_only}
use Rattle.lookup.proofs.Eviction.{RowAt, bank_of, free, counted_row, Evicted, takes_free, evicts}

-- The list requires that the execution of the reference at position p to this fate squashes from position k on: its store meets
-- first a load that took another word; or its address has no row, no row of the bank is free, and the row to evict has its
-- oldest mark there.
pub data Squashes (P : State) (p : ℕ) : Fate → ℕ → Type 0 where
  violation : {a v k : ℕ} {l : Side} → Violated P p a v k → Squashes P p (accessed a l (holds v)) k
  eviction : {a k : ℕ} {l s : Side} → touched a P.refs ≡ false → free P (bank_of P a) ≡ false
      → Evicted P p (bank_of P a) k → Squashes P p (accessed a l s) k

-- the last number that passes passes, where it is above some number
last_passes : (f : ℕ → Bool) (n p : ℕ) → p < last f n → (last f n < n) × (f (last f n) ≡ true)
unfolding last
last_passes f zero p h = absurd (not-suc-le-zero h)
last_passes f (suc n) p h = go (f n) refl h (last_passes f n p)
  where
    go : (t : Bool) → f n ≡ t → p < cond t n (last f n) → (p < last f n → (last f n < n) × (f (last f n) ≡ true))
        → (cond t n (last f n) < suc n) × (f (cond t n (last f n)) ≡ true)
    go true e h rest = (le_refl (suc n), e)
    go false e h rest = let w = rest h in (le_step w.0, w.1)

module _ (P : State) (p : ℕ) where
  -- two rows to evict are one
  one_evicted : (h j k : ℕ) → Evicted P p h j → Evicted P p h k → j ≡ k
  one_evicted h j k x y =
      omega (arith, x.youngest y.address k y.row, y.youngest x.address j x.row)

  -- where the list requires a squash from k on, the references before k stay, the executing one among them
  pub required : {f : Fate} {k : ℕ} → Squashes P p f k
      → (survivors P p f ≡ k) × (p < k) × (k < length P.refs)
  required {f} {k} (violation {a = a} {v = v} {l = l} x) =
      (squashes_load P p a v k x l, x.nearest.younger, x.nearest.live)
  required {f} {k} (eviction {a = a} {l = l} {s = s} new full x) = (
    one_evicted (bank_of P a) (survivors P p (accessed a l s)) k
        (evicts P p a (accessed a l s) (eq-eqb a a refl) new full x.address k x.row x.younger)
        x,
    x.younger,
    x.row.live,
  )

  -- a full bank in which an execution does not stall has a row to evict
  row_younger : (h : ℕ) → free P h ≡ false → (allocate_row P p h ≡ 0 → ⊥) → (b q : ℕ) × RowAt P h b q × (p < q)
  row_younger h full stays = go (ltb p (youngest_row (bank_of P) h P.refs)) refl
    where
      go : (t : Bool) → ltb p (youngest_row (bank_of P) h P.refs) ≡ t → (b q : ℕ) × RowAt P h b q × (p < q)
      go true e =
          let l = ltb-true p (youngest_row (bank_of P) h P.refs) e in
          let w = last_passes (allocates_row (bank_of P) h P.refs) (length P.refs) p l in
          let row = counted_row P h (youngest_row (bank_of P) h P.refs) w.0 w.1 in
          (row.0, youngest_row (bank_of P) h P.refs, row.1, l)
      go false e = absurd (stays (rw (full, e)))

  -- and where an execution that does not stall squashes at all, the list requires it
  pub only_required : (f : Fate) → p < length P.refs → (survivors P p f ≡ 0 → ⊥) → survivors P p f < length P.refs
      → Squashes P p f (survivors P p f)
  only_required waiting h stays less = absurd (omega arith)
  only_required other h stays less = absurd (omega arith)
  only_required (accessed a l s) h stays less =
      go (touched a P.refs) (free P (bank_of P a)) refl refl s stays less
    where
      go : (t u : Bool) → touched a P.refs ≡ t → free P (bank_of P a) ≡ u → (s : Side)
          → (survivors P p (accessed a l s) ≡ 0 → ⊥) → survivors P p (accessed a l s) < length P.refs
          → Squashes P p (accessed a l s) (survivors P p (accessed a l s))
      go true u e d lacks stays less = absurd (omega (arith, rw e at less))
      go true u e d (holds v) stays less = violation (squashed_only P p a v h e l less)
      go false true e d s stays less =
          absurd (omega (arith, less, takes_free P p a (accessed a l s) (eq-eqb a a refl) e d))
      go false false e d s stays less =
          let w = row_younger (bank_of P a) d (λ z. stays (rw e z)) in
          eviction e d (evicts P p a (accessed a l s) (eq-eqb a a refl) e d w.0 w.1 w.2 w.3)

  -- an execution without memory squashes nothing,
  pub other_keeps : (k : ℕ) → Squashes P p other k → ⊥
  other_keeps k x = let w = required x in omega (arith, w.0, w.2)

  -- nor does a load of an address with a row
  pub row_keeps : (a k : ℕ) (l : Side) → touched a P.refs ≡ true → Squashes P p (accessed a l lacks) k → ⊥
  row_keeps a k l row (eviction new full x) = true≢false (sym row ∙ new)

  -- ---- the answer, where `name` names the reference at a position
  module _ {N : Type 0} (name : ℕ → N) (f : Fate) where
    -- the first squashed reference, if there is one
    abbrev pub first_squashed : Option N
    first_squashed = cond (ltb (survivors P p f) (length P.refs)) (some (name (survivors P p f))) none

    pub names_required : (k : ℕ) → Squashes P p f k → first_squashed ≡ some (name k)
    names_required k x =
        let w = required x in
        rw (w.0, lt-ltb k (length P.refs) w.2)

    pub names_only : p < length P.refs → (survivors P p f ≡ 0 → ⊥) → (ρ : N) → first_squashed ≡ some ρ
        → (k : ℕ) × Squashes P p f k × (ρ ≡ name k)
    names_only h stays ρ e = go (ltb (survivors P p f) (length P.refs)) refl e
      where
        go : (t : Bool) → ltb (survivors P p f) (length P.refs) ≡ t
            → cond {A = Option N} t (some (name (survivors P p f))) none ≡ some ρ → (k : ℕ) × Squashes P p f k × (ρ ≡ name k)
        go true d e = (survivors P p f, only_required f h stays (ltb-true (survivors P p f) (length P.refs) d), cc)
        go false d e = absurd (let z : ◌≡◌ {A = ℕ} 0 1 = cc in omega arith)

    pub names_none : p < length P.refs → (survivors P p f ≡ 0 → ⊥) → ((k : ℕ) → Squashes P p f k → ⊥)
        → first_squashed ≡ none
    names_none h stays free = go (ltb (survivors P p f) (length P.refs)) refl
      where
        go : (t : Bool) → ltb (survivors P p f) (length P.refs) ≡ t
            → cond {A = Option N} t (some (name (survivors P p f))) none ≡ none
        go true d =
            absurd (free (survivors P p f) (only_required f h stays (ltb-true (survivors P p f) (length P.refs) d)))
        go false d = refl
