-- 01's sentences of rows, eviction and stall, shown of the definitions in specs/Rows and specs/Outcome. A position that is
-- counted as a row there is the oldest mark of a row of the bank, and the other way round (counted_row, row_counted); the
-- largest of them is the one that is chosen.
-- Assumes nothing.
use mathlib.Core.Bool.{Bool, true, false, cond, true≢false}
use mathlib.Core.Path.{◌≡◌, refl, sym, subst, ◌∙◌}
use Prim.Native.Nat.{ℕ, zero, suc, ◌≤◌, ◌<◌, zero-le}
use native.Mathlib.Nat.{le_step, le_refl}
use native.Mathlib.Omega.{arith}
use lib.Dec.{ltb, eqb}
use lib.ListN.{length, take}
use borrow.Author.Tests.{ltb-true, ltb-false, lt-ltb, le-ltb, eqb-true, eq-eqb}
use Rattle.marks.specs.Counting.{last}
use Rattle.table.specs.Bank
use Rattle.table.specs.Reference.{Side, lacks, holds, Fate, waiting, other, accessed, fate_of, at, State}
use Rattle.lookup.specs.Rows.{touches, touched, allocates_row, rows_in_use, youngest_row}
use Rattle.lookup.specs.Outcome.{allocate_row, kept_in_row, survivors}
use Rattle.lookup.proofs.Firsts.{older_at, older_some, opens_from, opens_to, youngest_chosen}

-- the banks of addresses
abbrev pub bank_of : State → ℕ → ℕ
bank_of P = Bank.bank P.banks

-- the row of address b, in bank h, has its oldest mark at position q
pub record RowAt (P : State) (h b q : ℕ) : Type 0 where
  pub bank : bank_of P b ≡ h
  pub live : q < length P.refs
  pub mark : touches b (fate_of (at P.refs q)) ≡ true
  pub oldest : (k : ℕ) → k < length P.refs → touches b (fate_of (at P.refs k)) ≡ true → q ≤ k

-- a row of bank h is free
abbrev pub free : State → ℕ → Bool
free P h = ltb (rows_in_use (bank_of P) h P.refs) P.rows

-- what is counted as a row is one, known by its oldest mark
pub row_counted : (P : State) (h b q : ℕ) → RowAt P h b q → allocates_row (bank_of P) h P.refs q ≡ true
row_counted P h b q r =
    opens_from (bank_of P) h P.refs q b r.mark r.bank (go (touched b (take q P.refs)) refl)
  where
    go : (t : Bool) → touched b (take q P.refs) ≡ t → t ≡ false
    go false e = refl
    go true e =
        let w = older_some b P.refs q (omega (arith, r.live)) e in
        absurd (omega (arith, w.1, r.oldest w.0 (omega (arith, w.1, r.live)) w.2))

pub counted_row : (P : State) (h q : ℕ) → q < length P.refs → allocates_row (bank_of P) h P.refs q ≡ true
    → (b : ℕ) × RowAt P h b q
counted_row P h q l e =
    let w = opens_to (bank_of P) h P.refs q e in
    (w.0, record { bank = w.2; live = l; mark = w.1; oldest = λ k m t. go w.0 w.3 k t (ltb k q) refl })
  where
    go : (b : ℕ) → touched b (take q P.refs) ≡ false → (k : ℕ) → touches b (fate_of (at P.refs k)) ≡ true
        → (t : Bool) → ltb k q ≡ t → q ≤ k
    go b u k t true d =
        absurd (true≢false (sym (older_at b P.refs q k (ltb-true k q d) (omega (arith, l)) t) ∙ u))
    go b u k t false d = ltb-false k q d

-- the last number that passes is at most p where each that passes is
last_le : (f : ℕ → Bool) (n p : ℕ) → ((k : ℕ) → k < n → f k ≡ true → k ≤ p) → last f n ≤ p
unfolding last
last_le f zero p h = zero-le
last_le f (suc n) p h = go (f n) refl (last_le f n p (λ k l. h k (le_step l)))
  where
    go : (t : Bool) → f n ≡ t → last f n ≤ p → cond t n (last f n) ≤ p
    go true e rest = h n (le_refl (suc n)) e
    go false e rest = rest

-- the fate is a load or store of an address without a row: a row is taken
takes_row : (P : State) (p a : ℕ) (f : Fate) → touches a f ≡ true → touched a P.refs ≡ false
    → survivors P p f ≡ allocate_row P p (bank_of P a)
takes_row P p a waiting e u = absurd (true≢false (sym e))
takes_row P p a other e u = absurd (true≢false (sym e))
takes_row P p a (accessed b l s) e u = let same : b ≡ a = eqb-true b a e in rw (same, u)

-- The execution of a reference at position p to address a stalls: a has no row, none of its bank is free, and each row of the
-- bank has a mark that is not younger than the executing reference.
pub record Stalled (P : State) (p a : ℕ) : Type 0 where
  pub no_row : touched a P.refs ≡ false
  pub full : free P (bank_of P a) ≡ false
  pub older : (b q : ℕ) → RowAt P (bank_of P a) b q → q ≤ p

-- The row of the bank that is evicted: its oldest mark is at position k, and so its marks are all younger than the executing
-- reference; no row of the bank has a younger oldest mark.
pub record Evicted (P : State) (p h k : ℕ) : Type 0 where
  pub address : ℕ
  pub row : RowAt P h address k
  pub younger : p < k
  pub youngest : (b q : ℕ) → RowAt P h b q → q ≤ k

module _ (P : State) (p : ℕ) where
  -- the youngest of the oldest marks
  abbrev youngest : ℕ → ℕ
  youngest h = youngest_row (bank_of P) h P.refs

  youngest_most : (h b q : ℕ) → RowAt P h b q → q ≤ youngest h
  youngest_most h b q r = (youngest_chosen (bank_of P) h P.refs q r.live (row_counted P h b q r)).2

  -- "An execution to an address without a row takes a free row of its bank": nothing is squashed
  pub takes_free : (a : ℕ) (f : Fate) → touches a f ≡ true → touched a P.refs ≡ false → free P (bank_of P a) ≡ true
      → survivors P p f ≡ length P.refs
  takes_free a f e u room = takes_row P p a f e u ∙ rw room

  -- "With none free, rows whose marks are all younger than the executing reference may be evicted. The one whose oldest mark
  -- is youngest is chosen, and that mark's reference and everything younger is squashed": the references before it stay
  pub evicts : (a : ℕ) (f : Fate) → touches a f ≡ true → touched a P.refs ≡ false → free P (bank_of P a) ≡ false
      → (b q : ℕ) → RowAt P (bank_of P a) b q → p < q → Evicted P p (bank_of P a) (survivors P p f)
  evicts a f e u full b q r l =
      let h = bank_of P a in
      let best = youngest_chosen (bank_of P) h P.refs q r.live (row_counted P h b q r) in
      let is : survivors P p f ≡ youngest h =
      takes_row P p a f e u ∙ rw (full, lt-ltb p (youngest h) (omega (arith, l, best.2))) in
      let row = counted_row P h (youngest h) best.0 best.1 in
      subst (Evicted P p h) (sym is)
      (record {
        address = row.0;
        row = row.1;
        younger = omega (arith, l, best.2);
        youngest = youngest_most h;
      })

  -- "Without such a row the answer is refusal 10": it stalls
  pub stalls : (a : ℕ) (f : Fate) → touches a f ≡ true → Stalled P p a → survivors P p f ≡ 0
  stalls a f e s =
      let h = bank_of P a in
      let old : youngest h ≤ p =
      last_le (allocates_row (bank_of P) h P.refs) (length P.refs) p
      (λ k l c. let row = counted_row P h k l c in s.older row.0 k row.1) in
      takes_row P p a f e s.no_row ∙ rw (s.full, le-ltb p (youngest h) old)

  -- taking a row stalls
  none_taken : (h : ℕ) → p < length P.refs → allocate_row P p h ≡ 0 → (free P h ≡ false) × (youngest h ≤ p)
  none_taken h l z = go (free P h) (ltb p (youngest h)) refl refl z
    where
      go : (t u : Bool) → free P h ≡ t → ltb p (youngest h) ≡ u
          → cond t (length P.refs) (cond u (youngest h) 0) ≡ 0 → (t ≡ false) × (youngest h ≤ p)
      go true u e d z = absurd (omega (arith, l))
      go false true e d z = absurd (omega (arith, ltb-true p (youngest h) d))
      go false false e d z = (refl, ltb-false p (youngest h) d)

  -- where an address with a row leaves `kept`, and some
  stalled_at : (a kept : ℕ) → p < length P.refs → (kept ≡ 0 → ⊥) → (t : Bool) → touched a P.refs ≡ t
      → cond t kept (allocate_row P p (bank_of P a)) ≡ 0 → (b : ℕ) × (eqb a b ≡ true) × Stalled P p b
  stalled_at a kept l some true u z = absurd (some z)
  stalled_at a kept l some false u z =
      let w = none_taken (bank_of P a) l z in (
        a,
        eq-eqb a a refl,
        record { no_row = u; full = w.0; older = λ b q r. omega (arith, w.1, youngest_most (bank_of P a) b q r) },
      )

  -- and it stalls only so
  pub stalls_only : (f : Fate) → p < length P.refs → survivors P p f ≡ 0 → (a : ℕ) × (touches a f ≡ true) × Stalled P p a
  stalls_only waiting l z = absurd (omega arith)
  stalls_only other l z = absurd (omega arith)
  stalls_only (accessed a b s) l z = stalled_at a (kept_in_row P p a s) l (some s) (touched a P.refs) refl z
    where
      some : (s : Side) → kept_in_row P p a s ≡ 0 → ⊥
      some lacks e = omega (arith, l, e)
      some (holds v) e = omega (arith, e)
