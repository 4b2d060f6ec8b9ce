-- The rows of a bank of a table that keeps its rules are those of its list of references.
-- A row with marks stands for the position of its oldest mark, which opens a row on the list (first_opens): its fate is
-- of the row's address, and no older reference touches that address, since the address has no other row. Two rows have
-- no stage in common, so no position twice (first_apart), and a position that opens is a row's oldest mark
-- (opens_first). So as many rows are in use as positions open (rows_used, used_rows): a free row is found exactly where
-- fewer are used than there are. With none free, the largest of the oldest marks is the youngest position that opens
-- (most). A row taken for an address without one has no mark among the references that stay. Assumes nothing.
use mathlib.Core.Bool.{Bool, true, false, cond, not, ◌&&◌, true≢false, and-eq-true_iff, not-eq-not}
use mathlib.Core.Path.{◌≡◌, refl, sym, ap, ap₂, subst, ◌∙◌}
use Prim.Native.Nat.{ℕ, zero, suc, ◌+◌, ◌-◌, ◌*◌, ◌/◌, ◌%◌, ◌≤◌, ◌<◌}
use native.Mathlib.Nat.{lt_of_not-le, le_refl}
use native.Mathlib.Omega.{arith}
use lib.Dec.{eqb, ltb, eqb-suc-zero}
use lib.ListN.{length, take}
use borrow.Author.Tests.{ltb-true, lt-ltb, le-ltb, eqb-true, eq-eqb, not-true}
use Rattle.marks.specs.Counting.{count}
use Rattle.marks.proofs.Counts.{count_into, count_short, count_some}
use Rattle.table.specs.declared.Table.{Table}
use Rattle.table.specs.Limits.{rows_most, rows_in}
use Rattle.table.specs.Bank.{bank}
use Rattle.table.specs.Computed.Check.{marks_of}
use Rattle.table.specs.Reference.{Fate, waiting, other, fate_of, at}
use Rattle.table.specs.Rules.{Rules}
use Rattle.table.specs.View.{stage_of, address, mark, access, fate_at, view}
use Rattle.table.proofs.Sizes.{bank_lt}
use Rattle.table.proofs.Fates.{Fated, waits, bare, marks, fated, fate_marked, fate_other, fate_waiting, length_refs, at_refs}
use Rattle.table.proofs.Owning.{RowFor, row_of_mark, mark_position}
use Rattle.lookup.specs.declared.Place.{Place}
use Rattle.lookup.specs.Rows.{touches, touched, allocates_row, rows_in_use, youngest_row}
use Rattle.lookup.specs.Outcome.{allocate_row}
use Rattle.lookup.specs.Computed.Chosen.{OldestAt, first_mark, chosen, chosen_row}
use Rattle.lookup.specs.Computed.Search.{find, belongs, allocated_row, row_of}
use Rattle.lookup.proofs.Finds.{find_zero, find_at, chosen_lt, chosen_most}
use Rattle.lookup.proofs.Oldest.{free_in, free_bare, marked_held, held_marked, before, first_le, first_here}
use Rattle.lookup.proofs.Oldest.{size, row_lt, row_bank, row_rest, first_mark_lem, first_apart}
use Rattle.lookup.proofs.Tail.{placed, opened_in, evicts_chosen}
use Rattle.lookup.proofs.Firsts.{touched_at, touched_some, older_at, older_some, opens_from, opens_to}
use Rattle.lookup.proofs.Firsts.{youngest_chosen}
use Rattle.lookup.proofs.Violations.{touches_mark}

-- the i-th row of bank h has marks
abbrev held_in : Table → ℕ → ℕ → Bool
held_in t h i = not (free_in t h i)

-- the row of bank h whose oldest mark is at position p
row_at : Table → ℕ → ℕ → ℕ
row_at t h p = opened_in t h p - 1

-- the place taken in bank h for a reference at position p
abbrev pub taken_by : Table → ℕ → ℕ → Place
taken_by t h p = allocated_row t.oldest t.stages t.live t.rows t.loads t.stores h p

chosen_left : (t : Table) (h p : ℕ)
    → let m = first_mark t h (chosen (first_mark t h) t.rows) in (chosen_row t h p).left ≡ cond (ltb p m) m 0
chosen_left t h p = go (ltb p (first_mark t h (chosen (first_mark t h) t.rows)))
  where
    go : (x : Bool)
        → let i = chosen (first_mark t h) t.rows in
        (cond x (placed (h * rows_most + i) (first_mark t h i)) (placed 0 0)).left ≡ cond x (first_mark t h i) 0
    go true = refl
    go false = refl

-- a place for address a and position p: the row is a's among the references that stay, that at p among them
abbrev Good : Table → ℕ → ℕ → Place → Type 0
Good t a p x = (x.left ≡ 0 → ⊥) → (p < x.left) × (x.left ≤ t.live) × RowFor t a x.row x.left

module _ (t : Table) (rules : Rules t) where
  fate_at_lem : (p : ℕ) → p < t.live → fate_of (at (view t).refs p) ≡ fate_at t (stage_of t p)
  fate_at_lem p l = ap fate_of (at_refs t p l)

  -- a reference touches the address of a row with marks exactly where the row has a mark at its stage
  at_mark : (r s p : ℕ) → r < rows_in t.banks → mark t r s ≡ true → p < t.live
      → touches (address t r) (fate_of (at (view t).refs p)) ≡ mark t r (stage_of t p)
  at_mark r s p h m l =
      ap (touches (address t r)) (fate_at_lem p l)
      ∙ touches_mark t rules (address t r) r t.live (row_of_mark t rules r s h m) p l

  -- a reference that touches an address has its mark in a row of that address
  mark_of_touch : (a p : ℕ) → p < t.live → touches a (fate_of (at (view t).refs p)) ≡ true
      → (r : ℕ) × (r < rows_in t.banks) × (mark t r (stage_of t p) ≡ true) × (address t r ≡ a)
  mark_of_touch a p l e = go (fated t (stage_of t p))
    where
      by : (f : Fate) → fate_at t (stage_of t p) ≡ f → touches a f ≡ true
      by f q = sym (ap (touches a) (fate_at_lem p l ∙ q)) ∙ e

      go : Fated t (stage_of t p) → (r : ℕ) × (r < rows_in t.banks) × (mark t r (stage_of t p) ≡ true) × (address t r ≡ a)
      go (waits x) = absurd (true≢false (sym (by waiting (fate_waiting t rules (stage_of t p) x))))
      go (bare x y) = absurd (true≢false (sym (by other (fate_other t rules (stage_of t p) x y))))
      go (marks r h m) =
          (r, h, m, eqb-true (address t r) a (by (access t r (stage_of t p)) (fate_marked t rules r (stage_of t p) h m)))

  -- so an address is touched exactly where a row of it has a mark
  marked_touched : (r s : ℕ) → r < rows_in t.banks → mark t r s ≡ true → touched (address t r) (view t).refs ≡ true
  marked_touched r s h m =
      let w = mark_position t rules r s h m in
      touched_at (address t r) (view t).refs w.0 (omega (arith, length_refs t))
      (at_mark r s w.0 h m w.1 ∙ ap (mark t r) w.2 ∙ m)

  touched_marked : (a : ℕ) → touched a (view t).refs ≡ true
      → (r : ℕ) × (s : ℕ) × (r < rows_in t.banks) × (mark t r s ≡ true) × (address t r ≡ a)
  touched_marked a e =
      let w = touched_some a (view t).refs e in
      let m = mark_of_touch a w.0 (omega (arith, length_refs t)) w.2 in
      (m.0, stage_of t w.0, m.1, m.2, m.3)

  pub row_none : (a : ℕ) → row_of t.rows t.addresses t.loads t.stores (bank t.banks a) a ≡ 0
      → touched a (view t).refs ≡ false
  row_none a e = (not-eq-not {b = false}).0 none
    where
      found : (r s : ℕ) → r < rows_in t.banks → mark t r s ≡ true → address t r ≡ a
          → belongs t.addresses t.loads t.stores (bank t.banks a) a (r % rows_most) ≡ true
      found r s h m q =
          let b : r / rows_most ≡ bank t.banks a = rw q at (rules.in_bank r s h m) in
          let here : bank t.banks a * rows_most + r % rows_most ≡ r = omega arith in
          rw here (ap₂ ◌&&◌ (ap not (marked_held t r s m)) (eq-eqb (address t r) a q))

      none : touched a (view t).refs ≡ true → ⊥
      none d =
          let w = touched_marked a d in
          true≢false
          (sym (found w.0 w.1 w.2 w.3 w.4)
          ∙ find_zero (belongs t.addresses t.loads t.stores (bank t.banks a) a) t.rows e (w.0 % rows_most)
          (rules.in_rows w.0 w.1 w.2 w.3))

  pub row_some : (a i : ℕ) → row_of t.rows t.addresses t.loads t.stores (bank t.banks a) a ≡ suc i
      → (touched a (view t).refs ≡ true) × RowFor t a (bank t.banks a * rows_most + i) t.live
  row_some a i e =
      let w = find_at (belongs t.addresses t.loads t.stores (bank t.banks a) a) t.rows i e in
      let r = bank t.banks a * rows_most + i in
      let home = bank_lt t.banks a (size t rules).some_bank in
      let h : r < rows_in t.banks = row_lt t rules (bank t.banks a) i home w.0 in
      let both = (and-eq-true_iff (not (eqb (marks_of t.loads t.stores r) 0)) (eqb (address t r) a)).0 w.1 in
      let m = held_marked t r (not-true (eqb (marks_of t.loads t.stores r) 0) both.0) in
      let q : address t r ≡ a = eqb-true (address t r) a both.1 in (
        ap (λ (x : ℕ). touched x (view t).refs) (sym q) ∙ marked_touched r m.0 h m.1,
        subst (λ (x : ℕ). RowFor t x r t.live) q (row_of_mark t rules r m.0 h m.1),
      )

  module _ (h : ℕ) (bound : h < t.banks) where
    first_opens : (i : ℕ) → i < t.rows → free_in t h i ≡ false
        → allocates_row (bank t.banks) h (view t).refs (first_mark t h i) ≡ true
    first_opens i l e =
        let home = rules.in_bank (h * rows_most + i) (stage_of t (first_mark t h i)) (row_lt t rules h i bound l) m.here in
        opens_from (bank t.banks) h (view t).refs (first_mark t h i) (address t (h * rows_most + i))
        (here (first_mark t h i) m.live ∙ m.here) (sym home ∙ row_bank t rules h i l)
        ((not-eq-not {b = false}).0 none)
      where
        m : OldestAt t (h * rows_most + i) (first_mark t h i)
        m = first_mark_lem t rules h bound i l e

        here : (p : ℕ) → p < t.live
            → touches (address t (h * rows_most + i)) (fate_of (at (view t).refs p)) ≡ mark t (h * rows_most + i) (stage_of t p)
        here p = at_mark (h * rows_most + i) (stage_of t (first_mark t h i)) p (row_lt t rules h i bound l) m.here

        none : touched (address t (h * rows_most + i)) (take (first_mark t h i) (view t).refs) ≡ true → ⊥
        none d =
            let n : first_mark t h i ≤ length (view t).refs = omega (arith, length_refs t, m.live) in
            let w = older_some (address t (h * rows_most + i)) (view t).refs (first_mark t h i) n d in
            true≢false (sym w.2 ∙ here w.0 (omega (arith, m.live)) ∙ before t h i w.0 w.1)

    -- a row's mark, where no older reference touches its address, is its oldest
    oldest_is : (i p : ℕ) → i < t.rows → p < t.live → mark t (h * rows_most + i) (stage_of t p) ≡ true
        → touched (address t (h * rows_most + i)) (take p (view t).refs) ≡ false → (free_in t h i ≡ false) × (first_mark t h i ≡ p)
    oldest_is i p k l m u = (held, omega (arith, lt_of_not-le late, lt_of_not-le soon))
      where
        held : free_in t h i ≡ false
        held = marked_held t (h * rows_most + i) (stage_of t p) m

        late : p < first_mark t h i → ⊥
        late c = true≢false (sym m ∙ before t h i p c)

        soon : first_mark t h i < p → ⊥
        soon c =
            let f = first_mark_lem t rules h bound i k held in
            true≢false
            (sym
            (older_at (address t (h * rows_most + i)) (view t).refs p (first_mark t h i) c (omega (arith, length_refs t))
            (at_mark (h * rows_most + i) (stage_of t p) (first_mark t h i) (row_lt t rules h i bound k) m f.live ∙ f.here))
            ∙ u)

    opens_first : (p : ℕ) → p < t.live → allocates_row (bank t.banks) h (view t).refs p ≡ true
        → (i : ℕ) × (i < t.rows) × (free_in t h i ≡ false) × (first_mark t h i ≡ p)
    opens_first p l e =
        let w = opens_to (bank t.banks) h (view t).refs p e in
        let m = mark_of_touch w.0 p l w.1 in
        let b = rules.in_bank m.0 (stage_of t p) m.1 m.2 ∙ ap (bank t.banks) m.3 ∙ w.2 in
        let k = rules.in_rows m.0 (stage_of t p) m.1 m.2 in
        let i : ℕ = m.0 % rows_most in
        let here : h * rows_most + i ≡ m.0 = omega arith in
        let there = ap (λ (r : ℕ). mark t r (stage_of t p)) here ∙ m.2 in
        let new = ap (λ (a : ℕ). touched a (take p (view t).refs)) (ap (address t) here ∙ m.3) ∙ w.3 in
        let o = oldest_is i p k l there new in
        (i, k, o.0, o.1)

    -- as many rows are in use as positions open
    rows_used : count (held_in t h) t.rows ≤ rows_in_use (bank t.banks) h (view t).refs
    rows_used =
        count_into (held_in t h) (allocates_row (bank t.banks) h (view t).refs) t.rows (length (view t).refs)
        (first_mark t h)
        (λ i l e.
        let held = not-true (free_in t h i) e in
        (omega (arith, length_refs t, (first_mark_lem t rules h bound i l held).live), first_opens i l held))
        (λ i j l k e d. first_apart t rules h bound i j l k (not-true (free_in t h i) e) (not-true (free_in t h j) d))

    row_at_opens : (p : ℕ) → p < t.live → allocates_row (bank t.banks) h (view t).refs p ≡ true
        → (row_at t h p < t.rows) × (free_in t h (row_at t h p) ≡ false) × (first_mark t h (row_at t h p) ≡ p)
    unfolding row_at
    row_at_opens p l e = go (opened_in t h p) refl
      where
        go : (k : ℕ) → opened_in t h p ≡ k
            → (k - 1 < t.rows) × (free_in t h (k - 1) ≡ false) × (first_mark t h (k - 1) ≡ p)
        go zero q =
            let o = opens_first p l e in
            absurd
            (true≢false
            (sym (eq-eqb (first_mark t h o.0) p o.3)
            ∙ find_zero (λ (i : ℕ). eqb (first_mark t h i) p) t.rows q o.0 o.1))
        go (suc i) q =
            let w = find_at (λ (i : ℕ). eqb (first_mark t h i) p) t.rows i q in
            let is = eqb-true (first_mark t h i) p w.1 in
            let m = first_here t h i (omega (arith, is, l)) in
            let s : suc i - 1 ≡ i = omega arith in
            rw s (w.0, marked_held t (h * rows_most + i) (stage_of t (first_mark t h i)) m, is)

    used_rows : rows_in_use (bank t.banks) h (view t).refs ≤ count (held_in t h) t.rows
    used_rows =
        count_into (allocates_row (bank t.banks) h (view t).refs) (held_in t h) (length (view t).refs) t.rows (row_at t h)
        (λ p l e. let o = at_row p l e in (o.0, ap not o.1))
        (λ p q l k e d same. sym (at_row p l e).2 ∙ ap (first_mark t h) same ∙ (at_row q k d).2)
      where
        at_row : (p : ℕ) → p < length (view t).refs → allocates_row (bank t.banks) h (view t).refs p ≡ true
            → (row_at t h p < t.rows) × (free_in t h (row_at t h p) ≡ false) × (first_mark t h (row_at t h p) ≡ p)
        at_row p l e = row_at_opens p (omega (arith, length_refs t)) e

    -- a free row is found exactly where fewer rows are used than there are
    full : find (free_in t h) t.rows ≡ 0 → t.rows ≤ rows_in_use (bank t.banks) h (view t).refs
    full e = omega (arith, rows_used, lt_of_not-le short)
      where
        short : suc (count (held_in t h) t.rows) ≤ t.rows → ⊥
        short l =
            let w = count_some (held_in t h) t.rows l in
            true≢false (sym (ap not (find_zero (free_in t h) t.rows e w.0 w.1)) ∙ w.2)

    left_over : (i : ℕ) → i < t.rows → free_in t h i ≡ true → rows_in_use (bank t.banks) h (view t).refs < t.rows
    left_over i l e = omega (arith, used_rows, count_short (held_in t h) t.rows i l (ap not e))

    -- the oldest mark of the row that is chosen where none is free
    most : find (free_in t h) t.rows ≡ 0
        → first_mark t h (chosen (first_mark t h) t.rows) ≡ youngest_row (bank t.banks) h (view t).refs
    most e =
        let i = chosen (first_mark t h) t.rows in
        let l : i < t.rows = chosen_lt (first_mark t h) t.rows (size t rules).some_row in
        let held = find_zero (free_in t h) t.rows e i l in
        let m : first_mark t h i < length (view t).refs =
        omega (arith, length_refs t, (first_mark_lem t rules h bound i l held).live) in
        let y = youngest_chosen (bank t.banks) h (view t).refs (first_mark t h i) m (first_opens i l held) in
        let o = opens_first (youngest_row (bank t.banks) h (view t).refs) (omega (arith, length_refs t)) y.1 in
        omega (arith, chosen_most (first_mark t h) t.rows o.0 o.1)

    -- the place taken, by what the search for a free row finds
    takes_free : (p i : ℕ) → find (free_in t h) t.rows ≡ suc i → taken_by t h p ≡ placed (h * rows_most + i) t.live
    takes_free p i e =
        let s : suc i - 1 ≡ i = omega arith in
        rw (e, eqb-suc-zero i, s)

    takes_full : (p : ℕ) → find (free_in t h) t.rows ≡ 0 → taken_by t h p ≡ chosen_row t h p
    takes_full p e = rw e (evicts_chosen t rules h bound e p)

    takes : (p : ℕ) → (taken_by t h p).left ≡ allocate_row (view t) p h
    takes p = go (find (free_in t h) t.rows) refl
      where
        go : (k : ℕ) → find (free_in t h) t.rows ≡ k → (taken_by t h p).left ≡ allocate_row (view t) p h
        go zero e =
            ap (λ (x : Place). x.left) (takes_full p e) ∙ chosen_left t h p
            ∙ ap (λ (m : ℕ). cond (ltb p m) m 0) (most e)
            ∙ rw (le-ltb (rows_in_use (bank t.banks) h (view t).refs) t.rows (full e))
        go (suc i) e =
            let w = find_at (free_in t h) t.rows i e in
            ap (λ (x : Place). x.left) (takes_free p i e) ∙ sym (length_refs t)
            ∙ rw (lt-ltb (rows_in_use (bank t.banks) h (view t).refs) t.rows (left_over i w.0 w.1))

    -- a row of the bank without a mark among the first k references, for an address of the bank that has no row
    bare_row : (a i k : ℕ) → bank t.banks a ≡ h → touched a (view t).refs ≡ false → i < t.rows
        → ((p : ℕ) → p < k → mark t (h * rows_most + i) (stage_of t p) ≡ false) → RowFor t a (h * rows_most + i) k
    bare_row a i k b u l none =
        record {
          row = row_lt t rules h i bound l;
          in_bank = row_bank t rules h i l ∙ sym b;
          in_rows = rw (row_rest t rules h i l) l;
          own = λ p c m. absurd (true≢false (sym m ∙ none p c));
          only = λ q p d c m e. absurd (other_row q (stage_of t p) d m e);
        }
      where
        other_row : (q s : ℕ) → q < rows_in t.banks → mark t q s ≡ true → address t q ≡ a → ⊥
        other_row q s d m e =
            true≢false (sym (marked_touched q s d m) ∙ ap (λ (x : ℕ). touched x (view t).refs) e ∙ u)

    takes_row : (a p : ℕ) → bank t.banks a ≡ h → p < t.live → touched a (view t).refs ≡ false
        → Good t a p (taken_by t h p)
    takes_row a p b l u = go (find (free_in t h) t.rows) refl
      where
        evict : (i : ℕ) → i < t.rows → (x : Bool) → ltb p (first_mark t h i) ≡ x
            → Good t a p (cond x (placed (h * rows_most + i) (first_mark t h i)) (placed 0 0))
        evict i k true q some =
            (ltb-true p (first_mark t h i) q, first_le t h i, bare_row a i (first_mark t h i) b u k (before t h i))
        evict i k false q some = absurd (some refl)

        go : (k : ℕ) → find (free_in t h) t.rows ≡ k → Good t a p (taken_by t h p)
        go zero e =
            let i = chosen (first_mark t h) t.rows in
            subst (Good t a p) (sym (takes_full p e))
            (evict i (chosen_lt (first_mark t h) t.rows (size t rules).some_row) (ltb p (first_mark t h i)) refl)
        go (suc i) e =
            let w = find_at (free_in t h) t.rows i e in
            subst (Good t a p) (sym (takes_free p i e))
            (λ some. (
              l,
              le_refl t.live,
              bare_row a i t.live b u w.0 (λ q c. free_bare t (h * rows_most + i) (stage_of t q) w.1),
            ))

  -- what is left where a row is taken, and the row: for an address without one
  pub taken_room : (a p : ℕ) → p < t.live → touched a (view t).refs ≡ false
      → (taken_by t (bank t.banks a) p).left ≡ allocate_row (view t) p (bank t.banks a)
  taken_room a p l u = takes (bank t.banks a) (bank_lt t.banks a (size t rules).some_bank) p

  pub taken_row : (a p : ℕ) → p < t.live → touched a (view t).refs ≡ false
      → ((taken_by t (bank t.banks a) p).left ≡ 0 → ⊥)
      → (p < (taken_by t (bank t.banks a) p).left) × ((taken_by t (bank t.banks a) p).left ≤ t.live)
      × RowFor t a (taken_by t (bank t.banks a) p).row (taken_by t (bank t.banks a) p).left
  taken_row a p = takes_row (bank t.banks a) (bank_lt t.banks a (size t rules).some_bank) a p refl
