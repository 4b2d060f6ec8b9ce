-- The test `lawful` of specs/Check.antt is true exactly where the rules of specs/Rules.antt hold.
-- A row's marks are one word, and a row is free where that word is 0: it then has no mark, and otherwise some mark.
-- The test of a row that is not free is five facts about its words (Row). From the test to the rules: of two rows with a
-- mark at one stage, the later's marks would meet those taken before it; of two rows with one address, both lie in its
-- bank, and the later would find the earlier there. From the rules to the test: each word goes by its members.
-- Assumes nothing.
use mathlib.Core.Bool.{Bool, true, false, ◌&&◌, ◌||◌, not, or-true, true≢false, false≢true}
use mathlib.Core.Logic.{⊎_elim}
use mathlib.Core.List.{List}
use mathlib.Core.Path.{◌≡◌, refl, sym, ap, ap₂, ◌∙◌}
use Prim.Native.Nat.{ℕ, zero, suc, ◌+◌, ◌*◌, ◌/◌, ◌%◌, ◌≤◌, ◌<◌}
use native.Mathlib.Nat.{not-suc-le-zero, le_of_suc-le-suc, eq-or-lt_of_le}
use native.Mathlib.Omega.{arith}
use lib.Bits.{bit_and}
use lib.Dec.{leb, ltb, eqb}
use lib.ListN.{get_or}
use borrow.Author.Tests.{ltb-true, leb-true, eqb-true, eqb-false, not-true, lt-ltb, le-leb, eq-eqb, ne_eqb}
use Rattle.marks.specs.Stages.{has}
use Rattle.marks.specs.Circle.{firsts}
use Rattle.marks.specs.Counting.{every}
use Rattle.marks.proofs.Sets.{has_or, has_and, has_zero, member, inside, inside_from, apart, apart_from}
use Rattle.marks.proofs.Turns.{firsts_has, firsts_out}
use Rattle.marks.proofs.Counts.{every_at, every_from}
use Rattle.table.specs.declared.Table.{Table}
use Rattle.table.specs.Limits.{rows_most, rows_in, sizes_fit}
use Rattle.table.specs.Bank.{bank}
use Rattle.table.specs.View.{address, mark}
use Rattle.table.specs.Rules.{Live, Rules}
use Rattle.table.specs.Computed.Check.{marks_of, marks_below, other_address, row_fits, usable, lawful_by, lawful}

-- what a test of several parts says of each
four : (a b c d : Bool) → (a && b && c && d) ≡ true → (a ≡ true) × (b ≡ true) × (c ≡ true) × (d ≡ true)
four true true true d h = (refl, refl, refl, h)
four true true false d h = absurd (false≢true h)
four true false c d h = absurd (false≢true h)
four false b c d h = absurd (false≢true h)

five : (a b c d e : Bool) → (a && b && c && d && e) ≡ true → (a ≡ true) × (b ≡ true) × (c ≡ true) × (d ≡ true) × (e ≡ true)
five a b c d e h =
    let w = four (a && b) c d e h in
    let v = four true true a b w.0 in
    (v.2, v.3, w.1, w.2, w.3)

-- a choice whose first part fails is its second part
or_second : (a b : Bool) → a ≡ false → (a || b) ≡ true → b ≡ true
or_second true b e h = absurd (true≢false e)
or_second false b e h = h

or_from : (a b : Bool) → (a ≡ false → b ≡ true) → (a || b) ≡ true
or_from true b h = refl
or_from false b h = h refl

-- the stages taken by the rows below k are those that bear a mark in one of them
module _ (loads stores : List ℕ) where
  pub taken_has : (k r s : ℕ) → r < k → has (marks_of loads stores r) s ≡ true → has (marks_below loads stores k) s ≡ true
  unfolding marks_below
  taken_has zero r s l h = absurd (not-suc-le-zero l)
  taken_has (suc k) r s l h =
      has_or (marks_below loads stores k) (marks_of loads stores k) s
      ∙ ⊎_elim
      (λ (q : r ≡ k).
      ap (λ (t : Bool). has (marks_below loads stores k) s || t)
      (ap (λ (x : ℕ). has (marks_of loads stores x) s) (sym q) ∙ h) ∙ or-true (has (marks_below loads stores k) s))
      (λ (q : r < k). ap (λ (t : Bool). t || has (marks_of loads stores k) s) (taken_has k r s q h))
      (eq-or-lt_of_le (le_of_suc-le-suc l))

  pub taken_from : (k s : ℕ) → has (marks_below loads stores k) s ≡ true
      → (r : ℕ) × (r < k) × (has (marks_of loads stores r) s ≡ true)
  unfolding marks_below
  taken_from zero s h = absurd (true≢false (sym h ∙ has_zero s))
  taken_from (suc k) s h =
      go (has (marks_below loads stores k) s) refl (sym (has_or (marks_below loads stores k) (marks_of loads stores k) s) ∙ h)
      (taken_from k s)
    where
      go : (t : Bool) → has (marks_below loads stores k) s ≡ t → (t || has (marks_of loads stores k) s) ≡ true
          → (has (marks_below loads stores k) s ≡ true → (r : ℕ) × (r < k) × (has (marks_of loads stores r) s ≡ true))
          → (r : ℕ) × (r < suc k) × (has (marks_of loads stores r) s ≡ true)
      go true e o below = let w = below e in (w.0, omega arith, w.2)
      go false e o below = (k, omega arith, o)

-- the words of specs/Check.antt for a table: a row's marks, the stages that may bear one, the test of a row, and the
-- test of the rows before r in its bank
abbrev marks : Table → ℕ → ℕ
marks t r = marks_of t.loads t.stores r

abbrev usable_of : Table → ℕ
usable_of t = usable t.oldest t.stages t.live t.executed

abbrev Fits : Table → ℕ → Type 0
Fits t r = row_fits t.banks t.rows (usable_of t) t.addresses t.loads t.stores r ≡ true

abbrev alone : Table → ℕ → ℕ → Bool
alone t r = other_address t.addresses t.loads t.stores (r / rows_most) (address t r)

-- what the test says of a row that is not free
record Row (t : Table) (r : ℕ) : Type 0 where
  usable : bit_and (marks t r) (usable_of t) ≡ marks t r
  fresh : bit_and (marks t r) (marks_below t.loads t.stores r) ≡ 0
  in_bank : r / rows_most ≡ bank t.banks (address t r)
  in_rows : r % rows_most < t.rows
  others : (i : ℕ) → i < r % rows_most → (marks t (r / rows_most * rows_most + i) ≡ 0 → ⊥)
      → address t (r / rows_most * rows_most + i) ≡ address t r → ⊥

module _ (t : Table) where
  fits_row : (r : ℕ) → Fits t r → (marks t r ≡ 0 → ⊥) → Row t r
  unfolding row_fits
  fits_row r h used =
      let w =
      five (eqb (bit_and (marks t r) (usable_of t)) (marks t r))
      (eqb (bit_and (marks t r) (marks_below t.loads t.stores r)) 0)
      (eqb (r / rows_most) (bank t.banks (address t r)))
      (ltb (r % rows_most) t.rows)
      (every (alone t r) (r % rows_most))
      (or_second (eqb (marks t r) 0) _ (ne_eqb (marks t r) 0 used) h) in
      record {
        usable = eqb-true _ _ w.0;
        fresh = eqb-true _ _ w.1;
        in_bank = eqb-true _ _ w.2;
        in_rows = ltb-true _ _ w.3;
        others = λ i l m e.
            eqb-false _ _
            (not-true _ (or_second _ _ (ne_eqb _ 0 m) (every_at (alone t r) (r % rows_most) w.4 i l))) e;
      }

  row_fits_lem : (r : ℕ) → ((marks t r ≡ 0 → ⊥) → Row t r) → Fits t r
  unfolding row_fits
  row_fits_lem r h =
      or_from (eqb (marks t r) 0) _
      (λ e.
      let w = h (eqb-false (marks t r) 0 e) in
      ap₂ ◌&&◌
      (ap₂ ◌&&◌
      (ap₂ ◌&&◌ (ap₂ ◌&&◌ (eq-eqb _ _ w.usable) (eq-eqb _ _ w.fresh))
      (eq-eqb _ _ w.in_bank))
      (lt-ltb _ _ w.in_rows))
      (every_from (alone t r) (r % rows_most)
      (λ i l.
      let q : ℕ = r / rows_most * rows_most + i in
      or_from (eqb (marks t q) 0) _
      (λ m. ap not (ne_eqb _ _ (w.others i l (eqb-false (marks t q) 0 m)))))))

  -- a mark is a member of the row's word, and a row with a mark is not free
  marked : (r s : ℕ) → mark t r s ≡ true → has (marks t r) s ≡ true
  marked r s h = has_or (get_or t.loads r 0) (get_or t.stores r 0) s ∙ h

  marked_from : (r s : ℕ) → has (marks t r) s ≡ true → mark t r s ≡ true
  marked_from r s h = sym (has_or (get_or t.loads r 0) (get_or t.stores r 0) s) ∙ h

  not_free : (r s : ℕ) → mark t r s ≡ true → marks t r ≡ 0 → ⊥
  not_free r s h e = true≢false (sym (marked r s h) ∙ ap (λ (w : ℕ). has w s) e ∙ has_zero s)

  -- the sizes, the window and each row pass their tests
  parts : lawful t ≡ true
      → (sizes_fit t.banks t.rows t.stages t.words ≡ true)
      × (t.live ≤ t.stages) × (t.oldest < t.stages) × ((r : ℕ) → r < rows_in t.banks → Fits t r)
  unfolding lawful_by
  parts h =
      let w =
      four (sizes_fit t.banks t.rows t.stages t.words) (leb t.live t.stages)
      (ltb t.oldest t.stages)
      (every (row_fits t.banks t.rows (usable_of t) t.addresses t.loads t.stores) (rows_in t.banks)) h in
      (w.0, leb-true _ _ w.1, ltb-true _ _ w.2, every_at _ (rows_in t.banks) w.3)

  -- what the words of every row with a mark say of two rows
  module _ (rows : (r s : ℕ) → r < rows_in t.banks → mark t r s ≡ true → Row t r) where
    -- the later of two rows bears no mark of the earlier's stages
    fresh_mark : (r q s : ℕ) → q < rows_in t.banks → r < q → mark t r s ≡ true → mark t q s ≡ true → ⊥
    fresh_mark r q s l o m n =
        apart (marks t q) (marks_below t.loads t.stores q) (rows q s l n).fresh s (marked q s n)
        (taken_has t.loads t.stores q r s o (marked r s m))

    -- the later of two rows has not the earlier's address
    fresh_address : (r q s u : ℕ) → q < rows_in t.banks → r < q → mark t r s ≡ true → mark t q u ≡ true
        → address t r ≡ address t q → ⊥
    fresh_address r q s u l o m n e =
        let x = rows r s (omega arith) m in
        let y = rows q u l n in
        let z : r / rows_most ≡ q / rows_most = x.in_bank ∙ ap (bank t.banks) e ∙ sym y.in_bank in
        let p : q / rows_most * rows_most + r % rows_most ≡ r = omega arith in
        y.others (r % rows_most) (omega arith) (λ f. not_free r s m (ap (marks t) (sym p) ∙ f)) (ap (address t) p ∙ e)

  -- the usable stages are those that are live and have executed
  module _ (room : t.live ≤ t.stages) (start : t.oldest < t.stages) where
    usable_live : (s : ℕ) → has (usable_of t) s ≡ true → Live t s × (has t.executed s ≡ true)
    usable_live s h =
        let w =
        four true true (has t.executed s) (has (firsts t.oldest t.stages t.live) s)
        (sym (has_and t.executed (firsts t.oldest t.stages t.live) s) ∙ h) in
        let out : t.stages ≤ s → ⊥ = λ o.
        true≢false (sym w.3 ∙ firsts_out t.oldest t.stages start t.live s room o) in
        let low : s < t.stages = omega arith in (
          record {
            stage = low;
            position = ltb-true _ _ (sym (firsts_has t.oldest t.stages start t.live s room low) ∙ w.3);
          },
          w.2,
        )

    live_usable : (s : ℕ) → Live t s → has t.executed s ≡ true → has (usable_of t) s ≡ true
    live_usable s l e =
        has_and t.executed (firsts t.oldest t.stages t.live) s
        ∙ ap₂ ◌&&◌ e
        (firsts_has t.oldest t.stages start t.live s room l.stage ∙ lt-ltb _ _ l.position)

pub lawful_rules : (t : Table) → lawful t ≡ true → Rules t
lawful_rules t h =
    let w = parts t h in
    record {
      sizes = w.0;
      live_bounded = w.1;
      start = w.2;
      live = λ r s l m. (usable_live t w.1 w.2 s (on_usable r s l m)).0;
      executed = λ r s l m. (usable_live t w.1 w.2 s (on_usable r s l m)).1;
      one_row = λ r q s k l m n.
          let a : r < q → ⊥ = λ o. fresh_mark t rows r q s l o m n in
          let b : q < r → ⊥ = λ o. fresh_mark t rows q r s k o n m in
          omega arith;
      one_address = λ r q s u k l m n e.
          let a : r < q → ⊥ = λ o. fresh_address t rows r q s u l o m n e in
          let b : q < r → ⊥ = λ o. fresh_address t rows q r u s k o n m (sym e) in
          omega arith;
      in_bank = λ r s l m. (rows r s l m).in_bank;
      in_rows = λ r s l m. (rows r s l m).in_rows;
    }
  where
    rows : (r s : ℕ) → r < rows_in t.banks → mark t r s ≡ true → Row t r
    rows r s l m = fits_row t r ((parts t h).3 r l) (not_free t r s m)

    on_usable : (r s : ℕ) → r < rows_in t.banks → mark t r s ≡ true → has (usable_of t) s ≡ true
    on_usable r s l m = inside (marks t r) (usable_of t) (rows r s l m).usable s (marked t r s m)

pub rules_lawful : (t : Table) → Rules t → lawful t ≡ true
unfolding lawful_by
rules_lawful t w =
    ap₂ ◌&&◌ (ap₂ ◌&&◌ (ap₂ ◌&&◌ w.sizes (le-leb _ _ w.live_bounded)) (lt-ltb _ _ w.start))
    (every_from _ (rows_in t.banks) (λ r l. row_fits_lem t r (λ used. row r l (member (marks t r) used))))
  where
    row : (r : ℕ) → r < rows_in t.banks → (s : ℕ) × (has (marks t r) s ≡ true) → Row t r
    row r l (s, m) =
        record {
          usable =
              inside_from (marks t r) (usable_of t)
              (λ k a.
              let m = marked_from t r k a in
              live_usable t w.live_bounded w.start k (w.live r k l m) (w.executed r k l m));
          fresh =
              apart_from (marks t r) (marks_below t.loads t.stores r)
              (λ k a b.
              let x = taken_from t.loads t.stores r k b in
              let e : r ≡ x.0 =
              w.one_row r x.0 k l (omega arith) (marked_from t r k a) (marked_from t x.0 k x.2) in
              omega arith);
          in_bank = w.in_bank r s l (marked_from t r s m);
          in_rows = w.in_rows r s l (marked_from t r s m);
          others = λ i o used e.
              let q : ℕ = r / rows_most * rows_most + i in
              let x = member (marks t q) used in
              let same : q ≡ r =
              w.one_address q r x.0 s (omega arith) l (marked_from t q x.0 x.1) (marked_from t r s m) e in
              omega arith;
        }

-- for a caller whose test fails
pub lawful_broken : (t : Table) → lawful t ≡ false → Rules t → ⊥
lawful_broken t e w = true≢false (sym (rules_lawful t w) ∙ e)
