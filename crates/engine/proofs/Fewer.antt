-- A table with as many banks whose marks are among another's. The rules of rows are about marked rows alone, so fewer
-- marks keep them: each mark of u is one of t, in the same row with the same address. What the new window and the new
-- executed stages must fulfil is left to each step. Assumes nothing.
use mathlib.Core.Bool.{true}
use mathlib.Core.Logic.{⊎_elim}
use mathlib.Core.List.{List}
use mathlib.Core.Path.{◌≡◌, sym, ap, subst, ◌∙◌}
use Prim.Native.Nat.{ℕ, ◌≤◌, ◌<◌}
use lib.ListN.{get_or}
use Rattle.marks.specs.Stages.{has}
use Rattle.table.specs.declared.Table.{Table}
use Rattle.table.specs.Limits.{rows_in, sizes_fit}
use Rattle.table.specs.Rules.{Live, Rules}
use Rattle.table.specs.View.{address, load_mark, store_mark, mark}
use Rattle.table.proofs.Fates.{mark_load, mark_store, mark_kind_lem}

pub record Fewer (t u : Table) : Type 0 where
  pub banks : u.banks ≡ t.banks
  pub rows : u.rows ≡ t.rows
  pub addresses : u.addresses ≡ t.addresses
  pub loads : (r s : ℕ) → r < rows_in t.banks → load_mark u r s ≡ true → load_mark t r s ≡ true
  pub stores : (r s : ℕ) → r < rows_in t.banks → store_mark u r s ≡ true → store_mark t r s ≡ true

-- a mark of u is one of t
pub fewer_marks : (t u : Table) → Fewer t u → (r s : ℕ) → r < rows_in t.banks → mark u r s ≡ true → mark t r s ≡ true
fewer_marks t u f r s h m =
    ⊎_elim (λ l. mark_load t r s (f.loads r s h l)) (λ l. mark_store t r s (f.stores r s h l)) (mark_kind_lem u r s m)

pub fewer_rules : (t u : Table) → Rules t → Fewer t u → sizes_fit u.banks u.rows u.stages u.words ≡ true
    → u.live ≤ u.stages → u.oldest < u.stages
    → ((r s : ℕ) → r < rows_in u.banks → mark u r s ≡ true → Live u s)
    → ((r s : ℕ) → r < rows_in u.banks → mark u r s ≡ true → has u.executed s ≡ true)
    → Rules u
fewer_rules t u rules f sizes room start live executed =
    let in_use : (r : ℕ) → r < rows_in u.banks → r < rows_in t.banks = λ r. subst (λ (n : ℕ). r < rows_in n) f.banks in
    let less : (r s : ℕ) → r < rows_in u.banks → mark u r s ≡ true → mark t r s ≡ true = λ r s h.
    fewer_marks t u f r s (in_use r h) in
    let same : (r : ℕ) → address u r ≡ address t r = λ r. ap (λ (l : List ℕ). get_or l r 0) f.addresses in
    record {
      sizes = sizes;
      live_bounded = room;
      start = start;
      live = live;
      executed = executed;
      one_row = λ r q s h k l m. rules.one_row r q s (in_use r h) (in_use q k) (less r s h l) (less q s k m);
      one_address = λ r q s v h k l m e.
          rules.one_address r q s v (in_use r h) (in_use q k) (less r s h l) (less q v k m) (sym (same r) ∙ e ∙ same q);
      in_bank = λ r s h m. rw (same r, f.banks) (rules.in_bank r s (in_use r h) (less r s h m));
      in_rows = λ r s h m. rw f.rows (rules.in_rows r s (in_use r h) (less r s h m));
    }
