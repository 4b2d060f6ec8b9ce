-- Marks and fates: what the marks of a stage say of its fate, and every stage by its marks.
-- The fate of a stage is read off the rows one after another. A row without a mark there changes nothing, and a row with one
-- decides alone. By the rules at most one row has a mark there, so the fate is what that row says (marked), or `other` where
-- none has one (unmarked): induction on the rows read. Whatever the marks are, a reference has executed where the bit of its
-- stage is set (executed_bit). Assumes nothing.
use mathlib.Core.Bool.{Bool, true, false, cond, not, ◌||◌, true≢false, not-eq-not, or-true}
use mathlib.Core.Logic.{◌⊎◌, inl, inr, ⊎_elim}
use mathlib.Core.Path.{◌≡◌, refl, sym, ap, ap₂, ◌∙◌}
use Prim.Native.Nat.{ℕ, zero, suc, ◌≤◌, ◌<◌}
use native.Mathlib.Nat.{not-suc-le-zero, le_of_suc-le-suc, eq-or-lt_of_le, le_refl, ne_of_lt}
use native.Mathlib.Omega.{arith}
use lib.ListN.{length}
use Rattle.marks.specs.Stages.{has}
use Rattle.table.specs.declared.Table.{Table}
use Rattle.table.specs.Limits.{rows_in}
use Rattle.table.specs.Reference.{Side, Fate, waiting, other, accessed, idle, blank, at}
use Rattle.table.specs.Rules.{Rules}
use Rattle.table.specs.View.{address, load_mark, store_mark, mark, value, taken, word_if, access, mark_fate, fate_at, ref_at}
use Rattle.table.specs.View.{view}
use Rattle.table.proofs.Lists.{length_tabulate, at_tabulate}

pub mark_load : (t : Table) (r s : ℕ) → load_mark t r s ≡ true → mark t r s ≡ true
mark_load t r s h = ap (λ (b : Bool). b || store_mark t r s) h

pub mark_store : (t : Table) (r s : ℕ) → store_mark t r s ≡ true → mark t r s ≡ true
mark_store t r s h = ap (λ (b : Bool). load_mark t r s || b) h ∙ or-true (load_mark t r s)

-- neither of two tests passes where their disjunction fails
pub neither : (a b : Bool) → (a || b) ≡ false → (a ≡ false) × (b ≡ false)
neither true b h = absurd (true≢false h)
neither false b h = (refl, h)

pub no_load : (t : Table) (r s : ℕ) → mark t r s ≡ false → load_mark t r s ≡ false
no_load t r s h = (neither (load_mark t r s) (store_mark t r s) h).0

pub no_store : (t : Table) (r s : ℕ) → mark t r s ≡ false → store_mark t r s ≡ false
no_store t r s h = (neither (load_mark t r s) (store_mark t r s) h).1

pub mark_kind_lem : (t : Table) (r s : ℕ) → mark t r s ≡ true → (load_mark t r s ≡ true) ⊎ (store_mark t r s ≡ true)
mark_kind_lem t r s = either (load_mark t r s) (store_mark t r s)
  where
    either : (a b : Bool) → (a || b) ≡ true → (a ≡ true) ⊎ (b ≡ true)
    either true b h = inl refl
    either false b h = inr h

-- one mark, with one word where it is set, is one side
pub side_same : (m n : Bool) (v w : ℕ) → m ≡ n → (n ≡ true → v ≡ w) → word_if m v ≡ word_if n w
side_same m true v w e f = ap₂ word_if e (f refl)
side_same m false v w e f = ap (λ (b : Bool). word_if b v) e

-- rows with one address, and with one mark and one word of each kind at a stage, say one thing of it
pub access_same : (t u : Table) (r q s : ℕ) → address u q ≡ address t r → load_mark u q s ≡ load_mark t r s
    → store_mark u q s ≡ store_mark t r s → (store_mark t r s ≡ true → value u s ≡ value t s)
    → (load_mark t r s ≡ true → taken u s ≡ taken t s) → access u q s ≡ access t r s
access_same t u r q s a l m v w =
    ap₂ (λ (b : ℕ) (load : Side). accessed b load (word_if (store_mark u q s) (value u s))) a
    (side_same (load_mark u q s) (load_mark t r s) (taken u s) (taken t s) l w)
    ∙ ap (accessed (address t r) (word_if (load_mark t r s) (taken t s)))
    (side_same (store_mark u q s) (store_mark t r s) (value u s) (value t s) m v)

row_same : (m n : Bool) (x y d e : Fate) → m ≡ n → (n ≡ true → x ≡ y) → d ≡ e → cond m x d ≡ cond n y e
row_same m true x y d e same marked below = ap (λ (b : Bool). cond b x d) same ∙ marked refl
row_same m false x y d e same marked below = ap (λ (b : Bool). cond b x d) same ∙ below

module _ (t u : Table) (s : ℕ)
    (loads : (r : ℕ) → r < rows_in t.banks → load_mark u r s ≡ load_mark t r s)
    (stores : (r : ℕ) → r < rows_in t.banks → store_mark u r s ≡ store_mark t r s)
    (addresses : (r : ℕ) → r < rows_in t.banks → mark t r s ≡ true → address u r ≡ address t r)
    (values : (r : ℕ) → r < rows_in t.banks → store_mark t r s ≡ true → value u s ≡ value t s)
    (words : (r : ℕ) → r < rows_in t.banks → load_mark t r s ≡ true → taken u s ≡ taken t s) where
  marks_same : (k : ℕ) → k ≤ rows_in t.banks → mark_fate u s k ≡ mark_fate t s k
  unfolding mark_fate
  marks_same zero h = refl
  marks_same (suc k) h =
      row_same (mark u k s) (mark t k s) (access u k s) (access t k s) (mark_fate u s k) (mark_fate t s k)
      (ap₂ ◌||◌ (loads k h) (stores k h))
      (λ m. access_same t u k k s (addresses k h m) (loads k h) (stores k h) (values k h) (words k h))
      (marks_same k (omega arith))

-- two tables with as many banks and the same marks at a stage, and the same addresses and words there, give it one fate
pub fates_same : (t u : Table) (s : ℕ) → u.banks ≡ t.banks → has u.executed s ≡ has t.executed s
    → ((r : ℕ) → r < rows_in t.banks → load_mark u r s ≡ load_mark t r s)
    → ((r : ℕ) → r < rows_in t.banks → store_mark u r s ≡ store_mark t r s)
    → ((r : ℕ) → r < rows_in t.banks → mark t r s ≡ true → address u r ≡ address t r)
    → ((r : ℕ) → r < rows_in t.banks → store_mark t r s ≡ true → value u s ≡ value t s)
    → ((r : ℕ) → r < rows_in t.banks → load_mark t r s ≡ true → taken u s ≡ taken t s) → fate_at u s ≡ fate_at t s
fates_same t u s banks executed loads stores addresses values words =
    ap₂ (λ (b : Bool) (f : Fate). cond b f waiting) executed
    (ap (λ (n : ℕ). mark_fate u s (rows_in n)) banks
    ∙ marks_same t u s loads stores addresses values words (rows_in t.banks) (le_refl (rows_in t.banks)))

-- a stage by its marks: not executed, executed without a mark, or with a mark of row r
pub data Fated (t : Table) (s : ℕ) : Type 0 where
  waits : has t.executed s ≡ false → Fated t s
  bare : has t.executed s ≡ true → ((r : ℕ) → r < rows_in t.banks → mark t r s ≡ false) → Fated t s
  marks : (r : ℕ) → r < rows_in t.banks → mark t r s ≡ true → Fated t s

-- one of the first k rows has a mark at s, or none has
abbrev Looked : Table → ℕ → ℕ → Type 0
Looked t s k = ((r : ℕ) × (r < k) × (mark t r s ≡ true)) ⊎ ((r : ℕ) → r < k → mark t r s ≡ false)

look : (t : Table) (s k : ℕ) → Looked t s k
look t s zero = inr (λ r h. absurd (not-suc-le-zero h))
look t s (suc k) = go (mark t k s) refl (look t s k)
  where
    go : (b : Bool) → mark t k s ≡ b → Looked t s k → Looked t s (suc k)
    go true e below = inl (k, le_refl (suc k), e)
    go false e (inl w) = inl (w.0, omega arith, w.2)
    go false e (inr none) =
        inr (λ r h. ⊎_elim (λ (q : r ≡ k). ap (λ (j : ℕ). mark t j s) q ∙ e) (λ (l : r < k). none r l)
        (eq-or-lt_of_le (le_of_suc-le-suc h)))

pub fated : (t : Table) (s : ℕ) → Fated t s
fated t s = go (has t.executed s) refl
  where
    go : (b : Bool) → has t.executed s ≡ b → Fated t s
    go false e = waits e
    go true e =
        ⊎_elim
        (λ (w : (r : ℕ) × (r < rows_in t.banks) × (mark t r s ≡ true)). marks w.0 w.1 w.2)
        (λ none. bare e none)
        (look t s (rows_in t.banks))

unmarked : (t : Table) (s k : ℕ) → ((r : ℕ) → r < k → mark t r s ≡ false) → mark_fate t s k ≡ other
unfolding mark_fate
unmarked t s zero h = refl
unmarked t s (suc k) h =
    ap (λ (b : Bool). cond b (access t k s) (mark_fate t s k)) (h k (le_refl (suc k)))
    ∙ unmarked t s k (λ r l. h r (omega arith))

module _ (t : Table) (rules : Rules t) where
  -- the fate that the marks of the first k rows give, where row r below k has one
  marked : (r s : ℕ) → r < rows_in t.banks → mark t r s ≡ true → (k : ℕ) → k ≤ rows_in t.banks → r < k
      → mark_fate t s k ≡ access t r s
  unfolding mark_fate
  marked r s h m zero b l = absurd (not-suc-le-zero l)
  marked r s h m (suc k) b l =
      ⊎_elim
      (λ (e : r ≡ k).
      ap (λ (x : Bool). cond x (access t k s) (mark_fate t s k)) (ap (λ (j : ℕ). mark t j s) (sym e) ∙ m)
      ∙ ap (λ (j : ℕ). access t j s) (sym e))
      (λ (d : r < k).
      ap (λ (x : Bool). cond x (access t k s) (mark_fate t s k))
      ((not-eq-not {b = false}).0 (λ e. ne_of_lt d (rules.one_row r k s h b m e)))
      ∙ marked r s h m k (omega arith) d)
      (eq-or-lt_of_le (le_of_suc-le-suc l))

  -- the fate of a stage with a mark of row r
  pub fate_marked : (r s : ℕ) → r < rows_in t.banks → mark t r s ≡ true → fate_at t s ≡ access t r s
  fate_marked r s h m =
      ap₂ (λ (b : Bool) (f : Fate). cond b f waiting) (rules.executed r s h m)
      (marked r s h m (rows_in t.banks) (le_refl (rows_in t.banks)) h)

  pub fate_other : (s : ℕ) → has t.executed s ≡ true → ((r : ℕ) → r < rows_in t.banks → mark t r s ≡ false)
      → fate_at t s ≡ other
  fate_other s e h = ap₂ (λ (b : Bool) (f : Fate). cond b f waiting) e (unmarked t s (rows_in t.banks) h)

  pub fate_waiting : (s : ℕ) → has t.executed s ≡ false → fate_at t s ≡ waiting
  fate_waiting s e = ap (λ (b : Bool). cond b (mark_fate t s (rows_in t.banks)) waiting) e

marks_executed : (t : Table) (s k : ℕ) → idle (mark_fate t s k) ≡ false
unfolding mark_fate
marks_executed t s zero = refl
marks_executed t s (suc k) = go (mark t k s) (marks_executed t s k)
  where
    go : (b : Bool) → idle (mark_fate t s k) ≡ false → idle (cond b (access t k s) (mark_fate t s k)) ≡ false
    go true h = refl
    go false h = h

-- the reference of a stage has executed where the stage's bit is set
pub executed_bit : (t : Table) (s : ℕ) → not (idle (fate_at t s)) ≡ has t.executed s
executed_bit t s = go (has t.executed s) (marks_executed t s (rows_in t.banks))
  where
    go : (b : Bool) → idle (mark_fate t s (rows_in t.banks)) ≡ false
        → not (idle (cond b (mark_fate t s (rows_in t.banks)) waiting)) ≡ b
    go true h = ap not h
    go false h = refl

-- the live references of the view, by position
pub length_refs : (t : Table) → length (view t).refs ≡ t.live
length_refs t = length_tabulate (ref_at t) t.live

pub at_refs : (t : Table) (p : ℕ) → p < t.live → at (view t).refs p ≡ ref_at t p
at_refs t p h = at_tabulate (ref_at t) t.live p blank h
