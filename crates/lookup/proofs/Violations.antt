-- What a store's check of its address's row leaves is what the plain list says. Both sides walk up from the store:
-- `kept_younger` takes the references one by one (spared_next), and one that has not executed to the address is passed
-- (met_past). A reference has executed to the address exactly where the address's row bears a mark at its stage
-- (touches_mark), so the search for a mark stops where the walk does, and the mark's kind, of a load with the word that it
-- took, decides on both sides.
-- Assumes nothing.
use mathlib.Core.Bool.{Bool, true, false, cond, not, ◌&&◌, ◌||◌, true≢false}
use mathlib.Core.List.{List, [], ◌∷◌}
use mathlib.Core.Logic.{⊎_elim}
use mathlib.Core.Path.{◌≡◌, refl, sym, ap, ap₂, ◌∙◌}
use Prim.Native.Nat.{ℕ, zero, suc, ◌≤◌, ◌<◌, ◌+◌, ◌-◌, zero-le, suc-le-suc}
use native.Mathlib.Nat.{eq-or-lt_of_le, le_of_suc-le-suc, not-suc-le-zero, le_refl}
use native.Mathlib.Omega.{arith}
use lib.Bits.{bit_or}
use lib.Dec.{eqb, ltb}
use lib.ListN.{length, drop, get_or, length-drop}
use lib.Seq.{drop-cons, drop-length}
use borrow.Author.Tests.{eq-eqb, ne_eqb, lt-ltb, le-ltb}
use Rattle.marks.proofs.Sets.{has_or}
use Rattle.table.specs.declared.Table.{Table}
use Rattle.table.specs.Limits.{rows_in}
use Rattle.table.specs.Reference.{Side, lacks, holds, Fate, waiting, other, accessed, Ref, ref, fate_of, at, blank, State}
use Rattle.table.specs.Rules.{Rules}
use Rattle.table.specs.View.{view, stage_of, address, load_mark, store_mark, mark, value, taken, word_if, fate_at}
use Rattle.table.proofs.Fates.{neither, Fated, waits, bare, marks, fated, mark_load, mark_store, length_refs, at_refs}
use Rattle.table.proofs.Fates.{fate_marked, fate_other, fate_waiting}
use Rattle.table.proofs.Owning.{RowFor}
use Rattle.lookup.specs.Forwarding.{holds_word}
use Rattle.lookup.specs.Rows.{touches, touched}
use Rattle.lookup.specs.Computed.Search.{seek, marked, violation_point}
use Rattle.lookup.specs.Violation.{kept_met, kept_from, kept_younger, kept_after_store}

-- a reference with this fate loaded from address a or stored there
abbrev pub reaches : ℕ → Fate → Bool
reaches a waiting = false
reaches a other = false
reaches a (accessed b l s) = eqb b a && (holds_word l || holds_word s)

-- one that has not executed to the address did neither
pub untouched_reaches : (f : Fate) (a : ℕ) → touches a f ≡ false → reaches a f ≡ false
untouched_reaches waiting a e = refl
untouched_reaches other a e = refl
untouched_reaches (accessed b l s) a e = ap (λ (t : Bool). t && (holds_word l || holds_word s)) e

-- the walk passes a reference that did neither
met_past : (f : Fate) (a v all rest : ℕ) → reaches a f ≡ false → kept_from f a v all rest ≡ suc rest
met_past waiting a v all rest e = refl
met_past other a v all rest e = refl
met_past (accessed b l s) a v all rest e = go (eqb b a) l s e
  where
    go : (t : Bool) (l s : Side) → (t && (holds_word l || holds_word s)) ≡ false
        → cond t (kept_met l s v all rest) (suc rest) ≡ suc rest
    go true (holds w) s e = absurd (true≢false e)
    go true lacks (holds u) e = absurd (true≢false e)
    go true lacks lacks e = refl
    go false l s e = refl

spared_first : (x : Ref) (refs : List Ref) (a v : ℕ)
    → kept_younger a v (x ∷ refs) ≡ kept_from (fate_of x) a v (length refs) (kept_younger a v refs)
unfolding kept_younger
spared_first (ref n f) refs a v = refl

-- the references from position q on
pub spared_next : (refs : List Ref) (q a v : ℕ) → q < length refs
    → kept_younger a v (drop q refs)
    ≡ kept_from (fate_of (at refs q)) a v (length (drop (suc q) refs)) (kept_younger a v (drop (suc q) refs))
spared_next refs q a v h = ap (kept_younger a v) (drop-cons refs q blank h) ∙ spared_first (at refs q) (drop (suc q) refs) a v

-- nothing is left from the end on
spared_end : (refs : List Ref) (a v : ℕ) → kept_younger a v (drop (length refs) refs) ≡ 0
unfolding kept_younger
spared_end refs a v = ap (kept_younger a v) (drop-length refs)

-- the references from p up to q neither loaded from the address nor stored there
pub spared_skip : (refs : List Ref) (p q a v : ℕ) → p ≤ q → q ≤ length refs
    → ((k : ℕ) → p ≤ k → k < q → reaches a (fate_of (at refs k)) ≡ false)
    → p + kept_younger a v (drop p refs) ≡ q + kept_younger a v (drop q refs)
spared_skip refs p zero a v h l none = ap (λ (k : ℕ). k + kept_younger a v (drop k refs)) (omega arith)
spared_skip refs p (suc q) a v h l none =
    ⊎_elim
    (λ (e : p ≡ suc q). ap (λ (k : ℕ). k + kept_younger a v (drop k refs)) e)
    (λ (m : p < suc q).
    let n : p ≤ q = omega arith in
    spared_skip refs p q a v n (omega arith) (λ k i j. none k i (omega arith))
    ∙ ap (λ (k : ℕ). q + k)
    (spared_next refs q a v l
    ∙ met_past (fate_of (at refs q)) a v (length (drop (suc q) refs)) (kept_younger a v (drop (suc q) refs))
    (none q n (le_refl (suc q))))
    ∙ omega arith)
    (eq-or-lt_of_le h)

-- no reference from p on did: all stay
pub spared_all : (refs : List Ref) (p a v : ℕ) → p ≤ length refs
    → ((k : ℕ) → p ≤ k → k < length refs → reaches a (fate_of (at refs k)) ≡ false)
    → p + kept_younger a v (drop p refs) ≡ length refs
spared_all refs p a v h none =
    spared_skip refs p (length refs) a v h (le_refl (length refs)) none ∙ omega (arith, spared_end refs a v)

untouched_at : (refs : List Ref) (a k : ℕ) → touched a refs ≡ false → k < length refs
    → touches a (fate_of (at refs k)) ≡ false
unfolding touched
untouched_at [] a k e h = absurd (not-suc-le-zero h)
untouched_at (ref n f ∷ refs) a zero e h = (neither (touches a f) (touched a refs) e).0
untouched_at (ref n f ∷ refs) a (suc k) e h =
    untouched_at refs a k (neither (touches a f) (touched a refs) e).1 (le_of_suc-le-suc h)

-- an address without a row: nothing to violate
pub untouched_checked : (P : State) (p a v : ℕ) → p < length P.refs → touched a P.refs ≡ false
    → kept_after_store P p a v ≡ length P.refs
untouched_checked P p a v h e =
    spared_all P.refs (suc p) a v h
    (λ k l m. untouched_reaches (fate_of (at P.refs k)) a (untouched_at P.refs a k e m))

module _ (t : Table) (rules : Rules t) (a r k : ℕ) (own : RowFor t a r k) where
  -- row q bears the mark of the stage: its address is a exactly where row r bears that mark
  same_row : (q p : ℕ) → q < rows_in t.banks → p < k → mark t q (stage_of t p) ≡ true
      → eqb (address t q) a ≡ mark t r (stage_of t p)
  same_row q p l h m = go (mark t r (stage_of t p)) refl
    where
      go : (b : Bool) → mark t r (stage_of t p) ≡ b → eqb (address t q) a ≡ b
      go true e =
          eq-eqb (address t q) a
          (ap (address t) (rules.one_row q r (stage_of t p) l own.row m e) ∙ own.own p h e)
      go false e =
          ne_eqb (address t q) a
          (λ i. true≢false (sym m ∙ ap (λ (j : ℕ). mark t j (stage_of t p)) (own.only q p l h m i) ∙ e))

  -- a reference has executed to the address where the address's row bears a mark at its stage
  pub touches_mark : (p : ℕ) → p < k → touches a (fate_at t (stage_of t p)) ≡ mark t r (stage_of t p)
  touches_mark p h = go (fated t (stage_of t p))
    where
      none : (b : Bool) → (b ≡ true → ⊥) → false ≡ b
      none true e = absurd (e refl)
      none false e = refl

      go : Fated t (stage_of t p) → touches a (fate_at t (stage_of t p)) ≡ mark t r (stage_of t p)
      go (waits e) =
          ap (touches a) (fate_waiting t rules (stage_of t p) e)
          ∙ none (mark t r (stage_of t p)) (λ m. true≢false (sym (rules.executed r (stage_of t p) own.row m) ∙ e))
      go (bare e m) = ap (touches a) (fate_other t rules (stage_of t p) e m) ∙ sym (m r own.row)
      go (marks q l e) = ap (touches a) (fate_marked t rules q (stage_of t p) l e) ∙ same_row q p l h e

-- what stays of a store of v where the first mark younger than it is at position m
abbrev leaving : Table → ℕ → ℕ → ℕ → ℕ
leaving t r v m =
    cond (ltb m t.live && (load_mark t r (stage_of t m) && not (eqb (taken t (stage_of t m)) v))) m t.live

-- the row's marks by position
abbrev row_marks : Table → ℕ → ℕ → Bool
row_marks t r = marked t.oldest t.stages (bit_or (get_or t.loads r 0) (get_or t.stores r 0))

module _ (t : Table) (rules : Rules t) (a v r : ℕ) (own : RowFor t a r t.live) where
  -- the marks decide
  met_marked : (q all rest : ℕ) → q < t.live → mark t r (stage_of t q) ≡ true
      → kept_from (fate_at t (stage_of t q)) a v all rest
      ≡ kept_met (word_if (load_mark t r (stage_of t q)) (taken t (stage_of t q)))
      (word_if (store_mark t r (stage_of t q)) (value t (stage_of t q))) v all rest
  met_marked q all rest h m =
      ap (λ (f : Fate). kept_from f a v all rest) (fate_marked t rules r (stage_of t q) own.row m)
      ∙ ap
      (λ (b : Bool). cond b
      (kept_met (word_if (load_mark t r (stage_of t q)) (taken t (stage_of t q)))
      (word_if (store_mark t r (stage_of t q)) (value t (stage_of t q))) v all rest)
      (suc rest))
      (eq-eqb (address t r) a (own.own q h m))

  -- a load is met first: its word decides
  met_load : (q all rest : ℕ) → q < t.live → load_mark t r (stage_of t q) ≡ true
      → kept_from (fate_at t (stage_of t q)) a v all rest ≡ cond (eqb (taken t (stage_of t q)) v) (suc all) 0
  met_load q all rest h e =
      met_marked q all rest h (mark_load t r (stage_of t q) e)
      ∙ ap
      (λ (l : Bool). kept_met (word_if l (taken t (stage_of t q)))
      (word_if (store_mark t r (stage_of t q)) (value t (stage_of t q))) v all rest) e

  met_store : (q all rest : ℕ) → q < t.live → load_mark t r (stage_of t q) ≡ false → store_mark t r (stage_of t q) ≡ true
      → kept_from (fate_at t (stage_of t q)) a v all rest ≡ suc all
  met_store q all rest h e d =
      met_marked q all rest h (mark_store t r (stage_of t q) d)
      ∙ ap₂ (λ (l w : Bool). kept_met (word_if l (taken t (stage_of t q))) (word_if w (value t (stage_of t q))) v all rest) e d

  -- the search and the walk at position q: m is where the search stops above it, `all` references are younger
  meet : (q m all rest : ℕ) → q < t.live → suc q + all ≡ t.live → leaving t r v m ≡ suc q + rest
      → (b c : Bool) → load_mark t r (stage_of t q) ≡ b → store_mark t r (stage_of t q) ≡ c
      → leaving t r v (cond (b || c) q m) ≡ q + kept_from (fate_at t (stage_of t q)) a v all rest
  meet q m all rest h l on true c e d =
      ap₂ (λ (b c : Bool). cond (b && (c && not (eqb (taken t (stage_of t q)) v))) q t.live) (lt-ltb q t.live h) e
      ∙ by_word (eqb (taken t (stage_of t q)) v)
      ∙ ap (λ (k : ℕ). q + k) (sym (met_load q all rest h e))
    where
      by_word : (same : Bool) → cond (not same) q t.live ≡ q + cond same (suc all) 0
      by_word true = omega arith
      by_word false = omega arith
  meet q m all rest h l on false true e d =
      ap₂ (λ (b c : Bool). cond (b && (c && not (eqb (taken t (stage_of t q)) v))) q t.live) (lt-ltb q t.live h) e
      ∙ omega (arith, met_store q all rest h e d)
  meet q m all rest h l on false false e d =
      on
      ∙ omega (
        arith,
        met_past (fate_at t (stage_of t q)) a v all rest
            (untouched_reaches (fate_at t (stage_of t q)) a
            (touches_mark t rules a r t.live own q h ∙ ap₂ ◌||◌ e d)),
      )

  walk : (k q : ℕ) → q + k ≡ t.live
      → leaving t r v (seek (row_marks t r) k q) ≡ q + kept_younger a v (drop q (view t).refs)
  unfolding seek
  walk zero q h =
      let e : q ≡ length (view t).refs = omega (arith, length_refs t) in
      ap (λ (b : Bool). cond (b && (load_mark t r (stage_of t q) && not (eqb (taken t (stage_of t q)) v))) q t.live)
      (le-ltb q t.live (omega arith))
      ∙ omega (arith, ap (λ (j : ℕ). kept_younger a v (drop j (view t).refs)) e ∙ spared_end (view t).refs a v)
  walk (suc k) q h =
      let n : q < t.live = omega arith in
      let younger = length (drop (suc q) (view t).refs) in
      let rest = kept_younger a v (drop (suc q) (view t).refs) in
      ap (λ (b : Bool). leaving t r v (cond b q (seek (row_marks t r) k (suc q))))
      (has_or (get_or t.loads r 0) (get_or t.stores r 0) (stage_of t q))
      ∙ meet q (seek (row_marks t r) k (suc q)) younger rest n
      (omega (arith, length-drop (suc q) (view t).refs, length_refs t)) (walk k (suc q) (omega arith))
      (load_mark t r (stage_of t q)) (store_mark t r (stage_of t q)) refl refl
      ∙ ap (λ (x : Ref). q + kept_from (fate_of x) a v younger rest) (sym (at_refs t q n))
      ∙ ap (λ (j : ℕ). q + j) (sym (spared_next (view t).refs q a v (omega (arith, length_refs t))))

pub violates_checked : (t : Table) → Rules t → (a v r p : ℕ) → p < t.live → RowFor t a r t.live
    → violation_point t.oldest t.stages t.live (get_or t.loads r 0) (get_or t.stores r 0) t.taken p v
    ≡ kept_after_store (view t) p a v
violates_checked t rules a v r p h own = walk t rules a v r own (t.live - suc p) (suc p) (omega arith)

-- ---- how many stay

met_le : (f : Fate) (a v all rest : ℕ) → rest ≤ all → kept_from f a v all rest ≤ suc all
met_le waiting a v all rest h = suc-le-suc h
met_le other a v all rest h = suc-le-suc h
met_le (accessed b l s) a v all rest h = go (eqb b a) l s
  where
    same : (t : Bool) → cond t (suc all) 0 ≤ suc all
    same true = le_refl (suc all)
    same false = zero-le

    go : (t : Bool) (l s : Side) → cond t (kept_met l s v all rest) (suc rest) ≤ suc all
    go true (holds w) s = same (eqb w v)
    go true lacks (holds u) = le_refl (suc all)
    go true lacks lacks = suc-le-suc h
    go false l s = suc-le-suc h

spared_le : (refs : List Ref) (a v : ℕ) → kept_younger a v refs ≤ length refs
unfolding kept_younger
spared_le [] a v = zero-le
spared_le (ref n f ∷ refs) a v = met_le f a v (length refs) (kept_younger a v refs) (spared_le refs a v)

-- the store itself stays, and no more than all do
pub checked_after : (P : State) (p a v : ℕ) → p < length P.refs
    → (p < kept_after_store P p a v) × (kept_after_store P p a v ≤ length P.refs)
checked_after P p a v h =
    (omega arith, omega (arith, spared_le (drop (suc p) P.refs) a v, length-drop (suc p) P.refs))
