-- Two tables that keep the rules have one view exactly when they count as equal.
-- Where they count as equal, a live stage has its marks in rows of one address, or none in either table, so its fates agree.
-- Where they have one view, the fates of live stages agree, and marks lie on no others. So what a row's marks say of a stage
-- is said in the other table by a row of its address (row_there); and since no address has two rows, all marks of a row are
-- marks of one row there (said_over). Both ways are one law (row_over), used twice.
-- Assumes nothing.
use mathlib.Core.Bool.{Bool, true, false, ◌||◌, true≢false, not-eq-not}
use mathlib.Core.Path.{◌≡◌, refl, sym, ap, ap₂, subst, ◌∙◌}
use Prim.Native.Nat.{ℕ, ◌<◌}
use native.Mathlib.Omega.{arith}
use lib.ListN.{length, get_or}
use Rattle.marks.specs.Circle.{stage, position}
use Rattle.marks.specs.Stages.{has}
use Rattle.marks.proofs.Turns.{stage_lt, position_stage, stage_position}
use Rattle.table.specs.declared.Table.{Table}
use Rattle.table.specs.Limits.{rows_in}
use Rattle.table.specs.Bank.{bank}
use Rattle.table.specs.Reference.{Side, Fate, waiting, other, accessed, ref, number_of, fate_of, at, State}
use Rattle.table.specs.Rules.{Live, Rules}
use Rattle.table.specs.Same.{SameRow, Same}
use Rattle.table.specs.View.{stage_of, address, load_mark, store_mark, mark, value, taken, word_if, access, fate_at, ref_at}
use Rattle.table.specs.View.{tabulate, view}
use Rattle.table.proofs.Lists.{tabulate_same}
use Rattle.table.proofs.Fates.{no_load, no_store, access_same, Fated, waits, bare, marks, fated}
use Rattle.table.proofs.Fates.{fate_marked, fate_other, fate_waiting, length_refs, at_refs}

module _ (t u : Table) (rules : Rules t) (rules' : Rules u) (same : Same t u) where
  -- a row of u has no mark where none of t has one
  bare_over : (s : ℕ) → ((r : ℕ) → r < rows_in t.banks → mark t r s ≡ false)
      → (r : ℕ) → r < rows_in u.banks → mark u r s ≡ false
  bare_over s none r h =
      not-eq-not.0
      (λ e.
      let w = same.back r s h e in
      true≢false (sym (ap₂ ◌||◌ (w.1.loads s) (w.1.stores s) ∙ e) ∙ none w.0 w.1.row))

  same_fate : (s : ℕ) → Live t s → fate_at u s ≡ fate_at t s
  same_fate s live = go (fated t s)
    where
      go : Fated t s → fate_at u s ≡ fate_at t s
      go (waits e) = fate_waiting u rules' s (same.executed s live ∙ e) ∙ sym (fate_waiting t rules s e)
      go (bare e none) =
          fate_other u rules' s (same.executed s live ∙ e) (bare_over s none) ∙ sym (fate_other t rules s e none)
      go (marks r h m) =
          let (q, w) = same.there r s h m in
          fate_marked u rules' q s w.row (ap₂ ◌||◌ (w.loads s) (w.stores s) ∙ m)
          ∙ access_same t u r q s w.address (w.loads s) (w.stores s) (w.values s) (w.taken s)
          ∙ sym (fate_marked t rules r s h m)

  same_ref : (p : ℕ) → p < t.live → ref_at u p ≡ ref_at t p
  same_ref p h =
      let room = rules.live_bounded in
      let s = stage_of t p in
      let live : Live t s =
      record {
        stage = stage_lt t.oldest t.stages rules.start p (omega arith);
        position =
            subst (λ (k : ℕ). k < t.live)
            (sym (position_stage t.oldest t.stages rules.start p (omega arith))) h;
      }
      in
      ap (λ (k : ℕ). ref (get_or u.numbers k 0) (fate_at u k))
      (ap₂ (λ (o n : ℕ). stage o n p) same.oldest same.stages)
      ∙ ap₂ ref (same.numbers s live) (same_fate s live)

pub same_view : (t u : Table) → Rules t → Rules u → Same t u → view u ≡ view t
same_view t u rules rules' same =
    let refs : tabulate (ref_at u) u.live ≡ tabulate (ref_at t) t.live =
    ap (tabulate (ref_at u)) same.live
    ∙ tabulate_same (ref_at u) (ref_at t) t.live (same_ref t u rules rules' same)
    in
    λ i. record {
      banks = same.banks i;
      rows = same.rows i;
      stages = same.stages i;
      words = same.words i;
      oldest = same.oldest i;
      next = same.next i;
      refs = refs i;
    }

impossible : {A : Type 0} → ◌≡◌ {A = ℕ} 0 1 → A
impossible e = absurd (omega arith)

-- the word of a mark tells the mark
side_tells : (st of : Bool) (v w : ℕ) → word_if st v ≡ word_if of w → (st ≡ of) × (of ≡ true → v ≡ w)
side_tells true true v w e = (refl, λ _. cc e)
side_tells true false v w e = impossible (cc e)
side_tells false true v w e = impossible (cc e)
side_tells false false v w e = (refl, λ m. absurd (true≢false (sym m)))

-- the reference has executed
abbrev ran : Fate → Bool
ran waiting = false
ran other = true
ran (accessed a l s) = true

module _ (t : Table) (rules : Rules t) (s : ℕ) where
  fate_ran : ran (fate_at t s) ≡ has t.executed s
  fate_ran = go (fated t s)
    where
      go : Fated t s → ran (fate_at t s) ≡ has t.executed s
      go (waits e) = ap ran (fate_waiting t rules s e) ∙ sym e
      go (bare e none) = ap ran (fate_other t rules s e none) ∙ sym e
      go (marks r h m) = ap ran (fate_marked t rules r s h m) ∙ sym (rules.executed r s h m)

  -- the row that says so of a stage
  said : (a : ℕ) (l w : Side) → fate_at t s ≡ accessed a l w
      → (r : ℕ) × (r < rows_in t.banks) × (mark t r s ≡ true) × (access t r s ≡ accessed a l w)
  said a l w f = go (fated t s)
    where
      go : Fated t s → (r : ℕ) × (r < rows_in t.banks) × (mark t r s ≡ true) × (access t r s ≡ accessed a l w)
      go (waits e) = impossible (cc (fate_waiting t rules s e))
      go (bare e none) = impossible (cc (fate_other t rules s e none))
      go (marks r h m) = (r, h, m, sym (fate_marked t rules r s h m) ∙ f)

module _ (t u : Table) (rules : Rules t) (rules' : Rules u) (one : view u ≡ view t) where
  live_over : u.live ≡ t.live
  live_over = sym (length_refs u) ∙ ap (λ (P : State). length P.refs) one ∙ length_refs t

  -- at a live stage, what the view shows of it
  ref_over : (s : ℕ) → Live t s → ref (get_or u.numbers s 0) (fate_at u s) ≡ ref (get_or t.numbers s 0) (fate_at t s)
  ref_over s live =
      let p = position t.oldest t.stages s in
      let b : p < u.live = subst (λ (k : ℕ). p < k) (sym live_over) live.position in
      let here : stage_of t p ≡ s = stage_position t.oldest t.stages rules.start s live.stage in
      let there : stage_of u p ≡ s =
      ap (λ (P : State). stage P.oldest P.stages p) one ∙ here
      in
      ap (λ (k : ℕ). ref (get_or u.numbers k 0) (fate_at u k)) (sym there)
      ∙ sym (at_refs u p b) ∙ ap (λ (P : State). at P.refs p) one ∙ at_refs t p live.position
      ∙ ap (λ (k : ℕ). ref (get_or t.numbers k 0) (fate_at t k)) here

  fate_over : (s : ℕ) → Live t s → fate_at u s ≡ fate_at t s
  fate_over s live = ap fate_of (ref_over s live)

  executed_over : (s : ℕ) → Live t s → has u.executed s ≡ has t.executed s
  executed_over s live = sym (fate_ran u rules' s) ∙ ap ran (fate_over s live) ∙ fate_ran t rules s

  -- what row r of t says of a stage, a row of u says
  row_there : (r s : ℕ) → r < rows_in t.banks → mark t r s ≡ true
      → (q : ℕ) × (q < rows_in u.banks) × (mark u q s ≡ true) × (access u q s ≡ access t r s)
  row_there r s h m =
      said u rules' s (address t r) (word_if (load_mark t r s) (taken t s)) (word_if (store_mark t r s) (value t s))
      (fate_over s (rules.live r s h m) ∙ fate_marked t rules r s h m)

  -- and it is row q, where that has a mark and r's address
  said_over : (r q v s : ℕ) → r < rows_in t.banks → q < rows_in u.banks → mark u q v ≡ true
      → address u q ≡ address t r
      → mark t r s ≡ true → (mark u q s ≡ true) × (access u q s ≡ access t r s)
  said_over r q v s h l n a m =
      let w = row_there r s h m in
      let here : address u w.0 ≡ address t r = cc w.3 in
      let e : w.0 ≡ q = rules'.one_address w.0 q s v w.1 l w.2 n (here ∙ sym a) in
      (ap (λ (k : ℕ). mark u k s) (sym e) ∙ w.2, ap (λ (k : ℕ). access u k s) (sym e) ∙ w.3)

row_over : (t u : Table) → Rules t → Rules u → view u ≡ view t → (r s : ℕ) → r < rows_in t.banks → mark t r s ≡ true
    → (q : ℕ) × SameRow t u r q
row_over t u rules rules' one r s h m =
    let (q, l, n, e) = row_there t u rules rules' one r s h m in
    let a : address u q ≡ address t r = cc e in (
      q,
      record {
        row = l;
        bank =
            rules'.in_bank q s l n ∙ ap₂ bank (ap (λ (P : State). P.banks) one) a ∙ sym (rules.in_bank r s h m);
        address = a;
        loads = λ k. (alike q l n a k).0;
        stores = λ k. (alike q l n a k).1;
        values = λ k. (alike q l n a k).2;
        taken = λ k. (alike q l n a k).3;
      },
    )
  where
    -- rows of one address bear the same marks, with the same words
    alike : (q : ℕ) → q < rows_in u.banks → mark u q s ≡ true → address u q ≡ address t r → (k : ℕ)
        → (load_mark u q k ≡ load_mark t r k) × (store_mark u q k ≡ store_mark t r k)
        × (store_mark t r k ≡ true → value u k ≡ value t k) × (load_mark t r k ≡ true → taken u k ≡ taken t k)
    alike q l n a k = go (mark t r k) refl (mark u q k) refl
      where
        go : (b : Bool) → mark t r k ≡ b → (c : Bool) → mark u q k ≡ c
            → (load_mark u q k ≡ load_mark t r k) × (store_mark u q k ≡ store_mark t r k)
            × (store_mark t r k ≡ true → value u k ≡ value t k) × (load_mark t r k ≡ true → taken u k ≡ taken t k)
        go true e c f =
            let w = (said_over t u rules rules' one r q s k h l n a e).1 in
            let store : word_if (store_mark u q k) (value u k) ≡ word_if (store_mark t r k) (value t k) = cc w in
            let load : word_if (load_mark u q k) (taken u k) ≡ word_if (load_mark t r k) (taken t k) = cc w in
            let stored = side_tells (store_mark u q k) (store_mark t r k) (value u k) (value t k) store in
            let loaded = side_tells (load_mark u q k) (load_mark t r k) (taken u k) (taken t k) load in
            (loaded.0, stored.0, stored.1, loaded.1)
        go false e true f = absurd (true≢false (sym (said_over u t rules' rules (sym one) q r s k l h m (sym a) f).0 ∙ e))
        go false e false f = (
          no_load u q k f ∙ sym (no_load t r k e),
          no_store u q k f ∙ sym (no_store t r k e),
          λ x. absurd (true≢false (sym x ∙ no_store t r k e)),
          λ x. absurd (true≢false (sym x ∙ no_load t r k e)),
        )

pub view_same : (t u : Table) → Rules t → Rules u → view u ≡ view t → Same t u
view_same t u rules rules' one =
    record {
      banks = ap (λ (P : State). P.banks) one;
      rows = ap (λ (P : State). P.rows) one;
      stages = ap (λ (P : State). P.stages) one;
      words = ap (λ (P : State). P.words) one;
      oldest = ap (λ (P : State). P.oldest) one;
      live = live_over t u rules rules' one;
      next = ap (λ (P : State). P.next) one;
      numbers = λ s live. ap number_of (ref_over t u rules rules' one s live);
      executed = executed_over t u rules rules' one;
      there = row_over t u rules rules' one;
      back = row_over u t rules' rules (sym one);
    }
