-- The window narrowed: squash and commit. The k references from position f on stay, with their marks: a mark word keeps
-- the stages of the new window, so each mark left is one of the old table's (narrowed_fewer) and lies in the new window,
-- and at a stage of the window nothing changes (narrowed_ref). A cut is the narrowing from position 0 on, or changes
-- nothing (cut_narrows, cut_none); commit is the narrowing to all but the first. Assumes nothing.
use mathlib.Core.Bool.{Bool, true, false, cond}
use mathlib.Core.List.{List}
use mathlib.Core.Logic.{⊎_elim}
use mathlib.Core.Path.{◌≡◌, refl, sym, ap, ap₂, subst, ◌∙◌}
use Prim.Native.Nat.{ℕ, ◌+◌, ◌-◌, ◌≤◌, ◌<◌}
use native.Mathlib.Omega.{arith}
use lib.Dec.{ltb}
use lib.ListN.{length, get_or, take, drop, length-drop}
use lib.Seq.{take_all}
use borrow.Author.Tests.{ltb-true, ltb-false, lt-ltb}
use Rattle.marks.specs.Circle.{stage, position, firsts}
use Rattle.marks.specs.Stages.{has}
use Rattle.marks.proofs.Turns.{stage_zero, stage_lt, stage_from, firsts_has, firsts_at}
use Rattle.table.specs.declared.Table.{Table}
use Rattle.table.specs.Limits.{rows_in}
use Rattle.table.specs.Moves.{windowed, squash_to, retire}
use Rattle.table.specs.Reference.{ref}
use Rattle.table.specs.Rules.{Rules}
use Rattle.table.specs.View.{stage_of, mark, fate_at, ref_at, view}
use Rattle.table.proofs.Fates.{mark_kind_lem, fates_same, length_refs}
use Rattle.table.proofs.Lists.{tabulate_same, tabulate_window}
use Rattle.table.proofs.Owning.{RowFor}
use Rattle.engine.specs.Computed.Steps.{within, narrowed, cut}
use Rattle.engine.proofs.Fewer.{Fewer, fewer_marks, fewer_rules}
use Rattle.table.specs.Fits.{Lengths}
use Rattle.engine.proofs.Reaching.{within_length, within_has, within_same}

narrowed_fewer : (t : Table) (o k : ℕ) → Fewer t (narrowed t o k)
narrowed_fewer t o k =
    let all = rows_in t.banks in
    let stay = firsts o t.stages k in
    record {
      banks = refl;
      rows = refl;
      addresses = refl;
      loads = λ r s h m. (within_has all t.loads stay r s h m).0;
      stores = λ r s h m. (within_has all t.stores stay r s h m).0;
    }

-- a mark that is left lies in the window
narrowed_has : (t : Table) (o k r s : ℕ) → r < rows_in t.banks → mark (narrowed t o k) r s ≡ true
    → has (firsts o t.stages k) s ≡ true
narrowed_has t o k r s h m =
    let all = rows_in t.banks in
    let stay = firsts o t.stages k in
    ⊎_elim (λ l. (within_has all t.loads stay r s h l).1) (λ l. (within_has all t.stores stay r s h l).1)
    (mark_kind_lem (narrowed t o k) r s m)

module _ (t : Table) (rules : Rules t) (f k : ℕ) (h : f + k ≤ t.live) where
  pub narrowed_rules : Rules (narrowed t (stage_of t f) k)
  narrowed_rules =
      let o = stage_of t f in
      let room : t.live ≤ t.stages = rules.live_bounded in
      let start : o < t.stages = stage_lt t.oldest t.stages rules.start f (omega arith) in
      let old = fewer_marks t (narrowed t o k) (narrowed_fewer t o k) in
      fewer_rules t (narrowed t o k) rules (narrowed_fewer t o k) rules.sizes (omega arith) start
      (λ r s b m.
      let below : s < t.stages = (rules.live r s b (old r s b m)).stage in
      record {
        stage = below;
        position = ltb-true (position o t.stages s) k
            (sym (firsts_has o t.stages start k s (omega arith) below) ∙ narrowed_has t o k r s b m);
      })
      (λ r s b m. rules.executed r s b (old r s b m))

  -- a reference that stays is the one that was f positions further on
  narrowed_ref : (p : ℕ) → p < k → ref_at (narrowed t (stage_of t f) k) p ≡ ref_at t (f + p)
  narrowed_ref p l =
      let o = stage_of t f in
      let n = t.stages in
      let room : t.live ≤ n = rules.live_bounded in
      let start : o < n = stage_lt t.oldest n rules.start f (omega arith) in
      let s = stage o n p in
      let stays : has (firsts o n k) s ≡ true = firsts_at o n start k p (omega arith) (omega arith) ∙ lt-ltb p k l in
      ap (ref (get_or t.numbers s 0))
      (fates_same t (narrowed t o k) s refl refl
      (λ r b. within_same (rows_in t.banks) t.loads (firsts o n k) r s b stays)
      (λ r b. within_same (rows_in t.banks) t.stores (firsts o n k) r s b stays)
      (λ r b m. refl) (λ r b m. refl) (λ r b m. refl))
      ∙ ap (λ (u : ℕ). ref (get_or t.numbers u 0) (fate_at t u)) (stage_from t.oldest n rules.start f p (omega arith))

  pub narrowed_view : (view (narrowed t (stage_of t f) k)).refs ≡ take k (drop f (view t).refs)
  narrowed_view =
      tabulate_same (ref_at (narrowed t (stage_of t f) k)) (λ (p : ℕ). ref_at t (f + p)) k narrowed_ref
      ∙ sym (tabulate_window (ref_at t) t.live f k h)

-- a cut that drops references is the narrowing from position 0 on
cut_narrows : (t : Table) → Rules t → (left : ℕ) → ltb left t.live ≡ true → cut t left ≡ narrowed t (stage_of t 0) left
cut_narrows t rules left e = rw (e, stage_zero t.oldest t.stages rules.start)

-- one that drops none changes nothing
cut_none : (t : Table) (left : ℕ) → left ≤ t.live → ltb left t.live ≡ false → cut t left ≡ t
cut_none t left h e =
    let same : left ≡ t.live = omega (arith, ltb-false left t.live e) in
    rw (e, same)

module _ (t : Table) (rules : Rules t) (left : ℕ) (h : left ≤ t.live) where
  pub cut_rules : Rules (cut t left)
  cut_rules = go (ltb left t.live) refl
    where
      go : (b : Bool) → ltb left t.live ≡ b → Rules (cut t left)
      go true e = subst Rules (sym (cut_narrows t rules left e)) (narrowed_rules t rules 0 left (omega arith))
      go false e = subst Rules (sym (cut_none t left h e)) rules

  pub cut_view : view (cut t left) ≡ squash_to (view t) left
  cut_view = go (ltb left t.live) refl
    where
      go : (b : Bool) → ltb left t.live ≡ b → view (cut t left) ≡ squash_to (view t) left
      go true e =
          ap view (cut_narrows t rules left e)
          ∙ ap₂ (windowed (view t)) (stage_zero t.oldest t.stages rules.start)
          (narrowed_view t rules 0 left (omega arith))
      go false e =
          let all : length (view t).refs ≤ left = omega (arith, length_refs t, ltb-false left t.live e) in
          ap view (cut_none t left h e) ∙ ap (windowed (view t) t.oldest) (sym (take_all left (view t).refs all))

pub cut_lengths : (t : Table) → Lengths t → (left : ℕ) → Lengths (cut t left)
cut_lengths t lengths left =
    record {
      numbers = lengths.numbers;
      addresses = lengths.addresses;
      loads = same t.loads (ltb left t.live) ∙ lengths.loads;
      stores = same t.stores (ltb left t.live) ∙ lengths.stores;
      values = lengths.values;
      taken = lengths.taken;
    }
  where
    same : (words : List ℕ) (b : Bool)
        → length (cond b (within (rows_in t.banks) words (firsts t.oldest t.stages left)) words) ≡ length words
    same words true = within_length (rows_in t.banks) words (firsts t.oldest t.stages left)
    same words false = refl

pub cut_row : (t : Table) → Rules t → (left a r : ℕ) → left ≤ t.live → RowFor t a r left → RowFor (cut t left) a r left
cut_row t rules left a r h f =
    record {
      row = f.row;
      in_bank = f.in_bank;
      in_rows = f.in_rows;
      own = λ p l m. f.own p l (old r (stage_of t p) f.row m);
      only = λ q p b l m. f.only q p b l (old q (stage_of t p) b m);
    }
  where
    old : (q s : ℕ) → q < rows_in t.banks → mark (cut t left) q s ≡ true → mark t q s ≡ true
    old q s b m = go (ltb left t.live) refl
      where
        go : (c : Bool) → ltb left t.live ≡ c → mark t q s ≡ true
        go true e =
            fewer_marks t (narrowed t (stage_of t 0) left) (narrowed_fewer t (stage_of t 0) left) q s b
            (subst (λ (u : Table). mark u q s ≡ true) (cut_narrows t rules left e) m)
        go false e = subst (λ (u : Table). mark u q s ≡ true) (cut_none t left h e) m

pub retire_rules : (t : Table) → Rules t → 0 < t.live → Rules (narrowed t (stage_of t 1) (t.live - 1))
retire_rules t rules h = narrowed_rules t rules 1 (t.live - 1) (omega arith)

pub retire_view : (t : Table) → Rules t → 0 < t.live → view (narrowed t (stage_of t 1) (t.live - 1)) ≡ retire (view t)
retire_view t rules h =
    let rest = drop 1 (view t).refs in
    let few : length rest ≤ t.live - 1 = omega (arith, length-drop 1 (view t).refs, length_refs t) in
    ap (windowed (view t) (stage_of t 1))
    (narrowed_view t rules 1 (t.live - 1) (omega arith) ∙ take_all (t.live - 1) rest few)
