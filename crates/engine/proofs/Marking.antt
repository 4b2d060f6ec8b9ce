-- A reference that executes: what it marks. `executing` is the table with its stage s executed and some arrays changed;
-- other references and accesses of a word are instances. A stage that has not executed bears no mark (idle_bare). Where the
-- marks change at s alone, and there in row r alone (Gains), and r is a's row (RowFor), the rules stay: at s the only mark
-- is r's, at another stage everything is as it was, and another row has another address than a (marked_rules). The
-- reference has the fate that its mark says, and no other fate changes, since a mark of another reference in r was of
-- address a before, too (marked_view). Assumes nothing.
use mathlib.Core.Bool.{Bool, true, false, ◌||◌, true≢false, or-true, or-false}
use mathlib.Core.List.{List}
use mathlib.Core.Logic.{◌⊎◌, inl, inr, ⊎_elim}
use mathlib.Core.Path.{◌≡◌, refl, sym, ap, ap₂, subst, ◌∙◌}
use Prim.Native.Nat.{ℕ, ◌^◌, ◌≤◌, ◌<◌}
use native.Mathlib.Nat.{le_of_lt}
use native.Mathlib.Omega.{arith}
use lib.Bits.{bit_or}
use lib.Dec.{eqb}
use lib.ListN.{length, get_or, set}
use lib.Seq.{get_or-set_same, get_or-set_other}
use borrow.Author.Tests.{eqb-true, eqb-false, eq-eqb, ne_eqb}
use Rattle.marks.specs.Stages.{has}
use Rattle.marks.proofs.Sets.{has_or, has_one}
use Rattle.marks.proofs.Turns.{stage_lt, position_stage, stage_injective}
use Rattle.table.specs.declared.Table.{Table}
use Rattle.table.specs.Limits.{stages_most, rows_in}
use Rattle.table.specs.Moves.{windowed, with_fate}
use Rattle.table.specs.Reference.{Fate, other, accessed, ref, number_of, at}
use Rattle.table.specs.Rules.{Live, Rules}
use Rattle.table.specs.View.{stage_of, address, load_mark, store_mark, mark, value, taken, word_if, fate_at, ref_at}
use Rattle.table.specs.View.{view}
use Rattle.table.proofs.Fates.{mark_kind_lem, no_load, no_store, side_same, fates_same, fate_marked, fate_other, at_refs}
use Rattle.table.proofs.Lists.{tabulate_set}
use Rattle.table.proofs.Owning.{RowFor, row_small, row_of_mark, mark_position}
use Rattle.engine.specs.Computed.Steps.{executing, noted, with_stage, marking, keeping, access_marked}
use Rattle.engine.proofs.Fewer.{fewer_rules}
use Rattle.table.specs.Fits.{Lengths}
use Rattle.engine.proofs.Lengths.{stage_small}

-- a set with stage s more
more_here : (w s : ℕ) → has (bit_or w (2 ^ s)) s ≡ true
more_here w s = has_or w (2 ^ s) s ∙ ap (λ (b : Bool). has w s || b) (has_one s s ∙ eq-eqb s s refl) ∙ or-true (has w s)

more_other : (w s u : ℕ) → (u ≡ s → ⊥) → has (bit_or w (2 ^ s)) u ≡ has w u
more_other w s u h =
    has_or w (2 ^ s) u ∙ ap (λ (b : Bool). has w u || b) (has_one s u ∙ ne_eqb s u (λ e. h (sym e))) ∙ or-false (has w u)

more_had : (w s u : ℕ) → has w u ≡ true → has (bit_or w (2 ^ s)) u ≡ true
more_had w s u h = has_or w (2 ^ s) u ∙ ap (λ (b : Bool). b || has (2 ^ s) u) h

-- row r has the stage where it gains it
marking_here : (words : List ℕ) (on : Bool) (r s : ℕ) → r < length words → has (get_or words r 0) s ≡ false
    → has (get_or (marking words on r s) r 0) s ≡ on
marking_here words true r s h n =
    ap (λ (w : ℕ). has w s) (get_or-set_same words r (bit_or (get_or words r 0) (2 ^ s)) 0 h) ∙ more_here (get_or words r 0) s
marking_here words false r s h n = n

marking_other : (words : List ℕ) (on : Bool) (r s : ℕ) → r < length words
    → (q u : ℕ) → (u ≡ s → ⊥) → has (get_or (marking words on r s) q 0) u ≡ has (get_or words q 0) u
marking_other words false r s h q u d = refl
marking_other words true r s h q u d = go (eqb q r) refl
  where
    word : ℕ
    word = bit_or (get_or words r 0) (2 ^ s)

    go : (b : Bool) → eqb q r ≡ b → has (get_or (with_stage words r s) q 0) u ≡ has (get_or words q 0) u
    go true e =
        rw (eqb-true q r e)
        (ap (λ (w : ℕ). has w u) (get_or-set_same words r word 0 h) ∙ more_other (get_or words r 0) s u d)
    go false e = ap (λ (w : ℕ). has w u) (get_or-set_other words r q word 0 (eqb-false q r e))

-- no other row gains the stage
marking_row : (words : List ℕ) (on : Bool) (r s q : ℕ) → has (get_or words q 0) s ≡ false
    → has (get_or (marking words on r s) q 0) s ≡ true → q ≡ r
marking_row words false r s q n m = absurd (true≢false (sym m ∙ n))
marking_row words true r s q n m = go (eqb q r) refl
  where
    go : (b : Bool) → eqb q r ≡ b → q ≡ r
    go true e = eqb-true q r e
    go false e =
        let same = get_or-set_other words r q (bit_or (get_or words r 0) (2 ^ s)) 0 (eqb-false q r e) in
        absurd (true≢false (sym m ∙ ap (λ (w : ℕ). has w s) same ∙ n))

-- the word kept at its stage, and what stands at the others
keeping_here : (words : List ℕ) (on : Bool) (s v : ℕ) → s < length words → on ≡ true → get_or (keeping words on s v) s 0 ≡ v
keeping_here words true s v h e = get_or-set_same words s v 0 h
keeping_here words false s v h e = absurd (true≢false (sym e))

keeping_other : (words : List ℕ) (on : Bool) (s v u : ℕ) → (u ≡ s → ⊥) → get_or (keeping words on s v) u 0 ≡ get_or words u 0
keeping_other words true s v u d = get_or-set_other words s u v 0 d
keeping_other words false s v u d = refl

module _ (t : Table) (rules : Rules t) where
  idle_bare : (s : ℕ) → has t.executed s ≡ false → (r : ℕ) → r < rows_in t.banks → mark t r s ≡ false
  idle_bare s idle r h = go (mark t r s) refl
    where
      go : (b : Bool) → mark t r s ≡ b → b ≡ false
      go true m = absurd (true≢false (sym (rules.executed r s h m) ∙ idle))
      go false m = refl

  -- the view of a table in which the reference at position p executed, with the fate f
  executing_view : (p : ℕ) → p < t.live → (addresses loads stores values words : List ℕ) (f : Fate)
      → fate_at (executing t (stage_of t p) addresses loads stores values words) (stage_of t p) ≡ f
      → ((q : ℕ) → q < t.live → (stage_of t q ≡ stage_of t p → ⊥)
      → fate_at (executing t (stage_of t p) addresses loads stores values words) (stage_of t q) ≡ fate_at t (stage_of t q))
      → view (executing t (stage_of t p) addresses loads stores values words) ≡ with_fate (view t) p f
  executing_view p h addresses loads stores values words f here others =
      let u = executing t (stage_of t p) addresses loads stores values words in
      ap (windowed (view t) t.oldest)
      (sym
      (tabulate_set (ref_at t) (ref_at u) t.live p (ref (number_of (at (view t).refs p)) f) h
      (ap₂ ref (ap number_of (sym (at_refs t p h))) here)
      (λ q l d. ap (ref (get_or t.numbers (stage_of t q) 0)) (others q l (apart q l d)))))
    where
      apart : (q : ℕ) → q < t.live → (q ≡ p → ⊥) → stage_of t q ≡ stage_of t p → ⊥
      apart q l d e =
          let room : t.live ≤ t.stages = rules.live_bounded in
          d (stage_injective t.oldest t.stages rules.start q p (omega arith) (omega arith) e)

  pub noted_rules : (p : ℕ) → p < t.live → Rules (noted t (stage_of t p))
  noted_rules p h =
      fewer_rules t (noted t (stage_of t p)) rules
      (record { banks = refl; rows = refl; addresses = refl; loads = λ r s h m. m; stores = λ r s h m. m })
      rules.sizes rules.live_bounded rules.start
      (λ r s b m. let l = rules.live r s b m in record { stage = l.stage; position = l.position })
      (λ r s b m. more_had t.executed (stage_of t p) s (rules.executed r s b m))

  pub noted_view : (p : ℕ) → p < t.live → has t.executed (stage_of t p) ≡ false
      → view (noted t (stage_of t p)) ≡ with_fate (view t) p other
  noted_view p h idle =
      let s = stage_of t p in
      executing_view p h t.addresses t.loads t.stores t.values t.taken other
      (fate_other (noted t s) (noted_rules p h) s (more_here t.executed s) (idle_bare s idle))
      (λ q l d.
      fates_same t (noted t s) (stage_of t q) refl (more_other t.executed s (stage_of t q) d) (λ r b. refl) (λ r b. refl)
      (λ r b m. refl) (λ r b m. refl) (λ r b m. refl))

  -- a marked row of the address of row z is row z
  same_row : (z a q v : ℕ) → RowFor t a z t.live → q < rows_in t.banks → mark t q v ≡ true → address t q ≡ a → q ≡ z
  same_row z a q v row h m e =
      let place = mark_position t rules q v h m in
      row.only q place.0 h place.1 (subst (λ (x : ℕ). mark t q x ≡ true) (sym place.2) m) e

-- The marks are those of t but for stage s, which at most row r has; values and words taken are t's but for stage s.
record Gains (t : Table) (r s : ℕ) (loads stores values words : List ℕ) : Type 0 where
  load_else : (q u : ℕ) → (u ≡ s → ⊥) → has (get_or loads q 0) u ≡ load_mark t q u
  store_else : (q u : ℕ) → (u ≡ s → ⊥) → has (get_or stores q 0) u ≡ store_mark t q u
  load_row : (q : ℕ) → q < rows_in t.banks → has (get_or loads q 0) s ≡ true → q ≡ r
  store_row : (q : ℕ) → q < rows_in t.banks → has (get_or stores q 0) s ≡ true → q ≡ r
  value_else : (u : ℕ) → (u ≡ s → ⊥) → get_or values u 0 ≡ value t u
  taken_else : (u : ℕ) → (u ≡ s → ⊥) → get_or words u 0 ≡ taken t u

module _ (t : Table) (rules : Rules t) (lengths : Lengths t) (p a r : ℕ) (here : p < t.live) (row : RowFor t a r t.live)
    (loads stores values words : List ℕ) (gains : Gains t r (stage_of t p) loads stores values words) where
  -- the reference at position p executed and row r now address a's, with these marks, values and words taken
  abbrev after : Table
  after = executing t (stage_of t p) (set t.addresses r a) loads stores values words

  -- a mark is row r's at the new stage, or an old one at another
  mark_old : (q v : ℕ) → q < rows_in t.banks → mark after q v ≡ true
      → ((q ≡ r) × (v ≡ stage_of t p)) ⊎ ((v ≡ stage_of t p → ⊥) × (mark t q v ≡ true))
  mark_old q v h m = go (eqb v (stage_of t p)) refl
    where
      go : (b : Bool) → eqb v (stage_of t p) ≡ b
          → ((q ≡ r) × (v ≡ stage_of t p)) ⊎ ((v ≡ stage_of t p → ⊥) × (mark t q v ≡ true))
      go true e =
          let same : v ≡ stage_of t p = eqb-true v (stage_of t p) e in
          inl (
            ⊎_elim (gains.load_row q h) (gains.store_row q h)
                (mark_kind_lem after q (stage_of t p)
                (subst (λ (x : ℕ). mark after q x ≡ true) same m)),
            same,
          )
      go false e =
          let d = eqb-false v (stage_of t p) e in
          inr (d, sym (ap₂ ◌||◌ (gains.load_else q v d) (gains.store_else q v d)) ∙ m)

  address_here : address after r ≡ a
  address_here = get_or-set_same t.addresses r a 0 (omega (arith, row_small t rules r row.row, lengths.addresses))

  -- a row with an old mark keeps its address
  address_old : (q v : ℕ) → q < rows_in t.banks → mark t q v ≡ true → address after q ≡ address t q
  address_old q v h m = go (eqb q r) refl
    where
      go : (b : Bool) → eqb q r ≡ b → address after q ≡ address t q
      go true e =
          let place = mark_position t rules q v h m in
          let same : q ≡ r = eqb-true q r e in
          let mine = row.own place.0 place.1
          (subst (λ (x : ℕ). mark t x (stage_of t place.0) ≡ true) same
          (subst (λ (x : ℕ). mark t q x ≡ true) (sym place.2) m)) in
          ap (λ (x : ℕ). get_or (set t.addresses r a) x 0) same ∙ address_here ∙ sym mine ∙ ap (address t) (sym same)
      go false e = get_or-set_other t.addresses r q a 0 (eqb-false q r e)

  -- a marked row is its address's row
  row_of : (q v : ℕ) → q < rows_in t.banks → mark after q v ≡ true → RowFor t (address after q) q t.live
  row_of q v h m =
      ⊎_elim
      (λ w.
      subst (λ (x : ℕ). RowFor t (address after x) x t.live) (sym w.0)
      (subst (λ (x : ℕ). RowFor t x r t.live) (sym address_here) row))
      (λ w.
      subst (λ (x : ℕ). RowFor t x q t.live) (sym (address_old q v h w.1)) (row_of_mark t rules q v h w.1))
      (mark_old q v h m)

  live_here : Live after (stage_of t p)
  live_here =
      let room : t.live ≤ t.stages = rules.live_bounded in
      record {
        stage = stage_lt t.oldest t.stages rules.start p (omega arith);
        position = omega (arith, position_stage t.oldest t.stages rules.start p (omega arith));
      }

  marked_rules : Rules after
  marked_rules =
      record {
        sizes = rules.sizes;
        live_bounded = rules.live_bounded;
        start = rules.start;
        live = λ q v h m.
            ⊎_elim (λ w. subst (Live after) (sym w.1) live_here)
            (λ w. let l = rules.live q v h w.1 in record { stage = l.stage; position = l.position })
            (mark_old q v h m);
        executed = λ q v h m.
            ⊎_elim
            (λ w. subst (λ (x : ℕ). has after.executed x ≡ true) (sym w.1) (more_here t.executed (stage_of t p)))
            (λ w. more_had t.executed (stage_of t p) v (rules.executed q v h w.1))
            (mark_old q v h m);
        one_row = λ q z v h k l m.
            ⊎_elim
            (λ w. ⊎_elim (λ x. w.0 ∙ sym x.0) (λ x. absurd (x.0 w.1)) (mark_old z v k m))
            (λ w. ⊎_elim (λ x. absurd (w.0 x.1)) (λ x. rules.one_row q z v h k w.1 x.1) (mark_old z v k m))
            (mark_old q v h l);
        one_address = λ q z v x h k l m e.
            ⊎_elim
            (λ w.
            ⊎_elim (λ y. w.0 ∙ sym y.0)
            (λ y.
            sym (same_row t rules q (address after q) z x (row_of q v h l) k y.1
            (sym (address_old z x k y.1) ∙ sym e)))
            (mark_old z x k m))
            (λ w. same_row t rules z (address after z) q v (row_of z x k m) h w.1 (sym (address_old q v h w.1) ∙ e))
            (mark_old q v h l);
        in_bank = λ q v h m. (row_of q v h m).in_bank;
        in_rows = λ q v h m. (row_of q v h m).in_rows;
      }

  marked_view : (f : Fate) → fate_at after (stage_of t p) ≡ f → view after ≡ with_fate (view t) p f
  marked_view f e =
      executing_view t rules p here (set t.addresses r a) loads stores values words f e
      (λ q l d.
      fates_same t after (stage_of t q) refl (more_other t.executed (stage_of t p) (stage_of t q) d)
      (λ k b. gains.load_else k (stage_of t q) d) (λ k b. gains.store_else k (stage_of t q) d)
      (λ k b m. address_old k (stage_of t q) b m)
      (λ k b m. gains.value_else (stage_of t q) d) (λ k b m. gains.taken_else (stage_of t q) d))

module _ (t : Table) (rules : Rules t) (lengths : Lengths t) (p a r v w : ℕ) (here : p < t.live)
    (idle : has t.executed (stage_of t p) ≡ false) (row : RowFor t a r t.live) (load store : Bool) where
  abbrev loads : List ℕ
  loads = marking t.loads load r (stage_of t p)

  abbrev stores : List ℕ
  stores = marking t.stores store r (stage_of t p)

  abbrev values : List ℕ
  values = keeping t.values store (stage_of t p) v

  abbrev words : List ℕ
  words = keeping t.taken load (stage_of t p) w

  bare : (q : ℕ) → q < rows_in t.banks → mark t q (stage_of t p) ≡ false
  bare = idle_bare t rules (stage_of t p) idle

  load_here : has (get_or loads r 0) (stage_of t p) ≡ load
  load_here =
      marking_here t.loads load r (stage_of t p) (omega (arith, row_small t rules r row.row, lengths.loads))
      (no_load t r (stage_of t p) (bare r row.row))

  store_here : has (get_or stores r 0) (stage_of t p) ≡ store
  store_here =
      marking_here t.stores store r (stage_of t p) (omega (arith, row_small t rules r row.row, lengths.stores))
      (no_store t r (stage_of t p) (bare r row.row))

  access_gains : Gains t r (stage_of t p) loads stores values words
  access_gains =
      record {
        load_else =
            marking_other t.loads load r (stage_of t p) (omega (arith, row_small t rules r row.row, lengths.loads));
        store_else =
            marking_other t.stores store r (stage_of t p) (omega (arith, row_small t rules r row.row, lengths.stores));
        load_row = λ q h m. marking_row t.loads load r (stage_of t p) q (no_load t q (stage_of t p) (bare q h)) m;
        store_row = λ q h m. marking_row t.stores store r (stage_of t p) q (no_store t q (stage_of t p) (bare q h)) m;
        value_else = keeping_other t.values store (stage_of t p) v;
        taken_else = keeping_other t.taken load (stage_of t p) w;
      }

  pub access_rules : Rules (access_marked t r (stage_of t p) a load store v w)
  access_rules = marked_rules t rules lengths p a r here row loads stores values words access_gains

  pub access_view : (load || store) ≡ true
      → view (access_marked t r (stage_of t p) a load store v w) ≡ with_fate (view t) p (accessed a (word_if load w) (word_if store v))
  access_view some =
      let s = stage_of t p in
      let u = access_marked t r s a load store v w in
      let small : s < stages_most = stage_small t rules p (le_of_lt here) in
      marked_view t rules lengths p a r here row loads stores values words access_gains
      (accessed a (word_if load w) (word_if store v))
      (fate_marked u access_rules r s row.row (ap₂ ◌||◌ load_here store_here ∙ some)
      ∙ ap (λ (b : ℕ). accessed b (word_if (load_mark u r s) (taken u s)) (word_if (store_mark u r s) (value u s)))
      (address_here t rules lengths p a r here row loads stores values words access_gains)
      ∙ ap₂ (accessed a)
      (side_same (load_mark u r s) load (taken u s) w load_here
      (keeping_here t.taken load s w (omega (arith, lengths.taken, small))))
      (side_same (store_mark u r s) store (value u s) v store_here
      (keeping_here t.values store s v (omega (arith, lengths.values, small)))))
