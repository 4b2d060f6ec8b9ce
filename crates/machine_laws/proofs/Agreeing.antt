-- How the code compares window and table is how the contract does: of a table that keeps its rules, an entry agrees with
-- what the marks say of its stage exactly where the test of the code passes (stage_law).
-- Members of a union are those of its parts (union_has, union_from). A row with a mark lies in the bank of its address, so the
-- marks at an address are those of the rows of the bank that have it (row_in, row_found); a stage's marks are in one row, so at
-- its address they are that row's (at_row) and at another there are none (at_none). How it compares window and program is how
-- the contract does too, of a well-formed program of the opened length (fitting_law). So where the rules are kept the code's
-- validation is that of the contract (validate_law). Assumes nothing.
use mathlib.Core.Bool.{Bool, true, false, cond, not, ◌&&◌, ◌||◌, true≢false, and-true, and-false, or-true, or-false}
use mathlib.Core.Bool.{not-eq-not, and-eq-true_iff}
use mathlib.Core.List.{List, [], ◌∷◌}
use mathlib.Core.Logic.{⊎_elim}
use mathlib.Core.Path.{◌≡◌, refl, sym, ap, ap₂, subst, ◌∙◌}
use Prim.Native.Nat.{ℕ, zero, suc, ◌+◌, ◌*◌, ◌/◌, ◌%◌, ◌<◌}
use native.Mathlib.Nat.{not-suc-le-zero, le_of_suc-le-suc, eq-or-lt_of_le}
use native.Mathlib.Numerals.{add-one}
use native.Mathlib.Omega.{arith}
use lib.Bits.{bit_or}
use lib.Dec.{eqb, leb, ltb}
use lib.ListN.{length, get_or}
use borrow.Author.Tests.{eqb-true, eqb-false, eq-eqb, ne_eqb, leb-true, ltb-true, ltb-false, lt-ltb, le-ltb}
use Rattle.marks.specs.Circle.{stage}
use Rattle.marks.specs.Counting.{every}
use Rattle.marks.specs.Stages.{has}
use Rattle.marks.proofs.Counts.{every_at, every_same}
use Rattle.marks.proofs.Sets.{has_or, has_zero}
use Rattle.table.specs.declared.Table.{Table}
use Rattle.table.specs.Bank.{bank}
use Rattle.table.specs.Limits.{rows_most, rows_in}
use Rattle.table.specs.Computed.Check.{marks_below}
use Rattle.table.specs.Reference.{Side, Fate, waiting, other}
use Rattle.table.specs.Rules.{Rules}
use Rattle.table.specs.View.{stage_of, address, load_mark, store_mark, mark, value, taken, word_if, fate_at}
use Rattle.table.proofs.Sizes.{sizes, bank_lt}
use Rattle.table.proofs.Fates.{Fated, waits, bare, marks, fated, mark_load, mark_store, fate_marked, fate_other, fate_waiting}
use Rattle.table.proofs.Lawful.{rules_lawful, taken_has, taken_from}
use Rattle.machine_model.specs.Contract.{mark_kind, kind_of, place_of, entry_of, agree}
use Rattle.engine.specs.Conditions.{refusal, when}
use Rattle.engine.specs.Part.{word_of}
use Rattle.machine_model.specs.declared.Instruction.{Instruction}
use Rattle.machine_model.specs.declared.Instruction.TheVariants.{Add, Sum, Load, Store, Byte, Half}
use Rattle.machine_model.specs.declared.Kind.{Kind}
use Rattle.machine_model.specs.declared.Kind.TheVariants.{Computing, Loading, Storing, Merging}
use Rattle.machine_model.specs.declared.Fate as Entered
use Rattle.machine_model.specs.declared.Fate.TheVariants.{Waiting, Executed}
use Rattle.machine_model.specs.declared.Entry.{Entry}
use Rattle.machine_model.specs.declared.Machine.{Machine}
use Rattle.machine_model.specs.Program.{decoded, instruction_at, code_of, d_of, s_of, imm_of, same, well_formed, well_formed_at}
use Rattle.machine_model.specs.Program.{per_instruction, last_register, kind, program_fits}
use Rattle.machine_model.specs.Window.{blank_entry, access_by, reference_by, untold}
use Rattle.machine_model.specs.Calls.{matches_program}
use Rattle.machine_laws.proofs.Comparing.{marked_kind}
use Rattle.machine_model.specs.Tests.{agreeing, validate_of}
use Rattle.machine_laws.specs.Computed.Parts.{union, marks_at, mark_number, agrees_by, agreeing_by, like_by, fitting_by}

module _ (test : ℕ → Bool) (f : ℕ → ℕ) where
  -- one number more
  pub union_in : (k : ℕ) → test k ≡ true → union test f (k + 1) ≡ bit_or (union test f k) (f k)
  unfolding union
  union_in k e =
      ap (union test f) (add-one k)
      ∙ ap (λ (t : Bool). cond t (bit_or (union test f k) (f k)) (union test f k)) e

  pub union_out : (k : ℕ) → test k ≡ false → union test f (k + 1) ≡ union test f k
  unfolding union
  union_out k e =
      ap (union test f) (add-one k)
      ∙ ap (λ (t : Bool). cond t (bit_or (union test f k) (f k)) (union test f k)) e

  has_union : (k s : ℕ) → has (union test f (suc k)) s ≡ (has (union test f k) s || (test k && has (f k) s))
  unfolding union
  has_union k s = go (test k)
    where
      go : (t : Bool) → has (cond t (bit_or (union test f k) (f k)) (union test f k)) s
          ≡ (has (union test f k) s || (t && has (f k) s))
      go true = has_or (union test f k) (f k) s
      go false = sym (or-false (has (union test f k) s))

  union_has : (k i s : ℕ) → i < k → test i ≡ true → has (f i) s ≡ true → has (union test f k) s ≡ true
  union_has zero i s l e h = absurd (not-suc-le-zero l)
  union_has (suc k) i s l e h =
      has_union k s
      ∙ ⊎_elim
      (λ (q : i ≡ k).
      ap (λ (t : Bool). has (union test f k) s || t)
      (ap (λ (j : ℕ). test j && has (f j) s) (sym q) ∙ ap₂ ◌&&◌ e h) ∙ or-true (has (union test f k) s))
      (λ (q : i < k). ap (λ (t : Bool). t || (test k && has (f k) s)) (union_has k i s q e h))
      (eq-or-lt_of_le (le_of_suc-le-suc l))

  union_from : (k s : ℕ) → has (union test f k) s ≡ true → (i : ℕ) × (i < k) × (test i ≡ true) × (has (f i) s ≡ true)
  unfolding union
  union_from zero s h = absurd (true≢false (sym h ∙ has_zero s))
  union_from (suc k) s h = go (has (union test f k) s) refl (sym (has_union k s) ∙ h) (union_from k s)
    where
      go : (t : Bool) → has (union test f k) s ≡ t → (t || (test k && has (f k) s)) ≡ true
          → (has (union test f k) s ≡ true → (i : ℕ) × (i < k) × (test i ≡ true) × (has (f i) s ≡ true))
          → (i : ℕ) × (i < suc k) × (test i ≡ true) × (has (f i) s ≡ true)
      go true e o below = let w = below e in (w.0, omega arith, w.2, w.3)
      go false e o below = let w = (and-eq-true_iff (test k) (has (f k) s)).0 o in (k, omega arith, w.0, w.1)

-- a comparison the other way round
turned : (j k : ℕ) → eqb j k ≡ eqb k j
turned j k = go (eqb j k) refl
  where
    go : (b : Bool) → eqb j k ≡ b → b ≡ eqb k j
    go true e = sym (eq-eqb k j (sym (eqb-true j k e)))
    go false e = sym (ne_eqb k j (λ z. eqb-false j k e (sym z)))

-- two tests that pass together
together : (x y : Bool) → (x ≡ true → y ≡ true) → (y ≡ true → x ≡ true) → x ≡ y
together true y f g = sym (f refl)
together false true f g = g refl
together false false f g = refl

-- a second test counts only where the first passes
where_true : (x y z : Bool) → (x ≡ true → y ≡ z) → (x && y) ≡ (x && z)
where_true true y z f = f refl
where_true false y z f = refl

module _ (t : Table) (rules : Rules t) (s : ℕ) where
  -- the stages with a mark
  abbrev all : ℕ
  all = marks_below t.loads t.stores (rows_in t.banks)

  in_all : (r : ℕ) → r < rows_in t.banks → mark t r s ≡ true → has all s ≡ true
  in_all r h m =
      taken_has t.loads t.stores (rows_in t.banks) r s h
      (has_or (get_or t.loads r 0) (get_or t.stores r 0) s ∙ m)

  out_of_all : ((r : ℕ) → r < rows_in t.banks → mark t r s ≡ false) → has all s ≡ false
  out_of_all none =
      (not-eq-not {b = false}).0
      (λ e.
      let w = taken_from t.loads t.stores (rows_in t.banks) s e in
      let m : mark t w.0 s ≡ true =
      sym (has_or (get_or t.loads w.0 0) (get_or t.stores w.0 0) s) ∙ w.2 in
      true≢false (sym m ∙ none w.0 w.1))

  -- the marks at address a, among load marks or among store marks
  abbrev at_address : List ℕ → ℕ → Bool
  at_address words a = has (marks_at t.addresses words (bank t.banks a) a) s

  abbrev of : ℕ → ℕ → Bool
  of a i = eqb (get_or t.addresses (bank t.banks a * rows_most + i) 0) a

  abbrev row : List ℕ → ℕ → ℕ → ℕ
  row words a i = get_or words (bank t.banks a * rows_most + i) 0

  bank_low : (a : ℕ) → bank t.banks a < t.banks
  bank_low a = bank_lt t.banks a (sizes _ _ _ _ rules.sizes).some_bank

  row_found : (words : List ℕ) (a : ℕ) → at_address words a ≡ true
      → (r : ℕ) × (r < rows_in t.banks) × (address t r ≡ a) × (has (get_or words r 0) s ≡ true)
  row_found words a h =
      let w = union_from (of a) (row words a) rows_most s h in
      (bank t.banks a * rows_most + w.0, omega (arith, bank_low a, w.1), eqb-true _ _ w.2, w.3)

  row_in : (words : List ℕ) (r a : ℕ) → r / rows_most ≡ bank t.banks a → address t r ≡ a → has (get_or words r 0) s ≡ true
      → at_address words a ≡ true
  row_in words r a b e m =
      let q : bank t.banks a * rows_most + r % rows_most ≡ r = omega arith in
      union_has (of a) (row words a) rows_most (r % rows_most) s (omega arith) (eq-eqb _ _ (ap (address t) q ∙ e))
      (ap (λ (x : ℕ). has (get_or words x 0) s) q ∙ m)

  -- the code's test of an entry with this fate
  abbrev tested : Fate → Bool
  tested f =
      agrees_by t.banks t.executed all t.addresses t.loads t.stores (kind_of f) (place_of f) s

  -- the words of the stage's load and of its store in row r
  abbrev took : ℕ → Side
  took r = word_if (load_mark t r s) (taken t s)

  abbrev said : ℕ → Side
  said r = word_if (store_mark t r s) (value t s)

  of_waiting : Fated t s → tested waiting ≡ agree waiting (fate_at t s)
  of_waiting (waits e) = ap not e ∙ sym (ap (agree waiting) (fate_waiting t rules s e))
  of_waiting (bare e none) = ap not e ∙ sym (ap (agree waiting) (fate_other t rules s e none))
  of_waiting (marks r h m) =
      ap not (rules.executed r s h m)
      ∙ sym
      (ap (agree waiting) (fate_marked t rules r s h m)
      ∙ ap (λ (b : Bool). b && eqb 0 (address t r)) (marked_kind (took r) (said r)).1)

  -- executed, and without a mark
  abbrev plainly : Bool → Bool → Bool
  plainly x y = x && not y

  of_other : Fated t s → tested other ≡ agree other (fate_at t s)
  of_other (waits e) =
      ap (λ (x : Bool). plainly x (has all s)) e ∙ sym (ap (agree other) (fate_waiting t rules s e))
  of_other (bare e none) =
      ap₂ plainly e (out_of_all none) ∙ sym (ap (agree other) (fate_other t rules s e none))
  of_other (marks r h m) =
      ap₂ plainly (rules.executed r s h m) (in_all r h m)
      ∙ sym
      (ap (agree other) (fate_marked t rules r s h m)
      ∙ ap (λ (b : Bool). b && eqb 0 (address t r)) (marked_kind (took r) (said r)).2)

  -- Marks of one kind: every one is a mark. Those at an address are those of its row; where the stage has no mark at the address
  -- there are none.
  module _ (words : List ℕ) (some : (r : ℕ) → has (get_or words r 0) s ≡ true → mark t r s ≡ true) (a : ℕ) where
    at_row : (r : ℕ) → r < rows_in t.banks → mark t r s ≡ true → a ≡ address t r
        → at_address words a ≡ has (get_or words r 0) s
    at_row r l m e =
        together (at_address words a) (has (get_or words r 0) s)
        (λ h.
        let w = row_found words a h in
        subst (λ (q : ℕ). has (get_or words q 0) s ≡ true) (rules.one_row w.0 r s w.1 l (some w.0 w.3) m) w.3)
        (row_in words r a (rules.in_bank r s l m ∙ ap (bank t.banks) (sym e)) (sym e))

    at_none : ((r : ℕ) → r < rows_in t.banks → mark t r s ≡ true → address t r ≡ a → ⊥) → at_address words a ≡ false
    at_none none =
        (not-eq-not {b = false}).0
        (λ h. let w = row_found words a h in none w.0 w.1 (some w.0 w.3) w.2)

  -- the kind that the marks at address a say
  abbrev found : ℕ → ℕ
  found a = mark_number (at_address t.loads a) (at_address t.stores a)

  found_row : (a r : ℕ) → r < rows_in t.banks → mark t r s ≡ true → a ≡ address t r
      → found a ≡ mark_kind (took r) (said r)
  found_row a r l m e =
      ap₂ mark_number (at_row t.loads (λ q. mark_load t q s) a r l m e) (at_row t.stores (λ q. mark_store t q s) a r l m e)
      ∙ go (load_mark t r s) (store_mark t r s) m
    where
      go : (ld st : Bool) → (ld || st) ≡ true → mark_number ld st ≡ mark_kind (word_if ld (taken t s)) (word_if st (value t s))
      go true true h = refl
      go true false h = refl
      go false true h = refl
      go false false h = absurd (true≢false (sym h))

  found_none : (a : ℕ) → ((r : ℕ) → r < rows_in t.banks → mark t r s ≡ true → address t r ≡ a → ⊥) → found a ≡ 0
  found_none a none =
      ap₂ mark_number (at_none t.loads (λ q. mark_load t q s) a none) (at_none t.stores (λ q. mark_store t q s) a none)

  access_law : (k a : ℕ) → (k ≡ 0 → ⊥) → (k ≡ 4 → ⊥)
      → eqb (found a) k ≡ (eqb k (kind_of (fate_at t s)) && eqb a (place_of (fate_at t s)))
  access_law k a some idle = go (fated t s)
    where
      like : Fate → Bool
      like f = eqb k (kind_of f) && eqb a (place_of f)

      absent : found a ≡ 0 → eqb (found a) k ≡ false
      absent e = ap (λ (j : ℕ). eqb j k) e ∙ ne_eqb 0 k (λ z. some (sym z))

      go : Fated t s → eqb (found a) k ≡ like (fate_at t s)
      go (waits e) =
          absent (found_none a (λ r l m _. true≢false (sym (rules.executed r s l m) ∙ e)))
          ∙ sym (ap like (fate_waiting t rules s e) ∙ ap (λ (b : Bool). b && eqb a 0) (ne_eqb k 4 idle))
      go (bare e none) =
          absent (found_none a (λ r l m _. true≢false (sym m ∙ none r l)))
          ∙ sym (ap like (fate_other t rules s e none) ∙ ap (λ (b : Bool). b && eqb a 0) (ne_eqb k 0 some))
      go (marks r l m) = here (eqb a (address t r)) refl ∙ sym (ap like (fate_marked t rules r s l m))
        where
          here : (b : Bool) → eqb a (address t r) ≡ b
              → eqb (found a) k ≡ (eqb k (mark_kind (took r) (said r)) && eqb a (address t r))
          here true e =
              ap (λ (j : ℕ). eqb j k) (found_row a r l m (eqb-true a (address t r) e))
              ∙ turned (mark_kind (took r) (said r)) k
              ∙ sym (ap (λ (b : Bool). eqb k (mark_kind (took r) (said r)) && b) e
              ∙ and-true (eqb k (mark_kind (took r) (said r))))
          here false e =
              absent
              (found_none a
              (λ q h n i.
              eqb-false a (address t r) e
              (sym i ∙ ap (address t) (rules.one_row q r s h l n m))))
              ∙ sym (ap (λ (b : Bool). eqb k (mark_kind (took r) (said r)) && b) e
              ∙ and-false (eqb k (mark_kind (took r) (said r))))

  stage_law : (i : Instruction) (f : Entered.Fate)
      → tested (reference_by untold i f) ≡ agree (reference_by untold i f) (fate_at t s)
  stage_law i Waiting = of_waiting (fated t s)
  stage_law i (Executed v a) = go (kind i)
    where
      go : (k : Kind) → tested (access_by untold k v a) ≡ agree (access_by untold k v a) (fate_at t s)
      go Computing = of_other (fated t s)
      go Loading = access_law 1 a (λ z. omega arith) (λ z. omega arith)
      go Storing = access_law 2 a (λ z. omega arith) (λ z. omega arith)
      go Merging = access_law 3 (word_of a) (λ z. omega arith) (λ z. omega arith)

-- the test of the window is the agreement of the contract
pub agreeing_law : (m : Machine) → Rules m.table → (k : ℕ)
    → let t = m.table in
    agreeing_by t.banks t.oldest t.stages t.executed t.addresses t.loads t.stores m.window k
    ≡ agreeing m k
agreeing_law m rules k =
    every_same _ _ k
    (λ p h. stage_law m.table rules (stage_of m.table p) (entry_of m p).instruction (entry_of m p).fate)

-- a well-formed instruction is like another exactly where its four numbers are that one's
pub same_numbers : (code d s imm : ℕ) (i : Instruction) → well_formed code d s imm ≡ true
    → (eqb code (code_of i) && eqb d (d_of i) && eqb s (s_of i) && eqb imm (imm_of i)) ≡ same (decoded code d s imm) i
same_numbers code d s imm i h = go (eqb code 1) (eqb code 2) (eqb code 3) (eqb code 4) (eqb code 5) refl refl refl refl refl
  where
    by : ℕ → Bool
    by c = eqb c (code_of i) && eqb d (d_of i) && eqb s (s_of i) && eqb imm (imm_of i)

    codes : (leb 1 code ≡ true) × (leb code 6 ≡ true)
    codes =
        (and-eq-true_iff (leb 1 code) (leb code 6)).0
        ((and-eq-true_iff (leb 1 code && leb code 6) (leb d last_register && leb s last_register)).0
        ((and-eq-true_iff ((leb 1 code && leb code 6) && (leb d last_register && leb s last_register)) (not (eqb code 2) || leb imm last_register)).0 h).0).0

    go : (t u v x y : Bool) → eqb code 1 ≡ t → eqb code 2 ≡ u → eqb code 3 ≡ v → eqb code 4 ≡ x → eqb code 5 ≡ y
        → by code
        ≡ same
        (cond t (Add d s imm)
        (cond u (Sum d s imm) (cond v (Load d s imm) (cond x (Store d s imm) (cond y (Byte d s imm) (Half d s imm))))))
        i
    go true u v x y e f g h k = ap by (eqb-true code 1 e)
    go false true v x y e f g h k = ap by (eqb-true code 2 f)
    go false false true x y e f g h k = ap by (eqb-true code 3 g)
    go false false false true y e f g h k = ap by (eqb-true code 4 h)
    go false false false false true e f g h k = ap by (eqb-true code 5 k)
    go false false false false false e f g h k =
        let not-one = eqb-false code 1 e in
        let not-two = eqb-false code 2 f in
        let not_three = eqb-false code 3 g in
        let not-four = eqb-false code 4 h in
        let not_five = eqb-false code 5 k in
        let low = leb-true 1 code codes.0 in
        let high = leb-true code 6 codes.1 in
        let last : code ≡ 6 = omega arith in
        ap by last

module _ (program : List ℕ) (count : ℕ) (fits : program_fits program ≡ true) (counted : length program ≡ per_instruction * count) where
  -- An index below the count is that of a whole instruction, which is well formed; past it is none.
  like_law : (e : Entry) → like_by program e ≡ matches_program program count e
  unfolding program_fits
  like_law e = go (ltb e.index count) refl
    where
      i : Instruction
      i = e.instruction

      k : ℕ
      k = e.index * per_instruction

      numbers : Bool
      numbers =
          eqb (get_or program k 0) (code_of i) && eqb (get_or program (k + 1) 0) (d_of i) && eqb (get_or program (k + 2) 0) (s_of i)
          && eqb (get_or program (k + 3) 0) (imm_of i)

      go : (t : Bool) → ltb e.index count ≡ t
          → (ltb (k + 3) (length program) && numbers) ≡ (t && same (instruction_at program e.index) i)
      go true h =
          let below = ltb-true e.index count h in
          let low : e.index < length program / per_instruction = omega arith in
          let all = ((and-eq-true_iff (eqb (length program % per_instruction) 0) (every (well_formed_at program) (length program / per_instruction))).0 fits).1 in
          ap (λ (t : Bool). t && numbers) (lt-ltb (k + 3) (length program) (omega arith))
          ∙ same_numbers (get_or program k 0) (get_or program (k + 1) 0) (get_or program (k + 2) 0) (get_or program (k + 3) 0) i
          (every_at (well_formed_at program) (length program / per_instruction) all e.index low)
      go false h =
          let past = ltb-false e.index count h in
          ap (λ (t : Bool). t && numbers) (le-ltb (k + 3) (length program) (omega arith))

  -- the test of the entries is the condition of the contract, of a well-formed program of the opened length
  pub fitting_law : (oldest stages : ℕ) (window : List Entry) (live : ℕ)
      → fitting_by program oldest stages window live
      ≡ every (λ (p : ℕ). matches_program program count (get_or window (stage oldest stages p) blank_entry)) live
  fitting_law oldest stages window live =
      every_same _ _ live (λ p h. like_law (get_or window (stage oldest stages p) blank_entry))

-- Of a table that keeps its rules, the tests of window and entries as the code makes them decide as the contract's do.
pub validate_law : (m : Machine) (program : List ℕ) (lent : ℕ) → Rules m.table → {agrees fits : Bool}
    → (let t = m.table in agrees ≡ agreeing_by t.banks t.oldest t.stages t.executed t.addresses t.loads t.stores m.window t.live)
    → fits ≡ fitting_by program m.table.oldest m.table.stages m.window m.table.live
    → validate_of m program lent
    ≡ refusal
    (when (not agrees) 2 ∷ when (not (eqb lent m.table.words)) 3
    ∷ when (not (program_fits program && eqb (length program) (per_instruction * m.count) && fits)) 4
    ∷ [])
validate_law m program lent rules {agrees} {fits} window entries =
    ap₂
    (λ (a f : Bool).
    refusal (when (not a) 2 ∷ when (not (eqb lent m.table.words)) 3 ∷ when (not f) 4 ∷ []))
    (ap (λ (b : Bool). b && agreeing m m.table.live) (rules_lawful m.table rules)
    ∙ sym (window ∙ agreeing_law m rules m.table.live))
    (where_true (program_fits program && counted) _ fits
    (λ h.
    let both = (and-eq-true_iff (program_fits program) counted).0 h in
    sym
    (entries
    ∙ fitting_law program m.count both.0 (eqb-true _ _ both.1) m.table.oldest m.table.stages m.window m.table.live)))
  where
    counted : Bool
    counted = eqb (length program) (per_instruction * m.count)
