-- What a machine comes to by its table's view: entries are read off the window at the stages that the view gives (plain_by).
-- Window and table agree where the lists of entries and of references do, place by place (Agreed), and lists that agree still
-- do when one of each is added at the young end, when the young are dropped, and when the oldest is. Assumes nothing.
use mathlib.Core.Bool.{Bool, true, false}
use mathlib.Core.List.{List, [], ◌∷◌, ◌++◌}
use mathlib.Core.Path.{◌≡◌, refl, sym, ap, ap₂, subst, ◌∙◌}
use Prim.Native.Nat.{ℕ, suc, ◌+◌, ◌-◌, ◌≤◌, ◌<◌}
use native.Mathlib.Nat.{ne_of_lt, lt_of_lt_of_le, le_of_lt}
use native.Mathlib.Omega.{arith}
use lib.Dec.{ltb}
use lib.ListN.{length, get_or, take, drop, set, length-append, length-take, length-drop, get_or-append}
use lib.Seq.{get_or_at, get_or-take, get_or-drop, get_or-set_same, get_or-set_other, take_all}
use borrow.Author.Tests.{ltb-true, ltb-false}
use Rattle.marks.specs.Circle.{stage}
use Rattle.marks.proofs.Turns.{stage_lt, stage_injective, stage_from}
use Rattle.table.specs.Reference.{Ref, fate_of, blank, at, State}
use Rattle.table.specs.View.{tabulate, view}
use Rattle.table.specs.Rules.{Rules}
use Rattle.table.proofs.Lists.{length_tabulate, tabulate_same, tabulate_window}
use Rattle.table.proofs.Fates.{length_refs}
use Rattle.machine_model.specs.declared.Entry.{Entry}
use Rattle.machine_model.specs.declared.Machine.{Machine}
use Rattle.machine_model.specs.Window.{blank_entry, entry_at, reference}
use Rattle.machine_model.specs.Calls.{Plain}
use Rattle.machine_model.specs.Contract.{plain, agree, Sound}
use Rattle.machine_laws.specs.Computed.Parts.{entries_of}
use Rattle.machine_model.proofs.Sounding.{length_entries, entry_at_lem}

-- ---- the plain state by the view

-- a machine's plain state, were P its buffer's
abbrev pub plain_over : Machine → State → Plain
plain_over u P =
    record {
      buffer = P;
      entries = entries_of u.window P.oldest P.stages (length P.refs);
      registers = u.registers;
      count = u.count;
      next = u.next;
    }

pub plain_by : (u : Machine) (P : State) → view u.table ≡ P → plain u ≡ plain_over u P
plain_by u P e =
    ap
    (λ (k : ℕ).
    record {
      buffer = view u.table;
      entries = entries_of u.window u.table.oldest u.table.stages k;
      registers = u.registers;
      count = u.count;
      next = u.next;
    })
    (sym (length_refs u.table))
    ∙ ap (plain_over u) e

-- ---- the entries of a window by stage
module _ (window : List Entry) (o n : ℕ) (start : o < n) where
  -- one more, at the stage after the last
  pub entries_grow : (k : ℕ) (e : Entry) → k < n → n ≤ length window
      → entries_of (set window (stage o n k) e) o n (suc k) ≡ entries_of window o n k ++ (e ∷ [])
  unfolding tabulate
  entries_grow k e room long =
      ap₂ (λ (es : List Entry) (x : Entry). es ++ (x ∷ []))
      (tabulate_same (λ (p : ℕ). get_or (set window (stage o n k) e) (stage o n p) blank_entry)
      (λ (p : ℕ). get_or window (stage o n p) blank_entry) k
      (λ p h. get_or-set_other window (stage o n k) (stage o n p) e blank_entry
      (λ same. ne_of_lt h (stage_injective o n start p k (omega arith) room same))))
      (get_or-set_same window (stage o n k) e blank_entry
      (lt_of_lt_of_le (stage_lt o n start k (le_of_lt room)) long))

  -- all but the oldest, read from the next stage on
  pub entries_drop : (k : ℕ) → 0 < k → k ≤ n
      → entries_of window (stage o n 1) n (k - 1) ≡ drop 1 (entries_of window o n k)
  entries_drop k some room =
      let f : ℕ → Entry = λ p. get_or window (stage o n p) blank_entry in
      let rest = drop 1 (tabulate f k) in
      tabulate_same (λ (p : ℕ). get_or window (stage (stage o n 1) n p) blank_entry) (λ (p : ℕ). f (1 + p)) (k - 1)
      (λ p h. ap (λ (s : ℕ). get_or window s blank_entry) (stage_from o n start 1 p (omega arith)))
      ∙ sym (tabulate_window f k 1 (k - 1) (omega arith))
      ∙ take_all (k - 1) rest (omega (arith, length-drop 1 (tabulate f k), length_tabulate f k))

-- ---- agreement, list by list

-- entries and references agree, place by place
abbrev pub Agreed : List Entry → List Ref → Type 0
Agreed es refs = (p : ℕ) → p < length es → agree (reference (entry_at es p)) (fate_of (at refs p)) ≡ true

pub sound_agreed : (m : Machine) → Sound m → Agreed (plain m).entries (view m.table).refs
sound_agreed m s p h =
    let l : p < m.table.live = omega (arith, length_entries m) in
    ap (λ (e : Entry). agree (reference e) (fate_of (at (view m.table).refs p))) (entry_at_lem m p l) ∙ s.agrees p l

-- a machine whose plain state is X is sound where its table keeps the rules and X's lists agree
pub reached : (u : Machine) (X : Plain) → Rules u.table → plain u ≡ X → Agreed X.entries X.buffer.refs → Sound u
reached u X rules e a =
    let own : Agreed (plain u).entries (view u.table).refs =
    subst (λ (Y : Plain). Agreed Y.entries Y.buffer.refs) (sym e) a in
    record {
      rules = rules;
      agrees = λ p h.
          ap (λ (x : Entry). agree (reference x) (fate_of (at (view u.table).refs p))) (sym (entry_at_lem u p h))
          ∙ own p (omega (arith, length_entries u));
    }

-- two entries and two references that are the same agree alike
alike : {d e : Entry} {r s : Ref} → d ≡ e → r ≡ s → agree (reference d) (fate_of r) ≡ agree (reference e) (fate_of s)
alike = ap₂ (λ (x : Entry) (y : Ref). agree (reference x) (fate_of y))

module _ (es : List Entry) (refs : List Ref) (a : Agreed es refs) where
  pub agreed_grow : (e : Entry) (r : Ref) → length es ≡ length refs → agree (reference e) (fate_of r) ≡ true
      → Agreed (es ++ (e ∷ [])) (refs ++ (r ∷ []))
  agreed_grow e r same new p h = go (ltb p (length es)) refl
    where
      go : (b : Bool) → ltb p (length es) ≡ b
          → agree (reference (entry_at (es ++ (e ∷ [])) p)) (fate_of (at (refs ++ (r ∷ [])) p)) ≡ true
      go true t =
          let l : p < length es = ltb-true p (length es) t in
          alike (get_or-append es (e ∷ []) blank_entry p l) (get_or-append refs (r ∷ []) blank p (omega arith)) ∙ a p l
      go false t =
          let l : length es ≤ p = ltb-false p (length es) t in
          let last : length es ≡ p = omega (arith, length-append es (e ∷ [])) in
          alike (get_or_at es e [] blank_entry p last) (get_or_at refs r [] blank p (sym same ∙ last)) ∙ new

  pub agreed_take : (k : ℕ) → Agreed (take k es) (take k refs)
  agreed_take k p h =
      let few : p < k = omega (arith, length-take k es) in
      alike (get_or-take k es p blank_entry few) (get_or-take k refs p blank few) ∙ a p (omega (arith, length-take k es))

  pub agreed_drop : Agreed (drop 1 es) (drop 1 refs)
  agreed_drop p h =
      alike (get_or-drop 1 es p blank_entry) (get_or-drop 1 refs p blank) ∙ a (1 + p) (omega (arith, length-drop 1 es))
