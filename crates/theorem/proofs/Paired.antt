-- The buffer's references beside the window's entries, position by position, and what the buffer owes the window of it: an
-- entry sees the memory that its reference does, and an execution that does not stall leaves the executing reference, no more
-- than all, and where a store puts another word than the one already there no younger load that saw the word before. The last
-- is the law of faithful references (crates/lookup/proofs/Faithfully.antt): what stays is a part of what the store's check
-- leaves, also where the address had no row, as the check then leaves all. Entries do not keep the word that a load took, and
-- nothing here goes by it. Assumes nothing.
use mathlib.Core.Bool.{Bool, true, false, cond, true≢false}
use mathlib.Core.List.{List, [], ◌∷◌, map}
use mathlib.Core.Logic.{◌⊎◌, inl, inr, ⊎_elim}
use mathlib.Core.Path.{◌≡◌, refl, sym, ap, ◌∙◌}
use Prim.Native.Nat.{ℕ, zero, suc, ◌-◌, ◌≤◌, ◌<◌}
use native.Mathlib.Nat.{le_refl}
use native.Mathlib.Omega.{arith}
use lib.Dec.{ltb}
use lib.ListN.{length, get_or, take, drop}
use borrow.Author.Tests.{ltb-true}
use Rattle.marks.specs.Counting.{last}
use Rattle.table.specs.Bank.{bank}
use Rattle.table.specs.Reference.{Side, lacks, holds, Fate, waiting, other, accessed, idle, Ref, ref, blank, fate_of, at, State}
use Rattle.lookup.specs.Forwarding.{word_after, seen, forwarded}
use Rattle.lookup.specs.Computed.Faithful.{Took, Faithful}
use Rattle.lookup.specs.Rows.{touched, rows_in_use, youngest_row}
use Rattle.lookup.specs.Outcome.{allocate_row, kept_in_row, survivors}
use Rattle.lookup.proofs.Violations.{checked_after, untouched_checked}
use Rattle.lookup.proofs.Faithfully.{clear_by, clear, Spares, spares_after}
use Rattle.engine.specs.Conditions.{faults}
use Rattle.engine.specs.Execution.{written}
use Rattle.engine.specs.Part.{word_of}
use Rattle.machine_model.specs.declared.Instruction.{Instruction}
use Rattle.machine_model.specs.declared.Kind.{Kind}
use Rattle.machine_model.specs.declared.Kind.TheVariants.{Computing, Loading, Storing, Merging}
use Rattle.machine_model.specs.declared.Fate as Machine
use Rattle.machine_model.specs.declared.Fate.TheVariants.{Waiting, Executed}
use Rattle.machine_model.specs.declared.Entry.{Entry}
use Rattle.machine_model.specs.Program.{kind}
use Rattle.machine_model.specs.Window.{pending, access_by, reference_by, untold, reference}
use Rattle.sequential.proofs.Core.{seen_by}
use Rattle.sequential.proofs.Each.{Each, each_drop}

-- a fate without the word that its load took, which an entry does not keep
abbrev pub wordless_side : Side → Side
wordless_side lacks = lacks
wordless_side (holds w) = holds (untold w)

abbrev pub wordless : Fate → Fate
wordless waiting = waiting
wordless other = other
wordless (accessed a l s) = accessed a (wordless_side l) s

-- a reference bears its entry's fate, but for the word that a load took
abbrev pub Fated : Ref → Entry → Type 0
Fated r e = wordless (fate_of r) ≡ reference e

-- that word plays no part in what is stored,
after_wordless : (f : Fate) (a w : ℕ) → word_after f a w ≡ word_after (wordless f) a w
after_wordless waiting a w = refl
after_wordless other a w = refl
after_wordless (accessed b l s) a w = refl

pub seen_paired : (rs : List Ref) (es : List Entry) (a w : ℕ) → Each blank Fated rs es → seen rs a w ≡ seen_by es a w
unfolding seen seen_by
seen_paired [] [] a w all = refl
seen_paired [] (e ∷ es) a w all = absurd (omega (arith, all.0))
seen_paired (r ∷ rs) [] a w all = absurd (omega (arith, all.0))
seen_paired (ref n f ∷ rs) (e ∷ es) a w all =
    seen_paired rs es a (word_after f a w) (each_drop blank Fated (ref n f ∷ rs) (e ∷ es) all 1)
    ∙ ap (seen_by es a) (after_wordless f a w ∙ ap (λ (g : Fate). word_after g a w) (all.1 0 (omega arith)))

-- nor in which of them loaded
clear_wordless : (f : Fate) (a : ℕ) (b : Bool) → clear_by f a b ≡ clear_by (wordless f) a b
clear_wordless waiting a b = refl
clear_wordless other a b = refl
clear_wordless (accessed c lacks s) a b = refl
clear_wordless (accessed c (holds w) s) a b = refl

clear_paired : (rs : List Ref) (es : List Entry) (a : ℕ) → Each blank Fated rs es → clear a (map fate_of rs) ≡ clear a (map reference es)
unfolding clear
clear_paired [] [] a all = refl
clear_paired [] (e ∷ es) a all = absurd (omega (arith, all.0))
clear_paired (r ∷ rs) [] a all = absurd (omega (arith, all.0))
clear_paired (ref n f ∷ rs) (e ∷ es) a all =
    ap (clear_by f a) (clear_paired rs es a (each_drop blank Fated (ref n f ∷ rs) (e ∷ es) all 1))
    ∙ clear_wordless f a (clear a (map reference es))
    ∙ ap (λ (g : Fate). clear_by g a (clear a (map reference es))) (all.1 0 (omega arith))

last_le : (f : ℕ → Bool) (n : ℕ) → last f n ≤ n
unfolding last
last_le f zero = le_refl 0
last_le f (suc n) = go (f n) (last_le f n)
  where
    go : (t : Bool) → last f n ≤ n → cond t n (last f n) ≤ suc n
    go true h = omega arith
    go false h = omega arith

-- a row is taken without a squash, or from the references that stay before the one that is squashed
room_after : (P : State) (p h : ℕ) → p < length P.refs → (allocate_row P p h ≡ 0 → ⊥)
    → (p < allocate_row P p h) × (allocate_row P p h ≤ length P.refs)
room_after P p h live =
    go (ltb (rows_in_use (bank P.banks) h P.refs) P.rows) (ltb p (youngest_row (bank P.banks) h P.refs)) refl
  where
    go : (t u : Bool) → ltb p (youngest_row (bank P.banks) h P.refs) ≡ u
        → (cond t (length P.refs) (cond u (youngest_row (bank P.banks) h P.refs) 0) ≡ 0 → ⊥)
        → (p < cond t (length P.refs) (cond u (youngest_row (bank P.banks) h P.refs) 0))
        × (cond t (length P.refs) (cond u (youngest_row (bank P.banks) h P.refs) 0) ≤ length P.refs)
    go true u e some = (live, le_refl (length P.refs))
    go false true e some = (ltb-true p (youngest_row (bank P.banks) h P.refs) e, last_le _ _)
    go false false e some = absurd (some refl)

-- what the buffer owes of an execution at position p to this fate that leaves `left`, over this memory
pub record Owed (P : State) (memory : List ℕ) (p left : ℕ) (f : Fate) : Type 0 where
  pub after : p < left
  pub within : left ≤ length P.refs
  pub spares : Spares (forwarded P memory p) f (map fate_of (take (left - suc p) (drop (suc p) P.refs)))

module _ (P : State) (memory : List ℕ) (faithful : Faithful (λ (a : ℕ). get_or memory a 0) P.refs) (p : ℕ)
    (live : p < length P.refs) (still : idle (fate_of (at P.refs p)) ≡ true) where
  -- nothing is owed to references younger than one without memory
  owed_none : (f : Fate) → Spares (forwarded P memory p) f (map fate_of (take (length P.refs - suc p) (drop (suc p) P.refs)))
      → Owed P memory p (length P.refs) f
  owed_none f free = record { after = live; within = le_refl (length P.refs); spares = free }

  -- an access that leaves no more than the check of its address's row does, where it stores
  owed_access : (a left : ℕ) (l s : Side) → p < left → left ≤ kept_in_row P p a s → Owed P memory p left (accessed a l s)
  owed_access a left l lacks h i = record { after = h; within = i; spares = tt }
  owed_access a left l (holds v) h i =
      record {
        after = h;
        within = omega (arith, checked_after P p a v live);
        spares =
            spares_after P.refs (λ (b : ℕ). get_or memory b 0) p a v (left - suc p) live still faithful (omega arith);
      }

  -- what stays where the address has a row is younger than p, and all where it has none
  kept_after : (a : ℕ) (s : Side) → p < kept_in_row P p a s
  kept_after a lacks = live
  kept_after a (holds v) = (checked_after P p a v live).0

  all_kept : (a : ℕ) (s : Side) → touched a P.refs ≡ false → kept_in_row P p a s ≡ length P.refs
  all_kept a lacks e = refl
  all_kept a (holds v) e = untouched_checked P p a v live e

  pub owed : (f : Fate) → (survivors P p f ≡ 0 → ⊥) → Owed P memory p (survivors P p f) f
  owed waiting some = owed_none waiting tt
  owed other some = owed_none other tt
  owed (accessed a l s) some = go (touched a P.refs) refl some
    where
      go : (t : Bool) → touched a P.refs ≡ t → (cond t (kept_in_row P p a s) (allocate_row P p (bank P.banks a)) ≡ 0 → ⊥)
          → Owed P memory p (cond t (kept_in_row P p a s) (allocate_row P p (bank P.banks a))) (accessed a l s)
      go true e none = owed_access a (kept_in_row P p a s) l s (kept_after a s) (le_refl (kept_in_row P p a s))
      go false e none =
          let h = room_after P p (bank P.banks a) live none in
          owed_access a (allocate_row P p (bank P.banks a)) l s h.0 (rw (all_kept a s e) h.1)

-- ---- an entry that executes to fate x

module _ (μ : ℕ → ℕ) (i : Instruction) where
  -- its reference is it, but for the word that a load took
  pub wordless_reference : (x : Machine.Fate) → wordless (reference_by μ i x) ≡ reference_by untold i x
  wordless_reference Waiting = refl
  wordless_reference (Executed v a) = go (kind i)
    where
      go : (k : Kind) → wordless (access_by μ k v a) ≡ access_by untold k v a
      go Computing = refl
      go Loading = refl
      go Storing = refl
      go Merging = refl

  -- which is the one that it sees
  pub took_reference : (x : Machine.Fate) → Took μ (reference_by μ i x)
  took_reference Waiting = tt
  took_reference (Executed v a) = go (kind i)
    where
      go : (k : Kind) → Took μ (access_by μ k v a)
      go Computing = tt
      go Loading = refl
      go Storing = tt
      go Merging = refl

  -- what is owed to references is owed to their entries, which see the same
  pub spares_paired : (ν : ℕ → ℕ) (rs : List Ref) (es : List Entry) (x : Machine.Fate) → ((a : ℕ) → μ a ≡ ν a) → Each blank Fated rs es
      → Spares μ (reference_by μ i x) (map fate_of rs) → Spares ν (reference_by untold i x) (map reference es)
  spares_paired ν rs es Waiting same all h = tt
  spares_paired ν rs es (Executed v a) same all h = go (kind i) h
    where
      store : (b : ℕ) → (μ b ≡ v) ⊎ (clear b (map fate_of rs) ≡ true) → (ν b ≡ v) ⊎ (clear b (map reference es) ≡ true)
      store b h =
          ⊎_elim (λ (there : μ b ≡ v). inl (sym (same b) ∙ there))
          (λ (clears : clear b (map fate_of rs) ≡ true). inr (sym (clear_paired rs es b all) ∙ clears))
          h

      go : (k : Kind) → Spares μ (access_by μ k v a) (map fate_of rs) → Spares ν (access_by untold k v a) (map reference es)
      go Computing h = tt
      go Loading h = tt
      go Storing h = store a h
      go Merging h = store (word_of a) h

-- ---- the word that a load took plays no part in the rest

wordless_waiting : (f : Fate) → wordless f ≡ waiting → f ≡ waiting
wordless_waiting waiting e = refl
wordless_waiting other e = absurd (let z : ◌≡◌ {A = ℕ} 0 1 = cc in omega arith)
wordless_waiting (accessed a l s) e = absurd (let z : ◌≡◌ {A = ℕ} 0 1 = cc in omega arith)

waiting_of : (i : Instruction) (x : Machine.Fate) → pending x ≡ true → reference_by untold i x ≡ waiting
waiting_of i Waiting e = refl
waiting_of i (Executed v a) e = absurd (true≢false (sym e))

-- where an entry has not executed, its reference waits
pub pending_waiting : (r : Ref) (e : Entry) → Fated r e → pending e.fate ≡ true → fate_of r ≡ waiting
pending_waiting r e fate idle = wordless_waiting (fate_of r) (fate ∙ waiting_of e.instruction e.fate idle)

-- and is idle
idle_wordless : (f : Fate) → idle f ≡ idle (wordless f)
idle_wordless waiting = refl
idle_wordless other = refl
idle_wordless (accessed a l s) = refl

pending_of : (i : Instruction) (x : Machine.Fate) → pending x ≡ true → idle (reference_by untold i x) ≡ true
pending_of i Waiting e = refl
pending_of i (Executed v a) e = absurd (true≢false (sym e))

pub pending_idle : (r : Ref) (e : Entry) → Fated r e → pending e.fate ≡ true → idle (fate_of r) ≡ true
pending_idle r e fate still = idle_wordless (fate_of r) ∙ ap idle fate ∙ pending_of e.instruction e.fate still

pub faults_wordless : (words : ℕ) (f : Fate) → faults words f ≡ faults words (wordless f)
faults_wordless words waiting = refl
faults_wordless words other = refl
faults_wordless words (accessed a l s) = refl

pub written_wordless : (memory : List ℕ) (f : Fate) → written memory f ≡ written memory (wordless f)
written_wordless memory waiting = refl
written_wordless memory other = refl
written_wordless memory (accessed a l s) = refl
