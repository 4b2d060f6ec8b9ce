-- Every step of the window keeps what is kept, so registers, memory and record are the sequential run's throughout. Good
-- walks the window from the oldest with what is seen so far. Issue appends an entry that waits (good_append). A squash takes
-- a prefix (good_take). An execution is right where it stands, since what Good has there is what the step looks up, and the
-- younger entries stay right as more is known (good_set). A commit's entry is right over the committed registers and memory,
-- so its value and address are those of the run's next step (run_goes), which its numbers but the distance record
-- (without_append), and what the next entry sees is then committed (seen_register, seen_written): for that its destination must
-- be a register, hence the well-formed program. The oldest entry is the run's next instruction, so the run ends before it only
-- where its commit gets 13 or 14 (ends_so). Assumes nothing.
use mathlib.Core.Path.{◌≡◌, refl, sym, ap, subst, ◌∙◌}
use mathlib.Core.Bool.{Bool, true, false, cond, not, ◌&&◌, ◌||◌, true≢false, or-false}
use mathlib.Core.List.{List, [], ◌∷◌, ◌++◌, map}
use mathlib.Core.Option.{Option, some, some-injective}
use Prim.Native.Nat.{ℕ, zero, suc, ◌+◌, ◌-◌, ◌*◌, ◌/◌, ◌%◌, ◌≤◌, ◌<◌}
use native.Mathlib.Nat.{not-suc-le-zero, suc-sub-suc, sub-zero}
use native.Mathlib.Omega.{arith}
use lib.Dec.{eqb, leb, ltb, leb-suc-suc, leb-suc-zero}
use lib.ListN.{length, get_or, take, drop, set, length-append, length-set}
use borrow.Author.Tests.{leb-true, leb-false, lt-ltb, lt-leb}
use Rattle.marks.specs.Counting.{every}
use Rattle.marks.proofs.Counts.{every_at}
use Rattle.lookup.specs.Forwarding
use Rattle.lookup.proofs.Faithfully.{Spares, changed}
use Rattle.engine.specs.Execution.{written}
use Rattle.engine.proofs.Written.{set_test, seen_written}
use Rattle.machine_model.specs.declared.Instruction.{Instruction}
use Rattle.machine_model.specs.declared.Instruction.TheVariants.{Add, Sum, Load, Store, Byte, Half}
use Rattle.machine_model.specs.declared.Fate.{Fate}
use Rattle.machine_model.specs.declared.Fate.TheVariants.{Waiting, Executed}
use Rattle.machine_model.specs.declared.Entry.{Entry}
use Rattle.machine_model.specs.Program.{registers_most, per_instruction, decoded, instruction_at, code_of, well_formed, well_formed_at, program_fits}
use Rattle.machine_model.specs.Program.{d_of}
use Rattle.machine_model.specs.Window.{pending, entry_at, entry_with, writes_to, value_of, address_by, register_seen, reference_by, untold}
use Rattle.machine_model.specs.Window.{reference, evaluate}
use Rattle.machine_model.specs.Over.{new_entry, value_by, registers_after, target, committed_says}
use Rattle.sequential.specs.Sequential.{Run, does, faults_at, ends, step, run_after}
use Rattle.sequential.specs.Play.{recorded, without}
use Rattle.sequential.proofs.Core.{Core, Step, issuing, executing, squashing, committing, seen_by, registers_at, memory_at}
use Rattle.sequential.proofs.Core.{head_index, cut_to, barred, after_commit, Right, Good, Kept, fresh}
use Rattle.sequential.proofs.Distances.{without_append}
use Rattle.sequential.proofs.Knowing.{Tells, unknown_tells, good_more}

-- ---- where issue goes on

refetch_drop : (es : List Entry) (k next : ℕ)
    → cond (ltb k (length es)) (entry_at es k).index next ≡ head_index (drop k es) next
refetch_drop [] zero next = refl
refetch_drop [] (suc k) next = rw (leb-suc-zero (suc k))
refetch_drop (e ∷ es) zero next = rw (lt-ltb 0 (suc (length es)) (omega arith))
refetch_drop (e ∷ es) (suc k) next = rw (leb-suc-suc (suc k) (length es)) (refetch_drop es k next)

head_take : (k : ℕ) (es : List Entry) (next : ℕ) → head_index (take k es) (head_index (drop k es) next) ≡ head_index es next
head_take zero es next = refl
head_take (suc k) [] next = refl
head_take (suc k) (e ∷ es) next = refl

-- an entry that executes keeps its index
head_set : (p left : ℕ) (es : List Entry) (next : ℕ) (f : Fate) (d : ℕ)
    → head_index (take left (set es p (entry_with (entry_at es p) f d))) (head_index (drop left es) next) ≡ head_index es next
head_set p zero es next f d = refl
head_set p (suc left) [] next f d = refl
head_set zero (suc left) (e ∷ es) next f d = refl
head_set (suc p) (suc left) (e ∷ es) next f d = refl

-- ---- issue and squash

head_append : (program : List ℕ) (next : ℕ) (es : List Entry)
    → head_index (es ++ (new_entry program next ∷ [])) (suc next) ≡ head_index es next
head_append program next [] = refl
head_append program next (e ∷ es) = refl

module _ (program : List ℕ) (next : ℕ) where
  good_append : (es : List Entry) (ρ : ℕ → Option ℕ) (μ : ℕ → ℕ) → next < length program / per_instruction → Good program next ρ μ es
      → Good program (suc next) ρ μ (es ++ (new_entry program next ∷ []))
  good_append [] ρ μ h g = (tt, refl, h, refl, tt)
  good_append (e ∷ es) ρ μ h g = (g.0, g.1, g.2, g.3 ∙ sym (head_append program next es), good_append es _ _ h g.4)

  good_take : (k : ℕ) (es : List Entry) (ρ : ℕ → Option ℕ) (μ : ℕ → ℕ) → Good program next ρ μ es
      → Good program (head_index (drop k es) next) ρ μ (take k es)
  good_take zero es ρ μ g = tt
  good_take (suc k) [] ρ μ g = tt
  good_take (suc k) (e ∷ es) ρ μ g = (g.0, g.1, g.2, g.3 ∙ sym (head_take k es next), good_take k es _ _ g.4)

-- ---- execute

right_of : (i : Instruction) (ρ : ℕ → Option ℕ) (μ : ℕ → ℕ) (f : Fate) → evaluate i ρ μ ≡ some f → Right i ρ μ f
right_of i ρ μ Waiting h = tt
right_of i ρ μ (Executed v a) h = h

-- an entry that has not executed told nothing of the register that it writes,
told : (t : Bool) (f g : Fate) (w : Option ℕ) → pending f ≡ true → Tells (cond t (value_of f) w) (cond t (value_of g) w)
told true Waiting g w e = unknown_tells (value_of g)
told true (Executed v a) g w e = absurd (true≢false (sym e))
told false f g w e = λ v h. h

-- and stored nothing
unstored : (i : Instruction) (f : Fate) (a w : ℕ) → pending f ≡ true → Forwarding.word_after (reference_by untold i f) a w ≡ w
unstored i Waiting a w e = refl
unstored i (Executed v b) a w e = absurd (true≢false (sym e))

module _ (program : List ℕ) (next : ℕ) (f : Fate) (d : ℕ) where
  good_set : (p left : ℕ) (es : List Entry) (ρ : ℕ → Option ℕ) (μ : ℕ → ℕ) → p < left → left ≤ length es
      → pending (entry_at es p).fate ≡ true
      → evaluate (entry_at es p).instruction (λ (k : ℕ). register_seen (take p es) k (ρ k)) (λ (a : ℕ). seen_by (take p es) a (μ a))
      ≡ some f
      → Spares (λ (a : ℕ). seen_by (take p es) a (μ a)) (reference_by untold (entry_at es p).instruction f)
      (map reference (take (left - suc p) (drop (suc p) es)))
      → Good program next ρ μ es
      → Good program (head_index (drop left es) next) ρ μ (take left (set es p (entry_with (entry_at es p) f d)))
  unfolding register_seen seen_by
  good_set p zero es ρ μ l m w o s g = absurd (not-suc-le-zero l)
  good_set p (suc left) [] ρ μ l m w o s g = tt
  good_set zero (suc left) (e ∷ es) ρ μ l m w o s g =
      let r = reference_by untold e.instruction f in
      let spared : Spares μ r (map reference (take left es)) =
      subst (λ (n : ℕ). Spares μ r (map reference (take n es))) (suc-sub-suc left 0 ∙ sub-zero left) s in (
        right_of e.instruction ρ μ f o,
        g.1,
        g.2,
        g.3 ∙ sym (head_take left es next),
        good_more program (head_index (drop left es) next) (take left es) _ _ _ _
            (λ k. told (writes_to e.instruction k) e.fate f (ρ k) w)
            (λ b h. unstored e.instruction e.fate b (μ b) w
            ∙ changed μ r (map reference (take left es)) spared b h)
            (good_take program next left es _ _ g.4),
      )
  good_set (suc p) (suc left) (e ∷ es) ρ μ l m w o s g = (
    g.0,
    g.1,
    g.2,
    g.3 ∙ sym (head_set p left es next f d),
    good_set p left es _ _ (omega arith) (omega arith) w o
        (subst
        (λ (n : ℕ).
        Spares (λ (a : ℕ). seen_by (take p es) a (Forwarding.word_after (reference e) a (μ a)))
        (reference_by untold (entry_at es p).instruction f)
        (map reference (take n (drop (suc p) es))))
        (suc-sub-suc left (suc p))
        s)
        g.4,
  )

-- ---- commit

-- where not one of two holds, neither does
pub neither : (a b : Bool) → (a || b) ≡ false → (a ≡ false) × (b ≡ false)
neither true b e = absurd (true≢false e)
neither false b e = (refl, e)

-- the run past a commit of instruction i with fate f
abbrev past : Run → Instruction → Fate → Run
past r i f =
    record {
      registers = registers_after r.registers i (value_by f);
      memory = written r.memory (reference_by untold i f);
      index = suc r.index;
      record' = r.record' ++ (r.index ∷ code_of i ∷ target i (address_by f) ∷ value_by f ∷ []);
    }

-- what an instruction comes to over the run's registers and memory
abbrev coming : Run → Instruction → Option Fate
coming r i = evaluate i (λ (k : ℕ). some (get_or r.registers k 0)) (λ (a : ℕ). get_or r.memory a 0)

-- the run's next entry, with fate f
abbrev next_with : Run → Instruction → Fate → Entry
next_with r i f = record { instruction = i; index = r.index; fate = f; distance = 0 }

-- the run's step does what a commit with fate f does, and faults where that commit is turned down
abbrev Does : Run → Instruction → Fate → Type 0
Does r i f = (does r i ≡ past r i f) × (faults_at r i ≡ barred (length r.memory) (next_with r i f))

does_so : (r : Run) (i : Instruction) (f : Fate) → coming r i ≡ some f → Does r i f
does_so r (Add d s imm) f h = subst (Does r (Add d s imm)) (some-injective _ f h) (refl, refl)
does_so r (Sum d s k) f h = subst (Does r (Sum d s k)) (some-injective _ f h) (refl, refl)
does_so r (Load d s imm) f h = subst (Does r (Load d s imm)) (some-injective _ f h) (refl, sym (or-false _))
does_so r (Store d s imm) f h = subst (Does r (Store d s imm)) (some-injective _ f h) (refl, sym (or-false _))
does_so r (Byte d s imm) f h = subst (Does r (Byte d s imm)) (some-injective _ f h) (refl, sym (or-false _))
does_so r (Half d s imm) f h = subst (Does r (Half d s imm)) (some-injective _ f h) (refl, refl)

right_known : (i : Instruction) (ρ : ℕ → Option ℕ) (μ : ℕ → ℕ) (f : Fate) → pending f ≡ false → Right i ρ μ f
    → evaluate i ρ μ ≡ some f
right_known i ρ μ Waiting w h = absurd (true≢false w)
right_known i ρ μ (Executed v a) w h = h

-- the run that the core with its oldest entry e stands for
abbrev run_of : Core → Entry → Run
run_of c e = record { registers = c.registers; memory = c.memory; index = e.index; record' = without c.record' }

module _ (program memory : List ℕ) (c : Core) (e : Entry) (es : List Entry) (kept : Kept program memory c)
    (at : c.entries ≡ e ∷ es) where
  run_is : run_after program memory c.commits ≡ run_of c e
  run_is =
      let oldest : e.index ≡ (run_after program memory c.commits).index =
      ap (λ (l : List Entry). head_index l c.next) (sym at) ∙ kept.index in
      λ i. record {
        registers = sym kept.registers i;
        memory = sym kept.lent i;
        index = sym oldest i;
        record' = sym kept.record' i;
      }

  good_oldest :
      Good program c.next (λ (k : ℕ). some (get_or c.registers k 0)) (λ (a : ℕ). get_or c.memory a 0) (e ∷ es)
  good_oldest =
      subst
      (λ (l : List Entry).
      Good program c.next (λ (k : ℕ). some (get_or c.registers k 0)) (λ (a : ℕ). get_or c.memory a 0) l)
      at
      kept.good

  module _ (w : pending e.fate ≡ false) where
    comes : coming (run_of c e) e.instruction ≡ some e.fate
    comes = right_known e.instruction _ _ e.fate w good_oldest.0

    -- the run ends before an executed oldest entry only where its commit is turned down
    ends_so : ends program (run_after program memory c.commits) ≡ barred (length c.memory) e
    ends_so =
        ap (ends program) run_is
        ∙ rw (lt-leb (length program / per_instruction) e.index good_oldest.2, ← good_oldest.1)
        (does_so (run_of c e) e.instruction e.fate comes).1

    run_goes : barred (length c.memory) e ≡ false
        → run_after program memory (suc c.commits) ≡ past (run_of c e) e.instruction e.fate
    unfolding run_after
    run_goes f =
        ap (step program) run_is
        ∙ ap (λ (t : Bool). cond t (run_of c e) (does (run_of c e) (instruction_at program e.index)))
        (ap (ends program) (sym run_is) ∙ ends_so ∙ f)
        ∙ ap (does (run_of c e)) (sym good_oldest.1)
        ∙ (does_so (run_of c e) e.instruction e.fate comes).0

-- what is seen past an executed oldest entry is what its commit leaves
seen_register : (l : List ℕ) (i : Instruction) (f : Fate) (k : ℕ) → pending f ≡ false → d_of i < length l
    → cond (writes_to i k) (value_of f) (some (get_or l k 0)) ≡ some (get_or (registers_after l i (value_by f)) k 0)
seen_register l i Waiting k w h = absurd (true≢false w)
seen_register l (Add d s imm) (Executed v a) k w h = set_test some l d k v h
seen_register l (Sum d s r) (Executed v a) k w h = set_test some l d k v h
seen_register l (Load d s imm) (Executed v a) k w h = set_test some l d k v h
seen_register l (Store d s imm) (Executed v a) k w h = refl
seen_register l (Byte d s imm) (Executed v a) k w h = refl
seen_register l (Half d s imm) (Executed v a) k w h = refl

-- ---- the destinations exist

does_length : (r : Run) (i : Instruction) → length (does r i).registers ≡ length r.registers
does_length r (Add d s imm) = length-set r.registers d _
does_length r (Sum d s k) = length-set r.registers d _
does_length r (Load d s imm) = length-set r.registers d _
does_length r (Store d s imm) = refl
does_length r (Byte d s imm) = refl
does_length r (Half d s imm) = refl

after_length : (program memory : List ℕ) (n : ℕ) → length (run_after program memory n).registers ≡ registers_most
unfolding run_after
after_length program memory zero = refl
after_length program memory (suc n) = go (ends program r) ∙ after_length program memory n
  where
    r : Run
    r = run_after program memory n

    go : (t : Bool) → length (cond t r (does r (instruction_at program r.index))).registers ≡ length r.registers
    go true = refl
    go false = does_length r (instruction_at program r.index)

both : (a b : Bool) → (a && b) ≡ true → (a ≡ true) × (b ≡ true)
both true b e = (refl, e)
both false b e = absurd (true≢false (sym e))

formed_d : (code d s imm : ℕ) → well_formed code d s imm ≡ true → d < registers_most
formed_d code d s imm e =
    let registers : (leb d 7 && leb s 7) ≡ true =
    (both (leb 1 code && leb code 6) (leb d 7 && leb s 7)
    (both ((leb 1 code && leb code 6) && (leb d 7 && leb s 7)) (not (eqb code 2) || leb imm 7) e).0
    ).1 in
    omega (arith, leb-true d 7 (both (leb d 7) (leb s 7) registers).0)

-- a choice between instructions with one d has that d
chosen_d : (t : Bool) (i j : Instruction) (d : ℕ) → d_of i ≡ d → d_of j ≡ d → d_of (cond t i j) ≡ d
chosen_d true i j d h k = h
chosen_d false i j d h k = k

decoded_d : (code d s imm : ℕ) → d_of (decoded code d s imm) ≡ d
decoded_d code d s imm =
    chosen_d (eqb code 1) _ _ d refl
    (chosen_d (eqb code 2) _ _ d refl
    (chosen_d (eqb code 3) _ _ d refl
    (chosen_d (eqb code 4) _ _ d refl (chosen_d (eqb code 5) (Byte d s imm) (Half d s imm) d refl refl))))

d_fits : (program : List ℕ) (i : ℕ) → program_fits program ≡ true → i < length program / per_instruction
    → d_of (instruction_at program i) < registers_most
unfolding program_fits
d_fits program i fits h =
    rw
    (decoded_d (get_or program (i * 4) 0) (get_or program (i * 4 + 1) 0) (get_or program (i * 4 + 2) 0) (get_or program (i * 4 + 3) 0))
    (formed_d (get_or program (i * 4) 0) (get_or program (i * 4 + 1) 0) (get_or program (i * 4 + 2) 0)
    (get_or program (i * 4 + 3) 0)
    (every_at (well_formed_at program) (length program / per_instruction)
    (both (eqb (length program % 4) 0) (every (well_formed_at program) (length program / per_instruction)) fits).1
    i
    h))

-- ---- the laws

pub kept_fresh : (program memory : List ℕ) → Kept program memory (fresh memory)
unfolding run_after without
kept_fresh program memory = record { registers = refl; lent = refl; record' = refl; index = refl; grows = refl; good = tt }

module _ (program memory : List ℕ) where
  -- issue goes on at the first of the entries that left
  kept_cut : (c : Core) (k : ℕ) (es : List Entry) → Kept program memory c
      → head_index es (head_index (drop k c.entries) c.next) ≡ head_index c.entries c.next
      → Good program (head_index (drop k c.entries) c.next) (λ (j : ℕ). some (get_or c.registers j 0))
      (λ (a : ℕ). get_or c.memory a 0)
      es
      → Kept program memory (cut_to c k es)
  kept_cut c k es kept same good =
      record {
        registers = kept.registers;
        lent = kept.lent;
        record' = kept.record';
        index = ap (head_index es) (refetch_drop c.entries k c.next) ∙ same ∙ kept.index;
        grows = kept.grows;
        good = subst
            (λ (n : ℕ). Good program n (λ (j : ℕ). some (get_or c.registers j 0)) (λ (a : ℕ). get_or c.memory a 0) es)
            (sym (refetch_drop c.entries k c.next))
            good;
      }

  kept_commit : (c : Core) (e : Entry) (es : List Entry) → program_fits program ≡ true → Kept program memory c
      → c.entries ≡ e ∷ es
      → pending e.fate ≡ false
      → barred (length c.memory) e ≡ false
      → Kept program memory (after_commit c e es)
  unfolding without
  kept_commit c e es fits kept at w f =
      let goes = run_goes program memory c e es kept at w f in
      let g = good_oldest program memory c e es kept at in
      let lies : d_of e.instruction < length c.registers =
      rw (kept.registers, after_length program memory c.commits, g.1) (d_fits program e.index fits g.2) in
      record {
        registers = sym (ap (λ (r : Run). r.registers) goes);
        lent = sym (ap (λ (r : Run). r.memory) goes);
        record' = without_append c.record' (recorded (committed_says e) []) c.commits kept.grows
            ∙ sym (ap (λ (r : Run). r.record') goes);
        index = sym g.3 ∙ sym (ap (λ (r : Run). r.index) goes);
        grows = simp length-append (omega (arith, kept.grows));
        good = good_more program c.next es _ _ _ _
            (λ j v h. sym (seen_register c.registers e.instruction e.fate j w lies) ∙ h)
            (λ b h. seen_written c.memory (reference e) b (neither _ _ f).0)
            g.4;
      }

pub kept_step : (program memory : List ℕ) → program_fits program ≡ true → {c d : Core} → Kept program memory c
    → Step program c d
    → Kept program memory d
kept_step program memory fits {c} kept (issuing h) =
    record {
      registers = kept.registers;
      lent = kept.lent;
      record' = kept.record';
      index = head_append program c.next c.entries ∙ kept.index;
      grows = kept.grows;
      good = good_append program c.next c.entries _ _ h kept.good;
    }
kept_step program memory fits {c} kept (executing p left f d l m w o s) =
    kept_cut program memory c left (take left (set c.entries p (entry_with (entry_at c.entries p) f d))) kept
    (head_set p left c.entries c.next f d)
    (good_set program c.next f d p left c.entries _ _ l m w o s kept.good)
kept_step program memory fits {c} kept (squashing k) =
    kept_cut program memory c k (take k c.entries) kept (head_take k c.entries c.next)
    (good_take program c.next k c.entries _ _ kept.good)
kept_step program memory fits {c} kept (committing e es at w f) = kept_commit program memory c e es fits kept at w f

-- where the run has ended nothing commits
pub none_after : (program memory : List ℕ) → program_fits program ≡ true → {c d : Core} → Kept program memory c
    → Step program c d
    → ends program (run_after program memory c.commits) ≡ true
    → d.commits ≡ c.commits
none_after program memory fits kept (issuing h) end = refl
none_after program memory fits kept (executing p left f d l m w o s) end = refl
none_after program memory fits kept (squashing k) end = refl
none_after program memory fits {c} kept (committing e es at w f) end =
    absurd (true≢false (sym end ∙ ends_so program memory c e es kept at w ∙ f))

-- where it has not, an instruction is left to issue into an empty window
pub issue_left : (program memory : List ℕ) (c : Core) → Kept program memory c
    → ends program (run_after program memory c.commits) ≡ false
    → c.entries ≡ []
    → c.next < length program / per_instruction
issue_left program memory c kept goes empty =
    let next : c.next ≡ (run_after program memory c.commits).index =
    ap (λ (l : List Entry). head_index l c.next) (sym empty) ∙ kept.index in
    omega (arith, leb-false (length program / per_instruction) (run_after program memory c.commits).index (neither _ _ goes).0)

-- the oldest entry's operands are known
pub oldest_known : (c : Core) (e : Entry) (es : List Entry) → c.entries ≡ e ∷ es
    → (v : ℕ) × (a : ℕ) × (evaluate e.instruction (registers_at c 0) (memory_at c 0) ≡ some (Executed v a))
unfolding register_seen
oldest_known c e es at = go e.instruction
  where
    go : (i : Instruction) → (v : ℕ) × (a : ℕ) × (evaluate i (registers_at c 0) (memory_at c 0) ≡ some (Executed v a))
    go (Add d s imm) = (_, _, refl)
    go (Sum d s k) = (_, _, refl)
    go (Load d s imm) = (_, _, refl)
    go (Store d s imm) = (_, _, refl)
    go (Byte d s imm) = (_, _, refl)
    go (Half d s imm) = (_, _, refl)

-- and the commit of an executed one is not turned down
pub commit_clean : (program memory : List ℕ) → program_fits program ≡ true → (c : Core) (e : Entry) (es : List Entry)
    → Kept program memory c
    → ends program (run_after program memory c.commits) ≡ false
    → c.entries ≡ e ∷ es
    → pending e.fate ≡ false
    → barred (length c.memory) e ≡ false
commit_clean program memory fits c e es kept goes at w = sym (ends_so program memory c e es kept at w) ∙ goes
