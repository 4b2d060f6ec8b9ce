-- The calls of a machine over any engine are steps of the window alone. Each accepted call is one step, whose conditions are the
-- checks that it passed; of an execution and of a commit the engine owes the rest (Owing), and its invariant holds again, so the
-- result is linked again. An opening that is not refused is linked. Where the window is empty and instructions are left, issue
-- is accepted; execution of an oldest entry that has not executed is accepted, as its operands are the committed registers and
-- it is never turned down; and so is the commit of an oldest entry that executed and is not barred by 13 or 14.
-- Assumes nothing.
use mathlib.Core.Bool.{Bool, true, false, cond, not, ◌&&◌, ◌||◌, true≢false, and-eq-true_iff}
use mathlib.Core.List.{List, [], ◌∷◌, ◌++◌}
use mathlib.Core.Option.{Option, none, some}
use mathlib.Core.Path.{◌≡◌, refl, sym, ap, ap₂, fun_ext, ◌∙◌}
use Prim.Native.Nat.{ℕ, ◌*◌, ◌/◌, ◌%◌, ◌<◌}
use native.Mathlib.Nat.{not-suc-le-zero}
use native.Mathlib.Numerals.{add-one}
use native.Mathlib.Omega.{arith}
use lib.Dec.{eqb, leb}
use lib.ListN.{length, get_or, take, drop, set, length-set}
use borrow.Author.Tests.{leb-false, eqb-true, eqb-false, not-false, lt-ltb, lt-leb, eq-eqb, ne_eqb}
use Rattle.table.specs.Reference
use Rattle.table.specs.Reference.{lacks, holds, waiting, other, accessed}
use Rattle.engine.specs.Execution.{written}
use Rattle.engine.specs.Conditions.{refusal, faults}
use Rattle.engine.proofs.Refusing.{passes}
use Rattle.machine_model.specs.declared.Instruction.{Instruction}
use Rattle.machine_model.specs.declared.Instruction.TheVariants.{Add, Sum, Load, Store, Byte, Half}
use Rattle.machine_model.specs.declared.Fate.{Fate}
use Rattle.machine_model.specs.declared.Entry.{Entry}
use Rattle.machine_model.specs.Program.{per_instruction, program_most, program_fits, code_of, instruction_at, d_of, s_of, imm_of, same}
use Rattle.machine_model.specs.Window.{blank_entry, entry_at, entry_with, pending, misaligned, register_seen, reference, with₂}
use Rattle.machine_model.specs.Window.{evaluate}
use Rattle.machine_model.specs.Over
use Rattle.machine_model.specs.Over.{Engine, Plain, new_entry, matches_program, known, unknown}
use Rattle.sequential.proofs.Core.{issuing, executing, squashing, barred, committing}
use Rattle.sequential.proofs.Keeping.{neither}
use Rattle.sequential.proofs.Each.{Each, each_next, each_take, each_drop, each_set}
use Rattle.sequential.proofs.Owing.{Owes, Linked}
use Rattle.sequential.proofs.Links.{Links, judged_links, program_passes, lent_passes, steps_quiet, stays, goes}

-- ---- opening

whole : (program : List ℕ) → program_fits program ≡ true → length program ≡ per_instruction * (length program / per_instruction)
unfolding program_fits
whole program h =
    omega (arith, eqb-true (length program % per_instruction) 0 ((and-eq-true_iff (eqb (length program % per_instruction) 0) _).0 h).0)

pub linked_open : {O S : Type 0} {E : Engine O S} (owes : Owes E) (o : O) (program memory : List ℕ)
    → refusal (Over.open_checks E o program memory) ≡ 0
    → Linked owes program (Over.opened E o program) memory
linked_open {E = E} owes o program memory z =
    let fit = E.fits o && leb (length program) program_most in
    let words = E.words (E.opening o) in
    let sized = passes (not fit) 0 _ z in
    let lent = passes (not (eqb (length memory) words)) 2 _ sized.1 in
    let fits = not-false (program_fits program) (passes (not (program_fits program)) 3 0 lent.1).0 in
    record {
      lent = eqb-true (length memory) words (not-false (eqb (length memory) words) lent.0);
      fits = fits;
      counted = whole program fits;
      bound = owes.bound_opened o
          ((and-eq-true_iff (E.fits o) (leb (length program) program_most)).0 (not-false fit sized.0)).0
          memory;
      alike = λ p h. absurd (not-suc-le-zero h);
    }

-- ---- what the calls make of the entries

same_refl : (i : Instruction) → same i i ≡ true
same_refl i =
    ap₂ ◌&&◌
    (ap₂ ◌&&◌ (ap₂ ◌&&◌ (eq-eqb (code_of i) (code_of i) refl) (eq-eqb (d_of i) (d_of i) refl)) (eq-eqb (s_of i) (s_of i) refl))
    (eq-eqb (imm_of i) (imm_of i) refl)

is_known : (o : Option Fate) → unknown o ≡ false → o ≡ some (known o)
is_known none h = absurd (true≢false h)
is_known (some f) h = refl

oldest_first : (es : List Entry) → (length es ≡ 0 → ⊥) → es ≡ entry_at es 0 ∷ drop 1 es
oldest_first [] h = absurd (h refl)
oldest_first (e ∷ es) h = refl

written_length : (memory : List ℕ) (f : Reference.Fate) → length (written memory f) ≡ length memory
written_length memory waiting = refl
written_length memory other = refl
written_length memory (accessed a l lacks) = refl
written_length memory (accessed a l (holds v)) = length-set memory a v

module _ {O S : Type 0} {E : Engine O S} (owes : Owes E) (program : List ℕ) (X : Plain S) (memory : List ℕ)
    (linked : Linked owes program X memory) where
  -- each entry is the program's instruction at its index: the entries beside themselves
  abbrev Alike : Entry → Entry → Type 0
  Alike r e = matches_program program X.count e ≡ true

  abbrev alike : Each blank_entry Alike X.entries X.entries
  alike = (refl, linked.alike)

  -- where the engine's invariant holds of what it and the entries became, the state is linked again
  linked_moved : (P : S) (es : List Entry) (registers : List ℕ) (next : ℕ) (v : List ℕ) → Each blank_entry Alike es es
      → owes.Bound P es v
      → length v ≡ length memory
      → E.words P ≡ E.words X.buffer
      → Linked owes program (record { buffer = P; entries = es; registers = registers; count = X.count; next = next }) v
  linked_moved P es registers next v moved bound same words =
      record {
        lent = same ∙ linked.lent ∙ sym words;
        fits = linked.fits;
        counted = linked.counted;
        bound = bound;
        alike = moved.1;
      }

  pub issue_links : Links owes program X memory (Over.issue_result E program X memory)
  issue_links =
      judged_links owes program X memory linked (refusal (Over.issue_checks E program X)) _
      (λ z.
      let passed = sym (program_passes owes program X memory linked (drop 1 (Over.issue_checks E program X))) ∙ z in
      let five = passes (E.full X.buffer X.entries) 4 _ passed in
      let six = passes (leb X.count X.next) 5 0 five.1 in
      let left : X.next < X.count = leb-false X.count X.next six.0 in
      let e = new_entry program X.next in
      record {
        linked =
            linked_moved _ (X.entries ++ (e ∷ [])) _ _ memory
            (each_next blank_entry Alike X.entries X.entries alike e e
            (ap₂ ◌&&◌ (lt-ltb X.next X.count left) (same_refl (instruction_at program X.next))))
            (owes.bound_issued X.buffer X.entries memory linked.bound five.0 e refl)
            refl (owes.words_issued X.buffer);
        steps = λ numbers n. steps_quiet (goes stays (issuing (omega (arith, linked.counted))));
      })

  module _ (p : ℕ) where
    -- the entry at position p executes to fate f
    executing_links : (f : Fate) → p < length X.entries → pending (entry_at X.entries p).fate ≡ true
        → Over.evaluated E X memory p ≡ some f
        → (Over.survivors_of E X memory p f ≡ 0 → ⊥)
        → Links owes program X memory (Over.executing E X memory p f (Over.survivors_of E X memory p f))
    executing_links f live idle comes runs =
        let es = X.entries in
        let left = Over.survivors_of E X memory p f in
        let d = Over.load_distance E X p f in
        let e = entry_with (entry_at es p) f d in
        let o = owes.executes X.buffer es memory linked.bound p live idle f d runs in
        record {
          linked =
              linked_moved _ (take left (set es p e)) _ _ memory
              (each_take blank_entry Alike (set es p e) (set es p e)
              (each_set blank_entry Alike es es alike p e e (linked.alike p live)) left)
              o.1 refl (owes.words_executed X.buffer p _);
          steps = λ numbers n.
              steps_quiet
              (goes stays
              (executing p left f d o.0.after o.0.within idle
              (ap (evaluate (entry_at es p).instruction (λ (k : ℕ). register_seen (take p es) k (some (get_or X.registers k 0))))
              (fun_ext (λ a. sym (owes.sees X.buffer es memory linked.bound p a))) ∙ comes)
              o.0.spares));
        }

    -- what the checks of an accepted execution say
    pub execute_passed : refusal (Over.execute_checks E program X memory p) ≡ 0
        → (p < length X.entries) × (pending (entry_at X.entries p).fate ≡ true)
        × (Over.evaluated E X memory p ≡ some (known (Over.evaluated E X memory p)))
        × (Over.survivors_of E X memory p (known (Over.evaluated E X memory p)) ≡ 0 → ⊥)
    execute_passed z =
        let found = Over.evaluated E X memory p in
        let passed = sym (lent_passes owes program X memory linked (drop 2 (Over.execute_checks E program X memory p))) ∙ z in
        let seven = passes (leb (length X.entries) p) 6 _ passed in
        let eight = passes (not (pending (entry_at X.entries p).fate)) 7 _ seven.1 in
        let nine = passes (unknown found) 8 _ eight.1 in
        let ten = passes (eqb (Over.survivors_of E X memory p (known found)) 0) 9 0 nine.1 in (
          leb-false (length X.entries) p seven.0,
          not-false (pending (entry_at X.entries p).fate) eight.0,
          is_known found nine.0,
          eqb-false (Over.survivors_of E X memory p (known found)) 0 ten.0,
        )

    pub execute_links : Links owes program X memory (Over.executions E program X memory p)
    execute_links =
        judged_links owes program X memory linked (refusal (Over.execute_checks E program X memory p)) _
        (λ z.
        let h = execute_passed z in
        executing_links (known (Over.evaluated E X memory p)) h.0 h.1 h.2 h.3)

    pub squash_links : Links owes program X memory (Over.squashes E program X memory p)
    squash_links =
        judged_links owes program X memory linked (refusal (Over.squash_checks E program X p)) _
        (λ z.
        record {
          linked =
              linked_moved _ (take p X.entries) _ _ memory
              (each_take blank_entry Alike X.entries X.entries alike p)
              (owes.bound_squashed X.buffer X.entries memory linked.bound p)
              refl (owes.words_squashed X.buffer p);
          steps = λ numbers n. steps_quiet (goes stays (squashing p));
        })

  pub commit_links : Links owes program X memory (Over.commits E program X memory)
  commit_links =
      judged_links owes program X memory linked (refusal (Over.commit_checks E program X memory)) _
      (λ z.
      let passed = sym (lent_passes owes program X memory linked (drop 2 (Over.commit_checks E program X memory))) ∙ z in
      let eleven = passes (eqb (length X.entries) 0) 10 _ passed in
      let twelve = passes (pending (entry_at X.entries 0).fate) 11 _ eleven.1 in
      let e = entry_at X.entries 0 in
      let thirteen = passes (faults (E.words X.buffer) (reference e)) 12 _ twelve.1 in
      let fourteen = passes (misaligned e) 13 0 thirteen.1 in
      let live = eqb-false (length X.entries) 0 eleven.0 in
      let fine : faults (length memory) (reference e) ≡ false =
      ap (λ (k : ℕ). faults k (reference e)) linked.lent ∙ thirteen.0 in
      let o = owes.commits X.buffer X.entries memory linked.bound live fine in
      record {
        linked =
            linked_moved _ (drop 1 X.entries) _ _ _ (each_drop blank_entry Alike X.entries X.entries alike 1) o.1
            (written_length memory (E.first X.buffer X.entries)) (owes.words_retired X.buffer);
        steps = λ numbers n.
            rw (o.0, add-one n)
            (goes stays
            (committing e (drop 1 X.entries) (oldest_first X.entries live) twelve.0 (ap₂ ◌||◌ fine fourteen.0)));
      })

-- ---- when the oldest's calls are accepted

-- the other way round: a check that is passed adds no number
skips : (c : Bool) (k rest : ℕ) → c ≡ false → rest ≡ 0 → cond c k rest ≡ 0
skips c k rest h z = rw (h, z)

-- an instruction whose registers are all known comes to something
all_known : (i : Instruction) (registers memory : ℕ → ℕ) → unknown (evaluate i (λ (k : ℕ). some (registers k)) memory) ≡ false
all_known (Add d s imm) registers memory = refl
all_known (Sum d s r) registers memory = refl
all_known (Load d s imm) registers memory = refl
all_known (Store d s imm) registers memory = refl
all_known (Byte d s imm) registers memory = refl
all_known (Half d s imm) registers memory = refl

-- what an instruction comes to is never that it waits
both_known : (x y : Option ℕ) (f : ℕ → ℕ → Fate) → ((a b : ℕ) → pending (f a b) ≡ false) → unknown (with₂ x y f) ≡ false
    → pending (known (with₂ x y f)) ≡ false
both_known none y f w e = absurd (let z : ◌≡◌ {A = ℕ} 0 1 = cc in omega arith)
both_known (some a) none f w e = absurd (let z : ◌≡◌ {A = ℕ} 0 1 = cc in omega arith)
both_known (some a) (some b) f w e = w a b

pub comes_known : (i : Instruction) (ρ : ℕ → Option ℕ) (μ : ℕ → ℕ) → unknown (evaluate i ρ μ) ≡ false
    → pending (known (evaluate i ρ μ)) ≡ false
comes_known (Add d s imm) ρ μ e = both_known (ρ s) (some imm) _ (λ a b. refl) e
comes_known (Sum d s k) ρ μ e = both_known (ρ s) (ρ k) _ (λ a b. refl) e
comes_known (Load d s imm) ρ μ e = both_known (ρ s) (some imm) _ (λ a b. refl) e
comes_known (Store d s imm) ρ μ e = both_known (ρ s) (ρ d) _ (λ a b. refl) e
comes_known (Byte d s imm) ρ μ e = both_known (ρ s) (ρ d) _ (λ a b. refl) e
comes_known (Half d s imm) ρ μ e = both_known (ρ s) (ρ d) _ (λ a b. refl) e

-- the operands of the oldest are the committed registers
oldest_comes : {O S : Type 0} (E : Engine O S) (X : Plain S) (memory : List ℕ) → unknown (Over.evaluated E X memory 0) ≡ false
unfolding register_seen
oldest_comes E X memory =
    all_known (entry_at X.entries 0).instruction (λ (k : ℕ). get_or X.registers k 0)
    (E.sees X.buffer X.entries memory 0)

-- so it comes to a fate that has executed
pub oldest_fate_lem : {O S : Type 0} (E : Engine O S) (X : Plain S) (memory : List ℕ)
    → pending (known (Over.evaluated E X memory 0)) ≡ false
oldest_fate_lem E X memory =
    comes_known (entry_at X.entries 0).instruction (λ (k : ℕ). register_seen (take 0 X.entries) k (some (get_or X.registers k 0)))
    (E.sees X.buffer X.entries memory 0) (oldest_comes E X memory)

module _ {O S : Type 0} {E : Engine O S} (owes : Owes E) (program : List ℕ) (X : Plain S) (memory : List ℕ)
    (linked : Linked owes program X memory) where
  pub issue_accepted : length X.entries ≡ 0 → X.next < X.count → refusal (Over.issue_checks E program X) ≡ 0
  issue_accepted empty left =
      program_passes owes program X memory linked (drop 1 (Over.issue_checks E program X))
      ∙ skips _ 5 _ (owes.room X.buffer X.entries memory linked.bound empty)
      (skips _ 6 0 (lt-leb X.count X.next left) refl)

  module _ (e : Entry) (es : List Entry) (is : X.entries ≡ e ∷ es) where
    pub execute_accepted : pending e.fate ≡ true → refusal (Over.execute_checks E program X memory 0) ≡ 0
    execute_accepted w =
        let live : 0 < length X.entries = omega (arith, ap length is) in
        let idle : pending (entry_at X.entries 0).fate ≡ true =
        ap (λ (ys : List Entry). pending (entry_at ys 0).fate) is ∙ w in
        lent_passes owes program X memory linked (drop 2 (Over.execute_checks E program X memory 0))
        ∙ skips _ 7 _ (lt-leb (length X.entries) 0 live)
        (skips _ 8 _ (ap not idle)
        (skips _ 9 _ (oldest_comes E X memory)
        (skips _ 10 0
        (ne_eqb (Over.survivors_of E X memory 0 (known (Over.evaluated E X memory 0))) 0
        (owes.oldest_runs X.buffer X.entries memory linked.bound live idle
        (Over.reference_at E X memory 0 (known (Over.evaluated E X memory 0)))))
        refl)))

    pub commit_accepted : pending e.fate ≡ false → barred (length memory) e ≡ false
        → refusal (Over.commit_checks E program X memory) ≡ 0
    commit_accepted executed clean =
        let oldest = ap (λ (ys : List Entry). entry_at ys 0) is in
        let fine = neither (faults (length memory) (reference e)) (misaligned e) clean in
        lent_passes owes program X memory linked (drop 2 (Over.commit_checks E program X memory))
        ∙ skips _ 11 _ (ne_eqb (length X.entries) 0 (λ empty. omega (arith, ap length is)))
        (skips _ 12 _ (ap (λ (y : Entry). pending y.fate) oldest ∙ executed)
        (skips _ 13 _
        (ap₂ (λ (k : ℕ) (y : Entry). faults k (reference y)) (sym linked.lent) oldest ∙ fine.0)
        (skips _ 14 0 (ap misaligned oldest ∙ fine.1) refl)))
