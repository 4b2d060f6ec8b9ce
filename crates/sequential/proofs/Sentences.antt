-- What a refusal is, said of the answers themselves: `is_refused` holds of the refusals and of nothing else, a refused call adds
-- nothing to the record, and `none_refused` says that no answer is a refusal. Which three calls are needed. And what the number of commits is, said of the
-- calls: the commit calls not refused and the numbers that finish answered. And what B and H do in the sequential run, said of
-- memory by its bytes: each byte of the part becomes the register's, every other one stays. Assumes nothing.
use mathlib.Core.Path.{◌≡◌, refl, sym, ap, ap₂, ◌∙◌}
use mathlib.Core.Bool.{Bool, true, false, cond, not, ◌&&◌, ◌||◌, true≢false, and-eq-true_iff, or-true}
use mathlib.Core.List.{List, [], ◌∷◌, ◌++◌}
use Prim.Native.Nat.{ℕ, ◌/◌, ◌%◌, ◌<◌}
use native.Mathlib.Omega.{arith}
use lib.Dec.{eqb, leb}
use lib.ListN.{length, get_or, set}
use lib.Seq.{get_or-set_same, get_or-set_other}
use borrow.Author.Tests.{eq-eqb, ne_eqb, eqb-true, eqb-false}
use Rattle.engine.specs.declared.Part.{Part}
use Rattle.engine.specs.declared.Part.TheVariants as part
use Rattle.engine.specs.Part.{word_of, whole}
use Rattle.engine.proofs.Parts.{byte_of, byte_stored, half_stored}
use Rattle.engine.specs.Contract.{refused, named, executed, done, committed, finished}
use Rattle.engine.specs.Conditions.{refusal}
use Rattle.machine_model.specs.declared.Instruction.{Instruction}
use Rattle.machine_model.specs.declared.Instruction.TheVariants.{Byte, Half}
use Rattle.machine_model.specs.Program.{per_instruction, instruction_at}
use Rattle.machine_model.specs.Window.{entry_at, pending}
use Rattle.machine_model.specs.Over
use Rattle.machine_model.specs.Over.{Engine, Plain, Call, issue, execute, squash, commit, finish, Answer, Result}
use Rattle.sequential.specs.Sequential.{Run, puts_part, register, address_of, does, faults_at, ends}
use Rattle.sequential.specs.Play.{recorded, commits_in, needed, is_refused, none_refused}
use Rattle.sequential.proofs.Finishing.{either}

-- is_refused a exactly if a is a refusal
pub refused_is : (a : Answer) → is_refused a ≡ true → (k : ℕ) × (a ≡ refused k)
refused_is (refused k) e = (k, refl)
refused_is (named p) e = absurd (true≢false (sym e))
refused_is (executed v d s) e = absurd (true≢false (sym e))
refused_is done e = absurd (true≢false (sym e))
refused_is (committed i c r v d) e = absurd (true≢false (sym e))
refused_is (finished n) e = absurd (true≢false (sym e))

pub is_refused_lem : (a : Answer) (k : ℕ) → a ≡ refused k → is_refused a ≡ true
is_refused_lem a k e = ap is_refused e

-- "The three calls of demand 3 are issue if nothing is live, execute of position 0 if that one is waiting, then commit."
module _ {S : Type 0} (program : List ℕ) (X : Plain S) where
  pub needed_empty : length X.entries ≡ 0 → needed program X ≡ issue ∷ execute 0 ∷ commit ∷ []
  needed_empty e = rw (eq-eqb (length X.entries) 0 e)

  module _ (live : length X.entries ≡ 0 → ⊥) where
    pub needed_waiting : pending (entry_at X.entries 0).fate ≡ true → needed program X ≡ execute 0 ∷ commit ∷ []
    needed_waiting e = rw (ne_eqb (length X.entries) 0 live, e)

    pub needed_executed : pending (entry_at X.entries 0).fate ≡ false → needed program X ≡ commit ∷ []
    needed_executed e = rw (ne_eqb (length X.entries) 0 live, e)

-- "A refused call adds nothing to the record."
pub refused_adds : (k : ℕ) (list : List ℕ) → (recorded (refused k) list ≡ []) × (commits_in (refused k) ≡ 0)
refused_adds k list = (refl, refl)

-- no answer among these is a refusal
abbrev pub Unrefused : List Answer → Type 0
Unrefused [] = Unit {0}
Unrefused (a ∷ answers) = ((k : ℕ) → a ≡ refused k → ⊥) × Unrefused answers

pub none_unrefused : (answers : List Answer) → none_refused answers ≡ true → Unrefused answers
unfolding none_refused
none_unrefused [] e = tt
none_unrefused (a ∷ answers) e =
    let both = (and-eq-true_iff (not (is_refused a)) (none_refused answers)).0 e in
    (λ k is. true≢false (sym both.0 ∙ ap not (is_refused_lem a k is)), none_unrefused answers both.1)

pub unrefused_none : (answers : List Answer) → Unrefused answers → none_refused answers ≡ true
unfolding none_refused
unrefused_none [] h = refl
unrefused_none (a ∷ answers) h = ap₂ ◌&&◌ (go (is_refused a) refl) (unrefused_none answers h.1)
  where
    go : (t : Bool) → is_refused a ≡ t → not t ≡ true
    go true e = absurd (let is = refused_is a e in h.0 is.0 is.1)
    go false e = refl

-- The number of commits "is the commit calls not refused plus the numbers that finish answered": what a call's answer counts.
abbrev pub Counts : Call → Answer → Type 0
Counts issue a = commits_in a ≡ 0
Counts (execute p) a = commits_in a ≡ 0
Counts (squash p) a = commits_in a ≡ 0
Counts commit a = commits_in a ≡ cond (is_refused a) 0 1
Counts (finish k list) a = is_refused a ≡ false → a ≡ finished (commits_in a)

pub counts : {O S : Type 0} (E : Engine O S) (program : List ℕ) (c : Call) (X : Plain S) (memory : List ℕ)
    → Counts c (Over.respond E program c X memory).answer
unfolding Over.respond
counts {S = S} E program issue X memory =
    either (λ (r : Result S). Counts issue r.answer) (eqb (refusal (Over.issue_checks E program X)) 0) refl refl
counts {S = S} E program (execute p) X memory =
    either (λ (r : Result S). Counts (execute p) r.answer) (eqb (refusal (Over.execute_checks E program X memory p)) 0) refl refl
counts {S = S} E program (squash p) X memory =
    either (λ (r : Result S). Counts (squash p) r.answer) (eqb (refusal (Over.squash_checks E program X p)) 0) refl refl
counts {S = S} E program commit X memory =
    either (λ (r : Result S). Counts commit r.answer) (eqb (refusal (Over.commit_checks E program X memory)) 0) refl refl
counts {S = S} E program (finish k list) X memory =
    either (λ (r : Result S). Counts (finish k list) r.answer) (eqb (refusal (Over.finish_checks E program X memory)) 0) (λ e. refl)
    (λ e. absurd (true≢false e))

-- ---- B and H in the sequential run

-- "The sequential run faults there": it ends before an H at an odd byte number.
pub odd_ends : (program : List ℕ) (r : Run) (d s imm : ℕ) → instruction_at program r.index ≡ Half d s imm
    → address_of r s imm % 2 ≡ 1 → ends program r ≡ true
odd_ends program r d s imm is odd =
    ap (λ (i : Instruction). leb (length program / per_instruction) r.index || faults_at r i) is
    ∙ rw (eq-eqb (address_of r s imm % 2) 1 odd, or-true (leb (length r.memory) (word_of (address_of r s imm))))
    (or-true (leb (length program / per_instruction) r.index))

-- byte j of memory: its word is a quarter of j rounded down, and lower byte numbers are the lower bits of the word
abbrev pub byte_at : List ℕ → ℕ → ℕ
byte_at memory j = byte_of (get_or memory (j / 4) 0) (j % 4)

same_test : (a b c d : ℕ) → (a ≡ b → c ≡ d) → (c ≡ d → a ≡ b) → eqb a b ≡ eqb c d
same_test a b c d there back = go (eqb a b) refl
  where
    go : (t : Bool) → eqb a b ≡ t → t ≡ eqb c d
    go true e = sym (eq-eqb c d (there (eqb-true a b e)))
    go false e = sym (ne_eqb c d (λ h. eqb-false a b e (back h)))

module _ (r : Run) (b v : ℕ) (lies : word_of b < length r.memory) where
  -- "The record prints the byte number and the whole word stored", which memory then has.
  pub part_recorded : (code : ℕ) (part : Part)
      → let x = puts_part r code part b v in
      x.record' ≡ r.record' ++ (r.index ∷ code ∷ b ∷ get_or x.memory (word_of b) 0 ∷ [])
  part_recorded code part =
      let w = whole part b (get_or r.memory (word_of b) 0) v in
      ap (λ (u : ℕ). r.record' ++ (r.index ∷ code ∷ b ∷ u ∷ [])) (sym (get_or-set_same r.memory (word_of b) w 0 lies))

  -- where a byte of b's word is that of the whole word, and a byte of another word is none of the part
  part_bytes : (code : ℕ) (part : Part) (j : ℕ) (t : Bool) (u : ℕ)
      → (word_of j ≡ word_of b
      → byte_of (whole part b (get_or r.memory (word_of b) 0) v) (j % 4)
      ≡ cond t u (byte_of (get_or r.memory (word_of b) 0) (j % 4)))
      → ((word_of j ≡ word_of b → ⊥) → t ≡ false)
      → byte_at (puts_part r code part b v).memory j ≡ cond t u (byte_at r.memory j)
  part_bytes code part j t u inside outside = go (eqb (word_of j) (word_of b)) refl
    where
      w : ℕ
      w = whole part b (get_or r.memory (word_of b) 0) v

      go : (c : Bool) → eqb (word_of j) (word_of b) ≡ c
          → byte_of (get_or (set r.memory (word_of b) w) (word_of j) 0) (j % 4) ≡ cond t u (byte_at r.memory j)
      go true e =
          let same = eqb-true (word_of j) (word_of b) e in
          rw (same, get_or-set_same r.memory (word_of b) w 0 lies) (inside same)
      go false e =
          let other = eqb-false (word_of j) (word_of b) e in
          rw (get_or-set_other r.memory (word_of b) (word_of j) w 0 other, outside other) refl

-- "The low byte of register d": byte b of memory becomes it, and every other byte stays.
pub byte_does : (r : Run) (d s imm j : ℕ)
    → let b = address_of r s imm in
    word_of b < length r.memory
    → byte_at (does r (Byte d s imm)).memory j ≡ cond (eqb j b) (register r d % 256) (byte_at r.memory j)
byte_does r d s imm j lies =
    let b = address_of r s imm in
    let w = get_or r.memory (word_of b) 0 in
    part_bytes r b (register r d) lies 5 part.Byte j (eqb j b) (register r d % 256)
    (λ same.
    byte_stored w (register r d) b (j % 4) (omega arith)
    ∙ ap (λ (t : Bool). cond t (register r d % 256) (byte_of w (j % 4)))
    (same_test (j % 4) (b % 4) j b (λ e. omega arith) (λ e. ap (λ (k : ℕ). k % 4) e)))
    (λ other. ne_eqb j b (λ e. other (ap word_of e)))

-- "Its low 16 bits": the two bytes of b's half word become them, lower bits first, and every other byte stays.
pub half_does : (r : Run) (d s imm j : ℕ)
    → let b = address_of r s imm in
    word_of b < length r.memory
    → byte_at (does r (Half d s imm)).memory j
    ≡ cond (eqb (j / 2) (b / 2)) (byte_of (register r d) (j % 2)) (byte_at r.memory j)
half_does r d s imm j lies =
    let b = address_of r s imm in
    let w = get_or r.memory (word_of b) 0 in
    let place : j % 4 % 2 ≡ j % 2 = omega arith in
    part_bytes r b (register r d) lies 6 part.Half j (eqb (j / 2) (b / 2)) (byte_of (register r d) (j % 2))
    (λ same.
    half_stored w (register r d) b (j % 4) (omega arith)
    ∙ ap₂ (λ (t : Bool) (k : ℕ). cond t (byte_of (register r d) k) (byte_of w (j % 4)))
    (same_test (j % 4 / 2) (b % 4 / 2) (j / 2) (b / 2) (λ e. omega arith) (λ e. omega arith))
    place)
    (λ other. ne_eqb (j / 2) (b / 2) (λ e. other (omega arith)))
