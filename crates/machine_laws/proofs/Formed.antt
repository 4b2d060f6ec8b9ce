-- The instructions of a well-formed program name registers 0 to 7 (program_small), and so does an entry that is like one: its
-- numbers are the program's (told), of which d and s are at most 7, and imm too where the code is 2 (formed). Assumes nothing.
use mathlib.Core.Bool.{Bool, true, false, cond, not, ◌&&◌, ◌||◌, and-eq-true_iff}
use mathlib.Core.List.{List}
use mathlib.Core.Path.{◌≡◌, refl}
use Prim.Native.Nat.{ℕ, ◌+◌, ◌*◌, ◌/◌, ◌%◌, ◌<◌}
use native.Mathlib.Omega.{arith}
use lib.Dec.{eqb, leb, ltb}
use lib.ListN.{length, get_or}
use borrow.Author.Tests.{eqb-true, leb-true, ltb-true}
use Rattle.marks.specs.Counting.{every}
use Rattle.marks.proofs.Counts.{every_at}
use Rattle.machine_model.specs.declared.Instruction.{Instruction}
use Rattle.machine_model.specs.declared.Instruction.TheVariants.{Add, Sum, Load, Store, Byte, Half}
use Rattle.machine_model.specs.declared.Entry.{Entry}
use Rattle.machine_model.specs.Program.{registers_most, decoded, instruction_at, code_of, well_formed, well_formed_at, program_fits, d_of, s_of}
use Rattle.machine_model.specs.Program.{imm_of, same}
use Rattle.machine_model.specs.Calls.{matches_program}
use Rattle.machine_laws.specs.Computed.Parts.{second}

-- the code, d, s and imm of an instruction
record Told (i : Instruction) (code d s imm : ℕ) : Type 0 where
  is_sum : code_of i ≡ 2 → eqb code 2 ≡ true
  is_d : d_of i ≡ d
  is_s : s_of i ≡ s
  is_imm : imm_of i ≡ imm

-- an instruction that is no sum
plain : (i : Instruction) (code : ℕ) → (code_of i ≡ 2 → ⊥) → Told i code (d_of i) (s_of i) (imm_of i)
plain i code other = record { is_sum = λ h. absurd (other h); is_d = refl; is_s = refl; is_imm = refl }

told : (code d s imm : ℕ) → Told (decoded code d s imm) code d s imm
told code d s imm = go (eqb code 1) (eqb code 2) (eqb code 3) (eqb code 4) (eqb code 5) refl
  where
    go : (t u v x y : Bool) → eqb code 2 ≡ u
        → Told
        (cond t (Add d s imm)
        (cond u (Sum d s imm) (cond v (Load d s imm) (cond x (Store d s imm) (cond y (Byte d s imm) (Half d s imm))))))
        code
        d
        s
        imm
    go true u v x y e = plain (Add d s imm) code (λ h. omega arith)
    go false true v x y e = record { is_sum = λ h. e; is_d = refl; is_s = refl; is_imm = refl }
    go false false true x y e = plain (Load d s imm) code (λ h. omega arith)
    go false false false true y e = plain (Store d s imm) code (λ h. omega arith)
    go false false false false true e = plain (Byte d s imm) code (λ h. omega arith)
    go false false false false false e = plain (Half d s imm) code (λ h. omega arith)

-- what a well-formed instruction's numbers are at most
record Small (code d s imm : ℕ) : Type 0 where
  low_d : d < registers_most
  low_s : s < registers_most
  low_imm : eqb code 2 ≡ true → imm < registers_most

formed : (code d s imm : ℕ) → well_formed code d s imm ≡ true → Small code d s imm
formed code d s imm h =
    let outer =
    (and-eq-true_iff ((leb 1 code && leb code 6) && (leb d 7 && leb s 7)) (not (eqb code 2) || leb imm 7)).0 h in
    let inner = (and-eq-true_iff (leb 1 code && leb code 6) (leb d 7 && leb s 7)).0 outer.0 in
    let registers = (and-eq-true_iff (leb d 7) (leb s 7)).0 inner.1 in
    record {
      low_d = omega (arith, leb-true d 7 registers.0);
      low_s = omega (arith, leb-true s 7 registers.1);
      low_imm = λ e. omega (arith, leb-true imm 7 (third (eqb code 2) (leb imm 7) e outer.1));
    }
  where
    third : (a b : Bool) → a ≡ true → (not a || b) ≡ true → b ≡ true
    third true b e f = f
    third false b e f = absurd (let z : ◌≡◌ {A = ℕ} 0 1 = cc in omega arith)

-- an instruction with the numbers of another that is well formed
alike_small : (i j : Instruction) (code d s imm : ℕ) → Told i code d s imm → Small code d s imm → same i j ≡ true
    → (s_of j < registers_most) × (second j < registers_most)
alike_small i j code d s imm t small h = go j third.1 second_pair.1 first.1 (eqb-true _ _ first.0)
  where
    third : ((eqb (code_of i) (code_of j) && eqb (d_of i) (d_of j) && eqb (s_of i) (s_of j)) ≡ true)
        × (eqb (imm_of i) (imm_of j) ≡ true)
    third =
        (and-eq-true_iff (eqb (code_of i) (code_of j) && eqb (d_of i) (d_of j) && eqb (s_of i) (s_of j))
        (eqb (imm_of i) (imm_of j))).0 h

    second_pair : (eqb (code_of i) (code_of j) && eqb (d_of i) (d_of j)) ≡ true × (eqb (s_of i) (s_of j) ≡ true)
    second_pair = (and-eq-true_iff (eqb (code_of i) (code_of j) && eqb (d_of i) (d_of j)) (eqb (s_of i) (s_of j))).0 third.0

    first : (eqb (code_of i) (code_of j) ≡ true) × (eqb (d_of i) (d_of j) ≡ true)
    first = (and-eq-true_iff (eqb (code_of i) (code_of j)) (eqb (d_of i) (d_of j))).0 second_pair.0

    s_low : (r : ℕ) → eqb (s_of i) r ≡ true → r < registers_most
    s_low r e = omega (arith, eqb-true (s_of i) r e, t.is_s, small.low_s)

    d_low : (r : ℕ) → eqb (d_of i) r ≡ true → r < registers_most
    d_low r e = omega (arith, eqb-true (d_of i) r e, t.is_d, small.low_d)

    go : (k : Instruction) → eqb (imm_of i) (imm_of k) ≡ true → eqb (s_of i) (s_of k) ≡ true → eqb (d_of i) (d_of k) ≡ true
        → code_of i ≡ code_of k → (s_of k < registers_most) × (second k < registers_most)
    go (Add e r n) a b f g = (s_low r b, s_low r b)
    go (Sum e r n) a b f g = (
      s_low r b,
      omega (arith, eqb-true (imm_of i) n a, t.is_imm, small.low_imm (t.is_sum g)),
    )
    go (Load e r n) a b f g = (s_low r b, s_low r b)
    go (Store e r n) a b f g = (s_low r b, d_low e f)
    go (Byte e r n) a b f g = (s_low r b, d_low e f)
    go (Half e r n) a b f g = (s_low r b, d_low e f)

formed_at : (program : List ℕ) (count i : ℕ) → program_fits program ≡ true → length program ≡ 4 * count → i < count
    → Small (get_or program (i * 4) 0) (get_or program (i * 4 + 1) 0) (get_or program (i * 4 + 2) 0) (get_or program (i * 4 + 3) 0)
unfolding program_fits
formed_at program count i fits counted low =
    let whole = (and-eq-true_iff (eqb (length program % 4) 0) (every (well_formed_at program) (length program / 4))).0 fits in
    formed (get_or program (i * 4) 0) (get_or program (i * 4 + 1) 0) (get_or program (i * 4 + 2) 0) (get_or program (i * 4 + 3) 0)
    (every_at (well_formed_at program) (length program / 4) whole.1 i (omega arith))

-- what reading the instruction at index i asks for
pub program_small : (program : List ℕ) (count i : ℕ) → program_fits program ≡ true → length program ≡ 4 * count → i < count
    → (i * 4 + 3 < length program) × (get_or program (i * 4 + 1) 0 < registers_most) × (get_or program (i * 4 + 2) 0 < registers_most)
program_small program count i fits counted low =
    let small = formed_at program count i fits counted low in
    (omega arith, small.low_d, small.low_s)

pub like_small : (program : List ℕ) (count : ℕ) (e : Entry) → program_fits program ≡ true → length program ≡ 4 * count
    → matches_program program count e ≡ true → (s_of e.instruction < registers_most) × (second e.instruction < registers_most)
like_small program count e fits counted h =
    let i = e.index in
    let both = (and-eq-true_iff (ltb i count) (same (instruction_at program i) e.instruction)).0 h in
    let code = get_or program (i * 4) 0 in
    let d = get_or program (i * 4 + 1) 0 in
    let s = get_or program (i * 4 + 2) 0 in
    let imm = get_or program (i * 4 + 3) 0 in
    alike_small (instruction_at program i) e.instruction code d s imm (told code d s imm)
    (formed_at program count i fits counted (ltb-true i count both.0))
    both.1
