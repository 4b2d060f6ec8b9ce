-- Refusal 4 of an image: of a well-formed program, a slot's entry is the program's instruction at its index exactly where its
-- four numbers are the program's, whatever these numbers are.
-- Assumes nothing.
use mathlib.Core.Path.{◌≡◌, refl, sym, ap, ◌∙◌}
use mathlib.Core.Bool.{Bool, true, false, cond, not, ◌&&◌, ◌||◌, true≢false, and-eq-true_iff}
use mathlib.Core.List.{List}
use Prim.Native.Nat.{ℕ, ◌+◌, ◌*◌, ◌≤◌}
use native.Mathlib.Omega.{arith}
use lib.Dec.{eqb, leb}
use lib.ListN.{get_or}
use borrow.Author.Tests.{eqb-true, eqb-false, ne_eqb, leb-true}
use Rattle.machine_model.specs.declared.Instruction.{Instruction}
use Rattle.machine_model.specs.declared.Instruction.TheVariants.{Add, Sum, Load, Store, Byte, Half}
use Rattle.machine_model.specs.Program.{per_instruction, last_register, decoded, instruction_at, code_of, d_of, s_of, imm_of, same}
use Rattle.machine_model.specs.Program.{well_formed, well_formed_at}
use Rattle.machine_laws.proofs.Agreeing.{same_numbers}
use Rattle.embed_image.specs.declared.Slot.{Slot}
use Rattle.embed_image.specs.Slots.{instruction_by, entry_by, as_written}

three_more : (c k : ℕ) → k ≤ c → (c ≡ k → ⊥) → (c ≡ k + 1 → ⊥) → (c ≡ k + 2 → ⊥) → k + 3 ≤ c
three_more c k least zero one two = omega (arith, least, zero, one, two)

last : (c : ℕ) → 4 ≤ c → c ≤ 6 → (c ≡ 4 → ⊥) → (c ≡ 5 → ⊥) → c ≡ 6
last c least most four five = omega (arith, least, most, four, five)

module _ (code d s imm : ℕ) (h : well_formed code d s imm ≡ true) where
  abbrev coded : Bool
  coded = leb 1 code && leb code 6

  abbrev placed : Bool
  placed = leb d last_register && leb s last_register

  parts : (coded ≡ true) × (placed ≡ true)
  parts =
      (and-eq-true_iff coded placed).0 ((and-eq-true_iff (coded && placed) (not (eqb code 2) || leb imm last_register)).0 h).0

  abbrev by : Instruction → ℕ → Bool
  by i c = eqb c (code_of i) && eqb d (d_of i) && eqb s (s_of i) && eqb imm (imm_of i)

  abbrev four : ℕ → ℕ → ℕ → ℕ → Bool
  four c x y z = eqb code c && eqb d x && eqb s y && eqb imm z

  -- the instruction that stands for a code that there is not is none of a program
  none_such : (c x y z : ℕ) → (c ≡ code → ⊥) → by (Add 255 255 0) code ≡ four c x y z
  none_such c x y z other =
      let small = leb-true d last_register ((and-eq-true_iff (leb d last_register) (leb s last_register)).0 parts.1).0 in
      let far : eqb d 255 ≡ false = ne_eqb d 255 (λ e. omega (arith, e, small)) in
      let unlike : eqb code c ≡ false = ne_eqb code c (λ e. other (sym e)) in
      rw (far, unlike) (cases (eqb code 1))
    where
      cases : (b : Bool) → (b && false && eqb s 255 && eqb imm 0) ≡ (false && eqb d x && eqb s y && eqb imm z)
      cases true = refl
      cases false = refl

  written : (c x y z : ℕ) → (leb 1 c && leb c 6) ≡ true → by (decoded c x y z) code ≡ four c x y z
  written c x y z within = go (eqb c 1) (eqb c 2) (eqb c 3) (eqb c 4) (eqb c 5) refl refl refl refl refl
    where
      go : (t u v r q : Bool) → eqb c 1 ≡ t → eqb c 2 ≡ u → eqb c 3 ≡ v → eqb c 4 ≡ r → eqb c 5 ≡ q
          → by
          (cond t (Add x y z)
          (cond u (Sum x y z) (cond v (Load x y z) (cond r (Store x y z) (cond q (Byte x y z) (Half x y z))))))
          code
          ≡ four c x y z
      go true u v r q e f g h k = ap (λ (n : ℕ). four n x y z) (sym (eqb-true c 1 e))
      go false true v r q e f g h k = ap (λ (n : ℕ). four n x y z) (sym (eqb-true c 2 f))
      go false false true r q e f g h k = ap (λ (n : ℕ). four n x y z) (sym (eqb-true c 3 g))
      go false false false true q e f g h k = ap (λ (n : ℕ). four n x y z) (sym (eqb-true c 4 h))
      go false false false false true e f g h k = ap (λ (n : ℕ). four n x y z) (sym (eqb-true c 5 k))
      go false false false false false e f g h k =
          let both = (and-eq-true_iff (leb 1 c) (leb c 6)).0 within in
          let above = three_more c 1 (leb-true 1 c both.0) (eqb-false c 1 e) (eqb-false c 2 f) (eqb-false c 3 g) in
          ap (λ (n : ℕ). four n x y z) (sym (last c above (leb-true c 6 both.1) (eqb-false c 4 h) (eqb-false c 5 k)))

  numbers_decide : (c x y z : ℕ) → same (decoded code d s imm) (instruction_by c x y z) ≡ four c x y z
  numbers_decide c x y z = sym (same_numbers code d s imm (instruction_by c x y z) h) ∙ go (leb 1 c && leb c 6) refl
    where
      go : (b : Bool) → (leb 1 c && leb c 6) ≡ b → by (cond b (decoded c x y z) (Add 255 255 0)) code ≡ four c x y z
      go true e = written c x y z e
      go false e =
          none_such c x y z
          (λ same. true≢false (sym (ap (λ (n : ℕ). leb 1 n && leb n 6) same ∙ parts.0) ∙ e))

pub unlike : (program : List ℕ) (x : Slot) → well_formed_at program x.index ≡ true
    → same (instruction_at program x.index) (entry_by x).instruction ≡ as_written program x
unlike program x h =
    let at = x.index * per_instruction in
    numbers_decide (get_or program at 0) (get_or program (at + 1) 0) (get_or program (at + 2) 0) (get_or program (at + 3) 0) h
    x.code x.d x.s x.imm
