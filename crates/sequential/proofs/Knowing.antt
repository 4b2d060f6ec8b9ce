-- What is right stays right where more is known (good_more). Registers gain knowledge when a waiting entry executes: an
-- outcome over known operands is the same over registers that know more. The memory seen changes where a store executes. It
-- may change at each address that is clear among the entries, since none of them loads from there before one of them stores
-- there. Assumes nothing.
use mathlib.Core.Path.{◌≡◌, refl, sym, ap, ◌∙◌}
use mathlib.Core.Bool.{Bool, true, false, cond}
use mathlib.Core.List.{List, [], ◌∷◌, map}
use mathlib.Core.Option.{Option, none, some, none-ne-some}
use Prim.Native.Nat.{ℕ}
use Rattle.lookup.proofs.Faithfully.{clear, SameRead, same_read, same_past}
use Rattle.engine.specs.declared.Part.{Part}
use Rattle.engine.specs.declared.Part.TheVariants as part
use Rattle.engine.specs.Part.{word_of, whole}
use Rattle.machine_model.specs.declared.Instruction.{Instruction}
use Rattle.machine_model.specs.declared.Instruction.TheVariants.{Add, Sum, Load, Store, Byte, Half}
use Rattle.machine_model.specs.declared.Fate.{Fate}
use Rattle.machine_model.specs.declared.Fate.TheVariants.{Waiting, Executed}
use Rattle.machine_model.specs.declared.Entry.{Entry}
use Rattle.machine_model.specs.Program.{sum}
use Rattle.machine_model.specs.Window.{writes_to, value_of, reference_by, untold, reference, with₂, part_stored}
use Rattle.sequential.proofs.Core.{Right, Good}

-- what x tells, y tells too
abbrev pub Tells : Option ℕ → Option ℕ → Type 0
Tells x y = (v : ℕ) → x ≡ some v → y ≡ some v

pub unknown_tells : (y : Option ℕ) → Tells none y
unknown_tells y v e = absurd (none-ne-some v e)

more₂ : {A : Type 0} (x y x' y' : Option ℕ) (g : ℕ → ℕ → A) (f : A) → Tells x x' → Tells y y' → with₂ x y g ≡ some f
    → with₂ x' y' g ≡ some f
more₂ none y x' y' g f k l h = absurd (none-ne-some f h)
more₂ (some u) none x' y' g f k l h = absurd (none-ne-some f h)
more₂ (some u) (some w) x' y' g f k l h = rw (k u refl, l w refl) h

-- What an instruction comes to that reads a word, a load or a store of a part: its address is made of its operands, the word
-- read is at `place` of the address, and its value is made of operands and word.
abbrev reading : (ℕ → ℕ → ℕ) → (ℕ → ℕ) → (ℕ → ℕ → ℕ → ℕ) → (ℕ → ℕ) → ℕ → ℕ → Fate
reading address place made μ x y = Executed (made x y (μ (place (address x y)))) (address x y)

-- the word read must be the same
more_read : (x y x' y' : Option ℕ) (address : ℕ → ℕ → ℕ) (place : ℕ → ℕ) (made : ℕ → ℕ → ℕ → ℕ) (v a : ℕ) (μ μ' : ℕ → ℕ)
    → Tells x x' → Tells y y' → μ (place a) ≡ μ' (place a)
    → with₂ x y (reading address place made μ) ≡ some (Executed v a)
    → with₂ x' y' (reading address place made μ') ≡ some (Executed v a)
more_read none y x' y' address place made v a μ μ' k l m h = absurd (none-ne-some (Executed v a) h)
more_read (some u) none x' y' address place made v a μ μ' k l m h = absurd (none-ne-some (Executed v a) h)
more_read (some u) (some w) x' y' address place made v a μ μ' k l m h =
    let at : address u w ≡ a = cc in
    let same : μ' (place (address u w)) ≡ μ (place (address u w)) =
    ap (λ (b : ℕ). μ' (place b)) at ∙ sym m ∙ ap (λ (b : ℕ). μ (place b)) (sym at) in
    rw (k u refl, l w refl) (ap (λ (z : ℕ). some (Executed (made u w z) (address u w))) same ∙ h)

-- the same of a store of a part
more_part : (part : Part) (x y x' y' : Option ℕ) (imm v a : ℕ) (μ μ' : ℕ → ℕ) → Tells x x' → Tells y y'
    → μ (word_of a) ≡ μ' (word_of a)
    → with₂ x y (λ b c. part_stored part μ (sum b imm) c) ≡ some (Executed v a)
    → with₂ x' y' (λ b c. part_stored part μ' (sum b imm) c) ≡ some (Executed v a)
more_part part x y x' y' imm =
    more_read x y x' y' (λ b c. sum b imm) word_of (λ b c w. whole part (sum b imm) w c)

right_more : (i : Instruction) (f : Fate) (ρ ρ' : ℕ → Option ℕ) (μ μ' : ℕ → ℕ) → ((k : ℕ) → Tells (ρ k) (ρ' k))
    → SameRead (reference_by untold i f) μ μ' → Right i ρ μ f → Right i ρ' μ' f
right_more i Waiting ρ ρ' μ μ' k m h = tt
right_more (Add d s imm) (Executed v a) ρ ρ' μ μ' k m h = more₂ (ρ s) (some imm) (ρ' s) (some imm) _ _ (k s) (λ w e. e) h
right_more (Sum d s r) (Executed v a) ρ ρ' μ μ' k m h = more₂ (ρ s) (ρ r) (ρ' s) (ρ' r) _ _ (k s) (k r) h
right_more (Load d s imm) (Executed v a) ρ ρ' μ μ' k m h =
    more_read (ρ s) (some imm) (ρ' s) (some imm) sum (λ b. b) (λ b c w. w) v a μ μ' (k s) (λ w e. e) m h
right_more (Store d s imm) (Executed v a) ρ ρ' μ μ' k m h = more₂ (ρ s) (ρ d) (ρ' s) (ρ' d) _ _ (k s) (k d) h
right_more (Byte d s imm) (Executed v a) ρ ρ' μ μ' k m h =
    more_part part.Byte (ρ s) (ρ d) (ρ' s) (ρ' d) imm v a μ μ' (k s) (k d) m h
right_more (Half d s imm) (Executed v a) ρ ρ' μ μ' k m h =
    more_part part.Half (ρ s) (ρ d) (ρ' s) (ρ' d) imm v a μ μ' (k s) (k d) m h

-- past an entry
tells_past : (t : Bool) (x y y' : Option ℕ) → Tells y y' → Tells (cond t x y) (cond t x y')
tells_past true x y y' k = λ v e. e
tells_past false x y y' k = k

pub good_more : (program : List ℕ) (next : ℕ) (es : List Entry) (ρ ρ' : ℕ → Option ℕ) (μ μ' : ℕ → ℕ)
    → ((k : ℕ) → Tells (ρ k) (ρ' k)) → ((b : ℕ) → clear b (map reference es) ≡ false → μ b ≡ μ' b)
    → Good program next ρ μ es → Good program next ρ' μ' es
unfolding clear
good_more program next [] ρ ρ' μ μ' k m g = tt
good_more program next (e ∷ es) ρ ρ' μ μ' k m g = (
  right_more e.instruction e.fate ρ ρ' μ μ' k (same_read μ μ' (map reference es) (reference e) m) g.0,
  g.1,
  g.2,
  g.3,
  good_more program next es _ _ _ _
      (λ j. tells_past (writes_to e.instruction j) (value_of e.fate) (ρ j) (ρ' j) (k j))
      (same_past μ μ' (map reference es) (reference e) m)
      g.4,
)
