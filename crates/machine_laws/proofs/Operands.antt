-- Operands: what a register holds for an entry, and what its instruction asks with them.
-- The nearest older writer of a register decides what it holds, and is what the search by position finds (register_found): by
-- induction on the positions, since one entry more at the young end is one more turn of the search (register_next). An
-- instruction's outcome is the fate after what it asks (outcome_wanted): by the instruction and its
-- operands. What it then is to the buffer, and the value answered, go by the instruction too.
-- Assumes nothing.
use mathlib.Core.Bool.{Bool, true, false, cond}
use mathlib.Core.List.{List}
use mathlib.Core.Option.{Option, none, some, map}
use mathlib.Core.Path.{◌≡◌, refl, sym, ap, ◌∙◌}
use Prim.Native.Nat.{ℕ, zero, suc, ◌-◌, ◌<◌}
use native.Mathlib.Omega.{arith}
use lib.Dec.{eqb}
use lib.ListN.{get_or}
use borrow.Author.Tests.{ne_eqb}
use Rattle.marks.specs.Circle.{stage}
use Rattle.table.specs.View.{tabulate}
use Rattle.lookup.specs.Computed.Search.{find}
use Rattle.engine.specs.Execution.{fate_by, answer_of}
use Rattle.machine_model.specs.declared.Instruction.{Instruction}
use Rattle.machine_model.specs.declared.Instruction.TheVariants.{Add, Sum, Load, Store, Byte, Half}
use Rattle.machine_model.specs.declared.Fate.{Fate}
use Rattle.machine_model.specs.declared.Fate.TheVariants.{Executed}
use Rattle.machine_model.specs.declared.Entry.{Entry}
use Rattle.machine_model.specs.Program.{registers_most, s_of, kind, destination, sum}
use Rattle.engine.specs.declared.Action.TheVariants.{Compute, LoadAt, StoreAt, PartAt}
use Rattle.engine.specs.declared.Action.{Action}
use Rattle.machine_model.specs.Window.{blank_entry, is_register, value_of, address_by, register_seen, reference_by, with₂, part_stored, evaluate}
use Rattle.machine_model.specs.Calls.{value_by, answer_by, load_value}
use Rattle.machine_model.proofs.Sentences.{register_snoc}
use Rattle.machine_laws.specs.Computed.Parts.{register_number, destination_at, writer, entries_of, action_of, second}

-- the entry's fate after it, where the memory is seen as μ
abbrev pub fate_after : (ℕ → ℕ) → Action → Fate
fate_after μ (Compute x) = Executed x 0
fate_after μ (LoadAt a) = Executed (μ a) a
fate_after μ (StoreAt a x) = Executed x a
fate_after μ (PartAt part b x) = part_stored part μ b x

-- registers_most, which stands for no register, is no register's number
writes_number : (o : Option ℕ) (k : ℕ) → k < registers_most → is_register o k ≡ eqb (register_number o) k
writes_number none k h = sym (ne_eqb registers_most k (λ e. omega arith))
writes_number (some d) k h = refl

-- one turn of a search that finds nothing, and of one that finds position q
turn_none : {A : Type 0} (t : Bool) (p w : ℕ) (here older base : A) → cond t (suc p) w ≡ 0 → (w ≡ 0 → older ≡ base)
    → cond t here older ≡ base
turn_none true p w here older base e next = absurd (omega arith)
turn_none false p w here older base e next = next e

turn_at : {A : Type 0} (t : Bool) (p w q : ℕ) (v : ℕ → A) (older : A) → cond t (suc p) w ≡ suc q
    → (w ≡ suc q → older ≡ v q) → cond t (v p) older ≡ v q
turn_at true p w q v older e next = let s : p ≡ q = omega arith in ap v s
turn_at false p w q v older e next = next e

-- the entry at position p of a window by stage
abbrev entry_by : List Entry → ℕ → ℕ → ℕ → Entry
entry_by window oldest stages p = get_or window (stage oldest stages p) blank_entry

-- `into` has the destinations of the entries before position p
abbrev Packed : List Entry → ℕ → ℕ → List ℕ → ℕ → Type 0
Packed window oldest stages into p = (q : ℕ) → q < p → get_or into q 0 ≡ destination_at window oldest stages q

module _ (window : List Entry) (oldest stages : ℕ) (into : List ℕ) (k : ℕ) (small : k < registers_most) (base : Option ℕ) where
  register_next : (p : ℕ) → Packed window oldest stages into (suc p)
      → register_seen (entries_of window oldest stages (suc p)) k base
      ≡ cond (eqb (get_or into p 0) k) (value_of (entry_by window oldest stages p).fate)
      (register_seen (entries_of window oldest stages p) k base)
  unfolding tabulate
  register_next p packed =
      let e = entry_by window oldest stages p in
      register_snoc (entries_of window oldest stages p) e k base
      ∙ ap (λ (t : Bool). cond t (value_of e.fate) (register_seen (entries_of window oldest stages p) k base))
      (writes_number (destination e.instruction) k small
      ∙ ap (λ (d : ℕ). eqb d k) (sym (packed p (omega arith))))

  register_none : (p : ℕ) → Packed window oldest stages into p → writer into k p ≡ 0
      → register_seen (entries_of window oldest stages p) k base ≡ base
  unfolding find tabulate register_seen
  register_none zero packed e = refl
  register_none (suc p) packed e =
      register_next p packed
      ∙ turn_none (eqb (get_or into p 0) k) p (writer into k p)
      (value_of (entry_by window oldest stages p).fate) (register_seen (entries_of window oldest stages p) k base) base e
      (register_none p (λ q h. packed q (omega arith)))

  register_at : (p q : ℕ) → Packed window oldest stages into p → writer into k p ≡ suc q
      → register_seen (entries_of window oldest stages p) k base ≡ value_of (get_or window (stage oldest stages q) blank_entry).fate
  unfolding find
  register_at zero q packed e = absurd (omega arith)
  register_at (suc p) q packed e =
      register_next p packed
      ∙ turn_at (eqb (get_or into p 0) k) p (writer into k p) q
      (λ (r : ℕ). value_of (entry_by window oldest stages r).fate) (register_seen (entries_of window oldest stages p) k base) e
      (register_at p q (λ r h. packed r (omega arith)))

  -- what the search came to decides what the register holds
  pub register_found : (p w : ℕ) → Packed window oldest stages into p → w ≡ writer into k p
      → (w ≡ 0 → register_seen (entries_of window oldest stages p) k base ≡ base)
      × ((w ≡ 0 → ⊥) → (s : ℕ) → s ≡ stage oldest stages (w - 1)
      → register_seen (entries_of window oldest stages p) k base ≡ value_of (get_or window s blank_entry).fate)
  register_found p w packed found = (
    λ e. register_none p packed (sym found ∙ e),
    λ some-writer s at.
        let e : w ≡ suc (w - 1) = omega arith in
        register_at p (w - 1) packed (sym found ∙ e)
        ∙ ap (λ (q : ℕ). value_of (get_or window q blank_entry).fate) (sym at),
  )

-- one operand twice
twice : (x : Option ℕ) (f : ℕ → ℕ → Action) (g : ℕ → ℕ → Fate) (h : Action → Fate) (imm : ℕ)
    → ((a : ℕ) → g a imm ≡ h (f a a)) → with₂ x (some imm) g ≡ map h (with₂ x x f)
twice none f g h imm e = refl
twice (some a) f g h imm e = ap some (e a)

-- two operands
both : (x y : Option ℕ) (f : ℕ → ℕ → Action) (g : ℕ → ℕ → Fate) (h : Action → Fate)
    → ((a b : ℕ) → g a b ≡ h (f a b)) → with₂ x y g ≡ map h (with₂ x y f)
both none y f g h e = refl
both (some a) none f g h e = refl
both (some a) (some b) f g h e = ap some (e a b)

pub outcome_wanted : (i : Instruction) (ρ : ℕ → Option ℕ) (μ : ℕ → ℕ)
    → evaluate i ρ μ
    ≡ map (fate_after μ) (with₂ (ρ (s_of i)) (ρ (second i)) (action_of i))
outcome_wanted (Add d s imm) ρ μ = twice (ρ s) _ _ _ imm (λ a. refl)
outcome_wanted (Sum d s r) ρ μ = both (ρ s) (ρ r) _ _ _ (λ a b. refl)
outcome_wanted (Load d s imm) ρ μ = twice (ρ s) _ _ _ imm (λ a. refl)
outcome_wanted (Store d s imm) ρ μ = both (ρ s) (ρ d) _ _ _ (λ a b. refl)
outcome_wanted (Byte d s imm) ρ μ = both (ρ s) (ρ d) _ _ _ (λ a b. refl)
outcome_wanted (Half d s imm) ρ μ = both (ρ s) (ρ d) _ _ _ (λ a b. refl)

pub outcome_unready : (i : Instruction) (ρ : ℕ → Option ℕ) (μ : ℕ → ℕ)
    → with₂ (ρ (s_of i)) (ρ (second i)) (action_of i) ≡ none → evaluate i ρ μ ≡ none
outcome_unready i ρ μ e = outcome_wanted i ρ μ ∙ ap (map (fate_after μ)) e

pub outcome_ready : (i : Instruction) (ρ : ℕ → Option ℕ) (μ : ℕ → ℕ) (act : Action)
    → with₂ (ρ (s_of i)) (ρ (second i)) (action_of i) ≡ some act → evaluate i ρ μ ≡ some (fate_after μ act)
outcome_ready i ρ μ act e = outcome_wanted i ρ μ ∙ ap (map (fate_after μ)) e

-- known operands are two numbers
ready_numbers : (x y : Option ℕ) (f : ℕ → ℕ → Action) (act : Action) → with₂ x y f ≡ some act
    → (a : ℕ) × (b : ℕ) × (f a b ≡ act)
ready_numbers none y f act e = absurd (let z : ◌≡◌ {A = ℕ} 0 1 = cc in omega arith)
ready_numbers (some a) none f act e = absurd (let z : ◌≡◌ {A = ℕ} 0 1 = cc in omega arith)
ready_numbers (some a) (some b) f act e = (a, b, cc)

reference_after : (i : Instruction) (x y : ℕ) (μ : ℕ → ℕ)
    → reference_by μ i (fate_after μ (action_of i x y)) ≡ fate_by μ (action_of i x y)
reference_after (Add d s imm) x y μ = refl
reference_after (Sum d s r) x y μ = refl
reference_after (Load d s imm) x y μ = refl
reference_after (Store d s imm) x y μ = refl
reference_after (Byte d s imm) x y μ = refl
reference_after (Half d s imm) x y μ = refl

pub reference_ready : (i : Instruction) (x y : Option ℕ) (act : Action) (μ : ℕ → ℕ)
    → with₂ x y (action_of i) ≡ some act → reference_by μ i (fate_after μ act) ≡ fate_by μ act
reference_ready i x y act μ e =
    let n = ready_numbers x y (action_of i) act e in
    rw n.2 at (reference_after i n.0 n.1 μ)

-- what g says of a load's fate, if that is what δ says of its address, and 0 of anything else
answer_after : (i : Instruction) (x y : ℕ) (μ δ : ℕ → ℕ) (g : Fate → ℕ) → ((a : ℕ) → g (Executed (μ a) a) ≡ δ a)
    → answer_by (kind i) (g (fate_after μ (action_of i x y))) ≡ answer_of δ (action_of i x y)
answer_after (Add d s imm) x y μ δ g says = refl
answer_after (Sum d s r) x y μ δ g says = refl
answer_after (Load d s imm) x y μ δ g says = says (sum x imm)
answer_after (Store d s imm) x y μ δ g says = refl
answer_after (Byte d s imm) x y μ δ g says = refl
answer_after (Half d s imm) x y μ δ g says = refl

answer_ready : (i : Instruction) (x y : Option ℕ) (act : Action) (μ δ : ℕ → ℕ) (g : Fate → ℕ)
    → ((a : ℕ) → g (Executed (μ a) a) ≡ δ a) → with₂ x y (action_of i) ≡ some act
    → answer_by (kind i) (g (fate_after μ act)) ≡ answer_of δ act
answer_ready i x y act μ δ g says e =
    let n = ready_numbers x y (action_of i) act e in
    rw n.2 at (answer_after i n.0 n.1 μ δ g says)

-- the value that an execute answers is the word that the action reads
pub value_ready : (i : Instruction) (x y : Option ℕ) (act : Action) (μ : ℕ → ℕ)
    → with₂ x y (action_of i) ≡ some act → load_value i (fate_after μ act) ≡ answer_of μ act
value_ready i x y act μ = answer_ready i x y act μ μ value_by (λ a. refl)

-- the distance that it answers is that of the address read
pub distance_ready : (i : Instruction) (x y : Option ℕ) (act : Action) (μ δ : ℕ → ℕ)
    → with₂ x y (action_of i) ≡ some act → answer_by (kind i) (δ (address_by (fate_after μ act))) ≡ answer_of δ act
distance_ready i x y act μ δ = answer_ready i x y act μ δ (λ (f : Fate). δ (address_by f)) (λ a. refl)
