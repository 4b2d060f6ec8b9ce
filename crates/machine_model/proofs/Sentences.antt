-- 01's sentences of an operand and of refusal 9, shown of the definitions `register_seen` in specs/Window and, over any engine,
-- `evaluated` in specs/Over: "nearest", "older" by positions of the list. Induction on the reader's position: one more older entry decides if
-- it writes the register (register_next), else the entries before it do. And 02's of the distance that an executed load answers
-- and a commit records, from the law of the list in lookup. Assumes nothing.
use mathlib.Core.Bool.{Bool, true, false, cond}
use mathlib.Core.List.{List, [], ◌∷◌, ◌++◌}
use mathlib.Core.Logic.{◌⊎◌, inl, inr, ⊎_elim}
use mathlib.Core.Option.{Option, none, some}
use mathlib.Core.Path.{◌≡◌, refl, sym, ap, ◌∙◌}
use Prim.Native.Nat.{ℕ, zero, suc, ◌+◌, ◌*◌, ◌%◌, ◌≤◌, ◌<◌}
use native.Mathlib.Nat.{eq-or-lt_of_le, le_of_suc-le-suc, not-suc-le-zero, le_refl, le_step}
use native.Mathlib.Omega.{arith}
use lib.Dec.{eqb, leb}
use lib.ListN.{length, get_or, take}
use lib.Seq.{take-suc}
use Rattle.table.specs.Reference.{Side, accessed, holds, ref, at}
use Rattle.lookup.specs.Forwarding.{seen, distance}
use Rattle.lookup.proofs.Sentences.{CameFrom, distance_memory, distance_store, seen_none}
use Rattle.engine.specs.Contract.{committed}
use Rattle.machine_model.specs.declared.Instruction.{Instruction}
use Rattle.machine_model.specs.declared.Instruction.TheVariants.{Add, Sum, Load, Store, Byte, Half}
use Rattle.machine_model.specs.declared.Fate.{Fate}
use Rattle.machine_model.specs.declared.Fate.TheVariants.{Waiting, Executed}
use Rattle.machine_model.specs.declared.Entry.{Entry}
use Rattle.machine_model.specs.Window.{blank_entry, entry_at, misaligned, writes_to, value_of, register_seen, with₂, evaluate}
use Rattle.machine_model.specs.Program.{code_of, d_of, kind, sum}
use Rattle.machine_model.specs.Over
use Rattle.machine_model.specs.Over.{Engine}
use Rattle.machine_model.specs.Calls.{Plain, pending, evaluated, unknown, answer_by, committed_says, load_distance}

pub register_snoc : (es : List Entry) (e : Entry) (k : ℕ) (w : Option ℕ)
    → register_seen (es ++ (e ∷ [])) k w ≡ cond (writes_to e.instruction k) (value_of e.fate) (register_seen es k w)
unfolding register_seen
register_snoc [] e k w = refl
register_snoc (d ∷ es) e k w = register_snoc es e k (cond (writes_to d.instruction k) (value_of d.fate) w)

-- one more older entry
register_next : (es : List Entry) (p k : ℕ) (w : Option ℕ) → p < length es
    → register_seen (take (suc p) es) k w
    ≡ cond (writes_to (entry_at es p).instruction k) (value_of (entry_at es p).fate) (register_seen (take p es) k w)
register_next es p k w h =
    ap (λ (older : List Entry). register_seen older k w) (take-suc es p blank_entry h)
    ∙ register_snoc (take p es) (entry_at es p) k w

-- one that does not write the register leaves what it held
register_pass : (es : List Entry) (p k : ℕ) (w : Option ℕ) → p < length es
    → writes_to (entry_at es p).instruction k ≡ false → register_seen (take (suc p) es) k w ≡ register_seen (take p es) k w
register_pass es p k w h e =
    register_next es p k w h ∙ ap (λ (t : Bool). cond t (value_of (entry_at es p).fate) (register_seen (take p es) k w)) e

-- "An operand comes from the nearest older live instruction that writes that register": the entry at q
pub register_nearest : (es : List Entry) (p q k : ℕ) (w : Option ℕ) → q < p → p ≤ length es
    → writes_to (entry_at es q).instruction k ≡ true
    → ((j : ℕ) → q < j → j < p → writes_to (entry_at es j).instruction k ≡ false)
    → register_seen (take p es) k w ≡ value_of (entry_at es q).fate
register_nearest es zero q k w l h e others = absurd (not-suc-le-zero l)
register_nearest es (suc p) q k w l h e others =
    ⊎_elim
    (λ (i : q ≡ p).
    register_next es p k w h
    ∙ ap
    (λ (j : ℕ). cond (writes_to (entry_at es j).instruction k) (value_of (entry_at es j).fate) (register_seen (take p es) k w))
    (sym i)
    ∙ ap (λ (t : Bool). cond t (value_of (entry_at es q).fate) (register_seen (take p es) k w)) e)
    (λ (i : q < p).
    register_pass es p k w h (others p i (le_refl (suc p)))
    ∙ register_nearest es p q k w i (omega arith) e (λ j m o. others j m (le_step o)))
    (eq-or-lt_of_le (le_of_suc-le-suc l))

-- "else from the committed registers": no older live instruction writes it
pub register_committed : (es : List Entry) (p k : ℕ) (w : Option ℕ) → p ≤ length es
    → ((j : ℕ) → j < p → writes_to (entry_at es j).instruction k ≡ false) → register_seen (take p es) k w ≡ w
unfolding register_seen
register_committed es zero k w h others = refl
register_committed es (suc p) k w h others =
    register_pass es p k w h (others p (le_refl (suc p)))
    ∙ register_committed es p k w (omega arith) (λ j l. others j (le_step l))

-- ---- refusal 9: "an operand's writer has not executed"

-- the registers that an instruction needs: s; P's imm too; the d of S, B and H too
abbrev pub Needs : Instruction → ℕ → Type 0
Needs (Add d s imm) k = k ≡ s
Needs (Sum d s r) k = (k ≡ s) ⊎ (k ≡ r)
Needs (Load d s imm) k = k ≡ s
Needs (Store d s imm) k = (k ≡ s) ⊎ (k ≡ d)
Needs (Byte d s imm) k = (k ≡ s) ⊎ (k ≡ d)
Needs (Half d s imm) k = (k ≡ s) ⊎ (k ≡ d)

-- register k has a writer older than position p, and the nearest one waits
pub record WriterWaits (es : List Entry) (p k : ℕ) : Type 0 where
  pub writer : ℕ
  pub older : writer < p
  pub writes : writes_to (entry_at es writer).instruction k ≡ true
  pub nearest : (j : ℕ) → writer < j → j < p → writes_to (entry_at es j).instruction k ≡ false
  pub idle : pending (entry_at es writer).fate ≡ true

valueless : (f : Fate) → value_of f ≡ none → pending f ≡ true
valueless Waiting e = refl
valueless (Executed v a) e = absurd (let z : ◌≡◌ {A = ℕ} 0 1 = cc in omega arith)

waits_valueless : (f : Fate) → pending f ≡ true → value_of f ≡ none
waits_valueless Waiting e = refl
waits_valueless (Executed v a) e = absurd (let z : ◌≡◌ {A = ℕ} 0 1 = cc in omega arith)

-- what is not known of a register waits for its nearest writer, since committed registers are known
unknown_waits : (es : List Entry) (p k v : ℕ) → p ≤ length es → register_seen (take p es) k (some v) ≡ none → WriterWaits es p k
unfolding register_seen
unknown_waits es zero k v h e = absurd (let z : ◌≡◌ {A = ℕ} 0 1 = cc in omega arith)
unknown_waits es (suc p) k v h e =
    go (writes_to (entry_at es p).instruction k) refl (sym (register_next es p k (some v) h) ∙ e)
    (unknown_waits es p k v (omega arith))
  where
    go : (t : Bool) → writes_to (entry_at es p).instruction k ≡ t
        → cond t (value_of (entry_at es p).fate) (register_seen (take p es) k (some v)) ≡ none
        → (register_seen (take p es) k (some v) ≡ none → WriterWaits es p k) → WriterWaits es (suc p) k
    go true w f earlier =
        record {
          writer = p;
          older = le_refl (suc p);
          writes = w;
          nearest = λ j l m. absurd (omega arith);
          idle = valueless (entry_at es p).fate f;
        }
    go false w f earlier =
        let before = earlier f in
        record {
          writer = before.writer;
          older = le_step before.older;
          writes = before.writes;
          nearest = λ j l m.
              ⊎_elim
              (λ (i : j ≡ p). ap (λ (q : ℕ). writes_to (entry_at es q).instruction k) i ∙ w)
              (λ (i : j < p). before.nearest j l i)
              (eq-or-lt_of_le (le_of_suc-le-suc m));
          idle = before.idle;
        }

waits_unknown : (es : List Entry) (p k v : ℕ) → p ≤ length es → WriterWaits es p k → register_seen (take p es) k (some v) ≡ none
waits_unknown es p k v h w =
    register_nearest es p w.writer k (some v) w.older h w.writes w.nearest
    ∙ waits_valueless (entry_at es w.writer).fate w.idle

-- two operands are not known where one of them is not
one_unknown : (x y : Option ℕ) (f : ℕ → ℕ → Fate) → unknown (with₂ x y f) ≡ true → (x ≡ none) ⊎ (y ≡ none)
one_unknown none y f e = inl refl
one_unknown (some a) none f e = inr refl
one_unknown (some a) (some b) f e = absurd (let z : ◌≡◌ {A = ℕ} 0 1 = cc in omega arith)

first_unknown : (x y : Option ℕ) (f : ℕ → ℕ → Fate) → x ≡ none → unknown (with₂ x y f) ≡ true
first_unknown none y f e = refl
first_unknown (some a) y f e = absurd (let z : ◌≡◌ {A = ℕ} 0 1 = cc in omega arith)

second_unknown : (x y : Option ℕ) (f : ℕ → ℕ → Fate) → y ≡ none → unknown (with₂ x y f) ≡ true
second_unknown none y f e = refl
second_unknown (some a) none f e = refl
second_unknown (some a) (some b) f e = absurd (let z : ◌≡◌ {A = ℕ} 0 1 = cc in omega arith)

known_number : {A : Type 0} (v : ℕ) → ◌≡◌ {A = Option ℕ} (some v) none → A
known_number v e = absurd (let z : ◌≡◌ {A = ℕ} 0 1 = cc in omega arith)

-- an instruction comes to nothing yet exactly where a register that it needs is not known
module _ (ρ : ℕ → Option ℕ) (μ : ℕ → ℕ) where
  first_or : (s d : ℕ) (f : ℕ → ℕ → Fate) → unknown (with₂ (ρ s) (ρ d) f) ≡ true
      → (k : ℕ) × ((k ≡ s) ⊎ (k ≡ d)) × (ρ k ≡ none)
  first_or s d f e = ⊎_elim (λ h. (s, inl refl, h)) (λ h. (d, inr refl, h)) (one_unknown (ρ s) (ρ d) f e)

  needed : (i : Instruction) → unknown (evaluate i ρ μ) ≡ true → (k : ℕ) × Needs i k × (ρ k ≡ none)
  needed (Add d s imm) e = ⊎_elim (λ h. (s, refl, h)) (known_number imm) (one_unknown (ρ s) (some imm) _ e)
  needed (Sum d s r) e = first_or s r _ e
  needed (Load d s imm) e = ⊎_elim (λ h. (s, refl, h)) (known_number imm) (one_unknown (ρ s) (some imm) _ e)
  needed (Store d s imm) e = first_or s d _ e
  needed (Byte d s imm) e = first_or s d _ e
  needed (Half d s imm) e = first_or s d _ e

  either_unknown : (s d k : ℕ) (f : ℕ → ℕ → Fate) → (k ≡ s) ⊎ (k ≡ d) → ρ k ≡ none → unknown (with₂ (ρ s) (ρ d) f) ≡ true
  either_unknown s d k f n e =
      ⊎_elim (λ h. first_unknown (ρ s) (ρ d) f (ap ρ (sym h) ∙ e)) (λ h. second_unknown (ρ s) (ρ d) f (ap ρ (sym h) ∙ e)) n

  lacking : (i : Instruction) (k : ℕ) → Needs i k → ρ k ≡ none → unknown (evaluate i ρ μ) ≡ true
  lacking (Add d s imm) k n e = first_unknown (ρ s) (some imm) _ (ap ρ (sym n) ∙ e)
  lacking (Sum d s r) k n e = either_unknown s r k _ n e
  lacking (Load d s imm) k n e = first_unknown (ρ s) (some imm) _ (ap ρ (sym n) ∙ e)
  lacking (Store d s imm) k n e = either_unknown s d k _ n e
  lacking (Byte d s imm) k n e = either_unknown s d k _ n e
  lacking (Half d s imm) k n e = either_unknown s d k _ n e

-- 9 holds exactly if, for a register that the instruction needs, the nearest older live entry that writes it exists and waits
module _ {O S : Type 0} (E : Engine O S) (X : Over.Plain S) (memory : List ℕ) (p : ℕ) (inside : p ≤ length X.entries) where
  abbrev own : Instruction
  own = (entry_at X.entries p).instruction

  pub nine_waits : unknown (Over.evaluated E X memory p) ≡ true → (k : ℕ) × Needs own k × WriterWaits X.entries p k
  nine_waits e =
      let (k, n, h) = needed _ _ own e in (k, n, unknown_waits X.entries p k (get_or X.registers k 0) inside h)

  pub waits_nine : (k : ℕ) → Needs own k → WriterWaits X.entries p k → unknown (Over.evaluated E X memory p) ≡ true
  waits_nine k n w = lacking _ _ own k n (waits_unknown X.entries p k (get_or X.registers k 0) inside w)

-- ---- what a commit answers, and how far the word came

-- an entry of this instruction and index that executed to this value, address and distance
abbrev ran : Instruction → ℕ → ℕ → ℕ → ℕ → Entry
ran i n v a d = record { instruction = i; index = n; fate = Executed v a; distance = d }

-- Its commit answers "index, code, register (for S the address) and value", for B and H the byte number (the codes from 4 on), and
-- "a fifth number, 0 for other codes" than L's, which is 3.
pub commit_numbers_lem : (i : Instruction) (n v a d : ℕ)
    → committed_says (ran i n v a d)
    ≡ committed n (code_of i) (cond (leb 4 (code_of i)) a (d_of i)) v (cond (eqb (code_of i) 3) d 0)
commit_numbers_lem (Add r s imm) n v a d = refl
commit_numbers_lem (Sum r s k) n v a d = refl
commit_numbers_lem (Load r s imm) n v a d = refl
commit_numbers_lem (Store r s imm) n v a d = refl
commit_numbers_lem (Byte r s imm) n v a d = refl
commit_numbers_lem (Half r s imm) n v a d = refl

-- "an H at an odd byte number" is what 14 meets, and no B
pub odd_half : (r s imm n v k d : ℕ)
    → (misaligned (ran (Half r s imm) n v (2 * k + 1) d) ≡ true) × (misaligned (ran (Half r s imm) n v (2 * k) d) ≡ false)
odd_half r s imm n v k d =
    let one : (2 * k + 1) % 2 ≡ 1 = omega arith in
    let none : (2 * k) % 2 ≡ 0 = omega arith in
    (ap (λ (b : ℕ). eqb b 1) one, ap (λ (b : ℕ). eqb b 1) none)

pub odd_byte : (r s imm n v a d : ℕ) → misaligned (ran (Byte r s imm) n v a d) ≡ false
odd_byte r s imm n v a d = refl

-- the same of the number alone: of L, whose code is 3, it is the distance
pub distance_told : (i : Instruction) (d : ℕ)
    → (code_of i ≡ 3 → answer_by (kind i) d ≡ d) × ((code_of i ≡ 3 → ⊥) → answer_by (kind i) d ≡ 0)
distance_told (Add r s imm) d = (λ e. absurd (omega arith), λ other. refl)
distance_told (Sum r s k) d = (λ e. absurd (omega arith), λ other. refl)
distance_told (Load r s imm) d = (λ e. refl, λ other. absurd (other refl))
distance_told (Store r s imm) d = (λ e. absurd (omega arith), λ other. refl)
distance_told (Byte r s imm) d = (λ e. absurd (omega arith), λ other. refl)
distance_told (Half r s imm) d = (λ e. absurd (omega arith), λ other. refl)

-- A load at position p that executes to value v and address a, and the distance that it answers and its entry keeps: with 0 no
-- older live reference is an executed store to this word, and the value is memory's; else the value is the word of the store so
-- many positions older, and none between stores there.
module _ (X : Plain) (memory : List ℕ) (p r s imm v a : ℕ) (load : (entry_at X.entries p).instruction ≡ Load r s imm)
    (executes : evaluated X memory p ≡ some (Executed v a)) (inside : p ≤ length X.buffer.refs) where
  takes : seen (take p X.buffer.refs) a (get_or memory a 0) ≡ v
  takes =
      let μ : ℕ → ℕ = λ b. seen (take p X.buffer.refs) b (get_or memory b 0) in
      go (register_seen (take p X.entries) s (some (get_or X.registers s 0)))
      (ap
      (λ (i : Instruction).
      evaluate i (λ (k : ℕ). register_seen (take p X.entries) k (some (get_or X.registers k 0))) μ)
      (sym load)
      ∙ executes)
    where
      go : (x : Option ℕ)
          → let μ : ℕ → ℕ = λ b. seen (take p X.buffer.refs) b (get_or memory b 0) in
          with₂ x (some imm) (λ (y z : ℕ). Executed (μ (sum y z)) (sum y z)) ≡ some (Executed v a)
          → seen (take p X.buffer.refs) a (get_or memory a 0) ≡ v
      go none e = absurd (let z : ◌≡◌ {A = ℕ} 0 1 = cc in omega arith)
      go (some y) e =
          let address : sum y imm ≡ a = cc in
          let word : seen (take p X.buffer.refs) (sum y imm) (get_or memory (sum y imm) 0) ≡ v = cc in
          ap (λ (b : ℕ). seen (take p X.buffer.refs) b (get_or memory b 0)) (sym address) ∙ word

  far : load_distance X p (Executed v a) ≡ distance X.buffer.refs p a
  far = ap (λ (i : Instruction). answer_by (kind i) (distance X.buffer.refs p a)) load

  pub from_memory : load_distance X p (Executed v a) ≡ 0
      → (v ≡ get_or memory a 0)
      × ((k m u : ℕ) (l : Side) → k < p → at X.buffer.refs k ≡ ref m (accessed a l (holds u)) → ⊥)
  from_memory e =
      let none = distance_memory X.buffer.refs p a (sym far ∙ e) in
      (sym takes ∙ seen_none X.buffer.refs p a (get_or memory a 0) inside none, none)

  pub from_store : (d : ℕ) → load_distance X p (Executed v a) ≡ suc d
      → (from : CameFrom X.buffer.refs p (suc d) a (get_or memory a 0)) × (v ≡ from.word)
  from_store d e =
      let from = distance_store X.buffer.refs p d a (get_or memory a 0) inside (sym far ∙ e) in
      (from, sym takes ∙ from.taken)
