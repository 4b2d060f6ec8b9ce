-- WHAT AN ENGINE OWES. The record theorem is of a machine over any engine (Engine of crates/machine_model/specs/Over.antt) that
-- keeps an invariant of its state, the window's entries and the memory (Bound), from its openings on and through its four moves.
-- Under it an entry sees the memory that the entries before it leave, an execution that is not turned down leaves itself and a
-- prefix of the younger ones that it spares, a commit writes what the oldest entry is; an engine with nothing live is not full,
-- and an oldest entry that has not executed is never turned down. Linked is what holds of a state that calls reached.
-- Assumes nothing.
use mathlib.Core.Bool.{true, false}
use mathlib.Core.List.{List, [], ◌∷◌, ◌++◌, map}
use mathlib.Core.Path.{◌≡◌}
use Prim.Native.Nat.{ℕ, suc, ◌-◌, ◌*◌, ◌≤◌, ◌<◌}
use lib.ListN.{length, get_or, take, drop, set}
use Rattle.table.specs.Reference
use Rattle.lookup.proofs.Faithfully.{Spares}
use Rattle.engine.specs.Execution.{written}
use Rattle.engine.specs.Conditions.{faults}
use Rattle.machine_model.specs.declared.Fate.{Fate}
use Rattle.machine_model.specs.declared.Fate.TheVariants.{Waiting}
use Rattle.machine_model.specs.declared.Entry.{Entry}
use Rattle.machine_model.specs.Program.{per_instruction, program_fits}
use Rattle.machine_model.specs.Window.{entry_at, entry_with, pending, reference_by, untold, reference}
use Rattle.machine_model.specs.Over.{Engine, Plain, matches_program}
use Rattle.sequential.proofs.Core.{seen_by}

-- an execution of position p to fate x that leaves the first `left` of the entries es: itself and a prefix of the younger ones,
-- and of a store no load among them that saw another word before
pub record Spared (es : List Entry) (w : List ℕ) (p left : ℕ) (x : Fate) : Type 0 where
  pub after : p < left
  pub within : left ≤ length es
  pub spares : Spares (λ (a : ℕ). seen_by (take p es) a (get_or w a 0)) (reference_by untold (entry_at es p).instruction x)
      (map reference (take (left - suc p) (drop (suc p) es)))

pub record Owes {O S : Type 0} (E : Engine O S) : Type 1 where
  -- the invariant, and that it holds of an opening
  pub Bound : S → List Entry → List ℕ → Type 0
  pub bound_opened : (o : O) → E.fits o ≡ true → (w : List ℕ) → Bound (E.opening o) [] w
  -- no move changes the number of words
  pub words_issued : (P : S) → E.words (E.issued P) ≡ E.words P
  pub words_executed : (P : S) (p : ℕ) (f : Reference.Fate) → E.words (E.executed P p f) ≡ E.words P
  pub words_squashed : (P : S) (p : ℕ) → E.words (E.squashed P p) ≡ E.words P
  pub words_retired : (P : S) → E.words (E.retired P) ≡ E.words P
  -- forwarding
  pub sees : (P : S) (es : List Entry) (w : List ℕ) → Bound P es w → (p a : ℕ)
      → E.sees P es w p a ≡ seen_by (take p es) a (get_or w a 0)
  -- issue and squash
  pub bound_issued : (P : S) (es : List Entry) (w : List ℕ) → Bound P es w → E.full P es ≡ false → (e : Entry)
      → e.fate ≡ Waiting
      → Bound (E.issued P) (es ++ (e ∷ [])) w
  pub bound_squashed : (P : S) (es : List Entry) (w : List ℕ) → Bound P es w → (p : ℕ) → Bound (E.squashed P p) (take p es) w
  -- an execution that leaves something
  pub executes : (P : S) (es : List Entry) (w : List ℕ) → Bound P es w → (p : ℕ) → p < length es
      → pending (entry_at es p).fate ≡ true
      → (x : Fate) (d : ℕ)
      → let f = reference_by (E.sees P es w p) (entry_at es p).instruction x in
      let left = E.leaves P es p f in
      (left ≡ 0 → ⊥)
      → Spared es w p left x × Bound (E.executed P p f) (take left (set es p (entry_with (entry_at es p) x d))) w
  -- the commit of an oldest entry that executed and is no fault
  pub commits : (P : S) (es : List Entry) (w : List ℕ) → Bound P es w → (length es ≡ 0 → ⊥)
      → faults (length w) (reference (entry_at es 0)) ≡ false
      → (written w (E.first P es) ≡ written w (reference (entry_at es 0)))
      × Bound (E.retired P) (drop 1 es) (written w (E.first P es))
  -- progress
  pub room : (P : S) (es : List Entry) (w : List ℕ) → Bound P es w → length es ≡ 0 → E.full P es ≡ false
  pub oldest_runs : (P : S) (es : List Entry) (w : List ℕ) → Bound P es w → 0 < length es
      → pending (entry_at es 0).fate ≡ true
      → (f : Reference.Fate)
      → E.leaves P es 0 f ≡ 0
      → ⊥

-- What holds of a state and a memory that calls reached: memory has its length, the program is the one opened, the engine's
-- invariant holds, and each entry is the program's instruction at its index.
pub record Linked {O S : Type 0} {E : Engine O S} (owes : Owes E) (program : List ℕ) (X : Plain S) (memory : List ℕ)
    : Type 0 where
  pub lent : length memory ≡ E.words X.buffer
  pub fits : program_fits program ≡ true
  pub counted : length program ≡ per_instruction * X.count
  pub bound : owes.Bound X.buffer X.entries memory
  pub alike : (p : ℕ) → p < length X.entries → matches_program program X.count (entry_at X.entries p) ≡ true
