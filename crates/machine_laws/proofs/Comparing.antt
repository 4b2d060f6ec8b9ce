-- Fates by their kind and place, the two numbers by which window and table are compared (specs/Contract.antt). An entry
-- that agrees with a fate tells the same mark, with the table's word as a store's (mark_agreed).
-- Assumes nothing.
use mathlib.Core.Bool.{Bool, true, false, cond, ◌&&◌, ◌||◌, true≢false, and-eq-true_iff}
use mathlib.Core.Path.{◌≡◌, refl, sym, ap, ap₂, ◌∙◌}
use Prim.Native.Nat.{ℕ}
use native.Mathlib.Omega.{arith}
use lib.Dec.{eqb, leb, ltb}
use borrow.Author.Tests.{eqb-true, eq-eqb}
use Rattle.table.specs.Reference
use Rattle.table.specs.Reference.{Side, lacks, holds, waiting, other, accessed, idle}
use Rattle.lookup.specs.declared.Mark.TheVariants as mark
use Rattle.lookup.specs.declared.Mark.{Mark}
use Rattle.lookup.specs.Computed.Search.{mark_by, marked_fate}
use Rattle.engine.specs.Conditions.{faults}
use Rattle.engine.specs.Part.{word_of}
use Rattle.machine_model.specs.declared.Instruction.{Instruction}
use Rattle.machine_model.specs.declared.Kind.{Kind}
use Rattle.machine_model.specs.declared.Kind.TheVariants.{Computing, Loading, Storing, Merging}
use Rattle.machine_model.specs.declared.Fate.{Fate}
use Rattle.machine_model.specs.declared.Fate.TheVariants.{Waiting, Executed}
use Rattle.machine_model.specs.Program.{kind}
use Rattle.machine_model.specs.Window.{access_by, reference_by, untold}
use Rattle.machine_model.specs.Calls.{pending}
use Rattle.machine_model.specs.Contract.{mark_kind, kind_of, place_of, agree}
use Rattle.machine_laws.specs.Computed.Parts.{mark_with}

-- an access neither waits nor is without memory
pub marked_kind : (l s : Side)
    → (eqb (mark_kind l s) 4 ≡ false) × (eqb 4 (mark_kind l s) ≡ false) × (eqb 0 (mark_kind l s) ≡ false)
marked_kind (holds w) lacks = (refl, refl, refl)
marked_kind (holds w) (holds v) = (refl, refl, refl)
marked_kind lacks lacks = (refl, refl, refl)
marked_kind lacks (holds v) = (refl, refl, refl)

-- fates that agree are of one kind and place
pub agree_both : (f g : Reference.Fate) → agree f g ≡ true → (kind_of f ≡ kind_of g) × (place_of f ≡ place_of g)
agree_both f g e =
    let both = (and-eq-true_iff (eqb (kind_of f) (kind_of g)) (eqb (place_of f) (place_of g))).0 e in
    (eqb-true (kind_of f) (kind_of g) both.0, eqb-true (place_of f) (place_of g) both.1)

pub agree_waiting : (f : Reference.Fate) → agree waiting f ≡ true → f ≡ waiting
agree_waiting waiting e = refl
agree_waiting other e = absurd (true≢false (sym e))
agree_waiting (accessed a l s) e =
    absurd (true≢false (sym e ∙ ap (λ (b : Bool). b && eqb 0 a) (marked_kind l s).1))

pub idle_by : (f : Reference.Fate) → idle f ≡ eqb (kind_of f) 4
idle_by waiting = refl
idle_by other = refl
idle_by (accessed a l s) = sym (marked_kind l s).0

-- ---- what an entry is to the buffer

access_executed : (k : Kind) (v a : ℕ) → idle (access_by untold k v a) ≡ false
access_executed Computing v a = refl
access_executed Loading v a = refl
access_executed Storing v a = refl
access_executed Merging v a = refl

-- an entry waits where what it is to the buffer has not executed
pub waits_idle : (i : Instruction) (f : Fate) → pending f ≡ idle (reference_by untold i f)
waits_idle i Waiting = refl
waits_idle i (Executed v a) = sym (access_executed (kind i) v a)

-- whatever words loads took, it agrees
pub agree_words : (μ ν : ℕ → ℕ) (i : Instruction) (f : Fate) → agree (reference_by μ i f) (reference_by ν i f) ≡ true
agree_words μ ν i Waiting = refl
agree_words μ ν i (Executed v a) = go (kind i)
  where
    go : (k : Kind) → agree (access_by μ k v a) (access_by ν k v a) ≡ true
    go Computing = refl
    go Loading = eq-eqb a a refl
    go Storing = eq-eqb a a refl
    go Merging = eq-eqb (word_of a) (word_of a) refl

-- it faults by its kind and place
pub faults_kind : (words : ℕ) (i : Instruction) (f : Fate)
    → let g = reference_by untold i f in
    faults words g ≡ ((ltb 0 (kind_of g) && ltb (kind_of g) 4) && leb words (place_of g))
faults_kind words i Waiting = refl
faults_kind words i (Executed v a) = go (kind i)
  where
    go : (k : Kind)
        → let f = access_by untold k v a in faults words f ≡ ((ltb 0 (kind_of f) && ltb (kind_of f) 4) && leb words (place_of f))
    go Computing = refl
    go Loading = refl
    go Storing = refl
    go Merging = refl

-- and so does the mark that it tells
pub mark_faults_lem : (words : ℕ) (i : Instruction) (f : Fate) (v : ℕ)
    → faults words (marked_fate (mark_with (reference_by untold i f) v)) ≡ faults words (reference_by untold i f)
mark_faults_lem words i Waiting v = refl
mark_faults_lem words i (Executed x a) v = go (kind i)
  where
    go : (k : Kind) → faults words (marked_fate (mark_with (access_by untold k x a) v)) ≡ faults words (access_by untold k x a)
    go Computing = refl
    go Loading = refl
    go Storing = refl
    go Merging = refl

-- where it accesses memory it has a side
some_side : (i : Instruction) (f : Fate) → kind_of (reference_by untold i f) ≡ 5 → ⊥
some_side i Waiting = λ z. omega arith
some_side i (Executed v a) = go (kind i)
  where
    go : (k : Kind) → kind_of (access_by untold k v a) ≡ 5 → ⊥
    go Computing = λ z. omega arith
    go Loading = λ z. omega arith
    go Storing = λ z. omega arith
    go Merging = λ z. omega arith

-- the mark of this kind and place, where v is the word of a store
abbrev mark_of_kind : ℕ → ℕ → ℕ → Mark
mark_of_kind k a v = cond (eqb k 1) (mark.Load a) (cond (eqb k 2 || eqb k 3) (mark.Store a v) mark.Absent)

mark_by_lem : (g : Reference.Fate) (v : ℕ) → idle g ≡ false → (kind_of g ≡ 5 → ⊥)
    → ((a w : ℕ) (l : Side) → g ≡ accessed a l (holds w) → v ≡ w) → mark_of_kind (kind_of g) (place_of g) v ≡ mark_by g
mark_by_lem waiting v h n e = absurd (true≢false h)
mark_by_lem other v h n e = refl
mark_by_lem (accessed a (holds u) lacks) v h n e = refl
mark_by_lem (accessed a lacks (holds w)) v h n e = ap (mark.Store a) (e a w lacks refl)
mark_by_lem (accessed a (holds u) (holds w)) v h n e = ap (mark.Store a) (e a w (holds u) refl)
mark_by_lem (accessed a lacks lacks) v h n e = absurd (n refl)

-- the mark that an executed entry tells, with the table's word, is that of the fate that it agrees with
pub mark_agreed : (i : Instruction) (f : Fate) (g : Reference.Fate) (v : ℕ) → agree (reference_by untold i f) g ≡ true
    → idle g ≡ false → ((a w : ℕ) (l : Side) → g ≡ accessed a l (holds w) → v ≡ w)
    → mark_with (reference_by untold i f) v ≡ mark_by g
mark_agreed i f g v agreed done word =
    let both = agree_both (reference_by untold i f) g agreed in
    ap₂ (λ (k a : ℕ). mark_of_kind k a v) both.0 both.1
    ∙ mark_by_lem g v done (λ z. some_side i f (both.0 ∙ z)) word
