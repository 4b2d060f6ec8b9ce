-- 01's and 02's sentences of an accepted execution, of its answer and of the machine handed back, through the contract. It names
-- a squashed position exactly where the list requires a squash, and that one, and the entries before it stay (squash_comes,
-- squash_only, squash_none); an instruction without memory squashes nothing, nor does a load of an address with a row. What a
-- load answers, and how far its word came, is one record (LoadTold). These are the engine's laws (Outcomes) and those of the
-- plain list (lookup's Sentences) at the fate that the execution came to (Answered).
-- Assumes nothing.
use mathlib.Core.Bool.{Bool, true, false, cond}
use mathlib.Core.List.{List}
use mathlib.Core.Option.{Option, none, some}
use mathlib.Core.Path.{◌≡◌, refl, sym, ap, subst, ◌∙◌}
use Prim.Native.Nat.{ℕ, zero, suc, min, ◌-◌, ◌≤◌, ◌<◌}
use native.Mathlib.Nat.{le_of_lt}
use native.Mathlib.Omega.{arith}
use lib.Dec.{ltb}
use lib.ListN.{length, get_or, take, set, length-take, length-set, get_or-eq_default}
use lib.Seq.{get_or-take, get_or-set_same}
use borrow.Author.Tests.{ltb-true, ltb-false}
use Rattle.table.specs.Reference
use Rattle.table.specs.Reference.{State, Side, holds, accessed, ref, at}
use Rattle.table.proofs.Fates.{length_refs}
use Rattle.lookup.specs.Forwarding.{forwarded}
use Rattle.lookup.specs.Rows.{touched}
use Rattle.lookup.specs.Outcome.{survivors}
use Rattle.lookup.proofs.Sentences.{CameFrom}
use Rattle.lookup.proofs.Squashes.{Squashes, required, only_required, row_keeps, first_squashed}
use Rattle.engine.specs.Contract.{executed}
use Rattle.engine.proofs.Outcomes
use Rattle.machine_model.specs.declared.Instruction.{Instruction}
use Rattle.machine_model.specs.declared.Instruction.TheVariants.{Load}
use Rattle.machine_model.specs.declared.Kind.{Kind}
use Rattle.machine_model.specs.declared.Kind.TheVariants.{Computing}
use Rattle.machine_model.specs.declared.Fate.{Fate}
use Rattle.machine_model.specs.declared.Fate.TheVariants.{Waiting, Executed}
use Rattle.machine_model.specs.declared.Entry.{Entry}
use Rattle.machine_model.specs.declared.Machine.{Machine}
use Rattle.machine_model.specs.Program.{kind, sum}
use Rattle.machine_model.specs.Window.{blank_entry, entry_at, entry_with, register_seen, access_by, reference_by, with₂, evaluate}
use Rattle.machine_model.specs.Calls.{Plain, execute, evaluated, reference_at, survivors_of, load_value, load_distance}
use Rattle.machine_model.specs.Contract.{tabled, plain, Meets}
use Rattle.machine_model.proofs.Sounding.{length_entries, sound_or}
use Rattle.machine_model.proofs.Sentences.{from_store, from_memory}
use Rattle.machine_model.proofs.Answered.{Execution, comes_to_lem, execution}

-- what has no side leaves every reference
computing_all : (P : State) (p : ℕ) (i : Instruction) (μ : ℕ → ℕ) (f : Fate) → kind i ≡ Computing
    → survivors P p (reference_by μ i f) ≡ length P.refs
computing_all P p i μ Waiting e = refl
computing_all P p i μ (Executed v a) e = ap (λ (k : Kind). survivors P p (access_by μ k v a)) e

-- no reference older than position p is an executed store to address a
abbrev pub NoStore : Machine → ℕ → ℕ → Type 0
NoStore m p a =
    (k n y : ℕ) (l : Side) → k < p → at (plain m).buffer.refs k ≡ ref n (accessed a l (holds y)) → ⊥

-- A load at position p executed at address a and answered the value x and the distance d; u is the machine handed back.
pub record LoadTold (m : Machine) (p : ℕ) (w : List ℕ) (x d : ℕ) (u : Machine) (a : ℕ) : Type 0 where
  -- its entry keeps them
  pub entry : entry_at (plain u).entries p ≡ entry_with (entry_at (plain m).entries p) (Executed x a) d
  pub comes : evaluated (plain m) w p ≡ some (Executed x a)
  -- "with 0 for memory", and then the value is the memory word; "or 0 when the address is W or more"
  pub from_memory : d ≡ 0 → (x ≡ get_or w a 0) × NoStore m p a
  pub outside : m.table.words ≤ a → NoStore m p a → (x ≡ 0) × (d ≡ 0)
  -- "how many positions older that store is", and the value is its word
  pub from_store : (e : ℕ) → d ≡ suc e → (from : CameFrom (plain m).buffer.refs p (suc e) a (get_or w a 0)) × (x ≡ from.word)

-- a load comes to a value and an address
load_fate : (X : Plain) (w : List ℕ) (p r s imm : ℕ) → (entry_at X.entries p).instruction ≡ Load r s imm → (f : Fate)
    → evaluated X w p ≡ some f → (y a : ℕ) × (f ≡ Executed y a)
load_fate X w p r s imm load f comes =
    go (ρ s) (ap (λ (i : Instruction). evaluate i ρ (forwarded X.buffer w p)) (sym load) ∙ comes)
  where
    ρ : ℕ → Option ℕ
    ρ k = register_seen (take p X.entries) k (some (get_or X.registers k 0))

    go : (o : Option ℕ)
        → with₂ o (some imm) (λ (y z : ℕ). Executed (forwarded X.buffer w p (sum y z)) (sum y z)) ≡ some f
        → (y a : ℕ) × (f ≡ Executed y a)
    go none e = absurd (let z : ◌≡◌ {A = ℕ} 0 1 = cc in omega arith)
    go (some y) e = (forwarded X.buffer w p (sum y imm), sum y imm, cc)

module _ (program : List ℕ) (m : Machine) (p : ℕ) (w : List ℕ) {x d : ℕ} {gone : Option ℕ} {u : Machine} {v kept : List ℕ}
    (meets : Meets program m (execute p) w (executed x d gone) u v kept) where
  -- the instruction that executes
  abbrev own : Instruction
  own = (entry_at (plain m).entries p).instruction

  abbrev buffer : State
  buffer = (plain m).buffer

  -- it came to this fate
  module _ (f : Fate) (comes : evaluated (plain m) w p ≡ some f) where
    abbrev did : Execution m p w (executed x d gone) u f
    did = execution program m p w meets tt f comes

    -- what it is to the buffer
    abbrev fate : Reference.Fate
    fate = reference_at (plain m) w p f

    abbrev left : ℕ
    left = survivors_of (plain m) w p f

    -- its entry
    abbrev new : Entry
    new = entry_with (entry_at (plain m).entries p) f (load_distance (plain m) p f)

    -- the entries are as many as the references
    as_many : length (plain m).entries ≡ length buffer.refs
    as_many = length_entries m ∙ sym (length_refs m.table)

    gone_is : gone ≡ first_squashed buffer p (λ (k : ℕ). k) fate
    gone_is =
        let e = did.answer in
        let is : gone ≡ cond (ltb left (length (plain m).entries)) (some left) none = cc in
        is ∙ ap (λ (n : ℕ). cond (ltb left n) (some left) none) as_many

    -- the executing entry stays
    stays : p < left
    stays = go (ltb left (length buffer.refs)) refl
      where
        go : (b : Bool) → ltb left (length buffer.refs) ≡ b → p < left
        go true e = (required buffer p (only_required buffer p fate did.live did.stays (ltb-true _ _ e))).1
        go false e = omega (arith, did.live, ltb-false left (length buffer.refs) e)

    entries_are : (plain u).entries ≡ take left (set (plain m).entries p new)
    entries_are = ap (λ (Y : Plain). Y.entries) did.state

    stay : length (plain u).entries ≡ min left (length buffer.refs)
    stay =
        ap length entries_are ∙ length-take left (set (plain m).entries p new)
        ∙ ap (min left) (length-set (plain m).entries p new ∙ as_many)

    -- "a squash nobody called for comes when the list requires it and at no other time", from the position that it requires, and
    -- the entries before it stay
    pub squash_comes : (k : ℕ) → Squashes buffer p fate k → (gone ≡ some k) × (length (plain u).entries ≡ k)
    squash_comes = Outcomes.squash_comes did (λ (k : ℕ). k) gone_is stay

    pub squash_only : (k : ℕ) → gone ≡ some k → Squashes buffer p fate k
    squash_only k e =
        let named = Outcomes.squash_only did (λ (j : ℕ). j) gone_is stay k e in
        subst (Squashes buffer p fate) (sym named.2) named.1

    pub squash_none : ((k : ℕ) → Squashes buffer p fate k → ⊥)
        → (gone ≡ none) × (length (plain u).entries ≡ length (plain m).entries)
    squash_none free =
        let kept = Outcomes.squash_none did (λ (k : ℕ). k) gone_is stay free in
        (kept.0, kept.1 ∙ sym as_many)

    -- an instruction without memory squashes nothing
    pub computing_keeps : kind own ≡ Computing → (gone ≡ none) × (length (plain u).entries ≡ length (plain m).entries)
    computing_keeps e =
        let all : survivors_of (plain m) w p f ≡ length buffer.refs =
        computing_all buffer p own (forwarded buffer w p) f e in
        squash_none (λ k s. let r = required buffer p s in omega (arith, all, r.0, r.2))

  -- nor does a load of an address with a row
  pub row_load_keeps : (r s imm a : ℕ) → own ≡ Load r s imm → evaluated (plain m) w p ≡ some (Executed x a)
      → touched a buffer.refs ≡ true → (gone ≡ none) × (length (plain u).entries ≡ length (plain m).entries)
  row_load_keeps r s imm a load comes row =
      squash_none (Executed x a) comes
      (λ k s.
      row_keeps buffer p a k (holds (forwarded buffer w p a)) row
      (subst (λ (g : Reference.Fate). Squashes buffer p g k)
      (ap (λ (i : Instruction). access_by (forwarded buffer w p) (kind i) x a) load)
      s))

  -- ---- a load
  module _ (r s imm : ℕ) (load : own ≡ Load r s imm) where
    -- it came to this value and address
    module _ (y a : ℕ) (comes : evaluated (plain m) w p ≡ some (Executed y a)) where
      abbrev told : Execution m p w (executed x d gone) u (Executed y a)
      told = execution program m p w meets tt (Executed y a) comes

      value_is : y ≡ x
      value_is =
          let e = told.answer in
          let is : x ≡ load_value own (Executed y a) = cc in
          sym (is ∙ ap (λ (i : Instruction). load_value i (Executed y a)) load)

      distance_is : d ≡ load_distance (plain m) p (Executed y a)
      distance_is = let e = told.answer in cc

      inside : p ≤ length (plain m).buffer.refs
      inside = le_of_lt told.live

      memory_told : d ≡ 0 → (y ≡ get_or w a 0) × NoStore m p a
      memory_told e = from_memory (plain m) w p r s imm y a load comes inside (sym distance_is ∙ e)

      store_told : (n : ℕ) → d ≡ suc n → (from : CameFrom (plain m).buffer.refs p (suc n) a (get_or w a 0)) × (y ≡ from.word)
      store_told n e = from_store (plain m) w p r s imm y a load comes inside n (sym distance_is ∙ e)

      outside_told : m.table.words ≤ a → NoStore m p a → (y ≡ 0) × (d ≡ 0)
      outside_told out free = go d refl
        where
          go : (n : ℕ) → d ≡ n → (y ≡ 0) × (d ≡ 0)
          go zero e = ((memory_told e).0 ∙ get_or-eq_default w 0 (omega (arith, told.lent, out)), e)
          go (suc n) e =
              let from = (store_told n e).0 in
              absurd (free (p - suc n) from.number from.word from.load (omega (arith, from.older)) from.stores)

      entry_told : entry_at (plain u).entries p ≡ entry_with (entry_at (plain m).entries p) (Executed y a) d
      entry_told =
          let old = entry_at (plain m).entries p in
          let now = new (Executed y a) comes in
          ap (λ (es : List Entry). entry_at es p) (entries_are (Executed y a) comes)
          ∙ get_or-take (left (Executed y a) comes) (set (plain m).entries p now) p blank_entry (stays (Executed y a) comes)
          ∙ get_or-set_same (plain m).entries p now blank_entry (omega (arith, told.live, as_many (Executed y a) comes))
          ∙ ap (entry_with old (Executed y a)) (sym distance_is)

      load_at : LoadTold m p w y d u a
      load_at =
          record {
            entry = entry_told;
            comes = comes;
            from_memory = memory_told;
            outside = outside_told;
            from_store = store_told;
          }

    pub load_told : (a : ℕ) × LoadTold m p w x d u a
    load_told =
        let came = comes_to_lem tabled sound_or program m p w meets tt in
        let is = load_fate (plain m) w p r s imm load came.0 came.1 in
        let comes : evaluated (plain m) w p ≡ some (Executed is.0 is.1) = came.1 ∙ ap some is.2 in
        (is.1, subst (λ (y : ℕ). LoadTold m p w y d u is.1) (value_is is.0 is.1 comes) (load_at is.0 is.1 comes))
