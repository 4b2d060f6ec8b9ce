-- How the contract `Meets` is met: by a refusal with 2 where the machine is not sound, by any other refusal that the
-- definition gives, and by an accepted call whose answer, state, memory and list are the definition's. The validation is the
-- first of the conditions 2, 3 and 4 that holds, and 0 says that none does (validate_passes). It looks at the window by stage, the
-- definition at the list of entries; they see the same entries (fits_same). Assumes nothing.
use mathlib.Core.Bool.{Bool, true, not, ◌&&◌, and-eq-true_iff}
use mathlib.Core.List.{List, [], ◌∷◌}
use mathlib.Core.Path.{◌≡◌, ap, ◌∙◌}
use Prim.Native.Nat.{ℕ, ◌*◌, ◌<◌}
use lib.Dec.{eqb}
use lib.ListN.{length}
use borrow.Author.Tests.{eqb-true, not-false}
use Rattle.marks.specs.Counting.{every}
use Rattle.marks.proofs.Counts.{every_at, every_same}
use Rattle.table.specs.Computed.Check.{lawful}
use Rattle.engine.specs.Contract.{refused}
use Rattle.engine.specs.Conditions.{when, refusal}
use Rattle.engine.proofs.Refusing.{passes}
use Rattle.engine.proofs.Meeting
use Rattle.engine.proofs.Meeting.{turned, Accepts}
use Rattle.machine_model.specs.declared.Machine.{Machine}
use Rattle.machine_model.specs.Program.{per_instruction, program_fits}
use Rattle.machine_model.specs.Window.{entry_at}
use Rattle.machine_model.specs.Calls.{Call, lent_to, Answer, Result, matches_program, fits_program, respond}
use Rattle.machine_model.specs.Contract.{entry_of, plain, Sound, Meets}
use Rattle.machine_model.specs.Tests.{agreeing, fitting, validate_of}
use Rattle.machine_model.proofs.Sounding.{length_entries, entry_at_lem, tests_sound}

-- ---- meeting the contract

module _ (program : List ℕ) (m : Machine) (c : Call) (w : List ℕ) where
  pub broken_meets : (Sound m → ⊥) → Meets program m c w (refused 2) m w (lent_to c)
  broken_meets h = Meeting.broken_meets Sound plain m (respond program c (plain m) w) w (lent_to c) h

  pub refused_meets : (k : ℕ) → Sound m → respond program c (plain m) w ≡ turned k (plain m) w (lent_to c)
      → Meets program m c w (refused k) m w (lent_to c)
  refused_meets k sound e = Meeting.refused_meets Sound plain m (respond program c (plain m) w) w (lent_to c) k sound e

  pub accepted_meets : (u : Machine) (v list : List ℕ) (said : Answer) (r : Result) → Sound m
      → respond program c (plain m) w ≡ r → Accepts r.answer → said ≡ r.answer → plain u ≡ r.state → v ≡ r.memory
      → list ≡ r.list → Sound u → Meets program m c w said u v list
  accepted_meets = Meeting.accepted_meets Sound plain m (respond program c (plain m) w) w (lent_to c)

-- ---- the validation's tests are the definition's

pub fits_same : (program : List ℕ) (m : Machine) → fits_program program (plain m) ≡ fitting program m
fits_same program m =
    let like_at : ℕ → Bool = λ p. matches_program program m.count (entry_at (plain m).entries p) in
    ap (λ (b : Bool). program_fits program && eqb (length program) (per_instruction * m.count) && b)
    (ap (every like_at) (length_entries m)
    ∙ every_same like_at (λ (p : ℕ). matches_program program m.count (entry_of m p)) m.table.live
    (λ p h. ap (matches_program program m.count) (entry_at_lem m p h)))

-- ---- what the validation says

-- what no refusal of a machine, a program and a length lent says
pub record Passed (m : Machine) (program : List ℕ) (lent : ℕ) : Type 0 where
  pub sound : Sound m
  pub words : lent ≡ m.table.words
  pub fits : program_fits program ≡ true
  pub counted : length program ≡ per_instruction * m.count
  pub alike : (p : ℕ) → p < m.table.live → matches_program program m.count (entry_of m p) ≡ true
  pub opened : fits_program program (plain m) ≡ true

-- none of three conditions holds where no number comes of them
none_holds : (a b c : Bool) → refusal (when (not a) 2 ∷ when (not b) 3 ∷ when (not c) 4 ∷ []) ≡ 0
    → (a ≡ true) × (b ≡ true) × (c ≡ true)
none_holds a b c h =
    let two = passes (not a) 1 _ h in
    let three = passes (not b) 2 _ two.1 in
    (not-false a two.0, not-false b three.0, not-false c (passes (not c) 3 _ three.1).0)

pub validate_passes : (m : Machine) (program : List ℕ) (lent : ℕ) → validate_of m program lent ≡ 0 → Passed m program lent
validate_passes m program lent h =
    let like_at : ℕ → Bool = λ p. matches_program program m.count (entry_of m p) in
    let opened : Bool = program_fits program && eqb (length program) (per_instruction * m.count) in
    let tests =
    none_holds (lawful m.table && agreeing m m.table.live) (eqb lent m.table.words) (fitting program m) h in
    let like-tests = (and-eq-true_iff opened (every like_at m.table.live)).0 tests.2 in
    let program-tests =
    (and-eq-true_iff (program_fits program) (eqb (length program) (per_instruction * m.count))).0 like-tests.0 in
    record {
      sound = tests_sound m tests.0;
      words = eqb-true lent m.table.words tests.1;
      fits = program-tests.0;
      counted = eqb-true (length program) (per_instruction * m.count) program-tests.1;
      alike = every_at like_at m.table.live like-tests.1;
      opened = fits_same program m ∙ tests.2;
    }
