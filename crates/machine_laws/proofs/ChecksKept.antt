-- What passed the validation passes it again after a step (issue_passes, execute_passes, commit_passes): the machine handed back
-- is sound, the program and the length of the memory are the same, and each live entry is still the program's instruction at
-- its index (Fits). Assumes nothing.
use mathlib.Core.Bool.{Bool, true, not, ◌&&◌}
use mathlib.Core.List.{List, [], ◌∷◌}
use mathlib.Core.Path.{◌≡◌, refl, sym, ap, ap₂, subst, ◌∙◌}
use Prim.Native.Nat.{ℕ, ◌*◌, ◌<◌}
use native.Mathlib.Omega.{arith}
use lib.Dec.{eqb}
use lib.ListN.{length}
use borrow.Author.Tests.{eq-eqb}
use Rattle.marks.proofs.Counts.{every_from}
use Rattle.table.specs.Computed.Check.{lawful}
use Rattle.engine.specs.Conditions.{when, refusal}
use Rattle.machine_model.specs.declared.Machine.{Machine}
use Rattle.machine_model.specs.Program.{per_instruction, program_fits}
use Rattle.machine_model.specs.Over
use Rattle.machine_model.specs.Calls.{buffered, Plain, Call, issue, execute, commit, Answer, respond, matches_program}
use Rattle.machine_model.specs.Contract.{entry_of, plain, Sound, Meets}
use Rattle.machine_model.specs.Tests.{agreeing, validate_of}
use Rattle.machine_model.proofs.Sounding.{length_entries, entry_at_lem, sound_tests}
use Rattle.machine_model.proofs.Answering.{Passed, validate_passes}
use Rattle.machine_laws.proofs.Fits.{KeepsWords, Fitting, issue_fits, execute_fits, commit_fits}

-- the buffer keeps its number of words
buffer_keeps : KeepsWords buffered
buffer_keeps = record { issued = λ P. refl; executed = λ P p f. refl; retired = λ P. refl }

-- the validation's conditions 3 and 4 do not hold of a plain state
abbrev Fits : List ℕ → ℕ → Plain → Type 0
Fits = Fitting buffered

passed_fits : (m : Machine) (program : List ℕ) (lent : ℕ) → Passed m program lent → Fits program lent (plain m)
passed_fits m program lent passed =
    record {
      words = passed.words;
      counted = passed.counted;
      alike = λ p h.
          let l : p < m.table.live = omega (arith, length_entries m) in
          ap (matches_program program m.count) (entry_at_lem m p l) ∙ passed.alike p l;
    }

none_refuses : (a b c : Bool) → a ≡ true → b ≡ true → c ≡ true
    → refusal (when (not a) 2 ∷ when (not b) 3 ∷ when (not c) 4 ∷ []) ≡ 0
none_refuses a b c h i j = rw (h, i, j)

fits_passes : (u : Machine) (program : List ℕ) (lent : ℕ) → program_fits program ≡ true → Sound u
    → Fits program lent (plain u) → validate_of u program lent ≡ 0
fits_passes u program lent fits sound fit =
    let like_at : ℕ → Bool = λ p. matches_program program u.count (entry_of u p) in
    none_refuses (lawful u.table && agreeing u u.table.live) (eqb lent u.table.words) _
    (sound_tests u sound)
    (eq-eqb lent u.table.words fit.words)
    (ap₂ ◌&&◌ (ap₂ ◌&&◌ fits (eq-eqb (length program) (per_instruction * u.count) fit.counted))
    (every_from like_at u.table.live
    (λ p h. ap (matches_program program u.count) (sym (entry_at_lem u p h)) ∙ fit.alike p (omega (arith, length_entries u)))))

-- the validation of another length that is the same
pub validate_lent : (m : Machine) (program : List ℕ) (a b : ℕ) → a ≡ b → validate_of m program a ≡ 0 → validate_of m program b ≡ 0
validate_lent m program a b e h = subst (λ (n : ℕ). validate_of m program n ≡ 0) e h

-- ---- the steps

module _ (m u : Machine) (program : List ℕ) (lent : ℕ) (passes : validate_of m program lent ≡ 0) (w v : List ℕ)
    (said : Answer) where
  keeps : (c : Call) (list : List ℕ) → Meets program m c w said u v list
      → (Fits program lent (plain m) → Fits program lent (respond program c (plain m) w).state)
      → validate_of u program lent ≡ 0
  keeps c list meets moves =
      let passed = validate_passes m program lent passes in
      fits_passes u program lent passed.fits (meets.lawful passed.sound)
      (subst (Fits program lent) (sym (meets.state passed.sound)) (moves (passed_fits m program lent passed)))

  pub issue_passes : Meets program m issue w said u v [] → validate_of u program lent ≡ 0
  unfolding Over.respond
  issue_passes meets = keeps issue [] meets (issue_fits buffer_keeps program lent (plain m) w)

  pub execute_passes : (p : ℕ) → Meets program m (execute p) w said u v [] → validate_of u program lent ≡ 0
  unfolding Over.respond
  execute_passes p meets = keeps (execute p) [] meets (λ fit. execute_fits buffer_keeps program lent (plain m) w fit p)

  pub commit_passes : Meets program m commit w said u v [] → validate_of u program lent ≡ 0
  unfolding Over.respond
  commit_passes meets = keeps commit [] meets (commit_fits buffer_keeps program lent (plain m) w)
