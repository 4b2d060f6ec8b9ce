-- The conditions 3 and 4 over any engine that keeps its number of words (KeepsWords): where they do not hold of a plain state
-- (Fitting), they do not of the one that an issue, an execution or a commit comes to. An issue adds the program's own instruction,
-- an execution changes a fate and keeps the older entries, a commit drops the oldest. Assumes nothing.
use mathlib.Core.Bool.{Bool, true, false, cond, not, ◌&&◌}
use mathlib.Core.List.{List, [], ◌∷◌, ◌++◌}
use mathlib.Core.Path.{◌≡◌, refl, sym, ap, ap₂, subst, ◌∙◌}
use Prim.Native.Nat.{ℕ, ◌+◌, ◌*◌, ◌≤◌, ◌<◌}
use native.Mathlib.Omega.{arith}
use lib.Dec.{eqb, ltb}
use lib.ListN.{length, take, drop, set, length-append, length-take, length-drop, length-set, get_or-append}
use lib.Seq.{get_or_at, get_or-take, get_or-drop, get_or-set_same, get_or-set_other}
use borrow.Author.Tests.{ltb-true, ltb-false, lt-ltb, eq-eqb, eqb-true, eqb-false}
use Rattle.table.specs.Reference
use Rattle.engine.specs.Contract.{refused, judged}
use Rattle.engine.specs.Conditions.{refusal}
use Rattle.engine.proofs.Refusing.{passes}
use Rattle.machine_model.specs.declared.Instruction.{Instruction}
use Rattle.machine_model.specs.declared.Entry.{Entry}
use Rattle.machine_model.specs.Program.{per_instruction, d_of, s_of, imm_of, same, instruction_at, code_of}
use Rattle.machine_model.specs.Window.{blank_entry, entry_at, entry_with}
use Rattle.machine_model.specs.Over.{Engine, Plain, Result, matches_program, fits_program, known, new_entry, issue_checks}
use Rattle.machine_model.specs.Over.{evaluated, survivors_of, load_distance, execute_checks, commit_checks, issue_result}
use Rattle.machine_model.specs.Over.{executions, commits}
use Rattle.machine_laws.proofs.Refusals.{issue_free}

-- ---- a test that every entry of a list passes

abbrev pub All : (Entry → Bool) → List Entry → Type 0
All g es = (p : ℕ) → p < length es → g (entry_at es p) ≡ true

module _ (g : Entry → Bool) (es : List Entry) (all : All g es) where
  all_grow : (e : Entry) → g e ≡ true → All g (es ++ (e ∷ []))
  all_grow e new p h = go (ltb p (length es)) refl
    where
      go : (b : Bool) → ltb p (length es) ≡ b → g (entry_at (es ++ (e ∷ [])) p) ≡ true
      go true t =
          let l : p < length es = ltb-true p (length es) t in
          ap g (get_or-append es (e ∷ []) blank_entry p l) ∙ all p l
      go false t =
          let l : length es ≤ p = ltb-false p (length es) t in
          let last : length es ≡ p = omega (arith, length-append es (e ∷ [])) in
          ap g (get_or_at es e [] blank_entry p last) ∙ new

  all_take : (k : ℕ) → All g (take k es)
  all_take k p h =
      let few : p < k = omega (arith, length-take k es) in
      ap g (get_or-take k es p blank_entry few) ∙ all p (omega (arith, length-take k es))

  all_drop : All g (drop 1 es)
  all_drop p h = ap g (get_or-drop 1 es p blank_entry) ∙ all (1 + p) (omega (arith, length-drop 1 es))

  all_set : (q : ℕ) (e : Entry) → (q < length es → g e ≡ true) → All g (set es q e)
  all_set q e new p h = go (omega (arith, length-set es q e)) (eqb p q) refl
    where
      go : p < length es → (b : Bool) → eqb p q ≡ b → g (entry_at (set es q e) p) ≡ true
      go l true t =
          let i : p ≡ q = eqb-true p q t in
          subst (λ (j : ℕ). g (entry_at (set es q e) j) ≡ true) (sym i)
          (ap g (get_or-set_same es q e blank_entry (omega arith)) ∙ new (omega arith))
      go l false t = ap g (get_or-set_other es q p e blank_entry (eqb-false p q t)) ∙ all p l

-- ---- of a plain state

-- an engine whose moves keep its number of words
pub record KeepsWords {O S : Type 0} (E : Engine O S) : Type 0 where
  pub issued : (P : S) → E.words (E.issued P) ≡ E.words P
  pub executed : (P : S) (p : ℕ) (f : Reference.Fate) → E.words (E.executed P p f) ≡ E.words P
  pub retired : (P : S) → E.words (E.retired P) ≡ E.words P

-- a memory of the length lent fits, the program is as long as the opened one, and each entry is its instruction
pub record Fitting {O S : Type 0} (E : Engine O S) (program : List ℕ) (lent : ℕ) (X : Plain S) : Type 0 where
  pub words : lent ≡ E.words X.buffer
  pub counted : length program ≡ per_instruction * X.count
  pub alike : All (matches_program program X.count) X.entries

same_self : (i : Instruction) → same i i ≡ true
same_self i =
    ap₂ ◌&&◌
    (ap₂ ◌&&◌ (ap₂ ◌&&◌ (eq-eqb (code_of i) (code_of i) refl) (eq-eqb (d_of i) (d_of i) refl)) (eq-eqb (s_of i) (s_of i) refl))
    (eq-eqb (imm_of i) (imm_of i) refl)

module _ {O S : Type 0} {E : Engine O S} (keeps : KeepsWords E) (program : List ℕ) (lent : ℕ) (X : Plain S) (w : List ℕ)
    (fit : Fitting E program lent X) where
  -- a refused call leaves the state
  judged_fits : (k : ℕ) (r : Result S) → (k ≡ 0 → Fitting E program lent r.state)
      → Fitting E program lent (judged k X w [] r).state
  judged_fits k r accepted = go (eqb k 0) refl
    where
      go : (b : Bool) → eqb k 0 ≡ b
          → Fitting E program lent (cond b r (record { answer = refused k; state = X; memory = w; list = [] })).state
      go true e = accepted (eqb-true k 0 e)
      go false e = fit

  pub issue_fits : Fitting E program lent (issue_result E program X w).state
  issue_fits =
      judged_fits (refusal (issue_checks E program X)) _
      (λ z.
      let left : X.next < X.count =
      (issue_free (E.full X.buffer X.entries) X.count X.next
      (passes (not (fits_program program X)) 3 _ z).1).1 in
      record {
        words = fit.words ∙ sym (keeps.issued X.buffer);
        counted = fit.counted;
        alike =
            all_grow (matches_program program X.count) X.entries fit.alike (new_entry program X.next)
            (ap₂ ◌&&◌ (lt-ltb X.next X.count left) (same_self (instruction_at program X.next)));
      })

  pub execute_fits : (p : ℕ) → Fitting E program lent (executions E program X w p).state
  execute_fits p =
      let g = matches_program program X.count in
      let f = known (evaluated E X w p) in
      let e = entry_with (entry_at X.entries p) f (load_distance E X p f) in
      judged_fits (refusal (execute_checks E program X w p)) _
      (λ _.
      record {
        words = fit.words ∙ sym (keeps.executed X.buffer p _);
        counted = fit.counted;
        alike =
            all_take g (set X.entries p e) (all_set g X.entries fit.alike p e (fit.alike p))
            (survivors_of E X w p f);
      })

  pub commit_fits : Fitting E program lent (commits E program X w).state
  commit_fits =
      judged_fits (refusal (commit_checks E program X w)) _
      (λ _.
      record {
        words = fit.words ∙ sym (keeps.retired X.buffer);
        counted = fit.counted;
        alike = all_drop (matches_program program X.count) X.entries fit.alike;
      })
