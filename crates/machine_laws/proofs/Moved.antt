-- The calls that move the window's young end, past the validation: issue is refused with the number that the code finds of the
-- conditions 5 and 6, and otherwise adds an entry where the table grows by a reference; squash is refused with 7 at a position
-- that is not live, and otherwise keeps the entries of the references that the cut table keeps. The views are those of the
-- steps. Assumes nothing.
use mathlib.Core.Bool.{Bool, true, false, cond}
use mathlib.Core.List.{List, [], ◌∷◌, ◌++◌}
use mathlib.Core.Path.{◌≡◌, refl, sym, ap, ap₂, ◌∙◌}
use Prim.Native.Nat.{ℕ, suc, ◌+◌, ◌≤◌, ◌<◌}
use native.Mathlib.Nat.{ne_of_lt, le_of_lt}
use native.Mathlib.Numerals.{add-one}
use native.Mathlib.Omega.{arith}
use lib.Dec.{eqb, leb}
use lib.ListN.{length, take, length-append}
use lib.Seq.{length-take-le}
use borrow.Author.Tests.{lt-ltb, le-leb, lt-leb, ne_eqb}
use Rattle.table.specs.Limits.{stages_most}
use Rattle.table.specs.Reference.{ref, waiting}
use Rattle.table.specs.View.{view}
use Rattle.table.specs.Moves.{issued, squash_to}
use Rattle.table.proofs.Sizes.{sizes}
use Rattle.table.proofs.Lists.{tabulate_take}
use Rattle.table.proofs.Fates.{length_refs}
use Rattle.table.specs.Fits.{Lengths}
use Rattle.engine.proofs.Narrowing.{cut_rules, cut_view}
use Rattle.engine.proofs.Growing.{grown_rules, grown_view}
use Rattle.engine.specs.Contract.{refused, named, done, judged}
use Rattle.engine.specs.Conditions.{refusal}
use Rattle.engine.proofs.Meeting.{judged_refused}
use Rattle.machine_model.specs.declared.Entry.{Entry}
use Rattle.machine_model.specs.declared.Machine.{Machine}
use Rattle.machine_model.specs.Window.{entry_at}
use Rattle.machine_model.specs.Over
use Rattle.machine_model.specs.Calls.{buffered, issue, squash, new_entry, issuing, squash_checks, squashing}
use Rattle.machine_model.specs.Calls.{refetch_index, respond}
use Rattle.machine_model.specs.Contract.{entry_of, plain, Meets}
use Rattle.machine_laws.specs.Computed.Parts.{entries_of, issue_number}
use Rattle.machine_model.proofs.Sounding.{length_entries, entry_at_lem}
use Rattle.machine_model.proofs.Answering.{Passed, refused_meets, accepted_meets}
use Rattle.machine_laws.specs.Computed.Steps.{issued_over, squashed_over}
use Rattle.machine_laws.proofs.Refusals.{issue_number_lem}
use Rattle.machine_laws.proofs.PlainOfView.{plain_by, entries_grow, sound_agreed, reached, agreed_grow, agreed_take}

-- ---- issue

module _ (program : List ℕ) (m : Machine) (passed : Passed m program m.table.words) (w : List ℕ) where
  -- the number of the conditions 5 and 6, as the code finds it
  abbrev pub issue_why : ℕ
  issue_why = issue_number (eqb m.table.live m.table.stages) m.count m.next

  -- what the definition says, by that number
  issue_responds : (k : ℕ) → k ≡ issue_why
      → respond program issue (plain m) w ≡ judged k (plain m) w [] (issuing program (plain m) w)
  unfolding Over.respond
  issue_responds k found =
      ap (λ (j : ℕ). judged j (plain m) w [] (issuing program (plain m) w))
      (issue_number_lem buffered program (plain m) passed.opened
      ∙ ap (λ (j : ℕ). issue_number (eqb j m.table.stages) m.count m.next) (length_entries m)
      ∙ sym found)

  -- the refusals 5 and 6
  pub issue_refused : (k : ℕ) → k ≡ issue_why → (k ≡ 0 → ⊥) → Meets program m issue w (refused k) m w []
  issue_refused k found other =
      refused_meets program m issue w k passed.sound
      (issue_responds k found ∙ judged_refused k (plain m) w [] (issuing program (plain m) w) other)

  pub issue_meets : Lengths m.table → length m.window ≡ stages_most → m.table.live < m.table.stages → m.next < m.count
      → Meets program m issue w (named m.table.live) (issued_over program m) w []
  issue_meets lengths long room left =
      let rules = passed.sound.rules in
      let u = issued_over program m in
      let refs = (view m.table).refs in
      let e = new_entry program m.next in
      let more : length (issued (view m.table)).refs ≡ suc m.table.live =
      length-append refs (ref m.table.next waiting ∷ []) ∙ ap (λ (k : ℕ). k + 1) (length_refs m.table)
      ∙ add-one m.table.live in
      let wide : m.table.stages ≤ length m.window = omega (arith, (sizes _ _ _ _ rules.sizes).stages) in
      let entries : entries_of u.window m.table.oldest m.table.stages (length (issued (view m.table)).refs)
      ≡ (plain m).entries ++ (e ∷ []) =
      ap (entries_of u.window m.table.oldest m.table.stages) more
      ∙ entries_grow m.window m.table.oldest m.table.stages rules.start m.table.live e room wide in
      let state : plain u ≡ (issuing program (plain m) w).state =
      plain_by u (issued (view m.table)) (grown_view m.table rules lengths room)
      ∙ ap₂
      (λ (es : List Entry) (k : ℕ).
      record { buffer = issued (view m.table); entries = es; registers = m.registers; count = m.count; next = k })
      entries (add-one m.next) in
      accepted_meets program m issue w u w [] (named m.table.live) (issuing program (plain m) w) passed.sound
      (issue_responds 0
      (rw (ne_eqb m.table.live m.table.stages (ne_of_lt room), lt-leb m.count m.next left)))
      tt
      (ap named (sym (length_entries m)))
      state
      refl
      refl
      (reached u (issuing program (plain m) w).state (grown_rules m.table rules lengths room) state
      (agreed_grow (plain m).entries refs (sound_agreed m passed.sound) e (ref m.table.next waiting)
      (length_entries m ∙ sym (length_refs m.table)) refl))

-- ---- squash

module _ (program : List ℕ) (m : Machine) (passed : Passed m program m.table.words) (w : List ℕ) (p : ℕ) where
  squash_number : (b : Bool) → leb m.table.live p ≡ b → refusal (squash_checks program (plain m) p) ≡ cond b 7 0
  squash_number b e = rw (passed.opened, length_entries m, e)

  squash_responds : (b : Bool) → leb m.table.live p ≡ b
      → respond program (squash p) (plain m) w ≡ judged (cond b 7 0) (plain m) w [] (squashing (plain m) w p)
  unfolding Over.respond
  squash_responds b e = ap (λ (k : ℕ). judged k (plain m) w [] (squashing (plain m) w p)) (squash_number b e)

  pub squash_beyond : m.table.live ≤ p → Meets program m (squash p) w (refused 7) m w []
  squash_beyond h =
      refused_meets program m (squash p) w 7 passed.sound (squash_responds true (le-leb m.table.live p h))

  pub squash_meets : p < m.table.live → Meets program m (squash p) w done (squashed_over m p) w []
  squash_meets h =
      let rules = passed.sound.rules in
      let u = squashed_over m p in
      let refs = (view m.table).refs in
      let few : length (take p refs) ≡ p = length-take-le p refs (omega (arith, length_refs m.table)) in
      let entries : entries_of m.window m.table.oldest m.table.stages (length (take p refs))
      ≡ take p (plain m).entries =
      ap (entries_of m.window m.table.oldest m.table.stages) few
      ∙ sym (tabulate_take (entry_of m) m.table.live p (le_of_lt h)) in
      let next : (entry_of m p).index ≡ refetch_index (plain m) p =
      ap (λ (x : Entry). x.index) (sym (entry_at_lem m p h))
      ∙ ap (λ (b : Bool). cond b (entry_at (plain m).entries p).index m.next)
      (sym (lt-ltb p (length (plain m).entries) (omega (arith, length_entries m)))) in
      let state : plain u ≡ (squashing (plain m) w p).state =
      plain_by u (squash_to (view m.table) p) (cut_view m.table rules p (le_of_lt h))
      ∙ ap₂
      (λ (es : List Entry) (k : ℕ).
      record { buffer = squash_to (view m.table) p; entries = es; registers = m.registers; count = m.count; next = k })
      entries next in
      accepted_meets program m (squash p) w u w [] done (squashing (plain m) w p) passed.sound
      (squash_responds false (lt-leb m.table.live p h))
      tt
      refl
      state
      refl
      refl
      (reached u (squashing (plain m) w p).state (cut_rules m.table rules p (le_of_lt h)) state
      (agreed_take (plain m).entries refs (sound_agreed m passed.sound) p))
