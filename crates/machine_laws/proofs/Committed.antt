-- Commit, past the validation. The number that the code finds of the conditions 11 to 14 is the refusal (commit_refused). Where
-- it is 0 the oldest entry, which stands at the oldest's stage (oldest_entry), leaves the window as its reference does, by the
-- engine's law. What it writes is told by its entry, which agrees with the table, and by the table's own word (mark_told).
-- Assumes nothing.
use mathlib.Core.Bool.{true, false}
use mathlib.Core.List.{List, []}
use mathlib.Core.Path.{◌≡◌, refl, sym, ap, ap₂, ◌∙◌}
use Prim.Native.Nat.{ℕ, ◌-◌, ◌<◌}
use lib.Dec.{eqb}
use lib.ListN.{length, get_or, drop, length-drop}
use Rattle.marks.specs.Circle.{firsts}
use Rattle.marks.proofs.Turns.{stage_zero}
use Rattle.table.specs.Limits.{rows_in}
use Rattle.table.specs.Reference.{idle, fate_of, at}
use Rattle.table.specs.View.{stage_of, value, view}
use Rattle.table.specs.Moves.{retire}
use Rattle.table.proofs.Fates.{length_refs}
use Rattle.engine.specs.Computed.Steps.{remade, within}
use Rattle.engine.proofs.Narrowing.{retire_rules, retire_view}
use Rattle.lookup.specs.declared.Mark.{Mark}
use Rattle.lookup.specs.Computed.Search.{mark_by, marked_fate}
use Rattle.engine.specs.Conditions.{faults}
use Rattle.engine.specs.Contract.{refused, judged}
use Rattle.engine.specs.Execution.{written}
use Rattle.engine.proofs.Meeting.{judged_refused}
use Rattle.engine.proofs.Fated.{stored_word, told_written}
use Rattle.machine_model.specs.declared.Entry.{Entry}
use Rattle.machine_model.specs.declared.Machine.{Machine}
use Rattle.machine_model.specs.Window.{blank_entry, entry_at, pending, misaligned, reference}
use Rattle.machine_model.specs.Over
use Rattle.machine_model.specs.Calls.{buffered, commit, Answer, value_by, registers_after, committed_says, committing, respond}
use Rattle.machine_model.specs.Contract.{plain, agree, Meets}
use Rattle.machine_laws.specs.Computed.Parts.{entries_of, mark_with, commit_number}
use Rattle.machine_laws.specs.Computed.Steps.{own_mark, committed_over}
use Rattle.machine_laws.proofs.Comparing.{agree_both, idle_by, waits_idle, mark_faults_lem, mark_agreed}
use Rattle.machine_model.proofs.Sounding.{entry_at_lem}
use Rattle.machine_model.proofs.Answering.{Passed, refused_meets, accepted_meets}
use Rattle.machine_laws.proofs.Refusals.{commit_free, commit_number_lem}
use Rattle.machine_laws.proofs.PlainOfView.{plain_by, entries_drop, sound_agreed, reached, agreed_drop}

-- the machine after the commit of the oldest: the window starts at stage o, with these marks and registers
abbrev pub retired_by : Machine → ℕ → List ℕ → List ℕ → List ℕ → Machine
retired_by m o loads stores registers =
    let t = m.table in
    record {
      table = remade t o (t.live - 1) t.executed t.addresses loads stores t.values t.taken;
      window = m.window;
      registers = registers;
      count = m.count;
      next = m.next;
    }

module _ (program : List ℕ) (m : Machine) (w : List ℕ) (passed : Passed m program (length w)) where
  -- the oldest entry, and the number of the conditions 11 to 14: as the code finds them
  abbrev own : Entry
  own = get_or m.window m.table.oldest blank_entry

  abbrev pub commit_why : ℕ
  commit_why = commit_number own m.table.live m.table.words

  commit_responds : respond program commit (plain m) w ≡ judged commit_why (plain m) w [] (committing (plain m) w)
  unfolding Over.respond
  commit_responds =
      let t = m.table in
      ap (λ (k : ℕ). judged k (plain m) w [] (committing (plain m) w))
      (commit_number_lem buffered (plain m) m.window t.oldest t.stages t.live refl program passed.opened w
      passed.words passed.sound.rules.start)

  -- the refusals 11 to 14
  pub commit_refused : (k : ℕ) → k ≡ commit_why → (k ≡ 0 → ⊥) → Meets program m commit w (refused k) m w []
  commit_refused k found other =
      refused_meets program m commit w k passed.sound
      (commit_responds ∙ ap (λ (j : ℕ). judged j (plain m) w [] (committing (plain m) w)) (sym found)
      ∙ judged_refused k (plain m) w [] (committing (plain m) w) other)

  -- where none of them holds an entry is live, and the oldest has executed, does not fault and is not misaligned
  pub commit_passed : commit_why ≡ 0
      → (0 < m.table.live) × (pending own.fate ≡ false) × (faults m.table.words (reference own) ≡ false)
      × (misaligned own ≡ false)
  commit_passed = commit_free own m.table.live m.table.words

  module _ (free : commit_why ≡ 0) where
    some : 0 < m.table.live
    some = (commit_passed free).0

    zeroth : stage_of m.table 0 ≡ m.table.oldest
    zeroth = stage_zero m.table.oldest m.table.stages passed.sound.rules.start

    oldest_entry : entry_at (plain m).entries 0 ≡ own
    oldest_entry = entry_at_lem m 0 some ∙ ap (λ (s : ℕ). get_or m.window s blank_entry) zeroth

    agreed : agree (reference own) (fate_of (at (view m.table).refs 0)) ≡ true
    agreed =
        ap (λ (s : ℕ). agree (reference (get_or m.window s blank_entry)) (fate_of (at (view m.table).refs 0))) (sym zeroth)
        ∙ passed.sound.agrees 0 some

    -- it has executed in the table too
    executed_too : idle (fate_of (at (view m.table).refs 0)) ≡ false
    executed_too =
        idle_by (fate_of (at (view m.table).refs 0))
        ∙ ap (λ (k : ℕ). eqb k 4) (sym (agree_both (reference own) (fate_of (at (view m.table).refs 0)) agreed).0)
        ∙ sym (idle_by (reference own))
        ∙ sym (waits_idle own.instruction own.fate)
        ∙ (commit_passed free).1

    -- what its entry and the table's word tell of its mark is what its reference's fate says
    mark_told : mark_with (reference own) (value m.table m.table.oldest) ≡ mark_by (fate_of (at (view m.table).refs 0))
    mark_told =
        let t = m.table in
        mark_agreed own.instruction own.fate (fate_of (at (view t).refs 0)) (value t t.oldest) agreed executed_too
        (λ a v l e. ap (value t) (sym zeroth) ∙ stored_word t 0 a v l some e)

    module _ (mark : Mark) (hm : mark ≡ mark_with (reference own) (value m.table m.table.oldest)) where
      -- its address lies in the memory
      pub commit_clean : faults (length w) (marked_fate mark) ≡ false
      commit_clean =
          ap₂ (λ (k : ℕ) (x : Mark). faults k (marked_fate x)) passed.words hm
          ∙ mark_faults_lem m.table.words own.instruction own.fate _
          ∙ (commit_passed free).2

      -- The machine and the memory that the oldest's commit leaves, with each part named: where the window starts, the
      -- stages that stay, the two mark words, the registers.
      pub commit_meets :
          let t = m.table in
          (said : Answer) → said ≡ committed_says own → (o rest : ℕ) (loads stores registers memory : List ℕ)
          → o ≡ stage_of t 1 → rest ≡ firsts o t.stages (t.live - 1) → loads ≡ within (rows_in t.banks) t.loads rest
          → stores ≡ within (rows_in t.banks) t.stores rest
          → registers ≡ registers_after m.registers own.instruction (value_by own.fate)
          → memory ≡ written w (marked_fate mark)
          → Meets program m commit w said (retired_by m o loads stores registers) memory []
      commit_meets said hc o rest loads stores registers memory ho hs hl hr hg hw =
          let t = m.table in
          let rules = passed.sound.rules in
          let refs = (view t).refs in
          let rest' : ℕ = firsts (stage_of t 1) t.stages (t.live - 1) in
          let u : Machine =
          retired_by m (stage_of t 1) (within (rows_in t.banks) t.loads rest')
          (within (rows_in t.banks) t.stores rest')
          (registers_after m.registers own.instruction (value_by own.fate)) in
          let entries : entries_of m.window (stage_of t 1) t.stages (length (drop 1 refs))
          ≡ drop 1 (plain m).entries =
          ap (entries_of m.window (stage_of t 1) t.stages)
          (length-drop 1 refs ∙ ap (λ (k : ℕ). k - 1) (length_refs t))
          ∙ entries_drop m.window t.oldest t.stages rules.start t.live some rules.live_bounded in
          let state : plain u ≡ (committing (plain m) w).state =
          plain_by u (retire (view t)) (retire_view t rules some)
          ∙ ap₂
          (λ (es : List Entry) (x : Entry).
          record {
            buffer = retire (view t);
            entries = es;
            registers = registers_after m.registers x.instruction (value_by x.fate);
            count = m.count;
            next = m.next;
          })
          entries (sym oldest_entry) in
          rw (hw, hg, hc, hr, hl, hs, ho)
          (accepted_meets program m commit w u (written w (marked_fate mark)) []
          (committed_says own) (committing (plain m) w) passed.sound
          (commit_responds ∙ ap (λ (k : ℕ). judged k (plain m) w [] (committing (plain m) w)) free)
          tt
          (ap committed_says (sym oldest_entry))
          state
          (ap (λ (x : Mark). written w (marked_fate x)) (hm ∙ mark_told) ∙ told_written w (fate_of (at refs 0)))
          refl
          (reached u (committing (plain m) w).state (retire_rules t rules some) state
          (agreed_drop (plain m).entries refs (sound_agreed m passed.sound))))

    -- and as its step leaves the whole
    pub committed_clean : faults (length w) (marked_fate (own_mark m)) ≡ false
    committed_clean = commit_clean (own_mark m) refl

    pub committed_meets :
        Meets program m commit w (committed_says own) (committed_over m) (written w (marked_fate (own_mark m))) []
    committed_meets = commit_meets (own_mark m) refl _ refl _ _ _ _ _ _ refl refl refl refl refl refl
