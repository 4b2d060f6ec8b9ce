-- An execute of position p on a machine that passed its validation (Passed). The number that the code finds of the conditions
-- 7, 8 and 9 is the refusal (asked_refused). Where it is 0 the entry waits, so its reference does (Sound), and the definition
-- refuses only a stall (responds). Without one the table has the references that stay, the executing one with its new fate, by
-- the engine's law, and the machine's window differs at that one stage: so the entries are those of the definition
-- (new_entries), and agree with the table (new_sound).
-- Assumes nothing.
use mathlib.Core.Bool.{Bool, true, false, cond, not}
use mathlib.Core.List.{List, []}
use mathlib.Core.Option.{Option, none, some}
use mathlib.Core.Path.{◌≡◌, refl, sym, ap, ap₂, subst, ◌∙◌}
use Prim.Native.Nat.{ℕ, ◌≤◌, ◌<◌}
use native.Mathlib.Omega.{arith}
use lib.Dec.{eqb, ltb}
use lib.ListN.{length, get_or, take, set}
use lib.Seq.{length-take-le, get_or-take, get_or-set_same, get_or-set_other}
use borrow.Author.Tests.{eq-eqb, ne_eqb, eqb-true, eqb-false, lt-leb, ltb-true}
use Rattle.marks.specs.Stages.{has}
use Rattle.marks.proofs.Turns.{stage_lt, stage_injective}
use Rattle.table.specs.declared.Table.{Table}
use Rattle.table.specs.Limits.{stages_most}
use Rattle.table.specs.Reference
use Rattle.table.specs.Reference.{State, Ref, waiting, blank, fate_of, at}
use Rattle.table.specs.View.{stage_of, tabulate, view}
use Rattle.table.specs.Rules.{Rules}
use Rattle.table.proofs.Sizes.{sizes}
use Rattle.table.proofs.Lists.{tabulate_take, tabulate_set}
use Rattle.table.proofs.Fates.{length_refs}
use Rattle.table.specs.Fits.{Lengths}
use Rattle.lookup.specs.Forwarding.{forwarded, distance}
use Rattle.lookup.specs.Outcome.{survivors, executes}
use Rattle.engine.specs.declared.Action.{Action}
use Rattle.engine.specs.declared.Action.TheVariants.{Compute, LoadAt, StoreAt, PartAt}
use Rattle.engine.specs.declared.Effect.{Effect}
use Rattle.engine.specs.Conditions.{refusal}
use Rattle.engine.specs.Contract.{refused, executed, judged}
use Rattle.engine.specs.Execution.{fate_by, answer_of}
use Rattle.engine.specs.Computed.Effect.{effect_at, apply_effect}
use Rattle.engine.proofs.Meeting.{judged_refused}
use Rattle.engine.proofs.Fated.{executed_at}
use Rattle.engine.proofs.Effects.{effect_left, effect_bounds, effect_value, effect_distance, part_value, effect_view}
use Rattle.engine.proofs.Effects.{effect_rules}
use Rattle.machine_model.specs.declared.Instruction.{Instruction}
use Rattle.machine_model.specs.declared.Fate.{Fate}
use Rattle.machine_model.specs.declared.Fate.TheVariants.{Waiting, Executed}
use Rattle.machine_model.specs.declared.Entry.{Entry}
use Rattle.machine_model.specs.declared.Machine.{Machine}
use Rattle.machine_model.specs.Program.{s_of, kind}
use Rattle.machine_model.specs.Window.{blank_entry, entry_at, entry_with, address_by, register_seen, reference_by, untold}
use Rattle.machine_model.specs.Window.{reference}
use Rattle.machine_model.specs.Over
use Rattle.machine_model.specs.Calls.{buffered, Plain, execute, Answer, Result, pending, evaluated, known, load_value}
use Rattle.machine_model.specs.Calls.{refetch_index, executing, execute_checks, survivors_of, answer_by, load_distance, respond}
use Rattle.machine_model.specs.Contract.{entry_of, plain, agree, Sound, Meets}
use Rattle.machine_laws.specs.Computed.Parts.{second, asked_of, asked_number, executed_says}
use Rattle.machine_laws.specs.Computed.Steps.{executed_over}
use Rattle.machine_laws.proofs.Comparing.{agree_words, agree_waiting}
use Rattle.machine_model.proofs.Sounding.{length_entries, entry_at_lem}
use Rattle.machine_laws.proofs.Operands.{fate_after, outcome_ready, reference_ready, value_ready, distance_ready}
use Rattle.machine_laws.proofs.Refusals.{asked_free, evaluated_by, asked_refuses, asked_leaves}
use Rattle.machine_model.proofs.Answering.{Passed, refused_meets, accepted_meets}

-- ---- fates

pub waits_waiting : (i : Instruction) (f : Fate) → pending f ≡ true → reference_by untold i f ≡ waiting
waits_waiting i Waiting e = refl
waits_waiting i (Executed v a) e = absurd (let z : ◌≡◌ {A = ℕ} 0 1 = cc in omega arith)

module _ (m : Machine) (program w : List ℕ) (p : ℕ) (passed : Passed m program (length w)) where
  abbrev now : Plain
  now = plain m

  -- the entry that executes
  abbrev own : Entry
  own = entry_of m p

  -- the registers and the memory that it sees
  abbrev registers_seen : ℕ → Option ℕ
  registers_seen k = register_seen (tabulate (entry_of m) p) k (some (get_or m.registers k 0))

  abbrev memory_seen : ℕ → ℕ
  memory_seen a = forwarded (view m.table) w p a

  -- what its instruction asks, and the number of the conditions 7, 8 and 9: as the code finds them
  abbrev pub asked : Option Action
  asked = asked_of m.window m.registers m.table.oldest m.table.stages p

  abbrev pub execute_why : ℕ
  execute_why = asked_number m.window m.registers m.table.oldest m.table.stages m.table.live p

  -- what the definition says, by the number of its conditions and the fate that the entry comes to
  abbrev result : ℕ → Option Fate → Result
  result k o = judged k now w [] (executing now w p (known o) (survivors_of now w p (known o)))

  responds_by : (k : ℕ) → refusal (execute_checks program now w p) ≡ k
      → respond program (execute p) now w ≡ result k (evaluated now w p)
  unfolding Over.respond
  responds_by k e = ap (λ (j : ℕ). result j (evaluated now w p)) e

  -- the refusals 7, 8 and 9
  pub asked_refused : (k : ℕ) → k ≡ execute_why → (k ≡ 0 → ⊥) → Meets program m (execute p) w (refused k) m w []
  asked_refused k found other =
      refused_meets program m (execute p) w k passed.sound
      (responds_by k
      (asked_refuses buffered now m.window m.table.oldest m.table.stages m.table.live refl program
      passed.opened w passed.words p k found other)
      ∙ judged_refused k now w [] _ other)

  -- where none of them holds the position is live, and its entry waits
  pub asked_passed : execute_why ≡ 0 → (p < m.table.live) × (pending own.fate ≡ true)
  asked_passed = asked_free m.window m.registers m.table.oldest m.table.stages m.table.live p

  -- and they do not hold of a live position whose entry waits and asks something
  pub why_none : p < m.table.live → pending own.fate ≡ true → (act : Action) → asked ≡ some act → execute_why ≡ 0
  why_none live idle act ready = rw (lt-leb m.table.live p live, idle, ready)

  module _ (free : execute_why ≡ 0) (act : Action) (ready : asked ≡ some act) where
    live : p < m.table.live
    live = (asked_passed free).0

    here : entry_at now.entries p ≡ own
    here = entry_at_lem m p live

    -- the value and the distance answered, the entry's fate, and how many stay
    abbrev value : ℕ
    value = answer_of memory_seen act

    abbrev far : ℕ
    far = answer_of (distance (view m.table).refs p) act

    abbrev fate : Fate
    fate = fate_after memory_seen act

    abbrev left : ℕ
    left = survivors (view m.table) p (fate_by memory_seen act)

    fate_is : reference_by memory_seen own.instruction fate ≡ fate_by memory_seen act
    fate_is =
        reference_ready own.instruction (registers_seen (s_of own.instruction))
        (registers_seen (second own.instruction)) act memory_seen ready

    fate_at_lem : reference_by memory_seen (entry_at now.entries p).instruction fate ≡ fate_by memory_seen act
    fate_at_lem = ap (λ (x : Entry). reference_by memory_seen x.instruction fate) here ∙ fate_is

    value_at : load_value (entry_at now.entries p).instruction fate ≡ value
    value_at =
        ap (λ (x : Entry). load_value x.instruction fate) here
        ∙ value_ready own.instruction (registers_seen (s_of own.instruction))
        (registers_seen (second own.instruction)) act memory_seen ready

    distance_at : load_distance now p fate ≡ far
    distance_at =
        ap (λ (x : Entry). answer_by (kind x.instruction) (distance (view m.table).refs p (address_by fate))) here
        ∙ distance_ready own.instruction (registers_seen (s_of own.instruction))
        (registers_seen (second own.instruction)) act memory_seen (distance (view m.table).refs p) ready

    coming : evaluated now w p ≡ some fate
    coming =
        evaluated_by buffered now m.window m.table.oldest m.table.stages m.table.live refl w p live
        ∙ outcome_ready own.instruction registers_seen memory_seen act ready

    -- the definition refuses only a stall
    responds :
        respond program (execute p) now w ≡ judged (cond (eqb left 0) 10 0) now w [] (executing now w p fate left)
    responds =
        let stall : Option Fate → ℕ = λ o. cond (eqb (survivors_of now w p (known o)) 0) 10 0 in
        responds_by (stall (evaluated now w p))
        (asked_leaves buffered now m.window m.table.oldest m.table.stages m.table.live refl program
        passed.opened w passed.words p free)
        ∙ ap (λ (o : Option Fate). result (stall o) o) coming
        ∙ ap (λ (k : ℕ). judged (cond (eqb k 0) 10 0) now w [] (executing now w p fate k))
        (ap (survivors (view m.table) p) fate_at_lem)

    start : m.table.oldest < m.table.stages
    start = passed.sound.rules.start

    room : m.table.live ≤ m.table.stages
    room = passed.sound.rules.live_bounded

    -- the table's reference waits as the entry does
    idle_too : has m.table.executed (stage_of m.table p) ≡ false
    idle_too =
        let there = fate_of (at (view m.table).refs p) in
        sym (executed_at m.table p live)
        ∙ ap (λ (f : Reference.Fate). not (Reference.idle f))
        (agree_waiting there
        (ap (λ (f : Reference.Fate). agree f there) (sym (waits_waiting own.instruction own.fate (asked_passed free).1))
        ∙ passed.sound.agrees p live))

    module _ (q : Effect) (found : q ≡ effect_at m.table p w act) where
      left_is : q.left ≡ left
      left_is = ap (λ (x : Effect). x.left) found ∙ effect_left m.table passed.sound.rules p live w act

      -- refusal 10: no row is to be had
      pub stall_refused : q.left ≡ 0 → Meets program m (execute p) w (refused 10) m w []
      stall_refused e =
          refused_meets program m (execute p) w 10 passed.sound
          (responds
          ∙ ap (λ (b : Bool). judged (cond b 10 0) now w [] (executing now w p fate left))
          (eq-eqb left 0 (sym left_is ∙ e)))

    module _ (full : length m.window ≡ stages_most) (lengths : Lengths m.table)
        (stays : (effect_at m.table p w act).left ≡ 0 → ⊥) where
      abbrev effect : Effect
      effect = effect_at m.table p w act

      abbrev after : Table
      after = apply_effect m.table effect (stage_of m.table p)

      -- the table after it, by the engine's law
      rules : Rules after
      rules = effect_rules m.table passed.sound.rules p live w lengths idle_too act stays

      same : view after ≡ executes (view m.table) p (fate_by memory_seen act)
      same = effect_view m.table passed.sound.rules p live w lengths idle_too act stays

      live_is : effect.left ≡ left
      live_is = effect_left m.table passed.sound.rules p live w act

      bounds : (p < left) × (left ≤ m.table.live)
      bounds =
          let b = effect_bounds m.table passed.sound.rules p live w act stays in
          (omega (arith, live_is, b.0), omega (arith, live_is, b.1))

      distance_is : effect.distance ≡ load_distance now p fate
      distance_is =
          effect_distance m.table passed.sound.rules p live w act stays ∙ sym distance_at

      -- the machine after it
      abbrev next : Machine
      next =
          record {
            table = after;
            window = set m.window (stage_of m.table p) (entry_with own fate effect.distance);
            registers = m.registers;
            count = m.count;
            next = cond (ltb effect.left m.table.live) (entry_of m effect.left).index m.next;
          }

      length_left : length (take left (view m.table).refs) ≡ left
      length_left =
          length-take-le left (view m.table).refs (omega (arith, bounds.1, length_refs m.table))

      stage_small : stage_of m.table p < length m.window
      stage_small =
          let t = m.table in
          omega (
            arith,
            full,
            stage_lt t.oldest t.stages start p (omega (arith, live, room)),
            (sizes t.banks t.rows t.stages t.words passed.sound.rules.sizes).stages,
          )

      entry_here : entry_of next p ≡ entry_with own fate effect.distance
      entry_here =
          get_or-set_same m.window (stage_of m.table p) (entry_with own fate effect.distance) blank_entry stage_small

      entry_there : (q : ℕ) → q < m.table.live → (q ≡ p → ⊥) → entry_of next q ≡ entry_of m q
      entry_there q h differ =
          get_or-set_other m.window (stage_of m.table p) (stage_of m.table q) (entry_with own fate effect.distance)
          blank_entry
          (λ e.
          differ
          (stage_injective m.table.oldest m.table.stages start q p (omega (arith, room)) (omega (arith, live, room))
          e))

      new_entries : (plain next).entries ≡ (executing now w p fate left).state.entries
      new_entries =
          ap (tabulate (entry_of next)) live_is
          ∙ sym (tabulate_take (entry_of next) m.table.live left bounds.1)
          ∙ ap (take left)
          (sym
          (tabulate_set (entry_of m) (entry_of next) m.table.live p (entry_with own fate effect.distance)
          live entry_here entry_there))
          ∙ ap₂ (λ (x : Entry) (d : ℕ). take left (set now.entries p (entry_with x fate d))) (sym here) distance_is

      new_next : next.next ≡ refetch_index now left
      new_next =
          ap (λ (k : ℕ). cond (ltb k m.table.live) (entry_of m k).index m.next) live_is
          ∙ go (ltb left m.table.live) refl
          ∙ ap (λ (n : ℕ). cond (ltb left n) (entry_at now.entries left).index m.next) (sym (length_entries m))
        where
          go : (b : Bool) → ltb left m.table.live ≡ b
              → cond b (entry_of m left).index m.next ≡ cond b (entry_at now.entries left).index m.next
          go true e = ap (λ (x : Entry). x.index) (sym (entry_at_lem m left (ltb-true left m.table.live e)))
          go false e = refl

      new_plain : plain next ≡ (executing now w p fate left).state
      new_plain =
          let built : State → List Entry → ℕ → Plain = λ P es n.
          record { buffer = P; entries = es; registers = m.registers; count = m.count; next = n } in
          ap (λ (P : State). built P (plain next).entries next.next)
          (same ∙ ap (executes (view m.table) p) (sym fate_at_lem))
          ∙ ap₂ (built (executing now w p fate left).state.buffer) new_entries new_next

      new_said : executed_says effect m.table.live ≡ (executing now w p fate left).answer
      new_said =
          ap₂ (λ (v d : ℕ). executed v d (cond (ltb effect.left m.table.live) (some effect.left) none))
          (effect_value m.table passed.sound.rules p live w act stays ∙ sym value_at)
          distance_is
          ∙ ap (executed (load_value (entry_at now.entries p).instruction fate) (load_distance now p fate))
          (ap₂ (λ (k n : ℕ). cond (ltb k n) (some k) none) live_is (sym (length_entries m)))

      new_sound : Sound next
      new_sound = record { rules = rules; agrees = λ q h. go q (omega (arith, live_is)) (eqb q p) refl }
        where
          refs : List Ref
          refs = take left (view m.table).refs

          go : (q : ℕ) → q < left → (b : Bool) → eqb q p ≡ b
              → agree (reference (entry_of next q)) (fate_of (at (view after).refs q)) ≡ true
          go q h true e =
              subst (λ (j : ℕ). agree (reference (entry_of next j)) (fate_of (at (view after).refs j)) ≡ true)
              (sym (eqb-true q p e))
              (ap₂ agree (ap reference entry_here)
              (ap (λ (P : State). fate_of (at P.refs p)) same
              ∙ ap fate_of (get_or-set_same refs p _ blank (omega (arith, bounds.0, length_left)))
              ∙ sym fate_is)
              ∙ agree_words untold memory_seen own.instruction fate)
          go q h false e =
              let differ = eqb-false q p e in
              ap₂ agree (ap reference (entry_there q (omega (arith, bounds.1)) differ))
              (ap (λ (P : State). fate_of (at P.refs q)) same
              ∙ ap fate_of (get_or-set_other refs p q _ blank differ ∙ get_or-take left (view m.table).refs q blank h))
              ∙ passed.sound.agrees q (omega (arith, bounds.1))

      accepted : Meets program m (execute p) w (executed_says effect m.table.live) next w []
      accepted =
          accepted_meets program m (execute p) w next w [] _ (executing now w p fate left) passed.sound
          (responds
          ∙ ap (λ (b : Bool). judged (cond b 10 0) now w [] (executing now w p fate left))
          (ne_eqb left 0 (λ e. stays (live_is ∙ e))))
          tt new_said new_plain refl refl new_sound

      -- the entry's fate as the code writes it
      effect_fate : Executed effect.value effect.address ≡ fate
      effect_fate = go act stays
        where
          go : (x : Action) → ((effect_at m.table p w x).left ≡ 0 → ⊥)
              → Executed (effect_at m.table p w x).value (effect_at m.table p w x).address
              ≡ fate_after memory_seen x
          go (Compute v) s = refl
          go (LoadAt a) s =
              ap (λ (v : ℕ). Executed v a) (effect_value m.table passed.sound.rules p live w (LoadAt a) s)
          go (StoreAt a v) s = refl
          go (PartAt part b v) s = ap (λ (x : ℕ). Executed x b) (part_value m.table passed.sound.rules
              p live w part b v s)

    -- the entry executes: each part as the code leaves it
    pub execute_meets : length m.window ≡ stages_most → Lengths m.table → (s : ℕ) → s ≡ stage_of m.table p
        → (q : Effect) → q ≡ effect_at m.table p w act → (q.left ≡ 0 → ⊥)
        → (after : Table) → after ≡ apply_effect m.table q s
        → (e : Entry) → e ≡ entry_with own (Executed q.value q.address) q.distance
        → (said : Answer) → said ≡ executed_says q m.table.live
        → (n : ℕ) → n ≡ cond (ltb q.left m.table.live) (entry_of m q.left).index m.next
        → Meets program m (execute p) w said
        (record { table = after; window = set m.window s e; registers = m.registers; count = m.count; next = n })
        w
        []
    execute_meets full lengths s hs q hq stays after ha e he said hg n hn =
        let some_left : (effect_at m.table p w act).left ≡ 0 → ⊥ =
        λ z. stays (ap (λ (k : Effect). k.left) hq ∙ z) in
        rw (hg, hn, ha, he, hs, hq, effect_fate full lengths some_left) (accepted full lengths some_left)

    -- and as its step leaves the whole
    pub executed_meets : length m.window ≡ stages_most → Lengths m.table → (s : ℕ) → s ≡ stage_of m.table p
        → (q : Effect) → q ≡ effect_at m.table p w act → (q.left ≡ 0 → ⊥)
        → Meets program m (execute p) w (executed_says q m.table.live) (executed_over m s q) w []
    executed_meets full lengths s hs q hq stays =
        execute_meets full lengths s hs q hq stays _ refl _
        (ap (λ (j : ℕ). entry_with (get_or m.window j blank_entry) (Executed q.value q.address) q.distance) hs)
        _ refl _ refl
