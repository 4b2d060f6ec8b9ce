-- A turn of finish changes the machine step by step: an entry issued where nothing is live, the oldest executed where it waits,
-- and its commit. What a step leaves is the machine of that call's own law: so it passes the validation and has the plain
-- state of the definition (turn_begun, turn_ready, turn_commits). Where a turn stops, the contract is met (finish_meets).
-- Assumes nothing.
use mathlib.Core.Path.{◌≡◌, refl, sym, ap, ◌∙◌}
use mathlib.Core.Bool.{Bool, true, false, cond, ◌||◌}
use mathlib.Core.List.{List, []}
use mathlib.Core.Option.{Option, none, some}
use Prim.Native.Nat.{ℕ, ◌-◌, ◌*◌, ◌^◌, ◌≤◌, ◌<◌}
use native.Mathlib.Omega.{arith}
use lib.Bits.{bit_or}
use lib.Dec.{eqb, ltb}
use lib.ListN.{length, get_or, set, length-set}
use borrow.Author.Tests.{eqb-true, eqb-false}
use Rattle.marks.specs.Circle.{firsts}
use Rattle.marks.proofs.Turns.{stage_zero}
use Rattle.table.specs.declared.Table.{Table}
use Rattle.table.specs.Limits.{stages_most, slots, rows_in}
use Rattle.table.specs.Reference
use Rattle.table.specs.Reference.{fate_of, at}
use Rattle.table.specs.View.{stage_of, tabulate, view}
use Rattle.table.proofs.Fates.{length_refs}
use Rattle.engine.specs.Computed.Steps.{within, marking}
use Rattle.engine.proofs.Lengths.{fits}
use Rattle.engine.proofs.Reaching.{within_length}
use Rattle.lookup.specs.Computed.Search.{marked_fate}
use Rattle.machine_model.specs.Program.{destination}
use Rattle.engine.specs.Contract.{refused, named, finished}
use Rattle.engine.specs.declared.Action.{Action}
use Rattle.engine.specs.declared.Effect.{Effect}
use Rattle.engine.specs.Execution.{written, fate_by}
use Rattle.engine.specs.Conditions.{faults}
use Rattle.machine_model.specs.declared.Fate.TheVariants.{Executed}
use Rattle.machine_model.specs.declared.Entry.{Entry}
use Rattle.machine_model.specs.declared.Machine.{Machine}
use Rattle.machine_model.specs.Window.{blank_entry, entry_at, entry_with, register_seen}
use Rattle.machine_model.specs.Calls.{Plain, issue, execute, commit, matches_program, pending, value_by, writing}
use Rattle.machine_model.specs.Calls.{buffered, finish, committed_says, begun, ready, per_commit, finishes}
use Rattle.machine_model.specs.Calls.{drain_stopped}
use Rattle.machine_model.specs.Contract.{entry_of, plain, agree, Sound, tabled, Meets}
use Rattle.machine_laws.specs.Computed.Parts.{OperandsExist, action_by, commit_number, executed_says}
use Rattle.machine_laws.specs.Computed.Steps.{own, own_mark, issued_over, executed_over, committed_over, begun_over, oldest_effect, ready_over}
use Rattle.machine_model.specs.Tests.{validate_of}
use Rattle.machine_model.proofs.Sounding.{length_entries, entry_at_lem}
use Rattle.machine_laws.specs.Computed.Steps.{Sized}
use Rattle.machine_model.proofs.Answering.{Passed, validate_passes}
use Rattle.machine_laws.proofs.Moved.{issue_meets}
use Rattle.machine_laws.proofs.Formed.{like_small}
use Rattle.lookup.specs.Forwarding.{forwarded}
use Rattle.engine.specs.Computed.Effect.{apply_effect}
use Rattle.engine.proofs.Effects.{effect_left, found_bounds}
use Rattle.machine_laws.proofs.Comparing.{agree_waiting}
use Rattle.machine_laws.proofs.Executions.{waits_waiting, asked, why_none, execute_meets}
use Rattle.machine_laws.proofs.Committed.{commit_refused, commit_clean, commit_meets}
use Rattle.machine_laws.proofs.ChecksKept.{validate_lent, issue_passes, execute_passes}
use Rattle.machine_model.proofs.Finishes.{begun_live, begun_empty, ready_waiting, ready_executed, Remains, remains_meets}
use Rattle.machine_model.proofs.Conditions.{finish_passes}
use Rattle.machine_model.proofs.OldestReady.{oldest_leaves}

-- On its way machine b passes the validation with memory w, has plain state Y and something live, and arrays of their lengths.
pub record Along (program : List ℕ) (w : List ℕ) (Y : Plain) (b : Machine) : Type 0 where
  pub passes : validate_of b program (length w) ≡ 0
  pub is : plain b ≡ Y
  pub some : 0 < b.table.live
  pub sized : Sized b

-- ---- begun

-- an array keeps its length, set at a place or narrowed
length_either : (on : Bool) (xs : List ℕ) (i v k : ℕ) → length xs ≡ k → length (cond on (set xs i v) xs) ≡ k
length_either true xs i v k e = length-set xs i v ∙ e
length_either false xs i v k e = e

length_cut : (on : Bool) (n : ℕ) (xs : List ℕ) (stay k : ℕ) → length xs ≡ k → length (cond on (within n xs stay) xs) ≡ k
length_cut true n xs stay k e = within_length n xs stay ∙ e
length_cut false n xs stay k e = e

module _ (program : List ℕ) (m : Machine) (w : List ℕ) (passes : validate_of m program (length w) ≡ 0) (sized : Sized m)
    (left : m.table.live ≡ 0 → m.next < m.count) where
  passed : Passed m program (length w)
  passed = validate_passes m program (length w) passes

  module _ (empty : m.table.live ≡ 0) where
    issued_meets : Meets program m issue w (named m.table.live) (issued_over program m) w []
    issued_meets =
        let room : m.table.live < m.table.stages = omega (arith, empty, (fits m.table passed.sound.rules).some_stage) in
        let lent = validate_passes m program m.table.words (validate_lent m program _ _ passed.words passes) in
        issue_meets program m lent w sized.lengths sized.window room (left empty)

    issued_along : Along program w (begun program (plain m) w) (issued_over program m)
    issued_along =
        let l = sized.lengths in
        record {
          passes = issue_passes m (issued_over program m) program (length w) passes w w _ issued_meets;
          is = begun_empty tabled program m w (issued_over program m) _ (length_entries m ∙ empty) passed.sound issued_meets;
          some = omega arith;
          sized = record {
            lengths = record {
              numbers = length-set m.table.numbers (stage_of m.table m.table.live) m.table.next ∙ l.numbers;
              addresses = l.addresses;
              loads = l.loads;
              stores = l.stores;
              values = l.values;
              taken = l.taken;
            };
            window = length-set m.window (stage_of m.table m.table.live) _ ∙ sized.window;
            registers = sized.registers;
            small = sized.small;
          };
        }

  kept_along : (m.table.live ≡ 0 → ⊥) → Along program w (begun program (plain m) w) m
  kept_along live =
      record {
        passes = passes;
        is = begun_live tabled program m w (λ z. live (sym (length_entries m) ∙ z));
        some = omega arith;
        sized = sized;
      }

  pub turn_begun : Along program w (begun program (plain m) w) (begun_over program m)
  turn_begun = go (eqb m.table.live 0) refl
    where
      go : (z : Bool) → eqb m.table.live 0 ≡ z
          → Along program w (begun program (plain m) w) (cond z (issued_over program m) m)
      go true e = issued_along (eqb-true m.table.live 0 e)
      go false e = kept_along (eqb-false m.table.live 0 e)

-- ---- executed

module _ (m : Machine) {program : List ℕ} {w : List ℕ} {b : Machine}
    (along : Along program w (begun program (plain m) w) b) where
  abbrev t : Table
  t = b.table

  passed_here : Passed b program (length w)
  passed_here = validate_passes b program (length w) along.passes

  -- position 0 is the oldest's stage
  zeroth : stage_of t 0 ≡ t.oldest
  zeroth = stage_zero t.oldest t.stages passed_here.sound.rules.start

  zeroth_own : entry_of b 0 ≡ own b
  zeroth_own = ap (λ (s : ℕ). get_or b.window s blank_entry) zeroth

  first_own : entry_at (plain b).entries 0 ≡ own b
  first_own = entry_at_lem b 0 along.some ∙ zeroth_own

  pub own_small : OperandsExist (own b).instruction
  own_small =
      like_small program b.count (own b) passed_here.fits passed_here.counted
      (ap (matches_program program b.count) (sym zeroth_own) ∙ passed_here.alike 0 along.some)

  ready_kept : pending (own b).fate ≡ false → Along program w (ready program (plain m) w) b
  ready_kept done =
      record {
        passes = along.passes;
        is = ready_executed tabled program m w b along.is (ap (λ (x : Entry). pending x.fate) first_own ∙ done);
        some = along.some;
        sized = along.sized;
      }

  abbrev act : Action
  act = action_by b.registers (own b).instruction

  abbrev q : Effect
  q = oldest_effect w b

  module _ (idle : pending (own b).fate ≡ true) where
    idle_here : pending (entry_of b 0).fate ≡ true
    idle_here = ap (λ (x : Entry). pending x.fate) zeroth_own ∙ idle

    -- at position 0 the operands are the committed registers
    asks : asked b program w 0 passed_here ≡ some act
    unfolding register_seen tabulate
    asks = ap (λ (x : Entry). some (action_by b.registers x.instruction)) zeroth_own

    -- it never stalls
    stays : q.left ≡ 0 → ⊥
    stays e =
        let rules = passed_here.sound.rules in
        let f = fate_of (at (view t).refs 0) in
        let x = entry_of b 0 in
        oldest_leaves (view t) (fits t rules).some_row (omega (arith, length_refs t, along.some))
        (agree_waiting f
        (ap (λ (g : Reference.Fate). agree g f) (sym (waits_waiting x.instruction x.fate idle_here))
        ∙ passed_here.sound.agrees 0 along.some))
        (fate_by (forwarded (view t) w 0) act)
        (sym (effect_left t rules 0 along.some w act) ∙ e)

    pub oldest_bounds : (0 < q.left) × (q.left ≤ t.live) × (q.row < slots)
    oldest_bounds = found_bounds t passed_here.sound.rules 0 along.some w act refl stays

    executed_meets : Meets program b (execute 0) w (executed_says q t.live) (executed_over b t.oldest q) w []
    executed_meets =
        execute_meets b program w 0 passed_here (why_none b program w 0 passed_here along.some idle_here act asks) act asks
        along.sized.window along.sized.lengths t.oldest (sym zeroth) q refl stays (apply_effect t q t.oldest) refl _
        (ap (λ (x : Entry). entry_with x (Executed q.value q.address) q.distance) (sym zeroth_own))
        _ refl _ refl

    executed_sized : Sized (executed_over b t.oldest q)
    executed_sized =
        let l = along.sized.lengths in
        let o = t.oldest in
        let rest = firsts t.oldest t.stages q.left in
        let cuts : (ws : List ℕ) → length ws ≡ slots → length (cond (ltb q.left t.live) (within (rows_in t.banks) ws rest) ws) ≡ slots =
        λ ws. length_cut (ltb q.left t.live) (rows_in t.banks) ws rest slots in
        let marks : (ws : List ℕ) (on : Bool) → length ws ≡ slots → length (marking ws on q.row o) ≡ slots = λ ws on.
        length_either on ws q.row (bit_or (get_or ws q.row 0) (2 ^ o)) slots in
        record {
          lengths = record {
            numbers = l.numbers;
            addresses = length_either (q.load || q.store) t.addresses q.row q.word slots l.addresses;
            loads = marks _ q.load (cuts t.loads l.loads);
            stores = marks _ q.store (cuts t.stores l.stores);
            values = length_either q.store t.values o q.value stages_most l.values;
            taken = length_either q.load t.taken o q.taken stages_most l.taken;
          };
          window = length-set b.window o _ ∙ along.sized.window;
          registers = along.sized.registers;
          small = along.sized.small;
        }

    ready_taken : Along program w (ready program (plain m) w) (executed_over b t.oldest q)
    ready_taken =
        record {
          passes = execute_passes b (executed_over b t.oldest q) program (length w) along.passes w w _ 0 executed_meets;
          is =
              ready_waiting tabled program m w b along.is (executed_over b t.oldest q) _ passed_here.sound
              (ap (λ (x : Entry). pending x.fate) first_own ∙ idle)
              executed_meets;
          some = oldest_bounds.0;
          sized = executed_sized;
        }

  pub turn_ready : Along program w (ready program (plain m) w) (ready_over w b)
  turn_ready = go (pending (own b).fate) refl
    where
      go : (z : Bool) → pending (own b).fate ≡ z
          → Along program w (ready program (plain m) w) (cond z (executed_over b t.oldest q) b)
      go true e = ready_taken e
      go false e = ready_kept e

-- ---- committed

length_writing : (registers : List ℕ) (d : Option ℕ) (v : ℕ) → length (writing registers d v) ≡ length registers
length_writing registers none v = refl
length_writing registers (some d) v = length-set registers d v

module _ {program : List ℕ} {w : List ℕ} {Y : Plain} {u : Machine} (along : Along program w Y u) where
  pub along_passed : Passed u program (length w)
  along_passed = validate_passes u program (length w) along.passes

  -- the commit is refused
  pub turn_refused : (why : ℕ) → why ≡ commit_number (own u) u.table.live u.table.words → (why ≡ 0 → ⊥)
      → Meets program u commit w (refused why) u w []
  turn_refused why found other = commit_refused program u w along_passed why found other

  module _ (none : commit_number (own u) u.table.live u.table.words ≡ 0) where
    -- the oldest's address lies in the memory
    pub turn_clean : faults (length w) (marked_fate (own_mark u)) ≡ false
    turn_clean = commit_clean program u w along_passed none (own_mark u) refl

    pub turn_commits : (memory : List ℕ) → memory ≡ written w (marked_fate (own_mark u))
        → Meets program u commit w (committed_says (own u)) (committed_over u) memory []
    turn_commits memory hw =
        commit_meets program u w along_passed none (own_mark u) refl _ refl _ _ _ _ _ memory refl refl refl refl refl hw

  pub turn_sized : Sized (committed_over u)
  turn_sized =
      let l = along.sized.lengths in
      let t = u.table in
      let stay = firsts (stage_of t 1) t.stages (t.live - 1) in
      record {
        lengths = record {
          numbers = l.numbers;
          addresses = l.addresses;
          loads = within_length (rows_in t.banks) t.loads stay ∙ l.loads;
          stores = within_length (rows_in t.banks) t.stores stay ∙ l.stores;
          values = l.values;
          taken = l.taken;
        };
        window = along.sized.window;
        registers =
            length_writing u.registers (destination (own u).instruction) (value_by (own u).fate) ∙ along.sized.registers;
        small = along.sized.small;
      }

-- ---- stopped

-- a finish that passed the validation and stops here
pub finish_meets : (program : List ℕ) (k : ℕ) (m s u : Machine) (w list v z into : List ℕ) (n : ℕ) → Passed m program (length w)
    → Remains buffered program k (plain m) w list (plain s) v into n
    → finishes program (k - n) (length list - n * per_commit) (plain s) v ≡ drain_stopped (plain u) z → Sound u
    → Meets program m (finish k list) w (finished n) u z into
finish_meets program k m s u w list v z into n passed remains e sound =
    remains_meets tabled program k m s u w list v z into n passed.sound
    (finish_passes buffered program (plain m) w passed.words passed.opened)
    remains
    e
    sound
