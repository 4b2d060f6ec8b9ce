-- "After a squash the next issue is the first squashed instruction", of a machine over any engine through its contract: of a
-- called squash and of one that an execution answers (next_first), and whatever calls come between that neither issue nor squash
-- (Quiet): they leave the next instruction (next_kept).
-- Assumes nothing.
use mathlib.Core.Bool.{Bool, true, false, cond}
use mathlib.Core.List.{List, []}
use mathlib.Core.Logic.{⊎_elim}
use mathlib.Core.Option.{Option, none, some}
use mathlib.Core.Path.{◌≡◌, refl, sym, ap, subst, ◌∙◌}
use Prim.Native.Nat.{ℕ}
use native.Mathlib.Omega.{arith}
use lib.Dec.{ltb}
use lib.ListN.{length}
use lib.Seq.{get_or_at}
use borrow.Author.Tests.{leb-false, lt-ltb}
use Rattle.engine.specs.Contract.{refused, done, named, executed, committed, finished}
use Rattle.engine.proofs.Deciding.{Comes}
use Rattle.machine_model.specs.declared.Entry.{Entry}
use Rattle.machine_model.specs.Program.{instruction_at}
use Rattle.machine_model.specs.Window.{blank_entry, entry_at}
use Rattle.machine_model.specs.Over.{Engine, Realization, Plain, Call, issue, execute, squash, commit, finish, Answer}
use Rattle.machine_model.specs.Over.{checks_of, new_entry, evaluated, known, survivors_of, Meets}
use Rattle.machine_model.proofs.Ordered.{Tested, accepted, decides_over}

-- nothing was squashed
abbrev Unsquashed : Option ℕ → Type 0
Unsquashed none = Unit {0}
Unsquashed (some k) = ⊥

-- the answer of a call that neither issues nor squashes: a refusal, a commit, an execution that squashes nothing
abbrev pub Quietly : Answer → Type 0
Quietly (refused k) = Unit {0}
Quietly done = ⊥
Quietly (named p) = ⊥
Quietly (executed v d gone) = Unsquashed gone
Quietly (committed i c r v d) = Unit {0}
Quietly (finished n) = ⊥

-- such calls took one machine to another
pub data Quiet {O S : Type 0} {E : Engine O S} (R : Realization E) : R.Machine → R.Machine → Type 0 where
  still : {m : R.Machine} → Quiet R m m
  after : {m u x : R.Machine} (program : List ℕ) (c : Call) (w : List ℕ) {said : Answer} {v kept : List ℕ} → Quiet R m u
      → Meets R program u c w said x v kept → Quietly said → Quiet R m x

-- it squashed from position k on, called or not
pub data SquashesFrom (k : ℕ) : Call → Answer → Type 0 where
  called : SquashesFrom k (squash k) done
  required : {p v d : ℕ} → SquashesFrom k (execute p) (executed v d (some k))

module _ {O S : Type 0} {E : Engine O S} (R : Realization E) (tests : Tested R) where
  -- the next instruction of a machine, and the index of the entry at a position
  abbrev next_of : R.Machine → ℕ
  next_of m = (R.plain m).next

  abbrev index_at : R.Machine → ℕ → ℕ
  index_at m k = (entry_at (R.plain m).entries k).index

  module _ (program : List ℕ) (m : R.Machine) (w : List ℕ) where
    abbrev X : Plain S
    X = R.plain m

    -- how many entries an execution of position p leaves
    abbrev left_by : ℕ → ℕ
    left_by p = survivors_of E X w p (known (evaluated E X w p))

    -- an accepted call of these leaves the next instruction
    accepted_quiet : (c : Call) {said : Answer} {u : R.Machine} {v kept : List ℕ}
        → Comes R.Sound R.plain m (checks_of E program c X w) (accepted E program c X w) said u v kept → Quietly said
        → next_of u ≡ next_of m
    accepted_quiet issue came quiet = absurd (subst Quietly came.answer quiet)
    accepted_quiet (execute p) {said} {u} came quiet =
        ap (λ (Y : Plain S). Y.next) came.state ∙ go (ltb (left_by p) (length X.entries))
        (subst Quietly came.answer quiet)
      where
        go : (b : Bool) → Unsquashed (cond b (some (left_by p)) none) → cond b (index_at m (left_by p)) (next_of m) ≡ next_of m
        go true q = absurd q
        go false q = refl
    accepted_quiet (squash p) came quiet = absurd (subst Quietly came.answer quiet)
    accepted_quiet commit came quiet = ap (λ (Y : Plain S). Y.next) came.state
    accepted_quiet (finish k list) came quiet = absurd (subst Quietly came.answer quiet)

    -- so does a refused one, which leaves the machine
    pub call_quiet : (c : Call) {said : Answer} {u : R.Machine} {v kept : List ℕ} → Meets R program m c w said u v kept
        → Quietly said → next_of u ≡ next_of m
    call_quiet c {said = refused k} meets quiet =
        ap next_of
        (⊎_elim (λ (s : R.Sound m). (meets.refuses s k (sym (meets.answer s))).1)
        (λ (b : R.Sound m → ⊥). (meets.broken b).1)
        (tests m))
    call_quiet c {said = done} meets quiet = absurd quiet
    call_quiet c {said = named p} meets quiet = absurd quiet
    call_quiet c {said = executed x d gone} meets quiet =
        accepted_quiet c ((decides_over R tests program m c w meets).accepted tt) quiet
    call_quiet c {said = committed i k r x d} meets quiet =
        accepted_quiet c ((decides_over R tests program m c w meets).accepted tt) quiet
    call_quiet c {said = finished n} meets quiet = absurd quiet

    -- the next instruction after a squash from position k on: called,
    squash_next : (k : ℕ) {u : R.Machine} {v kept : List ℕ} → Meets R program m (squash k) w done u v kept
        → next_of u ≡ index_at m k
    squash_next k {u} {v} {kept} meets =
        let came = (decides_over R tests program m (squash k) w meets).accepted tt in
        ap (λ (Y : Plain S). Y.next) came.state
        ∙ ap (λ (b : Bool). cond b (index_at m k) (next_of m))
        (lt-ltb k (length X.entries) (leb-false (length X.entries) k (came.unmet 7)))

    -- and of an execution
    execute_next : (p x d k : ℕ) {u : R.Machine} {v kept : List ℕ}
        → Meets R program m (execute p) w (executed x d (some k)) u v kept → next_of u ≡ index_at m k
    execute_next p x d k {u} {v} {kept} meets =
        let came = (decides_over R tests program m (execute p) w meets).accepted tt in
        let e = came.answer in
        let is : some k ≡ cond (ltb (left_by p) (length X.entries)) (some (left_by p)) none = cc in
        ap (λ (Y : Plain S). Y.next) came.state ∙ go (ltb (left_by p) (length X.entries)) is
      where
        go : (b : Bool) → some k ≡ cond b (some (left_by p)) none
            → cond b (index_at m (left_by p)) (next_of m) ≡ index_at m k
        go true e = let same : left_by p ≡ k = cc in ap (index_at m) same
        go false e = absurd (let z : ◌≡◌ {A = ℕ} 0 1 = cc in omega arith)

    pub next_first : (c : Call) {said : Answer} {u : R.Machine} {v kept : List ℕ} → Meets R program m c w said u v kept
        → (k : ℕ) → SquashesFrom k c said → next_of u ≡ index_at m k
    next_first c meets k called = squash_next k meets
    next_first c meets k (required {p = p} {v = x} {d = d}) = execute_next p x d k meets

    -- the entry issued is the next instruction
    pub issued_next : {q : ℕ} {u : R.Machine} {v kept : List ℕ} → Meets R program m issue w (named q) u v kept
        → (index_at u q ≡ next_of m) × ((entry_at (R.plain u).entries q).instruction ≡ instruction_at program (next_of m))
    issued_next {q} {u} {v} {kept} meets =
        let came = (decides_over R tests program m issue w meets).accepted tt in
        let e = came.answer in
        let last : length X.entries ≡ q = cc in
        let new : entry_at (R.plain u).entries q ≡ new_entry program (next_of m) =
        ap (λ (Y : Plain S). entry_at Y.entries q) came.state
        ∙ get_or_at X.entries (new_entry program (next_of m)) [] blank_entry q last in
        (ap (λ (x : Entry). x.index) new, ap (λ (x : Entry). x.instruction) new)

  pub next_kept : {m x : R.Machine} → Quiet R m x → next_of x ≡ next_of m
  next_kept still = refl
  next_kept (after {u = u} program c w before meets quiet) = call_quiet program u w c meets quiet ∙ next_kept before

  -- "the next issue is the first squashed instruction": a call squashed from position k on, calls that neither issue nor squash
  -- followed; then the entry issued has the index of the entry that was at k, and is the program's instruction there
  pub first_squashed_next : (program : List ℕ) (m : R.Machine) (c : Call) (w : List ℕ) {said : Answer} {u : R.Machine}
      {v kept : List ℕ} → Meets R program m c w said u v kept → (k : ℕ) → SquashesFrom k c said
      → (x : R.Machine) → Quiet R u x
      → (again lent : List ℕ) {q : ℕ} {y : R.Machine} {left rest : List ℕ} → Meets R again x issue lent (named q) y left rest
      → (index_at y q ≡ index_at m k)
      × ((entry_at (R.plain y).entries q).instruction ≡ instruction_at again (index_at m k))
  first_squashed_next program m c w meets k from x between again lent issued =
      let next : next_of x ≡ index_at m k = next_kept between ∙ next_first program m w c meets k from in
      let new = issued_next again x lent issued in
      (new.0 ∙ next, new.1 ∙ ap (instruction_at again) next)
