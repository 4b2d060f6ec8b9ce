-- The ticket theorem's bound is exact. On a table of one stage a reference is issued and squashed, others are issued and
-- squashed after it, as many as one likes, and one more is issued (reissued, by induction on how many). Where 2 ^ 32 - 1 issues
-- came after the first, the theorem still holds off a squash that is given the first ticket (held_off). Where 2 ^ 32 did, the
-- number has come again: the ticket names the reference that is there now, and squashes it (comes_again).
-- Assumes nothing.
use mathlib.Core.Path.{◌≡◌, refl, ap, ap₂, subst}
use mathlib.Core.Bool.{Bool, true, cond, not}
use mathlib.Core.List.{List, [], ◌∷◌}
use mathlib.Core.Option.{none}
use Prim.Native.Nat.{ℕ, zero, suc, ◌+◌, ◌-◌, ◌%◌, ◌^◌}
use native.Mathlib.Omega.{arith}
use lib.ListN.{replicate}
use borrow.Author.Tests.{eq-eqb}
use Rattle.marks.specs.Circle.{firsts}
use Rattle.marks.specs.Counting.{every}
use Rattle.table.specs.declared.Table.{Table}
use Rattle.table.specs.Bank.{home, bank}
use Rattle.table.specs.Limits.{stages_most, slots, sizes_fit}
use Rattle.table.specs.Reference.{State}
use Rattle.table.specs.Rules.{Rules}
use Rattle.table.specs.View.{tabulate, view}
use Rattle.table.specs.Computed.Check.{marks_below, row_fits, lawful_by}
use Rattle.table.proofs.Lawful.{lawful_rules}
use Rattle.engine.specs.Contract.{refused, done, named}
use Rattle.buffer_model.specs.Answers.{Answer}
use Rattle.buffer_model.specs.Refusals.{names}
use Rattle.buffer_model.specs.Calls.{issue, squash, respond}
use Rattle.buffer_model.specs.Contract.{Meets, Opens}
use Rattle.buffer_model.specs.Examples.{τ}
use Rattle.buffer_model.specs.Life.{Event, event, TableLife, born, lived, issues_in, followed, to_squash}
use Rattle.buffer_model.proofs.MeetingContract.{accepted_meets}
use Rattle.buffer_model.proofs.Opening.{opens_done}
use Rattle.buffer_model.proofs.Tickets.{ticket_theorem}

-- a table of one stage, row and word with so many live, the next issue number, and the number of the stage's last holder
abbrev table : ℕ → ℕ → ℕ → Table
table live next number =
    record {
      banks = 1;
      rows = 1;
      stages = 1;
      words = 1;
      oldest = 0;
      live = live;
      next = next;
      executed = 0;
      numbers = number ∷ replicate (stages_most - 1) 0;
      addresses = replicate slots 0;
      loads = replicate slots 0;
      stores = replicate slots 0;
      values = replicate stages_most 0;
      taken = replicate stages_most 0;
    }

-- the table on which a reference was issued with n issues before it
abbrev pub holding : ℕ → Table
holding n = table 1 ((n + 1) % 2 ^ 32) (n % 2 ^ 32)

abbrev memory : List ℕ
memory = 0 ∷ []

rules : (next number : ℕ) → Rules (table 0 next number) × Rules (table 1 next number)
unfolding lawful_by row_fits marks_below every firsts sizes_fit home bank
rules next number = (lawful_rules (table 0 next number) refl, lawful_rules (table 1 next number) refl)

-- an issue takes the stage; a squash that is given its ticket frees it
issues : (next number : ℕ)
    → Meets (table 0 next number) issue memory (named (τ 0 next)) (table 1 ((next + 1) % 2 ^ 32) next) memory
unfolding tabulate
issues next number =
    accepted_meets (table 0 next number) issue memory (rules next number).0 refl (named (τ 0 next))
    (table 1 ((next + 1) % 2 ^ 32) next)
    memory refl refl refl refl
    (rules ((next + 1) % 2 ^ 32) next).1

squashes : (next number : ℕ) → Meets (table 1 next number) (squash (τ 0 number)) memory done (table 0 next number) memory
unfolding tabulate
squashes next number =
    accepted_meets (table 1 next number) (squash (τ 0 number)) memory (rules next number).1
    (ap (λ (t : Bool). cond (not t) 7 0) (eq-eqb number number refl))
    done (table 0 next number) memory refl refl refl refl (rules next number).0

-- after the first reference, squashed, n more were issued and squashed
record Emptied (n : ℕ) : Type 0 where
  number : ℕ
  later : List Event
  life : TableLife (holding 0) later (table 0 ((n + 1) % 2 ^ 32) number)
  gone : followed later 0 ≡ none
  count : issues_in later ≡ n

emptied : (n : ℕ) → Emptied n
unfolding tabulate followed issues_in
emptied zero =
    record { number = 0; later = _; life = lived born (squashes 1 0); gone = refl; count = refl }
emptied (suc n) =
    let r = emptied n in
    let k = (n + 1) % 2 ^ 32 in
    let same : (k + 1) % 2 ^ 32 ≡ (suc n + 1) % 2 ^ 32 = omega arith in
    record {
      number = k;
      later = event (squash (τ 0 k)) done 0 ∷ event issue (named (τ 0 k)) 1 ∷ r.later;
      life = subst (λ (next : ℕ). TableLife (holding 0)
          (event (squash (τ 0 k)) done 0 ∷ event issue (named (τ 0 k)) 1 ∷ r.later) (table 0 next k))
          same
          (lived (lived r.life (issues k r.number)) (squashes ((k + 1) % 2 ^ 32) k));
      gone = rw r.gone;
      count = ap suc r.count;
    }

-- a life from an opening on in which n issues came after the first, which answered τ 0 0: its reference was squashed, and
-- another holds its stage
pub record Reissued (n : ℕ) : Type 0 where
  pub opened : Opens 1 1 1 1 memory done (table 0 0 0)
  pub start : Meets (table 0 0 0) issue memory (named (τ 0 0)) (holding 0) memory
  pub later : List Event
  pub life : TableLife (holding 0) later (holding n)
  pub gone : followed later 0 ≡ none
  pub count : issues_in later ≡ n

pub reissued : (n : ℕ) → Reissued (suc n)
unfolding sizes_fit tabulate followed issues_in
reissued n =
    let r = emptied n in
    let k = (n + 1) % 2 ^ 32 in
    let number : k ≡ suc n % 2 ^ 32 = omega arith in
    let next : (k + 1) % 2 ^ 32 ≡ (suc n + 1) % 2 ^ 32 = omega arith in
    let later = event issue (named (τ 0 k)) 1 ∷ r.later in
    record {
      opened = opens_done 1 1 1 1 memory refl refl;
      start = issues 0 0;
      later = later;
      life = subst (TableLife (holding 0) later) (ap₂ (table 1) next number) (lived r.life (issues k r.number));
      gone = rw r.gone;
      count = ap suc r.count;
    }

module _ {m v : List ℕ} {x : Table} {said : Answer} where
  -- one issue fewer than 2 ^ 32 came after the first: by the theorem its ticket is refused
  last_refused : Reissued (2 ^ 32 - 1) → Meets (holding (2 ^ 32 - 1)) (squash (τ 0 0)) m said x v → said ≡ refused 7
  unfolding tabulate
  last_refused r meets =
      ((ticket_theorem r.opened born r.start r.life).stale r.gone (omega (arith, r.count)) to_squash meets).0

  pub held_off : Meets (holding (2 ^ 32 - 1)) (squash (τ 0 0)) m said x v → said ≡ refused 7
  held_off = last_refused (reissued (2 ^ 32 - 2))

  -- 2 ^ 32 came after it: its number has come again, and its ticket squashes the reference that is there now
  pub comes_again : Reissued (2 ^ 32) × (names (view (holding (2 ^ 32))) (τ 0 0) ≡ true)
      × (Meets (holding (2 ^ 32)) (squash (τ 0 0)) m said x v → (said ≡ done) × ((view x).refs ≡ []))
  unfolding tabulate respond
  comes_again = (
    reissued (2 ^ 32 - 1),
    refl,
    λ meets. (meets.answer (rules 1 0).1, ap (λ (P : State). P.refs) (meets.state (rules 1 0).1)),
  )
