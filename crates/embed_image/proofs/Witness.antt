-- The record theorem of C callers is about something: the life of the theorem's own witness (theorem's proofs/Lived.antt)
-- played on images. The first commit is refused; issue, execute and commit commit an instruction; a finish commits the other
-- three. What the numbers say of the run is concluded through record_crosses. And a call that is lent another program than the
-- opened one: its live entry is unlike that program's instruction, so it is refused with 4 and changes nothing.
-- Assumes nothing.
use mathlib.Core.Path.{◌≡◌, refl, sym, subst, ◌∙◌}
use mathlib.Core.List.{List, [], ◌∷◌}
use mathlib.Core.Option.{none}
use Prim.Native.Nat.{ℕ}
use native.Mathlib.Omega.{arith}
use lib.ListN.{set}
use Rattle.table.specs.View.{mark_fate, tabulate}
use Rattle.engine.specs.Conditions.{refusal}
use Rattle.engine.specs.Contract.{refused, done, named, executed, committed, finished}
use Rattle.machine_model.specs.declared.Machine.{Machine}
use Rattle.machine_model.specs.Calls.{Call, issue, execute, commit, finish, Answer, checks_of}
use Rattle.machine_model.specs.Contract.{tabled, plain, Sound, Meets}
use Rattle.sequential.specs.Play.{without}
use Rattle.sequential.specs.Sequential.{run_after}
use Rattle.theorem.specs.Truth.{CallsTruth}
use Rattle.sequential.proofs.Cases.{computing}
use Rattle.theorem.proofs.Witness.{program, memory, numbers}
use Rattle.theorem.proofs.Lived.{opening, m₀, m₁, m₂, m₃, m₄, final, lent, left, opens, sound, refuses, issues, executes}
use Rattle.theorem.proofs.Lived.{commits, finishes_all}
use Rattle.embed_image.specs.declared.Answered.{Answered}
use Rattle.embed_image.specs.Slots.{machine_by, image_of}
use Rattle.embed_image.specs.Telling.{numbers_of}
use Rattle.embed_image.specs.Crossing.{Crosses, Starts}
use Rattle.embed_image.specs.Lives.{ImageLife, begun, called}
use Rattle.embed_image.specs.Computed.Handing.{answered_by}
use Rattle.embed_image.proofs.Round.{round}
use Rattle.embed_image.proofs.Zero.{number_crosses}
use Rattle.embed_image.proofs.Crossing.{crosses, starts}
use Rattle.embed_image.proofs.Lived.{record_crosses}

-- a call on a machine is one on its image
onto : (m u : Machine) (c : Call) (w v kept : List ℕ) (said : Answer) → Meets program m c w said u v kept
    → Crosses program (image_of m) c w (answered_by (image_of m) u (numbers_of said)) v kept
onto m u c w v kept said met = crosses program c w (sym (round m)) met refl refl

started : Starts opening program memory (record { image = image_of m₀; numbers = numbers_of done })
started = starts opening program memory opens refl refl

life : ImageLife program (image_of m₀) memory (commit ∷ issue ∷ execute 0 ∷ commit ∷ finish 5 lent ∷ [])
    (refused 11 ∷ named 0 ∷ executed 0 0 none ∷ committed 0 1 1 9 0 ∷ finished 3 ∷ []) (image_of m₄) final numbers 4
life =
    called (finish 5 lent)
    (called commit
    (called (execute 0)
    (called issue
    (called commit begun (onto m₀ m₀ commit memory memory [] (refused 11) refuses))
    (onto m₀ m₁ issue memory memory [] (named 0) issues))
    (onto m₁ m₂ (execute 0) memory memory [] (executed 0 0 none) executes))
    (onto m₂ m₃ commit memory memory [] (committed 0 1 1 9 0) commits))
    (onto m₃ m₄ (finish 5 lent) memory final left (finished 3) finishes_all)

pub true_of_it : CallsTruth tabled program memory (machine_by (image_of m₄)) final numbers 4
true_of_it = record_crosses started refl life

-- so the record is the run's, and the memory: concluded, not computed
pub recorded_there : (without numbers ≡ (run_after program memory 4).record') × (final ≡ (run_after program memory 4).memory)
recorded_there = (true_of_it.record_is, true_of_it.memory_is)

-- ---- another program

-- the same but for its first instruction: A,1,0,6 where A,1,0,9 was issued
abbrev other : List ℕ
other = set program 3 6

issued_sound : Sound (machine_by (image_of m₁))
issued_sound = subst Sound (sym (round m₁)) sound.0

unlike_there : refusal (checks_of other (execute 0) (plain (machine_by (image_of m₁))) memory) ≡ 4
unfolding computing tabulate mark_fate
unlike_there = refl

pub other_program : {r : Answered} {v kept : List ℕ} → Crosses other (image_of m₁) (execute 0) memory r v kept
    → (r.numbers.refusal ≡ 4) × (r.image ≡ image_of m₁)
other_program x =
    let four = number_crosses other (image_of m₁) (execute 0) memory x issued_sound ∙ unlike_there in
    (four, x.unchanged (λ z. omega (arith, four, z)))

waits_there : refusal (checks_of program commit (plain (machine_by (image_of m₁))) memory) ≡ 12
unfolding computing tabulate mark_fate
waits_there = refl

-- so that a commit with the opened program then finds it waiting
pub waits_still : {r : Answered} {v kept : List ℕ} → Crosses program (image_of m₁) commit memory r v kept
    → r.numbers.refusal ≡ 12
waits_still x = number_crosses program (image_of m₁) commit memory x issued_sound ∙ waits_there
