-- What the code's answers say: a refusal its number, and what is accepted one of the contract's answers.
-- Assumes nothing.
use Rattle.std.specs.Prelude.{ℕ, Option, Some, None, Result, Ok, Err}
use Rattle.std.proofs.Math.Option as maybe
use Rattle.engine.specs.declared.Refusal.{Refusal}
use Rattle.engine.specs.declared.Refusal.TheVariants as refusal
use Rattle.engine.specs.declared.Executed.{Executed}
use Rattle.engine.specs.Contract.{Answer, refused, executed}

-- the number of each condition
abbrev pub number : Refusal → ℕ
number refusal.Sizes = 1
number refusal.Rules = 2
number refusal.Memory = 3
number refusal.Program = 4
number refusal.Full = 5
number refusal.Over = 6
number refusal.Unnamed = 7
number refusal.Executed = 8
number refusal.Operand = 9
number refusal.Stalled = 10
number refusal.Empty = 11
number refusal.Waiting = 12
number refusal.Fault = 13
number refusal.Misaligned = 14

-- what the code may have found, as the definitions say it
abbrev pub as_option : {A : Type 0} → Option A → maybe.Option A
as_option None = maybe.none
as_option (Some a) = maybe.some a

-- an accepted call answers what its value says, a refused one its number
abbrev pub says : {A N : Type 0} → (A → Answer N) → Result A Refusal → Answer N
says accepted (Ok a) = accepted a
says accepted (Err r) = refused (number r)

-- what an execution answers
abbrev pub says_executed : {N : Type 0} → Executed N → Answer N
says_executed e = executed e.value e.distance (as_option e.squashed)

-- the number that a call or a part of it is turned down with; 0 where it is not
abbrev pub turned_down : {A : Type 0} → Result A Refusal → ℕ
turned_down (Ok a) = 0
turned_down (Err r) = number r
