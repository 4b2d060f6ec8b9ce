-- Every row of the table of lists of calls comes out, by computation.
-- Assumes nothing.
use mathlib.Core.Path.{refl}
use Rattle.sequential.specs.Examples.{AllCome}
use Rattle.sequential.proofs.Cases.{computing, each}
use Rattle.theorem_examples.specs.Calls.{PlayExample, played_to, call_table}

pub calls_shown : AllCome played_to (λ (e : PlayExample). e.outcome) call_table
unfolding call_table computing
calls_shown = each played_to (λ (e : PlayExample). e.outcome) call_table refl
