-- `machine_finish::finish_in` meets its contract. The loop's invariant is Remains of machine_model/proofs/Finishes.antt, with a machine
-- that passes the validation, its arrays' lengths and a memory of the length lent. A turn is that of
-- machine_laws/proofs/FinishStep.antt. Each return is `finish_meets` with the reason why the rest stops. Assumes nothing.
use Rattle.std.proofs.Common.{◌≡◌, length}
use Rattle.machine_model.specs.Calls.{buffered}
use Rattle.machine_model.specs.Contract.{plain}
use Rattle.machine_model.specs.Tests.{validate_of}
use Rattle.machine_laws.specs.Computed.Steps.{Sized}
use Rattle.machine_model.proofs.Finishes.{Remains}
use Rattle.machine_finish.proofs.finish_in.Given as goal

abbrev pub invariant-loop-n : goal.invariant-loop-n
invariant-loop-n l =
    record {
      passes : validate_of l.m l.program (length l.fn.memory) ≡ 0;
      lent : length l.memory ≡ length l.fn.memory;
      rest : Remains buffered l.program l.k (plain l.fn.m) l.fn.memory l.fn.list (plain l.m) l.memory l.list l.n;
      sized : Sized l.m;
    }
