-- The lengths of a machine's arrays and the size of its count, which a struct by value has.
-- Assumes nothing.
use mathlib.Core.List.{List}
use mir.Val.{Val}
use denote.Laws.{Is}
use denote.Struct.Declared.{row}
use borrow.Author.Rules.{rules}
use Rattle.engine.proofs.Lengths.{lengths_of}
use Rattle.machine_model.specs.declared.Machine.{Machine}
use Rattle.machine_model.specs.contracts.Machine.{the_type}
use Rattle.machine_laws.specs.Computed.Steps.{Sized}

-- a machine that machine values hold has them
pub sized_of : (m : Machine) {vs : List Val} → Is (row the_type) m vs → Sized m
sized_of m held =
    record {
      lengths = lengths_of m.table held.1.1.0;
      window = held.1.1.1.0.1.0.1;
      registers = search rules;
      small = search rules;
    }
