-- What the code says of an entry's kind, as the number by which window and table are compared (specs/Contract.antt of
-- machine_model). Assumes nothing.
use Rattle.std.specs.Prelude.{ℕ, Option, None, Some}
use Rattle.machine_model.specs.declared.Kind.{Kind}
use Rattle.machine_model.specs.declared.Kind.TheVariants.{Computing, Loading, Storing, Merging}

-- an entry that has executed as this kind: 0 without memory, 1 a load, 2 a store, 3 both
abbrev pub access_number : Kind → ℕ
access_number Computing = 0
access_number Loading = 1
access_number Storing = 2
access_number Merging = 3

-- the same where it may not have executed: 4
abbrev pub kind_number : Option Kind → ℕ
kind_number None = 4
kind_number (Some k) = access_number k
