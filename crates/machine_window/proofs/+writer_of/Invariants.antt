-- `machine_window::writer_of`, which calls itself, meets its contract. The measure is the position that it is given. A call
-- looks at the position before it; where that does not write the register, the call at that position finds what is
-- searched for.
-- Assumes nothing.
use Rattle.machine_window.proofs.+writer_of.Given as goal

abbrev pub decreases-writer_of : goal.decreases-writer_of
decreases-writer_of l = l.p
