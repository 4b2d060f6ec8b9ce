-- Over any engine, Record: the record theorem; Closing: the record theorem of the calls, from their contracts; Finished: how much a
-- finish commits, of the play and of the calls; Outcome: as many commits have one outcome, of one engine and of two, and what else
-- the theorems come to; Unrolled: a finish is the single calls that it repeats; Answered: a commit passes up what its entry's
-- execution answered. Of the buffer, Paired: its references beside the window's entries; Buffered: it meets what an engine owes.
-- Witness: histories that they speak of, computed. Lived: a life of calls on machines that they speak of. InOrder: a second
-- engine, and that it agrees with the buffer there.
pub mod Record
pub mod Closing
pub mod Finished
pub mod Outcome
pub mod Unrolled
pub mod Answered
pub mod Paired
pub mod Buffered
pub mod Witness
pub mod Lived
pub mod InOrder
