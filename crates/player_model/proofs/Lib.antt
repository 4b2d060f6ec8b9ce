-- Reading. Heads: what the first line asks for. Founds: the four numbers of a line. Programs: the program's lines, as the loop
-- reads them.
-- Printing. Writing: texts written one after another. Closings: the words of memory and the end line.
-- Playing. Invariant: what is left to print, and what holds of a player. CallOnPlayer: what one call records and counts, from the
-- machine's contract. Phases: a step that reads no line. Limits: a finish as finishes with a list of one commit. StepContract: what
-- a line asks for, what every step does, and steps in a row. Ways: the ways through the player's loop. Openings: a script with a
-- good first line opens the machine. Beginnings: what `begin` hands back.
-- The theorems. Pieces: the pieces together are what the script prints. Lending: what is lent wrongly or too small changes
-- nothing. Weaving: a record is what it is without its distances, woven with them. Truth: the commits printed are the
-- sequential run's. Outputs: what that statement gives by itself. Witness: a script played in pieces, of which the theorems
-- speak. Samples: 01's sample from the run.
pub mod Heads
pub mod Founds
pub mod Programs
pub mod Writing
pub mod Invariant
pub mod Closings
pub mod CallOnPlayer
pub mod Phases
pub mod Limits
pub mod StepContract
pub mod Ways
pub mod Openings
pub mod Beginnings
pub mod Pieces
pub mod Lending
pub mod Weaving
pub mod Truth
pub mod Outputs
pub mod Witness
pub mod Samples
