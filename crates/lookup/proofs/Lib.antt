-- Loops: the searches step by step. Finds: what they find. Forwards, Violations, Firsts, Bankrows: what they find is what the
-- list of references says. Oldest: the oldest mark of a row. Tail: the search for a row to evict, and that its row is the one
-- chosen over the rows. Rowed: the row found is one of the table's. Places: the row and what is left, whole. Telling: what the
-- marks of a stage say. Sentences, Eviction: 01's and 02's sentences of the definitions. Squashes: where the list requires a
-- squash, and that an answer names it there alone. Cases: the walks of specs/Computed/Examples. Faithfully: why a load that a
-- store spares is right.
pub mod Loops
pub mod Finds
pub mod Forwards
pub mod Violations
pub mod Firsts
pub mod Oldest
pub mod Tail
pub mod Bankrows
pub mod Rowed
pub mod Places
pub mod Telling
pub mod Sentences
pub mod Eviction
pub mod Squashes
pub mod Cases
pub mod Faithfully
