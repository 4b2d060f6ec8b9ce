-- Letters: a letter's code. Fitting: the program read is well formed. Endings: how a script ends, by the machine that it left.
-- Telling: a call's commits are printed before what the calls after it print. Longest: the longest input. Examples: 01's sample,
-- scripts with B, H and distances, bad lines and the largest input, computed.
pub mod Letters
pub mod Fitting
pub mod Endings
pub mod Telling
pub mod Longest
pub mod Examples
