-- Flaws: there is a reason exactly where a script prints its bad line, and for that line. Defects: no reason is of a sound field.
-- Looking: how the reason is found. MessageExamples: a script for each reason, and its message.
pub mod Flaws
pub mod Defects
pub mod Looking
pub mod MessageExamples
