-- The script program: its language, and what a script prints.
pub mod Language
pub mod Output
