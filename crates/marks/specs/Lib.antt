-- The meaning of mark words and of the circle of stages.
pub mod Stages
pub mod Circle
pub mod Counting
