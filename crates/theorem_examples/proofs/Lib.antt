-- Cases: the examples come out.
pub mod Cases
