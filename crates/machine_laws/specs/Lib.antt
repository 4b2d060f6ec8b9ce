-- How the machine's code computes what crates/machine_model says.
pub mod Computed
