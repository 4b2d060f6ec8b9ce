-- What crosses to C: an answer in numbers, and what each exported call promises.
pub mod Crossing
