-- What crosses to C: a machine as an image of numbers (Slots), an answer in numbers (Telling), what each exported call promises
-- (Crossing), and calls in a row (Lives).
pub mod Slots
pub mod Telling
pub mod Crossing
pub mod Lives
pub mod Computed
