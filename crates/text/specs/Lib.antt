-- Text of lines: bytes of a text, decimal numbers, numbers parted by commas, and the lines.
pub mod Ascii
pub mod Decimal
pub mod Fields
pub mod Lines
pub mod Computed
