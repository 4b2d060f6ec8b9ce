-- Round: the image of a machine is that machine. Zero: the number that crosses. Told: the numbers tell the answer. Crossing: a
-- call's contract on machines is one on images. Unlike: refusal 4 of an image. Lived: the record theorem of calls on images.
-- Witness: a life on images that it speaks of, and a call lent another program.
pub mod Round
pub mod Zero
pub mod Told
pub mod Crossing
pub mod Unlike
pub mod Lived
pub mod Witness
