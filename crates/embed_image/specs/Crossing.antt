-- What each exported call of the machine promises: the machine's own contract, on the machines that the images are.
-- Assumes nothing.
use Rattle.std.specs.Prelude.{◌≡◌, List, ℕ}
use Rattle.machine_model.specs.Calls.{Opening, Call, Answer}
use Rattle.machine_model.specs.Contract.{Meets, Opens}
use Rattle.embed_image.specs.declared.Image.{Image}
use Rattle.embed_image.specs.declared.Answered.{Answered}
use Rattle.embed_image.specs.Slots.{machine_by}
use Rattle.embed_image.specs.Telling.{numbers_of}

-- the answer crossed as the numbers of r
abbrev pub WithNumbers : Answered → Answer → Type 0
WithNumbers r said = r.numbers ≡ numbers_of said

-- Call c with this program on an image and memory w met the machine's contract with the image of r, memory v and the list as
-- `kept`. Its answer crossed as the numbers of r; with a refusal's number r has the image as it was passed.
pub record Crosses (program : List ℕ) (passed : Image) (c : Call) (w : List ℕ) (r : Answered) (v kept : List ℕ) : Type 0 where
  pub said : Answer
  pub meets : Meets program (machine_by passed) c w said (machine_by r.image) v kept
  pub numbers_are : WithNumbers r said
  pub unchanged : (r.numbers.refusal ≡ 0 → ⊥) → r.image ≡ passed

-- an opening
pub record Starts (o : Opening) (program w : List ℕ) (r : Answered) : Type 0 where
  pub said : Answer
  pub opens : Opens o program w said (machine_by r.image)
  pub numbers_are : WithNumbers r said
