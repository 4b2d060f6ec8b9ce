-- The life of an opened program on images: calls one after the other, each as its contract says, on the image and the memory
-- that the call before handed back, refused ones among them. Answers, record and number of commits are what the numbers that
-- crossed tell.
-- Assumes nothing.
use Rattle.std.specs.Prelude.{List, [], ◌∷◌, ◌++◌, ℕ, ◌+◌}
use Rattle.machine_model.specs.Calls.{Call, Answer}
use Rattle.sequential.specs.Play.{recorded, commits_in}
use Rattle.embed_image.specs.declared.Image.{Image}
use Rattle.embed_image.specs.declared.Answered.{Answered}
use Rattle.embed_image.specs.Telling.{told}
use Rattle.embed_image.specs.Crossing.{Crosses}

-- From image i and memory w these calls were made, with these answers, and led to image u and memory v, with this record and
-- this number of commits.
pub data ImageLife (program : List ℕ) (i : Image) (w : List ℕ)
    : List Call → List Answer → Image → List ℕ → List ℕ → ℕ → Type 0 where
  begun : ImageLife program i w [] [] i w [] 0
  called : {cs : List Call} {answers : List Answer} {u : Image} {v y : List ℕ} {record' list : List ℕ} {n : ℕ} {r : Answered}
      (c : Call) → ImageLife program i w cs answers u v record' n → Crosses program u c v r y list
      → ImageLife program i w (cs ++ (c ∷ [])) (answers ++ (told c r.numbers ∷ [])) r.image y
      (record' ++ recorded (told c r.numbers) list) (n + commits_in (told c r.numbers))
