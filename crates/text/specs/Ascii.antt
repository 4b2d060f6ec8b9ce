-- Texts as bytes.
-- Assumes nothing.
use Rattle.std.specs.Prelude.{List, [] as nothing, ◌∷◌ as ◌then◌, ℕ}
use Prim.Native.Char.{code}
use Prim.Native.String.{String, [], ◌∷◌}

-- the bytes of a text of ASCII characters
unfoldable pub ascii : String → List ℕ
ascii [] = nothing
ascii (c ∷ s) = code c then ascii s
