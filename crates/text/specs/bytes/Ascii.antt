-- The bytes of a quoted text, and of quoted lines.
use Rattle.std.specs.Prelude.{ℕ, List, [], ◌∷◌, ◌++◌}
use Prim.Native.String as S
use Prim.Native.String.{String}
use Prim.Native.Char.{code}

abbrev pub ascii : String → List ℕ
ascii S.[] = []
ascii (S.◌∷◌ c s) = code c ∷ ascii s

-- lines, each ended by LF
abbrev pub text_of : List String → List ℕ
text_of [] = []
text_of (l ∷ ls) = ascii l ++ (10 ∷ text_of ls)
