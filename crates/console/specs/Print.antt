-- The lines that the programs print.
use Rattle.std.specs.Prelude.{ℕ, suc, List, [], ◌∷◌, ◌++◌, map, ℤ, pos, negsuc}
use Prim.Native.String.{String}
use Rattle.answers.specs.Answer.{Answer, number_of, places_of}
use Rattle.lines.specs.Lines.{bytes, comma, digits, line}

-- a spare, with a minus sign in front where it is below 0
unfoldable pub signed : ℤ → List ℕ
signed (pos n) = digits n
signed (negsuc n) = bytes "-" ++ digits (suc n)

-- values with commas between
unfoldable pub commas : List (List ℕ) → List ℕ
commas [] = []
commas (v ∷ []) = v
commas (v ∷ w ∷ vs) = v ++ comma ∷ commas (w ∷ vs)

-- a line of several values
abbrev pub values : String → List (List ℕ) → List ℕ
values key vs = line key (commas vs)

-- `refused=number,place`, for 8 both places
unfoldable pub refused_line : Answer → List ℕ
refused_line answer = values "refused=" (map digits (number_of answer ∷ places_of answer))
