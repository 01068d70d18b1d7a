-- Pieces of text written into an output at a place: a piece that has room is written whole, any other not at all.
use Rattle.std.specs.Prelude.{ℕ, ◌+◌, Bool, List, [], ◌∷◌, ◌++◌, length, take, drop, if◌then◌else◌}
use Rattle.words.specs.Words.{◌≤?◌}
use Rattle.lines.specs.Lines.{LF, digits}

-- the output d with the piece w from place `at` on
unfoldable pub put : ℕ → List ℕ → List ℕ → List ℕ
put at w d = take at d ++ w ++ drop (at + length w) d

-- w has room in d at that place
abbrev pub has_room : ℕ → List ℕ → List ℕ → Bool
has_room at w d = at + length w ≤? length d

-- the output after the writing of w, and the place where the next piece goes
unfoldable pub put_fit : ℕ → List ℕ → List ℕ → List ℕ
put_fit at w d = if has_room at w d then put at w d else d

unfoldable pub place_after : ℕ → List ℕ → List ℕ → ℕ
place_after at w d = if has_room at w d then at + length w else at

-- the line of a key and a number, the key in bytes
abbrev pub number_line_of : List ℕ → ℕ → List ℕ
number_line_of key n = key ++ digits n ++ LF ∷ []
