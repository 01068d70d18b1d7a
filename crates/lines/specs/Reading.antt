-- What the reading functions answer, by place: where a value stands in a text, and the number on a line.
-- The text from place `at` on is `drop at text`; its next line starts at `line_after text at`.
use Rattle.std.specs.Prelude.{ℕ, ◌+◌, ◌-◌, ◌&&◌, List, length, take, drop, Option, Some, None, option_map, if◌then◌else◌}
use Rattle.words.specs.Words.{◌<?◌}
use Rattle.lines.specs.Lines.{Cursor, Reader, line_length, begins, value_in, or_form}
use Rattle.lines.specs.declared.reading.ValueAt.{ValueAt}

-- where the line after the one at `at` starts
abbrev pub line_after : List ℕ → ℕ → ℕ
line_after text at = at + line_length (drop at text) + 1

-- the line at `at`, without the LF that closes it
unfoldable pub line_here : List ℕ → ℕ → List ℕ
line_here text at = take (line_length (drop at text)) (drop at text)

-- where the value of the line at `at` stands: the line is closed by LF and begins with the key
unfoldable pub value_at : List ℕ → ℕ → List ℕ → Option ValueAt
value_at text at key =
    let s = drop at text in
    let n = line_length s in
    let closed = n <? length s in
    if closed && begins key (take n s) then Some (record { start = at + length key; len = n - length key; next = line_after text at }) else None

-- what the value of the line at `at` means, if the line has the key, and where the next line starts
unfoldable pub field_at : {A : Type 0} → (List ℕ → Option A) → List ℕ → ℕ → List ℕ → Option (A × ℕ)
field_at meaning text at key = option_map (λ a. (a, line_after text at)) (value_in meaning key (drop at text))

-- ---- places against the definitions' cursors

-- the value of the next line, with its key as bytes
abbrev pub line_with : {A : Type 0} → (List ℕ → Option A) → List ℕ → Reader A
line_with meaning key = λ here. or_form (value_in meaning key here.text) here

-- a reader that stands at a place of a text, before line l
abbrev pub standing : List ℕ → ℕ → ℕ → Cursor
standing text at l = record { line_no = l; text = drop at text }
