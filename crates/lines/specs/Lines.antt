-- Lines `key=value` of bytes: how a line is written, and how lines are read one after the other.
use Rattle.std.specs.Prelude.{ℕ, zero, suc, ◌+◌, ◌-◌, ◌*◌, ◌/◌, ◌%◌, Bool, true, false, ◌&&◌, ◌||◌, List, [], ◌∷◌, ◌++◌, length, take, drop, if◌then◌else◌, Option, None, Some}
use Prim.Native.Char.{code}
use Prim.Native.String.{String}
use Prim.Native.String as Str
use Rattle.answers.specs.Answer.{Answer, Form, accepted, ◌unless◌}
use Rattle.words.specs.Words.{◌≤?◌, ◌<?◌, ◌=?◌}

-- the bytes of a text in quotes
abbrev pub bytes : String → List ℕ
bytes Str.[] = []
bytes (Str.◌∷◌ c s) = code c ∷ bytes s

abbrev pub LF : ℕ
LF = 10

abbrev pub comma : ℕ
comma = 44

-- ---- written

-- the digits of n, of which there are at most k + 1
unfoldable pub digits_in : ℕ → ℕ → List ℕ
digits_in zero n = (48 + n) ∷ []
digits_in (suc k) n =
    let more = digits_in k (n / 10) ++ (48 + n % 10) ∷ [] in
    if n <? 10 then (48 + n) ∷ [] else more

-- the digits of n, no zero in front
unfoldable pub digits : ℕ → List ℕ
digits n = digits_in n n

-- a line: key, value, LF
abbrev pub line : String → List ℕ → List ℕ
line key value = bytes key ++ value ++ LF ∷ []

abbrev pub number_line : String → ℕ → List ℕ
number_line key n = line key (digits n)

-- ---- what a value means

unfoldable pub same_bytes : List ℕ → List ℕ → Bool
same_bytes [] [] = true
same_bytes [] (b ∷ t) = false
same_bytes (a ∷ s) [] = false
same_bytes (a ∷ s) (b ∷ t) = (a =? b) && same_bytes s t

-- the number that digits make after those that made n
unfoldable pub number_from : ℕ → List ℕ → Option ℕ
number_from n [] = Some n
number_from n (b ∷ bs) =
    let onward = number_from (n * 10 + (b - 48)) bs in
    if (48 ≤? b) && (b ≤? 57) then onward else None

-- 1 to 4 digits and no leading zero (0 itself is `0`)
unfoldable pub number : List ℕ → Option ℕ
number [] = None
number (b ∷ []) = number_from 0 (b ∷ [])
number (b ∷ c ∷ bs) = if (b =? 48) || (2 <? length bs) then None else number_from 0 (b ∷ c ∷ bs)

-- ---- read

-- where a reader stands: the number of the next line, and the text from there on
pub record Cursor : Type 0 where
  pub line_no : ℕ
  pub text : List ℕ

-- a thing and where the reader then stands, or a refusal
pub data Read (A : Type 0) : Type 0 where
  got : A → Cursor → Read A
  refused : Answer → Read A

abbrev pub Reader : Type 0 → Type 0
Reader A = Cursor → Read A

-- a thing that takes no text
abbrev pub give : {A : Type 0} → A → Reader A
give a = λ here. got a here

-- one reader after the other: `x ← reader` in the definitions below
abbrev pub onward : {A B : Type 0} → Read A → (A → Reader B) → Read B
onward (got a here) rest = rest a here
onward (refused answer) rest = refused answer

infixl 20 ◌>>=◌
abbrev pub ◌>>=◌ : {A B : Type 0} → Reader A → (A → Reader B) → Reader B
◌>>=◌ reader rest = λ here. onward (reader here) rest

-- an answer that must be accepted for the reading to go on
abbrev pub must : Answer → Reader (Unit {0})
must answer = λ here. if accepted answer then got tt here else refused answer

-- k things of one kind
unfoldable pub many : {A : Type 0} → ℕ → Reader A → Reader (List A)
many zero one = give []
many (suc k) one = do
  first ← one
  others ← many k one
  give (first ∷ others)

-- how many bytes stand before the first LF: all where there is none
unfoldable pub line_length : List ℕ → ℕ
line_length [] = 0
line_length (b ∷ s) =
    let longer = suc (line_length s) in
    if b =? LF then 0 else longer

-- how many lines are complete: one for each LF
unfoldable pub lines_in : List ℕ → ℕ
lines_in [] = 0
lines_in (b ∷ s) =
    let later = lines_in s in
    if b =? LF then suc later else later

-- the line begins with the key
unfoldable pub begins : List ℕ → List ℕ → Bool
begins [] s = true
begins (k ∷ key) [] = false
begins (k ∷ key) (b ∷ s) = (k =? b) && begins key s

-- the next line is closed by LF and begins with the key; its value is the part after the key, and has a meaning
unfoldable pub value_in : {A : Type 0} → (List ℕ → Option A) → List ℕ → List ℕ → Option A
value_in meaning key s =
    let n = line_length s in
    let closed = n <? length s in
    if closed && begins key (take n s) then meaning (drop (length key) (take n s)) else None

-- where the reader stands after the next line
abbrev pub line_on : Cursor → Cursor
line_on here = record { line_no = suc here.line_no; text = drop (suc (line_length here.text)) here.text }

abbrev pub or_form : {A : Type 0} → Option A → Reader A
or_form (Some a) here = got a (line_on here)
or_form None here = refused (Form here.line_no)

-- the value of the next line; 1 at that line where it is missing, unfinished or not of the form
unfoldable pub field : {A : Type 0} → (List ℕ → Option A) → String → Reader A
field meaning key = λ here. or_form (value_in meaning (bytes key) here.text) here

-- nothing after: extra bytes are 1 at the line after the last
unfoldable pub nothing_after : Reader (Unit {0})
nothing_after = λ here. must (Form here.line_no unless (length here.text =? 0)) here
