-- The writer of the plan text: its answer, and what the lent output then holds.
use Rattle.std.specs.Prelude.{ℕ, length, drop, if◌then◌else◌, Result, Ok, Err}
use mathlib.Core.List.{List, [], ◌∷◌, ◌++◌, flat_map}
use Rattle.plan.specs.declared.Plan.{Plan}
use Rattle.answers.specs.declared.Refusal.{Refusal}
use Rattle.answers.specs.Answer.{Answer, Form, NoRoom, accepted, ◌unless◌, ◌and_then◌, first_refusal}
use Rattle.words.specs.Words.{◌≤?◌}
use Rattle.plan.specs.Limits.{max_number}
use Rattle.plan.specs.Plan.{jobs_of, slots_of}
use Rattle.plan.specs.Rules.{check2, check3}
use Rattle.plan_text.specs.Read.{plan_text}

-- the number on each line of the text, 0 for a level line
unfoldable pub numbers_on : Plan → List ℕ
numbers_on p = p.slots ∷ p.jobs ∷ flat_map (λ j. 0 ∷ j.release ∷ j.deadline ∷ j.lo ∷ j.hi ∷ []) (jobs_of p) ++ slots_of p

-- 1: a number above 9999, at its line
unfoldable pub numbers_fit : Plan → Answer
numbers_fit p = first_refusal (λ line n. Form line unless (n ≤? max_number)) 1 (numbers_on p)

-- 14: the output is too short for the whole text
abbrev pub fits : Plan → ℕ → Answer
fits p room = NoRoom (length (plan_text p)) unless (length (plan_text p) ≤? room)

-- answer 0 has the bytes written for its place
pattern abbrev pub Written : ℕ → Result ℕ Refusal
Written bytes = Ok bytes

-- so many bytes where the checks accept
infix 11 ◌and_writes◌
abbrev pub ◌and_writes◌ : Answer → ℕ → Result ℕ Refusal
(Ok accepted) and_writes bytes = Written bytes
(Err refusal) and_writes bytes = Err refusal

-- the writer checks 2, 3, 1, 14
abbrev pub write_checks : Plan → ℕ → Answer
write_checks p room = check2 p and_then check3 p and_then numbers_fit p and_then fits p room

unfoldable pub write_answer : Plan → ℕ → Result ℕ Refusal
write_answer p room = write_checks p room and_writes length (plan_text p)

-- the output: the text and then the bytes that were there; a refusal leaves it untouched
unfoldable pub write_out : Plan → List ℕ → List ℕ
write_out p out = if accepted (write_answer p (length out)) then plan_text p ++ drop (length (plan_text p)) out else out
