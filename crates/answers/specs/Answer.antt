-- The answers: the number of each, its place or places, and how answers are put in order.
use Rattle.std.specs.Prelude.{ℕ, suc, Bool, List, [], ◌∷◌, get_or, if◌then◌else◌, Result, Ok, Err, is_ok}
use Rattle.answers.specs.declared.Refusal.{Refusal}

-- accepted, or the refusal
abbrev pub Answer : Type 0
Answer = Result Unit Refusal

pattern abbrev pub Accepted : Answer
Accepted = Ok tt

pattern abbrev pub Form : ℕ → Answer
Form line = Err (Refusal.Form line)

pattern abbrev pub SlotLimit : Answer
SlotLimit = Err Refusal.SlotLimit

pattern abbrev pub JobLimit : Answer
JobLimit = Err Refusal.JobLimit

pattern abbrev pub Window : ℕ → Answer
Window job = Err (Refusal.Window job)

pattern abbrev pub Budget : ℕ → Answer
Budget job = Err (Refusal.Budget job)

pattern abbrev pub TableSlot : ℕ → Answer
TableSlot slot = Err (Refusal.TableSlot slot)

pattern abbrev pub TableCount : ℕ → Answer
TableCount job = Err (Refusal.TableCount job)

pattern abbrev pub Overfull : ℕ → ℕ → Answer
Overfull a b = Err (Refusal.Overfull a b)

pattern abbrev pub Overdrawn : ℕ → Answer
Overdrawn border = Err (Refusal.Overdrawn border)

pattern abbrev pub Incoherent : Answer
Incoherent = Err Refusal.Incoherent

pattern abbrev pub Over : ℕ → Answer
Over t = Err (Refusal.Over t)

pattern abbrev pub OtherSlot : ℕ → Answer
OtherSlot t = Err (Refusal.OtherSlot t)

pattern abbrev pub WrongKind : ℕ → Answer
WrongKind t = Err (Refusal.WrongKind t)

pattern abbrev pub NoRoom : ℕ → Answer
NoRoom bytes = Err (Refusal.NoRoom bytes)

pattern abbrev pub Chopped : ℕ → Answer
Chopped job = Err (Refusal.Chopped job)

-- the table's column "No.", whatever an accepted answer holds
abbrev pub number_by : {T : Type 0} → Result T Refusal → ℕ
number_by (Ok held) = 0
number_by (Err (Refusal.Form line)) = 1
number_by (Err Refusal.SlotLimit) = 2
number_by (Err Refusal.JobLimit) = 3
number_by (Err (Refusal.Window job)) = 4
number_by (Err (Refusal.Budget job)) = 5
number_by (Err (Refusal.TableSlot slot)) = 6
number_by (Err (Refusal.TableCount job)) = 7
number_by (Err (Refusal.Overfull a b)) = 8
number_by (Err (Refusal.Overdrawn border)) = 9
number_by (Err Refusal.Incoherent) = 10
number_by (Err (Refusal.Over t)) = 11
number_by (Err (Refusal.OtherSlot t)) = 12
number_by (Err (Refusal.WrongKind t)) = 13
number_by (Err (Refusal.NoRoom bytes)) = 14
number_by (Err (Refusal.Chopped job)) = 17

-- of a check, which holds nothing
abbrev pub number_of : Answer → ℕ
number_of = number_by

-- its column "Place", where an accepted answer has the place of what it holds
abbrev pub places_by : {T : Type 0} → (T → ℕ) → Result T Refusal → List ℕ
places_by place (Ok held) = place held ∷ []
places_by place (Err (Refusal.Form line)) = line ∷ []
places_by place (Err Refusal.SlotLimit) = 1 ∷ []
places_by place (Err Refusal.JobLimit) = 2 ∷ []
places_by place (Err (Refusal.Window job)) = job ∷ []
places_by place (Err (Refusal.Budget job)) = job ∷ []
places_by place (Err (Refusal.TableSlot slot)) = slot ∷ []
places_by place (Err (Refusal.TableCount job)) = job ∷ []
places_by place (Err (Refusal.Overfull a b)) = a ∷ b ∷ []
places_by place (Err (Refusal.Overdrawn border)) = border ∷ []
places_by place (Err Refusal.Incoherent) = 0 ∷ []
places_by place (Err (Refusal.Over t)) = t ∷ []
places_by place (Err (Refusal.OtherSlot t)) = t ∷ []
places_by place (Err (Refusal.WrongKind t)) = t ∷ []
places_by place (Err (Refusal.NoRoom bytes)) = bytes ∷ []
places_by place (Err (Refusal.Chopped job)) = job ∷ []

-- a check holds nothing: place 0
abbrev pub places_of : Answer → List ℕ
places_of = places_by (λ nothing. 0)

-- the place of an answer, the first of two
abbrev pub first_place : Answer → ℕ
first_place answer = get_or (places_of answer) 0 0

-- answer 0 means accepted (`zero_accepts` in AnswerLaws)
unfoldable pub accepted : {T : Type 0} → Result T Refusal → Bool
accepted a = is_ok a

-- a refusal given exactly when a rule does not hold
infix 15 ◌unless◌
abbrev pub ◌unless◌ : Answer → Bool → Answer
refusal unless holds = if holds then Accepted else refusal

-- "in this order": the second answer only where the first accepts
infixr 12 ◌and_then◌
abbrev pub ◌and_then◌ : Answer → Answer → Answer
first and_then second = if accepted first then second else first

-- the first refusal along a list, its members numbered from k
unfoldable pub first_refusal : {A : Type 0} → (ℕ → A → Answer) → ℕ → List A → Answer
first_refusal judge k [] = Accepted
first_refusal judge k (x ∷ xs) =
    let later = first_refusal judge (suc k) xs in
    judge k x and_then later
