-- The starred sums of document 01, and sums of the requests: one list, one theorem, by computation.
use Rattle.std.specs.Prelude.{ℕ, ◌≡◌, refl, List, [], ◌∷◌, map, ℤ, pos, negsuc, length, take}
use Rattle.plan.specs.declared.Plan.{Plan}
use Rattle.answers.specs.Answer.{Accepted, TableCount, Overfull, Overdrawn, Chopped}
use Rattle.intervals.specs.Intervals.{intervals}
use Rattle.spares.specs.Spares.{row}
use Rattle.acceptance.specs.Acceptance.{acceptance}
use Rattle.acceptance.specs.Analysis.{hi_at_start, lo_at_start}
use Rattle.acceptance_promise.specs.Plans.{plan, HI, LO, A, B, C, one, borrowing, camera, shared}
use Rattle.entries.specs.declared.Standing.TheVariants.{Dropped}
use Rattle.executive.specs.declared.Phase.TheVariants.{T, H}
use Rattle.ready.specs.declared.Slot.{Slot}
use Rattle.entries.specs.declared.Kind.{Kind}
use Rattle.entries.specs.declared.Kind.TheVariants.{End, More, None}
use Rattle.executive.specs.declared.Run.{Run}
use Rattle.executive.specs.Run.{start, entry_no, current_hi, current_lo}
use Rattle.executive.specs.Choice.{chosen}
use Rattle.executive.specs.Step.{step}
use Rattle.promises.specs.Compute.{everything}

-- ---- what is read off

-- the intervals as start and end
abbrev pub spans : Plan → List (List ℕ)
spans p = map (λ x. x.start ∷ x.end ∷ []) (intervals p)

-- the spares at border 0, one per interval
abbrev pub hi_spares : Plan → List ℤ
hi_spares p = take (length (intervals p)) (row p 0 (hi_at_start p))

abbrev pub lo_spares : Plan → List ℤ
lo_spares p = take (length (intervals p)) (row p 0 (lo_at_start p))

-- the run after reports for slots 0, 1, and so on, and what was chosen for each
unfoldable pub gone_on : Run → List Kind → Run
gone_on r [] = r
gone_on r (kind ∷ kinds) = gone_on (step r (record { slot = r.t; kind = kind })).run kinds

unfoldable pub ran : Run → List Kind → List Slot
ran r [] = []
ran r (kind ∷ kinds) = chosen r ∷ ran (step r (record { slot = r.t; kind = kind })).run kinds

abbrev pub after : Plan → List Kind → Run
after p kinds = gone_on (start p).run kinds

-- ---- the list

abbrev pub All : List (Type 0) → Type 0
All [] = Unit {0}
All (P ∷ Ps) = P × All Ps

infixr 5 ◌&◌
abbrev pub ◌&◌ : {P Q : Type 0} → P → Q → P × Q
p & q = (p, q)

abbrev pub sums : List (Type 0)
sums =
    -- A: intervals 0-4 and 4-8; HI spares 4, 0; LO spares 2, 2
    (spans A ≡ (0 ∷ 4 ∷ []) ∷ (4 ∷ 8 ∷ []) ∷ [])
    ∷ (hi_spares A ≡ pos 4 ∷ pos 0 ∷ [])
    ∷ (lo_spares A ≡ pos 2 ∷ pos 2 ∷ [])
    -- A, border 1 after the LO job: HI 3, LO 2
    ∷ (ran (start A).run (More ∷ []) ≡ Slot.Job 2 ∷ [])
    ∷ (current_hi (after A (More ∷ [])) ≡ pos 3)
    ∷ (current_lo (after A (More ∷ [])) ≡ pos 2)
    -- B(2) accepted, B(3) refused 9 at 2, B(4) refused 9 at 1
    ∷ (acceptance (B 2) ≡ Accepted)
    ∷ (acceptance (B 3) ≡ Overdrawn 2)
    ∷ (acceptance (B 4) ≡ Overdrawn 1)
    -- one job with hi 3: refused 8 at 2, 4; with hi 2: accepted
    ∷ (acceptance (one 3) ≡ Overfull 2 4)
    ∷ (acceptance (one 2) ≡ Accepted)
    -- N = 12: intervals 0-5, 5-8, 8-12; HI spares 1, -4, -6
    ∷ (spans borrowing ≡ (0 ∷ 5 ∷ []) ∷ (5 ∷ 8 ∷ []) ∷ (8 ∷ 12 ∷ []) ∷ [])
    ∷ (hi_spares borrowing ≡ pos 1 ∷ negsuc 3 ∷ negsuc 5 ∷ [])
    -- C: spares 1, 1 at border 0; reports more, more, end: the jobs run are 1, 2, 1
    ∷ (current_hi (start C).run ≡ pos 1)
    ∷ (current_lo (start C).run ≡ pos 1)
    ∷ (ran (start C).run (More ∷ More ∷ End ∷ []) ≡ Slot.Job 1 ∷ Slot.Job 2 ∷ Slot.Job 1 ∷ [])
    -- slot 3 then idles in phase H, spares HI 1, LO -1
    ∷ (chosen (after C (More ∷ More ∷ End ∷ [])) ≡ Slot.Idle)
    ∷ ((after C (More ∷ More ∷ End ∷ [])).phase ≡ H)
    ∷ (current_hi (after C (More ∷ More ∷ End ∷ [])) ≡ pos 1)
    ∷ (current_lo (after C (More ∷ More ∷ End ∷ [])) ≡ negsuc 0)
    -- at border 4 job 2 is dropped with 1 slot given and the phase is T
    ∷ ((after C (More ∷ More ∷ End ∷ None ∷ [])).t ≡ 4)
    ∷ (entry_no (after C (More ∷ More ∷ End ∷ None ∷ [])) 2 ≡ record { standing = Dropped 4; given = 1 })
    ∷ ((after C (More ∷ More ∷ End ∷ None ∷ [])).phase ≡ T)
    -- A, job 2 ending in slot 0: job 1 gets slots 1 and 2; with two `more` phase H begins at border 3
    ∷ (ran (start A).run (End ∷ More ∷ More ∷ []) ≡ Slot.Job 2 ∷ Slot.Job 1 ∷ Slot.Job 1 ∷ [])
    ∷ ((after A (End ∷ More ∷ [])).phase ≡ T)
    ∷ ((after A (End ∷ More ∷ More ∷ [])).phase ≡ H)
    -- K3: five runs are refused 17, the first at slot 0 and the last at slot N - 1, which do not adjoin; four are accepted
    ∷ (acceptance (camera (1 ∷ 0 ∷ 1 ∷ 0 ∷ 1 ∷ 0 ∷ 1 ∷ 0 ∷ 0 ∷ 1 ∷ [])) ≡ Chopped 1)
    ∷ (acceptance (camera (1 ∷ 1 ∷ 0 ∷ 1 ∷ 0 ∷ 1 ∷ 0 ∷ 0 ∷ 0 ∷ 1 ∷ [])) ≡ Accepted)
    -- slots beyond N are not looked at; all slots in one row are one run
    ∷ (acceptance (camera (1 ∷ 1 ∷ 0 ∷ 1 ∷ 0 ∷ 1 ∷ 0 ∷ 0 ∷ 0 ∷ 1 ∷ 0 ∷ 1 ∷ 0 ∷ 1 ∷ [])) ≡ Accepted)
    ∷ (acceptance (camera (1 ∷ 1 ∷ 1 ∷ 1 ∷ 1 ∷ [])) ≡ Accepted)
    -- a slot of another job breaks a row; the place is the first such job
    ∷ (acceptance (shared 4 4 (2 ∷ 1 ∷ 2 ∷ 1 ∷ 2 ∷ 1 ∷ 2 ∷ 1 ∷ 2 ∷ 2 ∷ [])) ≡ Chopped 2)
    ∷ (acceptance (shared 5 5 (1 ∷ 2 ∷ 1 ∷ 2 ∷ 1 ∷ 2 ∷ 1 ∷ 2 ∷ 1 ∷ 2 ∷ 2 ∷ [])) ≡ Chopped 1)
    ∷ (acceptance (shared 4 4 (2 ∷ 2 ∷ 1 ∷ 2 ∷ 1 ∷ 2 ∷ 1 ∷ 2 ∷ 1 ∷ 0 ∷ 0 ∷ 2 ∷ [])) ≡ Chopped 2)
    ∷ (acceptance (shared 3 3 (2 ∷ 2 ∷ 1 ∷ 2 ∷ 1 ∷ 2 ∷ 1 ∷ 2 ∷ 2 ∷ [])) ≡ Accepted)
    -- 7 goes before 17 for all jobs, 17 before 8
    ∷ (acceptance (shared 5 5 (1 ∷ 2 ∷ 1 ∷ 2 ∷ 1 ∷ 2 ∷ 1 ∷ 2 ∷ 1 ∷ 2 ∷ [])) ≡ TableCount 2)
    ∷ (acceptance (plan 12 (HI 4 6 1 5 ∷ LO 0 12 5 5 ∷ []) (2 ∷ 0 ∷ 2 ∷ 0 ∷ 1 ∷ 2 ∷ 0 ∷ 2 ∷ 0 ∷ 2 ∷ [])) ≡ Chopped 2)
    ∷ (acceptance (plan 12 (HI 4 6 1 5 ∷ LO 0 12 5 5 ∷ []) (2 ∷ 2 ∷ 2 ∷ 0 ∷ 1 ∷ 2 ∷ 0 ∷ 2 ∷ [])) ≡ Overfull 4 6)
    ∷ []

pub sums_hold : All sums
unfolding everything gone_on ran
sums_hold =
    refl & refl & refl
    & refl & refl & refl
    & refl & refl & refl
    & refl & refl
    & refl & refl
    & refl & refl & refl
    & refl & refl & refl & refl
    & refl & refl & refl
    & refl & refl & refl
    & refl & refl
    & refl & refl
    & refl & refl & refl & refl
    & refl & refl & refl
    & tt
