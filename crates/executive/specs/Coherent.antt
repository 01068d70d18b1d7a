-- When the record of a run is coherent.
use Rattle.std.specs.Prelude.{ℕ, Bool, ◌&&◌}
use mathlib.Core.List.{List, zip_with}
use Rattle.words.specs.Words.{◌≤?◌, every}
use Rattle.plan.specs.Plan.{jobs_of}
use Rattle.answers.specs.Answer.{accepted}
use Rattle.well_formed.specs.WellFormed.{well_formed}
use Rattle.plan.specs.declared.Job.{Job}
use Rattle.entries.specs.declared.Entry.{Entry}
use Rattle.entries.specs.Entry.{entry_holds}
use Rattle.executive.specs.declared.Run.{Run}
use Rattle.spares.specs.Spares.{same_row}
use Rattle.executive.specs.Run.{fresh_hi, fresh_lo}

-- the entries of these jobs hold at border t
abbrev pub all_hold : ℕ → List Job → List Entry → Bool
all_hold t js es = every (zip_with (entry_holds t) js es)

unfoldable pub entries_hold : Run → Bool
entries_hold r = all_hold r.t (jobs_of r.plan) r.entry

-- its plan passes 2 to 7 and 17, t <= N, its entries hold, and both rows equal the fresh ones
unfoldable pub coherent : Run → Bool
coherent r = accepted (well_formed r.plan) && (r.t ≤? r.plan.slots) && entries_hold r && same_row r.hi (fresh_hi r) && same_row r.lo (fresh_lo r)
