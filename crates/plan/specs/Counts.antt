-- The counts of table slots brought forward by one slot.
use Rattle.std.specs.Prelude.{ℕ, ◌+◌, ◌-◌, ◌&&◌, List, get_or, set, if◌then◌else◌}
use Rattle.words.specs.Words.{◌<?◌}
use Rattle.plan.specs.Limits.{max_jobs, one_to}

-- the largest number that a count's type holds
abbrev pub max_count : ℕ
max_count = 65535

-- job k's count is one larger; a slot that names no job changes nothing, and no count passes its type's largest number
unfoldable pub counted_with : List ℕ → ℕ → List ℕ
counted_with counts k =
    let before = get_or counts (k - 1) 0 in
    if one_to max_jobs k && (before <? max_count) then set counts (k - 1) (before + 1) else counts
