-- The rows that the code works out for a run, in the layout of its plan, are its fresh rows.
use Rattle.std.specs.Prelude.{◌≡◌}
use Rattle.std.proofs.Common.{ap, ◌∙◌}
use Rattle.plan.specs.Plan.{jobs_of}
use Rattle.intervals.specs.declared.Layout.{Layout}
use Rattle.intervals.specs.Layout.{layout_of}
use Rattle.spares.specs.declared.Rows.{Rows}
use Rattle.spares.specs.Work.{fresh_row, work_of, rows_in}
use Rattle.spares.specs.WorkLaws.{fresh_rows}
use Rattle.executive.specs.declared.Run.{Run}
use Rattle.executive.specs.Run.{hi_work, lo_work, fresh_hi, fresh_lo}
use Rattle.executive.specs.MemberLaws.{Full}

pub fresh_of_run : (r : Run) (l : Layout) (rows : Rows) → Full r → l ≡ layout_of r.plan → rows ≡ rows_in l r.t (work_of (jobs_of r.plan) r.entry) → (rows.hi ≡ fresh_hi r) × (rows.lo ≡ fresh_lo r)
unfolding fresh_hi fresh_lo hi_work lo_work fresh_row
fresh_of_run r l rows full el e =
    let q = e ∙ fresh_rows r.plan r.t r.entry full.few full.jobs full.entries l el in
    (ap (λ (x : Rows). x.hi) q, ap (λ (x : Rows). x.lo) q)
