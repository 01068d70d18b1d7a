-- Laws of the work: how many numbers, one more stored, and the rows of a plan by its own layout.
use Rattle.std.specs.Prelude.{ℕ, suc, ◌+◌, ◌-◌, ◌≤◌, ◌<◌, Bool, false, ◌≡◌, refl, pos, take, get_or, set, replicate, if◌then◌else◌}
use Rattle.std.proofs.Common.{not-suc-le-zero, le_of_suc-le-suc, add-one, arith, ◌∙◌, take-suc}
use Rattle.std.proofs.Math.Bool.{true}
use Rattle.std.proofs.Math.Path.{ap}
use mathlib.Core.List.{List, [], ◌∷◌, ◌++◌}
use Rattle.std.proofs.Math.ListN.{length}
use Rattle.std.proofs.Math.Seq.{length-take-le}
use Rattle.std.proofs.lemmas.List.{set_at}
use Rattle.words.specs.Words.{◌=?◌, filled}
use Rattle.words.specs.ZipLaws.{zipped_length}
use Rattle.plan.specs.declared.Job.{Job}
use Rattle.plan.specs.declared.Plan.{Plan}
use Rattle.plan.specs.Limits.{max_jobs}
use Rattle.plan.specs.Plan.{jobs_of}
use Rattle.entries.specs.declared.Entry.{Entry}
use Rattle.intervals.specs.declared.Interval.{Interval}
use Rattle.intervals.specs.declared.Layout.{Layout}
use Rattle.intervals.specs.Intervals.{max_intervals, intervals}
use Rattle.intervals.specs.Layout.{layout_of}
use Rattle.spares.specs.Spares.{remaining, spares, row}
use Rattle.spares.specs.InLayout.{row_in}
use Rattle.spares.specs.InLayoutLaws.{row_of_layout}
use Rattle.spares.specs.Work.{work_left, work_each, fresh_row, work_of, rows_in}

-- an array filled from the front by a list, one store a turn
pub filled_next : (n z d i : ℕ) (xs : List ℕ) → i < length xs → length xs ≤ n → set (filled n z (take i xs)) i (get_or xs i d) ≡ filled n z (take (i + 1) xs)
filled_next n z d i xs h l =
    let e : length (take i xs) ≡ i = length-take-le i xs (omega arith) in
    let e' : length (take (suc i) xs) ≡ suc i = length-take-le (suc i) xs (omega arith) in
    let r : n - i ≡ suc (n - suc i) = omega arith in
    rw (add-one i, e, e', r, set_at (take i xs) z (replicate (n - suc i) z) (get_or xs i d) i e, take-suc xs i d h, mathlib.Core.List.append_assoc)

module _ (hi : Bool) (job : List Job) (entry : List Entry) (n : ℕ) (lj : n ≤ length job) (le : n ≤ length entry) where
  pub work_length : length (work_each hi (take n job) entry) ≡ n
  unfolding work_each
  work_length = zipped_length (work_left hi) job entry n lj le

-- a row looks at the work of its plan's jobs only
remaining_front : (e : ℕ) (js : List Job) (ws zs : List ℕ) → length js ≤ length ws → remaining e js (ws ++ zs) ≡ remaining e js ws
unfolding remaining
remaining_front e [] ws zs h = refl
remaining_front e (j ∷ js) [] zs h = absurd (not-suc-le-zero h)
remaining_front e (j ∷ js) (w ∷ ws) zs h = ap (λ (n : ℕ). (if j.deadline =? e then w else 0) + n) (remaining_front e js ws zs (le_of_suc-le-suc h))

spares_front : (t : ℕ) (js : List Job) (ws zs : List ℕ) (xs : List Interval) → length js ≤ length ws → spares t js (ws ++ zs) xs ≡ spares t js ws xs
unfolding spares
spares_front t js ws zs [] h = refl
spares_front t js ws zs (x ∷ xs) h = rw (remaining_front x.end js ws zs h, spares_front t js ws zs xs h)

row_front : (p : Plan) (t : ℕ) (ws zs : List ℕ) → length (jobs_of p) ≤ length ws → row p t (ws ++ zs) ≡ row p t ws
unfolding row
row_front p t ws zs h = ap (filled max_intervals (pos 0)) (spares_front t (jobs_of p) ws zs (intervals p) h)

-- the rows of this work, in the layout of a plan, are those worked out afresh
module _ (p : Plan) (t : ℕ) (es : List Entry) (few : p.jobs ≤ max_jobs) (jobs : length p.job ≡ max_jobs) (entries : length es ≡ max_jobs) where
  row_by_layout : (hi : Bool) → row_in (layout_of p) t (filled max_jobs 0 (work_each hi (jobs_of p) es)) ≡ fresh_row hi p t es
  unfolding fresh_row
  row_by_layout hi =
      let ws = work_each hi (jobs_of p) es in
      let n = work_length hi p.job es p.jobs (omega arith) (omega arith) in
      let j : length (jobs_of p) ≡ p.jobs = length-take-le p.jobs p.job (omega arith) in
      row_of_layout p t (filled max_jobs 0 ws) ∙ row_front p t ws (replicate (max_jobs - length ws) 0) (omega arith)

  pub fresh_rows : (l : Layout) → l ≡ layout_of p → rows_in l t (work_of (jobs_of p) es) ≡ record { hi = fresh_row true p t es; lo = fresh_row false p t es }
  unfolding work_of
  fresh_rows l el = rw (el, row_by_layout true, row_by_layout false)
