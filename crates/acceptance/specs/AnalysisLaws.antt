-- Laws of the analysis, for its ways out: refused by 2 to 7 or 17, refused by 8 or 9, accepted.
use Rattle.std.specs.Prelude.{◌≡◌, List, ℤ, Err}
use Rattle.answers.specs.declared.Refusal.{Refusal}
use Rattle.answers.specs.Answer.{Accepted, accepted, ◌and_then◌}
use Rattle.plan.specs.declared.Plan.{Plan}
use Rattle.intervals.specs.declared.Layout.{Layout}
use Rattle.spares.specs.Spares.{row}
use Rattle.intervals.specs.Layout.{layout_of}
use Rattle.acceptance.specs.declared.Analysis.{Analysis}
use Rattle.well_formed.specs.WellFormed.{well_formed}
use Rattle.window_sums.specs.WindowSums.{check8}
use Rattle.acceptance.specs.Acceptance.{check9, acceptance}
use Rattle.acceptance.specs.Analysis.{hi_at_start, lo_at_start, refused_analysis, accepted_analysis, analysis}

-- what an accepted analysis is made of
pub made : (p : Plan) (l : Layout) (hi lo : List ℤ) → l ≡ layout_of p → hi ≡ row p 0 (hi_at_start p) → lo ≡ row p 0 (lo_at_start p) → ◌≡◌ {A = Analysis} (record { answer = Accepted; count = l.count; interval = l.interval; hi = hi; lo = lo }) (accepted_analysis p)
unfolding layout_of
made p l hi lo e f g = rw (e, f, g)

-- 2 to 7 or 17 refuse
pub refused_first : (p : Plan) (e : Refusal) → well_formed p ≡ Err e → refused_analysis (Err e) ≡ analysis p
unfolding analysis acceptance accepted
refused_first p e f = rw f

module _ (p : Plan) (ok : well_formed p ≡ Accepted) where
  -- 8 or 9 refuse
  pub refused_next : (e : Refusal) → (check8 p and_then check9 p) ≡ Err e → refused_analysis (Err e) ≡ analysis p
  unfolding analysis acceptance accepted
  refused_next e f = rw (ok, f)

  -- all accept
  pub accepted_all : (check8 p and_then check9 p) ≡ Accepted → accepted_analysis p ≡ analysis p
  unfolding analysis acceptance accepted
  accepted_all f = rw (ok, f)
