-- The check program: all that it reads to all that it prints.
use Rattle.std.specs.Prelude.{ℕ, List, [], ◌∷◌, ◌++◌, ℤ, take, if◌then◌else◌}
use Rattle.intervals.specs.declared.Interval.{Interval}
use Rattle.acceptance.specs.declared.Analysis.{Analysis}
use Rattle.answers.specs.Answer.{accepted}
use Rattle.acceptance.specs.Analysis.{analysis}
use Rattle.lines.specs.Lines.{digits, line}
use Rattle.plan_text.specs.Read.{read_plan}
use Rattle.console.specs.Print.{signed, values, refused_line}

-- per interval `interval=start,end,hi,lo`, in order
unfoldable pub interval_lines : List Interval → List ℤ → List ℤ → List ℕ
interval_lines [] his los = []
interval_lines (x ∷ xs) [] los = []
interval_lines (x ∷ xs) (hi ∷ his) [] = []
interval_lines (x ∷ xs) (hi ∷ his) (lo ∷ los) =
    values "interval=" (digits x.start ∷ digits x.end ∷ signed hi ∷ signed lo ∷ []) ++ interval_lines xs his los

-- the intervals, then `answer=0`; a refusal prints only its line
unfoldable pub analysis_lines : Analysis → List ℕ
analysis_lines a =
    if accepted a.answer
    then interval_lines (take a.count a.interval) a.hi a.lo ++ line "answer=" (digits 0)
    else refused_line a.answer

unfoldable pub check_output : List ℕ → List ℕ
check_output input =
    let read = read_plan input in
    if accepted read.answer then analysis_lines (analysis read.plan) else refused_line read.answer
