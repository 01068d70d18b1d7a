-- `Lines::job`: five lines one after the other; the first that is refused is the answer.
use Rattle.std.proofs.lemmas.Result.{err_from_is_err_and}
use Rattle.lines.specs.Lines.{field}
use Rattle.plan_text.specs.Read.{next_job}
use Rattle.plan_text.specs.ReaderLaws.{goes_on, stops, made}
use Rattle.plan_text.proofs.reader.Lines.job.Goals as goal

pub returns-in_err-level : goal.returns-in_err-level
unfolding next_job field
returns-in_err-level c =
    let p = err_from_is_err_and c.from_residual.result c.from_residual.ensures.1 in
    rw (p.1, p.2)
    (stops _ _ 1 4 c.level.ensures c.in_err-level.was)

pub returns-in_err-release : goal.returns-in_err-release
unfolding next_job field
returns-in_err-release c =
    let p = err_from_is_err_and c.from_residual-in_err-release.result c.from_residual-in_err-release.ensures.1 in
    rw (p.1, p.2)
    (goes_on _ _ 1 4 c.level.ensures c.in_ok-level.was
    (stops _ _ 1 3 c.number.ensures c.in_err-release.was))

pub returns-in_err-deadline : goal.returns-in_err-deadline
unfolding next_job field
returns-in_err-deadline c =
    let p = err_from_is_err_and c.from_residual-in_err-deadline.result c.from_residual-in_err-deadline.ensures.1 in
    rw (p.1, p.2)
    (goes_on _ _ 1 4 c.level.ensures c.in_ok-level.was
    (goes_on _ _ 1 3 c.number.ensures c.in_ok-release.was
    (stops _ _ 1 2 c.number-2.ensures c.in_err-deadline.was)))

pub returns-in_err-lo : goal.returns-in_err-lo
unfolding next_job field
returns-in_err-lo c =
    let p = err_from_is_err_and c.from_residual-in_err-lo.result c.from_residual-in_err-lo.ensures.1 in
    rw (p.1, p.2)
    (goes_on _ _ 1 4 c.level.ensures c.in_ok-level.was
    (goes_on _ _ 1 3 c.number.ensures c.in_ok-release.was
    (goes_on _ _ 1 2 c.number-2.ensures c.in_ok-deadline.was
    (stops _ _ 1 1 c.number-3.ensures c.in_err-lo.was))))

pub returns-in_err-hi : goal.returns-in_err-hi
unfolding next_job field
returns-in_err-hi c =
    let p = err_from_is_err_and c.from_residual-in_err-hi.result c.from_residual-in_err-hi.ensures.1 in
    rw (p.1, p.2)
    (goes_on _ _ 1 4 c.level.ensures c.in_ok-level.was
    (goes_on _ _ 1 3 c.number.ensures c.in_ok-release.was
    (goes_on _ _ 1 2 c.number-2.ensures c.in_ok-deadline.was
    (goes_on _ _ 1 1 c.number-3.ensures c.in_ok-lo.was
    (stops _ _ 1 0 c.number-4.ensures c.in_err-hi.was)))))

pub returns : goal.returns
unfolding next_job field
returns c =
    goes_on _ _ 1 4 c.level.ensures c.in_ok-level.was
    (goes_on _ _ 1 3 c.number.ensures c.in_ok-release.was
    (goes_on _ _ 1 2 c.number-2.ensures c.in_ok-deadline.was
    (goes_on _ _ 1 1 c.number-3.ensures c.in_ok-lo.was
    (made _ _ 1 c.number-4.ensures c.in_ok-hi.was))))
