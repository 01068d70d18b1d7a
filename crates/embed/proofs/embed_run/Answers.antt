-- `embed_run` meets its contract: the first pass says whether the output fits, the second writes it.
use Rattle.console.specs.Run.{run_output}
use Rattle.embed.specs.RestLaws.{run_refused, run_fits, run_written}
use Rattle.std.proofs.Common.{ap}
use Rattle.std.specs.Prelude.{not}
use Rattle.embed.proofs.embed_run.Goals as goal

pub returns-then-not-fits : goal.returns-then-not-fits
returns-then-not-fits c = let both = run_refused _ _ _ c.fits.ensures (ap not c.if-not-fits.true) in record { value = both.0; out_after = both.1 }

pub put_output-requires : goal.put_output-requires
put_output-requires c =
    run_fits (run_output c.args.text.now) c.args.out.now _ c.fits.ensures (ap not c.if-not-fits.false)

pub returns : goal.returns
returns c = let both =
    run_written _ _ _ c.fits.ensures (ap not c.if-not-fits.false) _ _ c.put_output.ensures.value c.put_output.ensures.out_after in record { value = both.0; out_after = both.1 }
