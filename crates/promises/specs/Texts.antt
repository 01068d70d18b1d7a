-- Demand 2, of texts: what is written reads back to an equal plan, and what is read is the text of its plan.
use Rattle.std.specs.Prelude.{refl}
use Rattle.plan_text.specs.RoundTrip.{written_reads, read_writes}
use Rattle.promises.specs.Demands.{ReadsBack, WritesBack}

-- what the writer writes reads back to an equal plan
pub reads_back : ReadsBack
reads_back p room sz ok =
    let w = written_reads p room sz.0 sz.1 ok in
    rw w.0 (refl, w.1)

-- a text that is read is the text of its plan
pub writes_back : WritesBack
writes_back = read_writes
