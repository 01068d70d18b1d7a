-- `set_where` meets its contract. The invariant: the set holds the jobs passed that pass the test.
use Rattle.std.proofs.Common.{◌≡◌, Bool, take}
use mathlib.Core.List.{zip_with}
use Rattle.plan.specs.declared.Job.{Job}
use Rattle.entries.specs.declared.Entry.{Entry}
use Rattle.ready.specs.Ready.{set_of}
use Rattle.ready.proofs.set_where.Given as goal

abbrev pub invariant-loop-i : goal.invariant-loop-i
invariant-loop-i g l = (test : Job → Entry → Bool) → ((j : Job) → (e : Entry) → (b : Bool) → goal.F-post g l.passes j e b → b ≡ test j e) → l.set ≡ set_of (take l.i (zip_with test l.job l.entry))
