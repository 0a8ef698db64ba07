-- `loops::half_done` meets its contract.
use mathlib.Core.Path.{◌≡◌}
use lib.ListN.{drop}
use Rattle.base.specs.Lists.{list_of}
use Rattle.bench.specs.Inner.Layout.{process_at_in}
use Rattle.runs.specs.Inner.Half.{half_done}
use Rattle.bench.proofs.loops.half_done.Given as goal

abbrev pub invariant-loop-i : goal.invariant-loop-i
invariant-loop-i l = l.set ≡ half_done (drop l.i (list_of 8 (process_at_in l.processes)))
