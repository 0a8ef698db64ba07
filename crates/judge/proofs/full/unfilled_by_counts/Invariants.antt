-- `judge::full::unfilled_by_counts` meets its contract. The loop keeps how many pushes and pops count on each queue, and that the first among the
-- entries that are left is the first of all.
use mathlib.Core.Path.{◌≡◌}
use Prim.Native.Nat.{◌-◌}
use lib.ListN.{length}
use Rattle.judge.specs.Inner.Entries.{entries_in}
use Rattle.rules.specs.Search.{first}
use Rattle.rules.specs.Rules.{breaks6}
use Rattle.judge.proofs.FullLaws.{Counted}
use Rattle.judge.proofs.full.unfilled_by_counts.Given as goal

abbrev pub invariant-loop-j : goal.invariant-loop-j
invariant-loop-j l = (first (breaks6 (entries_in l.entries) l.slots) l.j (length l.entries - l.j)
    ≡ first (breaks6 (entries_in l.entries) l.slots) 0 (length l.entries)) × Counted (entries_in l.entries) l.j l.counts
