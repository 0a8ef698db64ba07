-- `judge::ends::first_clash` meets its contract. The loop keeps the last ends, and that the first among the entries that are left is the first of
-- all.
use mathlib.Core.Path.{◌≡◌}
use Prim.Native.Nat.{◌-◌}
use lib.ListN.{length}
use Rattle.judge.specs.Inner.Entries.{entries_in}
use Rattle.rules.specs.Search.{first}
use Rattle.rules.specs.Rules.{breaks2}
use Rattle.judge.proofs.EndLaws.{Ends}
use Rattle.judge.proofs.ends.first_clash.Given as goal

abbrev pub invariant-loop-i : goal.invariant-loop-i
invariant-loop-i l = (first (breaks2 (entries_in l.entries)) l.i (length l.entries - l.i) ≡ first (breaks2 (entries_in l.entries)) 0 (length l.entries))
    × Ends (entries_in l.entries) l.i l.last l.own
