-- `judge::nodes::differ` meets its contract. The loop keeps `Marked`: the nodes of the pushes passed are marked, and differ.
use Rattle.judge.specs.Inner.Entries.{entries_in}
use Rattle.judge.proofs.NodeLaws.{Marked}
use Rattle.judge.proofs.nodes.differ.Given as goal

abbrev pub invariant-loop-bytes : goal.invariant-loop-bytes
invariant-loop-bytes l = Marked (entries_in l.entries) l.bytes-index l.marks
