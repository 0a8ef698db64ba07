-- From each place that the walk comes to, what is left splits if the whole does.
use Rattle.racks.proofs.SplitLaws.{Walked}
use Rattle.rack.proofs.is_rack.Given as goal

abbrev pub invariant-loop : goal.invariant-loop
invariant-loop l = Walked l.files l.count l.at l.counter
