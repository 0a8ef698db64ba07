-- `run_all` meets its contract: what is left of the files gives, from the buffers as they are, what all of them give from the buffers as lent.
use Rattle.racks.proofs.RunLaws.{Along}
use Rattle.rack.proofs.run_all.Given as goal

abbrev pub invariant-loop : goal.invariant-loop
invariant-loop l = Along l.files l.initial.log l.initial.replies l.count l.log l.replies l.at l.place l.counter
