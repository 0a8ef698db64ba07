-- `leaves::replayed` meets its contract. The loop keeps `Lying`: after the first k moments the row holds what the queue held.
use Rattle.call_log.specs.Decode.{entry_count_of, entry_at}
use Rattle.leaves.proofs.LeavesLaws.{Lying}
use Rattle.leaves.proofs.replayed.Given as goal

abbrev pub invariant-loop-key : goal.invariant-loop-key
invariant-loop-key l = Lying (entry_at l.log) (entry_count_of l.log) l.keys l.key-index l.queue l.row l.ends
