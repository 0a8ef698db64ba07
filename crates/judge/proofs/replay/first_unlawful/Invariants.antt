-- `judge::replay::first_unlawful` meets its contract. The loop keeps `Replayed`: after the first k moments each row holds what its queue held, and no
-- call was unlawful.
use lib.ListN.{length}
use Rattle.judge.specs.Inner.Entries.{entries_in}
use Rattle.judge.proofs.RowLaws.{Replayed}
use Rattle.judge.proofs.replay.first_unlawful.Given as goal

abbrev pub invariant-loop-key : goal.invariant-loop-key
invariant-loop-key g l = Replayed l.watch (entries_in l.entries) (length l.entries) l.keys g.row.WIDTH l.key-index l.queues l.nodes l.ends l.c
