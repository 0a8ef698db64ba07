-- `judge::entries_of` meets its contract: what follows the head, cut into arrays, is the entries.
use Rattle.judge.proofs.EntriesLaws.{chunks_are}
use Rattle.judge.proofs.entries_of.Goals as goal

pub returns : goal.returns
returns c = let e = c.as_chunks.ensures in λ n whole. chunks_are c.args.log.now _ n e.front e.front_len whole
