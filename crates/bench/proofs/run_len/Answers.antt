-- `run_len` meets its contract.
use mathlib.Core.Path.{sym, ◌∙◌}
use Rattle.bench.proofs.GoodLaws.{refusal_gives, gives_refused}
use Rattle.bench.proofs.run_len.Goals as goal

pub returns-in-Err : goal.returns-in-Err
returns-in-Err c = refusal_gives _ _ _ _ _ _ (gives_refused _ _ _ (sym c.read.ensures.answer ∙ c.in-Err.is))
    (rw c.from.ensures at c.refuse.ensures)
