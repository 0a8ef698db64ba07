-- `turn::call_in` meets its contract.
use mathlib.Core.Path.{sym, ◌∙◌}
use Rattle.runs.proofs.TurnLaws.{call_there, past_calls}
use Rattle.records.proofs.turn.call_in.Goals as goal

pub returns-then-k-shape : goal.returns-then-k-shape
returns-then-k-shape c =
    let a = c.args in
    c.call_at.ensures ∙ sym (call_there a.file.now a.shape.processes a.shape.calls a.k c.if-k-shape.true)

pub returns-else-k-shape : goal.returns-else-k-shape
returns-else-k-shape c =
    let a = c.args in
    sym (past_calls a.file.now a.shape.processes a.shape.calls a.k c.if-k-shape.false)
