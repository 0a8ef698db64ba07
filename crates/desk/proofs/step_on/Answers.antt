-- `step_on` meets its contract.
use borrow.Author.Rules.{rules}
use Rattle.steps.proofs.PackedLaws.{on_three}
use Rattle.desk.proofs.step_on.Goals as goal

pub returns : goal.returns
returns c = on_three _ _ c.args.word _ _ _ _ _ _ (search rules)
    c.from.ensures c.step_packed-stepped.ensures c.from-2.ensures
