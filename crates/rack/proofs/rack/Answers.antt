-- `rack` meets its contract.
use mathlib.Core.Path.{sym, ◌∙◌}
use native.Mathlib.Omega.{arith}
use Rattle.racks.proofs.AnswerLaws.{gives_22, gives_0}
use Rattle.rack.proofs.rack.Goals as goal

pub returns-then-replies-count : goal.returns-then-replies-count
returns-then-replies-count c =
    gives_22 _ _ c.args.files.now (sym c.is_rack.ensures ∙ c.if-not-is_rack.false)
    (omega (arith, c.if-replies-count.true, c.from-count.ensures, c.number_at.ensures))

pub returns : goal.returns
returns c =
    gives_0 _ _ c.args.files.now (sym c.is_rack.ensures ∙ c.if-not-is_rack.false)
    (omega (arith, c.if-replies-count.false, c.from-count.ensures, c.number_at.ensures))
    _ _ c.run_all.ensures
