-- `desk::step_by_value` meets its contract: in range what `step_on` promises, with its answer in the desk's words, and else a refusal.
use mathlib.Core.Path.{refl, sym, ◌∙◌}
use Rattle.desk.proofs.DeskLaws.{at_desk}
use Rattle.desk.proofs.step_by_value.Goals as goal

pub returns : goal.returns
returns c = at_desk _ _ _ _ _ _ _ _ (sym c.in_range.ensures ∙ c.if-not-in_range.false) c.step_on-stepped.ensures refl
