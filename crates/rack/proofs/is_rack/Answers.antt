-- `is_rack` meets its contract: from each place that the walk comes to, what is left splits if the whole does.
use mathlib.Core.Path.{◌∙◌}
use Rattle.racks.proofs.SplitLaws.{walked_stops, walked_next}
use Rattle.rack.proofs.is_rack.Goals as goal

pub returns-then-files-at : goal.returns-then-files-at
returns-then-files-at c = let l = c.loop in
    walked_stops c.args.files.now _ l.at l.counter c.from-end.result l.invariant
    c.loop-test.true (c.from-end.ensures ∙ c.number_at.ensures) c.if-files-at.true

pub loop-preserved : goal.loop-preserved
loop-preserved c = let l = c.loop in
    walked_next c.args.files.now _ l.at l.counter c.from-end.result l.invariant
    c.loop-test.true (c.from-end.ensures ∙ c.number_at.ensures) c.if-files-at.false
