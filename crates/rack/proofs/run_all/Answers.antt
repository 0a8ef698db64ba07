-- `run_all` meets its contract: what is left of the files gives, from the buffers as they are, what all of them give from the buffers as lent.
use mathlib.Core.Path.{◌∙◌}
use native.Mathlib.Omega.{arith}
use borrow.Author.Rules.{rules}
use Rattle.racks.proofs.RunLaws.{along_start, file_fits, along_next}
use Rattle.rack.proofs.run_all.Goals as goal

pub loop-init : goal.loop-init
loop-init c = along_start _ _ _ _ c.requires c.number_at-count.ensures

pub slice_bounds-one-end : goal.slice_bounds-one-end
slice_bounds-one-end c = let fits = file_fits _ _ _ _ _ _ _ _ _ c.loop.invariant c.loop-test.true in
    omega (arith, fits, c.from-length.ensures, c.number_at.ensures)

pub loop-preserved : goal.loop-preserved
loop-preserved c = along_next _ _ _ _ _ _ _ _ _ c.loop.invariant c.loop-test.true c.from-length.result
    (c.from-length.ensures ∙ c.number_at.ensures) _ _ (search rules) c.one.ensures
