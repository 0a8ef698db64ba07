-- `judge::causes::uncaused` meets its contract. The loop keeps: whether one of the processes passed, but this one, took from the top since.
use mathlib.Core.Path.{◌≡◌}
use Rattle.judge.specs.Inner.Causes.{other_took}
use Rattle.judge.proofs.causes.uncaused.Given as goal

abbrev pub invariant-loop-p : goal.invariant-loop-p
invariant-loop-p l = l.other ≡ other_took l.shelves l.on l.process l.from l.p
