-- `loops::walk` meets its contract: after i steps the bench stands for the state that the first i bytes of the schedule lead to.
use Prim.Native.Nat.{ℕ}
use mathlib.Core.Path.{◌≡◌}
use mathlib.Core.Bool.{cond}
use mathlib.Core.List.{List}
use Rattle.runfile.specs.File.{first_calls}
use Rattle.runfile.specs.declared.Call.{Call}
use Rattle.runfile.specs.declared.Shape.{Shape}
use Rattle.bench.specs.Inner.Layout.{state_in, sizes_in}
use Rattle.bench.proofs.RunLaws.{Walked}
use Rattle.bench.proofs.loops.walk.Given as goal

abbrev pub calls_of : List ℕ → Shape → List Call
calls_of file shape = first_calls file shape.processes shape.calls

abbrev pub invariant-loop-i : goal.invariant-loop-i
invariant-loop-i l = (l.idle ≡ cond l.closing 0 1)
    × Walked (sizes_in l.shape) l.shape.calls l.initial.run.entries l.closing (calls_of l.file l.shape) l.schedule l.initial.log
    (state_in l.shape.size l.initial.run l.initial.slots) l.i l.run l.slots l.log
