-- `loops::close` meets its contract: six steps of the lowest half-done process are a round of the closing.
use Rattle.bench.specs.Inner.Layout.{state_in, sizes_in}
use Rattle.bench.proofs.RunLaws.{Closing}
use Rattle.bench.proofs.loops.close.Given as goal

abbrev pub invariant-loop : goal.invariant-loop
invariant-loop l = Closing (sizes_in l.shape) l.shape.calls l.initial.after.entries l.initial.log (state_in
    l.shape.size l.initial.after l.initial.slots) l.counter l.after l.slots l.log
