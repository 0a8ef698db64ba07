-- What rule 6 keeps of each queue since its latest NIL bottom pop: 65,536 times the done pushes plus the nodes taken at the bottom.
use Rattle.std.specs.Prelude.{ℕ, ◌+◌}
use Rattle.call_log.specs.declared.What.{What}
use Rattle.call_log.specs.declared.What.TheVariants.{Pushed, Full, BottomNode, BottomNil, TopNode, TopNil, TopLost}

abbrev pub counts_after : What → ℕ → ℕ
counts_after Pushed s = s + 65536
counts_after Full s = s
counts_after BottomNode s = s + 1
counts_after BottomNil s = 0
counts_after TopNode s = s
counts_after TopNil s = s
counts_after TopLost s = s
