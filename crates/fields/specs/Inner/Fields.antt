-- Rule 1 of kind, result and node together: which calls and results there are, of those with a node and of those with none.
use Rattle.std.specs.Prelude.{Bool, cond, not, ◌&&◌, ◌||◌, ℕ, eqb}
use Rattle.call_log.specs.Numbers.{push, bottom_pop, top_pop, nil, done, full, lost}

abbrev pub possible : ℕ → ℕ → Bool → Bool
possible kind result with_node =
    cond with_node
    (eqb kind push && (eqb result done || eqb result full) || (eqb kind bottom_pop || eqb kind top_pop) && eqb result done)
    ((eqb kind bottom_pop || eqb kind top_pop) && eqb result nil || eqb kind top_pop && eqb result lost)
