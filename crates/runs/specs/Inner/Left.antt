-- The calls that a run has still to log: a term of the code's loops.
use Rattle.std.specs.Prelude.{ℕ, ◌+◌, ◌-◌, List, [], ◌∷◌}
use Rattle.word.specs.Stages.{is_idle}
use Rattle.runs.specs.State.{Process}
use Rattle.runs.specs.Inner.Half.{bit}

-- calls of a process that are not in the log: those that it has not begun, and the one it is in
abbrev pub weight : Process → ℕ
weight r = r.stop - r.next + bit (is_idle r.stage)

abbrev pub total : List Process → ℕ
total [] = 0
total (r ∷ rs) = weight r + total rs
