-- The half-done processes as a set of eight bits, process 0 lowest.
use Rattle.std.specs.Prelude.{ℕ, ◌+◌, ◌*◌, Bool, true, false, List, [], ◌∷◌}
use Rattle.word.specs.Stages.{is_idle}
use Rattle.runs.specs.State.{Process}

abbrev pub bit : Bool → ℕ
bit true = 0
bit false = 1

abbrev pub half_done : List Process → ℕ
half_done [] = 0
half_done (r ∷ rs) = 2 * half_done rs + bit (is_idle r.stage)
