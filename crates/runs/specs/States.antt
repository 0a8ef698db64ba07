-- The states that a run goes through.
use Rattle.std.specs.Prelude.{ℕ, ◌≤◌, length, take}
use Rattle.runfile.specs.File.{RunFile}
use Rattle.runs.specs.{State.State, State.start, Run.play, Run.close, Run.closing_steps, Run.played}

-- the state after the first k steps of the schedule, and after the first k of the closing
abbrev pub scheduled : RunFile → ℕ → State
scheduled f k = play f.width f.size f.calls (take k f.schedule) (start f)

abbrev pub closing : RunFile → ℕ → State
closing f k = close f.width f.size k (played f)

-- the states of the run of f
pub data StateOf (f : RunFile) : State → Type 0 where
  at_schedule : (k : ℕ) → k ≤ length f.schedule → StateOf f (scheduled f k)
  at_closing : (k : ℕ) → k ≤ closing_steps → StateOf f (closing f k)
