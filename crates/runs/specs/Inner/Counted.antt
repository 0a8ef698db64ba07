-- The counts of a run stay within the number of its steps: a term of the code's loops.
use Rattle.std.specs.Prelude.{ℕ, ◌≤◌, ◌≡◌, length}
use Rattle.runs.specs.State.{Bench, queue_at, process_at}

-- there are eight queues and processes; the counts, that of the entries among them, are at most the number of steps, and so is each B2
pub record Counted (entries : ℕ) (b : Bench) : Type 0 where
  pub queues : length b.queues ≡ 8
  pub processes : length b.processes ≡ 8
  pub logged : entries ≤ b.steps
  pub gone : b.gone ≤ b.steps
  pub resets : (q : ℕ) → (queue_at b q).resets ≤ b.steps
  pub b2 : (p : ℕ) → (process_at b p).b2 ≤ b.steps
