-- The run's step and the desk's are the same: both are `stepped_on`, on the queue's word and slots and the process's stage.
use Rattle.std.specs.Prelude.{ℕ, ◌<◌, true, List, [], ◌∷◌, length, get_or, Ok, ◌⊎◌, ◌≡◌}
use Rattle.word.specs.{Range.in_range, declared.Stage.Stage, declared.Word.Word}
use Rattle.steps.specs.{Step.stored, Step.stepped_on, Step.stage_after, declared.Next.Next, Step.Stepped}
use Rattle.desk.specs.{Desk.result_of, Desk.AtDesk, Desk.Answer}
use Rattle.runs.specs.Moment.{queue_of, Ended, Nothing, ends, ended}
use Rattle.runs.specs.{State.Process, State.State, State.queue_at, State.process_at, Turn.act}

-- process p, whose record is r, makes a step in a run: o is the step of its queue
pub record SameStep (W C p : ℕ) (r : Process) (s : State) (o : Stepped) : Type 0 where
  pub word : (queue_at (act W C p r s).bench (queue_of p r.call)).word ≡ o.word
  pub slots : get_or (act W C p r s).slots (queue_of p r.call) [] ≡ stored (get_or s.slots (queue_of p r.call) []) o.store
  pub stage : (process_at (act W C p r s).bench p).stage ≡ stage_after o.next

-- a result at the desk tells of what a run's step ends: of an entry its result, and of a pop's its node
abbrev pub Tells : List ℕ → Ended → Type 0
Tells result Nothing = result ≡ []
Tells result (ends e) = (result ≡ e.result ∷ []) ⊎ (result ≡ e.result ∷ e.node ∷ [])

pub record OneStep : Type 0 where
  pub run_steps : (W C p : ℕ) (r : Process) (s : State) → let q : ℕ = queue_of p r.call in
      p < length s.bench.processes → q < length s.bench.queues → q < length s.slots
      → SameStep W C p r s (stepped_on W C (queue_at s.bench q).word (get_or s.slots q []) r.stage)
  -- the desk's promise, on that word, these slots and that stage, is of the same step, where it is in range: in a run every step is (`shown`)
  pub desk_steps : (W C : ℕ) (w : Word) (slots : List ℕ) (z : Stage) (answer : Answer) (word : Word) (after : List ℕ)
      → AtDesk W C w slots z answer word after → in_range W C (length slots) w z ≡ true
      → let o : Stepped = stepped_on W C w slots z in (answer ≡ Ok o.next) × (word ≡ o.word) × (after ≡ stored slots o.store)
  -- the result at the desk, and the node of a pop, are those of the entry that a run's step writes
  pub same_result : (p n : ℕ) (r owner : Process) (t : ℕ) (x : Next) → Tells (result_of (Ok x)) (ended p n r owner t x)
