-- What the bench holds for a state of a run: of each queue the age in one word of 32 bits, and the slots of all queues in one row, queue by queue.
use Rattle.std.specs.Prelude.{ℕ, ◌+◌, ◌*◌, ◌<◌, ◌≡◌, List, [], get_or}
use Rattle.steps.specs.Packed.{packed_word}
use Rattle.runs.specs.State.{State, queue_count, queue_at}
use Rattle.bench.specs.declared.Bench.{Bench as HeldBench}
use Rattle.bench.specs.Inner.Layout.{fresh_held, Becomes}

pub record Holds (C : ℕ) (s : State) (b : HeldBench) (flat : List ℕ) : Type 0 where
  pub words : (q : ℕ) → (get_or b.queues q fresh_held).word ≡ packed_word (queue_at s.bench q).word
  pub slots : (q i : ℕ) → q < queue_count → i < C → get_or flat (C * q + i) 0 ≡ get_or (get_or s.slots q []) i 0

-- of every state that the program's loops promise to have come to, the schedule's and the closing's
abbrev pub EveryStateHeld : Type 0
EveryStateHeld = (C n : ℕ) (log : List ℕ) (s : State) (b : HeldBench) (flat log' : List ℕ) → Becomes C n log s b flat log' → Holds C s b flat
