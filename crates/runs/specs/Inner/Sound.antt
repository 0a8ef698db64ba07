-- What every state of a run keeps, and the bench's loops ask for: words, slots and stages are in range, so that no step needs a test. The bench's own
-- proofs use it, whatever the calls.
use Rattle.std.specs.Prelude.{ℕ, ◌≤◌, ◌<◌, ◌≡◌, Bool, true, false, ◌&&◌, ◌||◌, List, [], leb, eqb, length, get_or}
use Rattle.word.specs.Inner.InRange.{WordIn, StageIn}
use Rattle.word.specs.Stages.{row_number}
use Rattle.word.specs.declared.Stage.{Stage}
use Rattle.word.specs.declared.Stage.TheVariants.{Idle}
use Rattle.runfile.specs.declared.Call.{Call}
use Rattle.runfile.specs.declared.Call.TheVariants.{Push, Pop, Take}
use Rattle.runs.specs.Moment.{queue_of, pushed_node, is_take}
use Rattle.runs.specs.State.{Process, State, queue_at, process_at}

-- a push's stage; a top pop's; one of the owner's calls; the first of a call
abbrev pub is_push : Stage → Bool
is_push s = leb 1 (row_number s) && leb (row_number s) 3

abbrev pub is_top : Stage → Bool
is_top s = leb 4 (row_number s) && leb (row_number s) 7

abbrev pub is_own : Stage → Bool
is_own s = is_push s || leb 8 (row_number s)

abbrev pub is_first : Stage → Bool
is_first s = eqb (row_number s) 1 || eqb (row_number s) 4 || eqb (row_number s) 8

-- a stage of the owner's is in no top pop's call, a top pop's is in one, and a push's is in the call that pushes the node
pub record Suits (call : Call) (s : Stage) : Type 0 where
  pub own : is_own s ≡ true → is_take call ≡ false
  pub top : is_top s ≡ true → is_take call ≡ true
  pub push : is_push s ≡ true → call ≡ Push (pushed_node call)

pub record Sizes : Type 0 where
  pub width : ℕ
  pub size : ℕ
  pub processes : ℕ

pub record Fit (f : Sizes) : Type 0 where
  pub width : f.width ≤ 16
  pub size : (1 ≤ f.size) × (f.size ≤ 64)
  pub processes : (1 ≤ f.processes) × (f.processes ≤ 8)

abbrev pub processes : Sizes → ℕ
processes f = f.processes

abbrev pub slots_at : State → ℕ → List ℕ
slots_at s q = get_or s.slots q []

-- a call on one of the queues, whatever node it pushes
abbrev pub CallIn : ℕ → Call → Type 0
CallIn processes (Push node) = Unit {0}
CallIn processes Pop = Unit {0}
CallIn processes (Take queue) = queue < processes

-- each of these calls is
abbrev pub AllIn : ℕ → List Call → Type 0
AllIn processes calls = (k : ℕ) → CallIn processes (get_or calls k Pop)

-- a process's record: its stage is in range and suits its call, which is on one of the queues
pub record Placed (f : Sizes) (p : ℕ) (r : Process) : Type 0 where
  pub stage : StageIn f.width f.size r.stage
  pub suits : Suits r.call r.stage
  pub queue : queue_of p r.call < f.processes

pub record Sound (f : Sizes) (s : State) : Type 0 where
  pub queues : length s.bench.queues ≡ 8
  pub records : length s.bench.processes ≡ 8
  pub tables : length s.slots ≡ 8
  pub words : (q : ℕ) → q < processes f → WordIn f.width f.size (queue_at s.bench q).word
  pub sizes : (q : ℕ) → q < processes f → length (slots_at s q) ≡ f.size
  pub each : (p : ℕ) → p < processes f → Placed f p (process_at s.bench p)
  pub later : (p : ℕ) → is_first (process_at s.bench p).stage ≡ false
  pub absent : (p : ℕ) → processes f ≤ p → (process_at s.bench p).stage ≡ Idle
