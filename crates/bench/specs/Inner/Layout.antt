-- How a state lies in the program: in its structs, with top and tag in one word, all queues' slots in one row, C for each queue, and the log as
-- its bytes.
use Rattle.std.specs.Prelude.{ℕ, suc, ◌+◌, ◌*◌, ◌/◌, ◌%◌, ◌≤◌, ◌<◌, ◌≡◌, cond, List, [], ◌∷◌, length, get_or, take, drop, set, Option, None, Some}
use Rattle.base.specs.Bytes.{put_at}
use Rattle.base.specs.Lists.{list_of}
use Rattle.call_log.specs.Decode.{log_length}
use Rattle.call_log.specs.Encode.{entry_bytes}
use Rattle.call_log.specs.declared.Entry.{Entry}
use Rattle.steps.specs.Step.{stored, in_sixteen, stepped_on}
use Rattle.steps.specs.Packed.{unpacked, unpacked_step, top_of, PackedStep}
use Rattle.steps.specs.declared.PackedWord.{PackedWord}
use Rattle.word.specs.Inner.StepsLeft.{steps_left}
use Rattle.word.specs.declared.Stage.{Stage}
use Rattle.word.specs.declared.Stage.TheVariants.{Idle}
use Rattle.runfile.specs.File.{most_size}
use Rattle.runfile.specs.declared.Call.TheVariants.{Push}
use Rattle.runfile.specs.declared.Shape.{Shape}
use Rattle.runs.specs.State.{Queue, Process, Bench, State, queue_count, process_at}
use Rattle.runs.specs.Moment.{Ended, Nothing, ends, ended, gone_round}
use Rattle.runs.specs.Inner.Counted.{Counted}
use Rattle.runs.specs.Inner.Sound.{Sizes, Fit, Sound}
use Rattle.runs.specs.Inner.Left.{total}
use Rattle.runs.specs.Run.{table_row_length, in_table}
use Rattle.runs.specs.Turn.{entries_in}
use Rattle.bench.specs.declared.Bench.{Bench as HeldBench}
use Rattle.bench.specs.declared.Queue.{Queue as HeldQueue}
use Rattle.records.specs.Inner.Records.{process_in, slots_place}
use Rattle.records.specs.declared.Process.{Process as HeldProcess}
use Rattle.bench.specs.declared.turn.Told.{Told}

-- what the program's arrays have past their end
abbrev pub fresh_held : HeldQueue
fresh_held = record { word = record { bottom = 0; age = record { word = 0 } }; resets = 0 }

abbrev pub idle_held : HeldProcess
idle_held = record { stage = Idle; call = Push 0; next = 0; stop = 0; start = 0; b2 = 0; resets_at_t1 = 0 }

-- queue q and process p of the program's arrays
abbrev pub queue_of_held : HeldQueue → Queue
queue_of_held m = record { word = unpacked m.word; resets = m.resets }

abbrev pub queue_in : HeldBench → ℕ → Queue
queue_in b q = queue_of_held (get_or b.queues q fresh_held)

abbrev pub process_at_in : List HeldProcess → ℕ → Process
process_at_in l p = process_in (get_or l p idle_held)

abbrev pub record_in : HeldBench → ℕ → Process
record_in b p = process_at_in b.processes p

abbrev pub ended_in : Option Entry → Ended
ended_in None = Nothing
ended_in (Some e) = ends e

abbrev pub bench_in : HeldBench → Bench
bench_in b = record { queues = list_of queue_count (queue_in b); processes = list_of queue_count (record_in b); steps = b.steps; gone = b.gone }

-- each of its arrays has eight elements
pub record Whole (b : HeldBench) : Type 0 where
  pub queues : length b.queues ≡ queue_count
  pub processes : length b.processes ≡ queue_count

-- the row of all slots has room for eight queues of the greatest C
abbrev pub all_slots : ℕ
all_slots = queue_count * most_size

-- the slots of queue q
abbrev pub slots_of : ℕ → List ℕ → ℕ → List ℕ
slots_of C flat q = take C (drop (slots_place C q) flat)

abbrev pub slots_in : ℕ → List ℕ → List (List ℕ)
slots_in C flat = list_of queue_count (slots_of C flat)

-- number k of the final table, from the words of the program's queues
abbrev pub words_table : ℕ → List HeldQueue → List (List ℕ) → ℕ → ℕ
words_table P queues slots k = in_table P (unpacked (get_or queues (k / table_row_length) fresh_held).word) slots (k / table_row_length) (k % table_row_length)

-- the state that a bench and its slots stand for, before anything is logged
abbrev pub state_in : ℕ → HeldBench → List ℕ → State
state_in C b flat = record { bench = bench_in b; slots = slots_in C flat; log = [] }

-- the step of queue q on its slots in the row
pub record StepsIn (W C : ℕ) (w : PackedWord) (flat : List ℕ) (q : ℕ) (z : Stage) (answer : PackedStep) (flat' : List ℕ) : Type 0 where
  pub stepped : unpacked_step answer ≡ in_sixteen (stepped_on W C (unpacked w) (get_or (slots_in C flat) q []) z)
  pub slots : slots_in C flat' ≡ set (slots_in C flat) q (stored (get_or (slots_in C flat) q []) answer.store)

-- the bytes of a log with entries put in from entry n on
abbrev pub put_entries : ℕ → List Entry → List ℕ → List ℕ
put_entries n [] log = log
put_entries n (e ∷ es) log = put_entries (suc n) es (put_at (log_length n) (entry_bytes e) log)

-- bench, slots and log have become those of a state s, from a bench with n entries and the bytes of its log
pub record Becomes (C n : ℕ) (log : List ℕ) (s : State) (b' : HeldBench) (flat' log' : List ℕ) : Type 0 where
  pub whole : Whole b'
  pub bench : bench_in b' ≡ s.bench
  pub count : b'.entries ≡ n + length s.log
  pub slots : slots_in C flat' ≡ s.slots
  pub bytes : log' ≡ put_entries n s.log log

abbrev pub sizes_in : Shape → Sizes
sizes_in shape = record { width = shape.width; size = shape.size; processes = shape.processes }

-- where the loop over a schedule begins: at a state in which all is in range, and whose log has room for every call that is left
pub record ToWalk (shape : Shape) (schedule : List ℕ) (b : HeldBench) (flat : List ℕ) : Type 0 where
  pub whole : Whole b
  pub counted : Counted b.entries (bench_in b)
  pub left : total (bench_in b).processes + b.entries ≤ shape.calls
  pub few : b.steps + length schedule ≤ 4144
  pub fit : Fit (sizes_in shape)
  pub sound : Sound (sizes_in shape) (state_in shape.size b flat)
  pub below : (k : ℕ) → k < length schedule → get_or schedule k 0 < shape.processes

-- where the closing begins: each half-done call has made a step, and has at most six left
pub record ToClose (shape : Shape) (b : HeldBench) (flat : List ℕ) : Type 0 where
  pub whole : Whole b
  pub counted : Counted b.entries (bench_in b)
  pub left : total (bench_in b).processes + b.entries ≤ shape.calls
  pub six : (p : ℕ) → steps_left (process_at (bench_in b) p).stage ≤ 6
  pub few : b.steps ≤ 4096
  pub fit : Fit (sizes_in shape)
  pub sound : Sound (sizes_in shape) (state_in shape.size b flat)

-- what the end of a call gives the log and the counts: r and owner are the records of its process and of its queue's owner, w and resets the queue's
pub record Tells (p n entries : ℕ) (r owner : Process) (w : PackedWord) (resets : ℕ) (step : PackedStep) (log : List ℕ) (m : Told)
    (log' : List ℕ) : Type 0 where
  pub over : Ended
  pub ends : over ≡ ended p n r owner (top_of w.age.word) step.next
  pub bytes : log' ≡ put_entries entries (entries_in over) log
  pub more : m.more ≡ length (entries_in over)
  pub gone : m.gone ≡ gone_round r resets step.next
  pub again : m.resets ≡ cond step.reset (resets + 1) resets
