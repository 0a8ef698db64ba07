-- The state of a run, and its start.
use Rattle.std.specs.Prelude.{ℕ, suc, List, [], get_or, take, replicate}
use Rattle.base.specs.Lists.{list_of}
use Rattle.call_log.specs.declared.Entry.{Entry}
use Rattle.word.specs.{declared.Word.Word, declared.Stage.Stage, declared.Stage.TheVariants.Idle}
use Rattle.runfile.specs.{declared.Call.Call, Check.sum, File.RunFile, File.most_processes, declared.Call.TheVariants.Push}

-- a run has eight queues and eight processes, whatever P is
abbrev pub queue_count : ℕ
queue_count = most_processes

-- a queue: its control word, and how often it was reset
pub record Queue : Type 0 where
  pub word : Word
  pub resets : ℕ

-- a process: its stage, its call, the next call of the file and where its script stops; of the call its start, its B2, and its queue's resets at T1
pub record Process : Type 0 where
  pub stage : Stage
  pub call : Call
  pub next : ℕ
  pub stop : ℕ
  pub start : ℕ
  pub b2 : ℕ
  pub resets_at_t1 : ℕ

-- queues and processes, the steps and the gone-round takes so far
pub record Bench : Type 0 where
  pub queues : List Queue
  pub processes : List Process
  pub steps : ℕ
  pub gone : ℕ

-- with the slots of each queue, and the log of finished calls
pub record State : Type 0 where
  pub bench : Bench
  pub slots : List (List ℕ)
  pub log : List Entry

abbrev pub fresh : Queue
fresh = record { word = record { bottom = 0; top = 0; tag = 0 }; resets = 0 }

-- a process before its first call, whose calls are those of the file from `next` to `stop`
abbrev pub waiting : ℕ → ℕ → Process
waiting next stop = record { stage = Idle; call = Push 0; next = next; stop = stop; start = 0; b2 = 0; resets_at_t1 = 0 }

abbrev pub nobody : Process
nobody = waiting 0 0

abbrev pub queue_at : Bench → ℕ → Queue
queue_at b q = get_or b.queues q fresh

abbrev pub process_at : Bench → ℕ → Process
process_at b p = get_or b.processes p nobody

-- process p has its share of the calls: none from P on
abbrev pub scripted : List ℕ → ℕ → Process
scripted shares p = waiting (sum (take p shares)) (sum (take (suc p) shares))

-- all 0 at first
abbrev pub start_bench : List ℕ → Bench
start_bench shares = record { queues = replicate queue_count fresh; processes = list_of queue_count (scripted shares); steps = 0; gone = 0 }

abbrev pub start : RunFile → State
start file = record { bench = start_bench file.shares; slots = replicate queue_count (replicate file.size 0); log = [] }
