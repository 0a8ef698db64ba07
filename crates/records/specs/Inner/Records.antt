-- What the program's record of a process stands for, where slots lie, and what a refusal gives.
use Rattle.std.specs.Prelude.{ℕ, ◌*◌, ◌≡◌, List}
use Rattle.runs.specs.State.{Process}
use Rattle.runs.specs.Run.{refusal}
use Rattle.runs.specs.Promise.{report_of}
use Rattle.records.specs.declared.Process.{Process as HeldProcess}

abbrev pub process_in : HeldProcess → Process
process_in r = record {
  stage = r.stage;
  call = r.call;
  next = r.next;
  stop = r.stop;
  start = r.start;
  b2 = r.b2;
  resets_at_t1 = r.resets_at_t1;
}

-- slot i of queue q stands at C × q + i
abbrev pub slots_place : ℕ → ℕ → ℕ
slots_place C q = C * q

-- no bytes, the counts and the table of a refusal with this number
pub record Refuses (number written : ℕ) (report table : List ℕ) : Type 0 where
  pub bytes : written ≡ 0
  pub counts : report ≡ report_of (refusal number)
  pub queues : table ≡ (refusal number).table
