-- A whole run, from the bytes of its file and the length of the log buffer to everything that it gives.
use Rattle.std.specs.Prelude.{ℕ, zero, suc, ◌+◌, ◌*◌, ◌/◌, ◌%◌, cond, ltb, List, [], ◌∷◌, length, get_or, replicate}
use Rattle.base.specs.Lists.{list_of}
use Rattle.call_log.specs.{Decode.log_length, Encode.log_bytes}
use Rattle.word.specs.{Stages.is_idle, declared.Word.Word}
use Rattle.runfile.specs.{File.RunFile, File.most_size, File.Answer, File.refused, File.good, File.file_of, declared.Call.Call}
use Rattle.runs.specs.State.{Bench, Process, State, queue_count, start, queue_at, process_at}
use Rattle.runs.specs.Turn.{act, turn}

-- the schedule, step by step
unfoldable pub play : ℕ → ℕ → List Call → List ℕ → State → State
unfolding turn
play W C calls [] s = s
play W C calls (p ∷ ps) s = play W C calls ps (turn W C calls p s)

-- the lowest half-done process; 8 where there is none
abbrev pub lowest : List Process → ℕ
lowest [] = 0
lowest (r ∷ rs) = cond (is_idle r.stage) (suc (lowest rs)) 0

-- a step of the closing: the lowest half-done process makes its next step
abbrev pub closing_step : ℕ → ℕ → State → State
closing_step W C s =
    let p : ℕ = lowest s.bench.processes in
    act W C p (process_at s.bench p) s

-- the closing: such steps, until no process is half-done; no new call is begun
unfoldable pub close : ℕ → ℕ → ℕ → State → State
unfolding act
close W C zero s = s
close W C (suc k) s =
    let later : State = close W C k (closing_step W C s) in
    cond (ltb (lowest s.bench.processes) queue_count) later s

-- eight calls are half-done at most, and a half-done call has at most six steps left
abbrev pub closing_steps : ℕ
closing_steps = 48

-- the state before the closing, and after it
abbrev pub played : RunFile → State
played f = play f.width f.size f.calls f.schedule (start f)

unfoldable pub closed : RunFile → State
unfolding play close
closed f = close f.width f.size closing_steps (played f)

-- the final table has 67 numbers for each of eight queues, bottom, top, tag and 64 slots; 0 stands at and above C, and for queues from P on
abbrev pub table_row_length : ℕ
table_row_length = 3 + most_size

abbrev pub table_size : ℕ
table_size = queue_count * table_row_length

abbrev pub table_row : Word → List ℕ → List ℕ
table_row w slots = w.bottom ∷ w.top ∷ w.tag ∷ slots

abbrev pub in_table : ℕ → Word → List (List ℕ) → ℕ → ℕ → ℕ
in_table P w slots q i = cond (ltb q P) (get_or (table_row w (get_or slots q [])) i 0) 0

abbrev pub table_at : ℕ → Bench → List (List ℕ) → ℕ → ℕ
table_at P b slots k = in_table P (queue_at b (k / table_row_length)).word slots (k / table_row_length) (k % table_row_length)

-- all that a run gives: the number, the log's bytes, the counts and the table
pub record Outcome : Type 0 where
  pub number : ℕ
  pub log : List ℕ
  pub entries : ℕ
  pub steps : ℕ
  pub gone : ℕ
  pub table : List ℕ

-- refusals give zero counts, a zero table and an empty part
abbrev pub refusal : ℕ → Outcome
refusal n = record { number = n; log = []; entries = 0; steps = 0; gone = 0; table = replicate table_size 0 }

abbrev pub finished : RunFile → State → Outcome
finished f s = record {
  number = 0;
  log = log_bytes (record { P = length f.shares; C = f.size; entries = s.log });
  entries = length s.log;
  steps = s.bench.steps;
  gone = s.bench.gone;
  table = list_of table_size (table_at (length f.shares) s.bench s.slots);
}

-- the log buffer has room for all calls of the file, or the run is refused with 8
unfoldable pub outcome : ℕ → Answer → Outcome
unfolding closed
outcome room (refused n) = refusal n
outcome room (good f) = cond (ltb room (log_length (length f.calls))) (refusal 8) (finished f (closed f))

unfoldable pub run_of : List ℕ → ℕ → Outcome
unfolding outcome file_of
run_of file room = outcome room (file_of file)
