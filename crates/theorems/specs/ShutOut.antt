-- The wrong programs that document 01 shuts out by name: of each, that it cannot keep the promise. A bench here is whatever keeps the promise of `run`;
-- what keeps that of `run_len`, as the function for a host in C does, keeps it too, with the written front part of its buffer.
use Rattle.std.specs.Prelude.{ℕ, Result, List, length, get_or, take, replicate, ◌≡◌}
use Rattle.base.specs.Bytes.{Bytes}
use Rattle.call_log.specs.Decode.{entry_at}
use Rattle.runs.specs.{Promise.Ran, Promise.HandsBack, Run.table_size, Worked.Case, Worked.K3, Worked.room}
use Rattle.rules.specs.{declared.Fault.Fault, Judge.judge_of, Judge.verdict_in, Judge.Verdict}

abbrev pub FrontHandedBack : Type 0
FrontHandedBack = (file buffer : List ℕ) (written : ℕ) (buffer' report table : List ℕ) → Ran file buffer written buffer' report table
    → HandsBack file (length buffer) (take written buffer') report table

-- what is given for a file and a buffer: the log, the report (number, entries, steps, gone-round takes) and the table
pub record Given : Type 0 where
  pub log : List ℕ
  pub report : List ℕ
  pub table : List ℕ

pub record Bench : Type 0 where
  pub gives : List ℕ → List ℕ → Given
  pub keeps : (file buffer : List ℕ) → Bytes file → Bytes buffer
      → HandsBack file (length buffer) (gives file buffer).log (gives file buffer).report (gives file buffer).table

pub record Judge : Type 0 where
  pub says : List ℕ → Verdict
  pub keeps : (log : List ℕ) → Bytes log → says log ≡ judge_of log

-- what keeps the promise of `judge` is one: it says the verdict that its answer stands for
abbrev pub judge_by : (answer : List ℕ → Result (Unit {0}) Fault) → ((log : List ℕ) → Bytes log → verdict_in (answer log) ≡ judge_of log) → Judge
judge_by answer keeps = record { says = λ log. verdict_in (answer log); keeps = keeps }

-- something that is so of all that a bench gives
abbrev pub Always : Bench → (Given → Type 0) → Type 0
Always b Holds = (file buffer : List ℕ) → Bytes file → Bytes buffer → Holds (b.gives file buffer)

-- the log of a worked run, whose buffer was all 0
abbrev pub log_of : Bench → Case → List ℕ
log_of b k = (b.gives k.file (replicate (room k) 0)).log

-- none that keeps its promise is
pub record ShutOut : Type 0 where
  pub refuses_all : (b : Bench) → Always b (λ g. get_or g.report 0 0 ≡ 0 → ⊥) → ⊥  -- a bench that refuses all files,
  pub same_log : (b : Bench) (log : List ℕ) → Always b (λ g. g.log ≡ log) → ⊥  -- one with the same log for every file,
  pub moves_nothing : (b : Bench) → Always b (λ g. g.table ≡ replicate table_size 0) → ⊥  -- one that moves nothing,
  -- one that does every call in its first step and idles through the others: no call would end after its start,
  pub all_at_once : (b : Bench) → Always b (λ g. (i : ℕ) → (entry_at g.log i).end ≡ (entry_at g.log i).start) → ⊥
  -- and if it gives the ends of such calls honestly, process 1, whose take of K3 begins first, would get 5,
  pub first_step_takes : (b : Bench) → ((i : ℕ) → (entry_at (log_of b K3) i).process ≡ 1 → (entry_at (log_of b K3) i).node ≡ 5) → ⊥
  -- one with made-up counts: the gone-round takes cannot be told from the numbers of entries and steps,
  pub made_up_counts : (b : Bench) (gone : ℕ → ℕ → ℕ) → Always b (λ g. get_or g.report 3 0 ≡ gone (get_or g.report 1 0) (get_or g.report 2 0)) → ⊥
  -- a judge that always accepts, and one that never does
  pub always_accepts : (j : Judge) → ((log : List ℕ) → Bytes log → (j.says log).number ≡ 0) → ⊥
  pub never_accepts : (j : Judge) → ((log : List ℕ) → Bytes log → (j.says log).number ≡ 0 → ⊥) → ⊥
