-- Demand 3: every log that the bench writes without gone-round takes is accepted.
use Rattle.std.specs.Prelude.{ℕ, Result, Ok, List, get_or, take, ◌≡◌}
use Rattle.base.specs.Bytes.{Bytes}
use Rattle.runs.specs.{Run.run_of, Promise.Ran, Promise.HandsBack}
use Rattle.rules.specs.{declared.Fault.Fault, Judge.says, Judge.judge_of, Judge.verdict_in, Judge.Verdict}

abbrev pub EveryLogAccepted : Type 0
EveryLogAccepted = (file : List ℕ) → Bytes file → (room : ℕ) → (run_of file room).number ≡ 0 → (run_of file room).gone ≡ 0
    → judge_of (run_of file room).log ≡ says 0 0

-- The same of the programs, by their promises; a report begins with the number and ends with the gone-round takes. Of `run` and `judge`, the verdict
abbrev pub RunThenJudge : Type 0
RunThenJudge = (file : List ℕ) → Bytes file → (room : ℕ) (front report table : List ℕ) → HandsBack file room front report table
    → get_or report 0 0 ≡ 0 → get_or report 3 0 ≡ 0 → (v : Verdict) → v ≡ judge_of front → v ≡ says 0 0

-- and the answer that `judge` gives, which says that verdict: Ok;
abbrev pub RunThenAccepted : Type 0
RunThenAccepted = (file : List ℕ) → Bytes file → (room : ℕ) (front report table : List ℕ) → HandsBack file room front report table
    → get_or report 0 0 ≡ 0 → get_or report 3 0 ≡ 0 → (answer : Result (Unit {0}) Fault) → verdict_in answer ≡ judge_of front
    → (accepted : Unit {0}) → answer ≡ Ok accepted

-- of the functions that a host in C calls: it hands the bytes that were written to the two that judge
abbrev pub HostRunThenJudge : Type 0
HostRunThenJudge = (file : List ℕ) → Bytes file → (buffer : List ℕ) (written : ℕ) (buffer' report table : List ℕ)
    → Ran file buffer written buffer' report table → get_or report 0 0 ≡ 0 → get_or report 3 0 ≡ 0
    → (number entry : ℕ) → number ≡ (judge_of (take written buffer')).number → entry ≡ (judge_of (take written buffer')).entry → (number ≡ 0) × (entry ≡ 0)
