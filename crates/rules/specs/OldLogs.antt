-- Old logs, with 0 for NIL at T4 too (C-15): they are judged as before.
use Rattle.std.specs.Prelude.{ℕ, length, ◌⊎◌, ◌↔◌, ◌≡◌}
use Rattle.call_log.specs.{declared.Entry.Entry, Encode.Log, Encode.log_bytes, Numbers.top_pop, Numbers.nil, Numbers.lost}
use Rattle.rules.specs.{Judge.judge_of, Accepted.entry_of, Accepted.AcceptedLog}

-- e with this result
abbrev pub with_result : Entry → ℕ → Entry
with_result e r =
    record { process = e.process; queue = e.queue; kind = e.kind; result = r; node = e.node; start = e.start; end = e.end; moment = e.moment }

-- d is e, or e is a top pop whose 3 is 0 in d
abbrev pub Older : Entry → Entry → Type 0
Older e d = (d ≡ e) ⊎ ((e.kind ≡ top_pop) × (e.result ≡ lost) × (d ≡ with_result e nil))

-- m is the log l in which some 3s are made 0s
pub record OlderLog (l m : Log) : Type 0 where
  pub processes : m.P ≡ l.P
  pub slots : m.C ≡ l.C
  pub many : length m.entries ≡ length l.entries
  pub each : (j : ℕ) → Older (entry_of l.entries j) (entry_of m.entries j)

-- It is accepted exactly if the log is,
abbrev pub OldAccepted : Type 0
OldAccepted = (l m : Log) → OlderLog l m → AcceptedLog m ↔ AcceptedLog l

-- and the judge says the same of both, number and entry.
abbrev pub OldJudged : Type 0
OldJudged = (l m : Log) → OlderLog l m → judge_of (log_bytes m) ≡ judge_of (log_bytes l)
