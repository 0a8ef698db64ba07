-- The last part of a run: what it finds, and what it gives.
use Rattle.std.specs.Prelude.{ℕ, ◌≤◌, ◌≡◌, List, [], ◌∷◌}
use Rattle.base.specs.Bytes.{put_at}
use Rattle.base.specs.Lists.{list_of}
use Rattle.call_log.specs.Decode.{log_length}
use Rattle.call_log.specs.Encode.{head_bytes}
use Rattle.runfile.specs.File.{most_size}
use Rattle.runfile.specs.declared.Shape.{Shape}
use Rattle.runs.specs.Run.{table_size, table_at}
use Rattle.bench.specs.Inner.Layout.{bench_in, Whole, slots_in}
use Rattle.runs.specs.Inner.Counted.{Counted}
use Rattle.bench.specs.declared.Bench.{Bench as HeldBench}

-- what the program's last part gives: the head of the log before its entries, the counts and the table
pub record Finishes (P C : ℕ) (b : HeldBench) (flat buffer : List ℕ) (written : ℕ) (buffer' report table : List ℕ) : Type 0 where
  pub bytes : written ≡ log_length b.entries
  pub kept : buffer' ≡ put_at 0 (head_bytes P C b.entries) buffer
  pub counts : report ≡ 0 ∷ b.entries ∷ b.steps ∷ b.gone ∷ []
  pub queues : table ≡ list_of table_size (table_at P (bench_in b) (slots_in C flat))

-- where that part begins
pub record Ends (shape : Shape) (b : HeldBench) (flat : List ℕ) : Type 0 where
  pub whole : Whole b
  pub counted : Counted b.entries (bench_in b)
  pub processes : shape.processes ≤ 8
  pub size : shape.size ≤ most_size
