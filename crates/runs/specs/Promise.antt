-- What `run` promises: the number of bytes written, and every lent number, for every file and every buffer.
use Rattle.std.specs.Prelude.{ℕ, List, [], ◌∷◌, ◌++◌, length, drop, ◌≡◌}
use Rattle.runs.specs.Run.{Outcome, run_of}

-- number, entries, steps, gone-round takes
abbrev pub report_of : Outcome → List ℕ
report_of o = o.number ∷ o.entries ∷ o.steps ∷ o.gone ∷ []

-- the buffer with the log in its front; the rest keeps its bytes
abbrev pub buffer_of : Outcome → List ℕ → List ℕ
buffer_of o buffer = o.log ++ drop (length o.log) buffer

pub record Gives (o : Outcome) (buffer : List ℕ) (written : ℕ) (buffer' report table : List ℕ) : Type 0 where
  pub bytes : written ≡ length o.log
  pub kept : buffer' ≡ buffer_of o buffer
  pub counts : report ≡ report_of o
  pub queues : table ≡ o.table

abbrev pub Ran : List ℕ → List ℕ → ℕ → List ℕ → List ℕ → List ℕ → Type 0
Ran file buffer written buffer' report table = Gives (run_of file (length buffer)) buffer written buffer' report table

-- of the part that `run` hands back, what it holds; what the rest of the buffer holds is the promise of `run_len`
pub record HandsBack (file : List ℕ) (room : ℕ) (front report table : List ℕ) : Type 0 where
  pub part : front ≡ (run_of file room).log
  pub counts : report ≡ report_of (run_of file room)
  pub queues : table ≡ (run_of file room).table
