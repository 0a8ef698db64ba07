-- What the two passes over a rack say of it: whether it is one, and its files where it is.
use Rattle.std.specs.Prelude.{ℕ, ◌*◌, ◌≤◌, ◌≡◌, Bool, true, false, List, [], ◌++◌, length, drop}
use Rattle.base.specs.Bytes.{number_at, put_at}
use Rattle.runs.specs.Promise.{buffer_of}
use Rattle.runs.specs.Run.{run_of}
use Rattle.racks.specs.Rack.{Split, bad, files, rack_of, reply_length, reply_to, replies_of, log_after}

abbrev pub is_rack : Split → Bool
is_rack bad = false
is_rack (files fs) = true

abbrev pub files_of : Split → List (List ℕ)
files_of bad = []
files_of (files fs) = fs

-- one file run: its log over the buffer, its reply at a place
pub record RunsOne (file log replies : List ℕ) (place : ℕ) (log' replies' : List ℕ) : Type 0 where
  pub logged : log' ≡ buffer_of (run_of file (length log)) log
  pub replied : replies' ≡ put_at place (reply_to (run_of file (length log))) replies

-- what the second pass may count on
pub record Checked (rack replies : List ℕ) : Type 0 where
  pub good : is_rack (rack_of rack) ≡ true
  pub room : reply_length * number_at rack 0 ≤ length replies

-- what it gives
pub record RunsAll (rack log replies log' replies' : List ℕ) : Type 0 where
  pub logged : log' ≡ log_after (length log) (files_of (rack_of rack)) log
  pub replied : replies' ≡ replies_of (length log) (files_of (rack_of rack)) ++ drop (reply_length * length (files_of (rack_of rack))) replies
