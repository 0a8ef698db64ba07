-- What files get singly, one call after another on the same log buffer: a rack's replies and log buffer are to be the same.
use Rattle.std.specs.Prelude.{ℕ, List, [], ◌∷◌, ◌++◌, length, get_or, take, ◌≡◌}
use Rattle.rules.specs.{Judge.judge_of, Judge.Verdict}
use Rattle.runs.specs.Promise.{Ran}
use Rattle.racks.specs.Rack.{unless_refused, reply_bytes, replies_of, log_after}

-- a file run by `run_len`, and the front part judged by `judge`: what they promise, and that a lent buffer keeps its length
pub record Single (file log log' reply : List ℕ) : Type 0 where
  pub written : ℕ
  pub report : List ℕ
  pub table : List ℕ
  pub verdict : Verdict
  pub ran : Ran file log written log' report table
  pub same : length log' ≡ length log
  pub judged : verdict ≡ judge_of (take written log')
  pub told : reply ≡ reply_bytes (get_or report 0 0) (get_or report 1 0) (get_or report 2 0) (get_or report 3 0) (unless_refused (get_or report 0 0) verdict)

abbrev pub Singly : List (List ℕ) → List ℕ → List ℕ → List ℕ → Type 0
Singly [] log log' replies = (log' ≡ log) × (replies ≡ [])
Singly (f ∷ fs) log log' replies =
    (between : List ℕ) × (reply : List ℕ) × (later : List ℕ) × Single f log between reply × Singly fs between log' later × (replies ≡ reply ++ later)

-- a rack's answer is that of single calls in its order
abbrev pub AsSingly : Type 0
AsSingly = (fs : List (List ℕ)) (log log' replies : List ℕ) → Singly fs log log' replies
    → (log' ≡ log_after (length log) fs log) × (replies ≡ replies_of (length log) fs)
