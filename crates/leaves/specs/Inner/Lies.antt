-- Where what is left lies.
use Rattle.std.specs.Prelude.{◌≡◌, List, ℕ, ◌≤◌, length}
use Rattle.std.proofs.Math.Seq.{slice}
use Rattle.call_log.specs.declared.Entry.{Entry}
use Rattle.rules.specs.Left.{left_in}

-- the nodes that a log leaves in queue q lie from lo up to hi in a row of 256
pub record LiesIn (f : ℕ → Entry) (n q : ℕ) (row : List ℕ) (lo hi : ℕ) : Type 0 where
  pub holds : slice lo hi row ≡ left_in f n q
  pub low : lo ≤ hi
  pub high : hi ≤ 256
  pub long : length row ≡ 256
