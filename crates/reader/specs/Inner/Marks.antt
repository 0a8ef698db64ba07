-- Which calls a table of marks stands for.
use Rattle.std.specs.Prelude.{◌≡◌, List, ℕ, ◌<◌, length}
use Rattle.marks.specs.Inner.Marks.{mark_bytes, marked}
use Rattle.runfile.specs.declared.Call.{Call}
use Rattle.runfile.specs.Check.{any}
use Rattle.runfile.specs.File.{pushes}

-- The table stands for some calls: exactly the nodes that they push are marked.
pub record Marks (marks : List ℕ) (calls : List Call) : Type 0 where
  pub size : length marks ≡ mark_bytes
  pub nodes : (node : ℕ) → node < 65536 → marked marks node ≡ any (pushes node) calls
