-- What the promise of `run_len` says of the front part of the buffer.
use Prim.Native.Nat.{ℕ}
use mathlib.Core.Path.{◌≡◌, ◌∙◌, ap}
use mathlib.Core.List.{List}
use lib.ListN.{length, take, drop}
use lib.Seq.{take-append_seam}
use Rattle.runs.specs.Run.{Outcome}
use Rattle.runs.specs.Promise.{Gives}

-- the written front part of the buffer is the log
pub front_is : (o : Outcome) (buffer : List ℕ) (written : ℕ) (buffer' report table : List ℕ) → Gives o buffer written buffer' report table
    → take written buffer' ≡ o.log
front_is o buffer written buffer' report table g =
    ap (λ (n : ℕ). take n buffer') g.bytes ∙ ap (take (length o.log)) g.kept ∙ take-append_seam o.log (drop (length o.log) buffer)
