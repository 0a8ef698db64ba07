-- `entry_at` meets its contract. The loop keeps: the bytes gone through are those of the log from there on.
use mathlib.Core.Path.{◌≡◌}
use Prim.Native.Nat.{ℕ, ◌+◌, ◌<◌}
use Rattle.base.specs.Bytes.{byte_at}
use Rattle.call_log.proofs.decode.entry_at.Given as goal

abbrev pub invariant-loop-k : goal.invariant-loop-k
invariant-loop-k l = (j : ℕ) → j < l.k → byte_at l.byte-items j ≡ byte_at l.log (l.at + j)
