-- The sum so far is that of the first i script lengths (`sum_next`).
use mathlib.Core.Path.{◌≡◌}
use Prim.Native.Nat.{◌*◌, ◌≤◌}
use Rattle.runfile.specs.File.{calls_before}
use Rattle.runfile.proofs.places.calls_before.Given as goal

abbrev pub invariant-loop-i : goal.invariant-loop-i
invariant-loop-i l = (l.calls ≡ calls_before l.file l.i) × (l.calls ≤ 255 * l.i)
