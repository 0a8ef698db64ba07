-- `judge::causes::first_uncaused` meets its contract. The loop keeps `Shelves`: what is known of each queue after the first k moments, which lie
-- before the ends of the entries that are left.
use mathlib.Core.Path.{◌≡◌}
use Prim.Native.Nat.{ℕ, ◌+◌, ◌-◌, ◌*◌, ◌≤◌, ◌<◌}
use lib.ListN.{length}
use Rattle.judge.specs.Inner.Entries.{entries_in}
use Rattle.rules.specs.Search.{first}
use Rattle.rules.specs.Rules.{breaks5}
use Rattle.judge.specs.Inner.Order.{instant}
use Rattle.judge.proofs.ShelfLaws.{Shelves}
use Rattle.judge.proofs.causes.first_uncaused.Given as goal

abbrev pub invariant-loop-j : goal.invariant-loop-j
invariant-loop-j l = (l.j ≤ length l.entries) × (l.k ≤ length l.keys)
    × (first (breaks5 (entries_in l.entries) (length l.entries)) l.j (length l.entries - l.j)
    ≡ first (breaks5 (entries_in l.entries) (length l.entries)) 0 (length l.entries))
    × Shelves (entries_in l.entries) (length l.entries) l.keys l.k l.shelves
    × ((x : ℕ) → l.j ≤ x → x < length l.entries → instant l.keys l.k ≤ 2 * (entries_in l.entries x).end + 2)

abbrev pub decreases-loop-j : goal.decreases-loop-j
decreases-loop-j l = (length l.entries - l.j) + (length l.keys - l.k)
