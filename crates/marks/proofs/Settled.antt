-- What `mark` promises settles its answer and the table.
use Prim.Native.Nat.{ℕ}
use mathlib.Core.Path.{◌≡◌}
use mathlib.Core.Bool.{Bool}
use mathlib.Core.List.{List}
use Rattle.base.proofs.Settled.{one_value}
use Rattle.marks.specs.Inner.Marks.{marked, with_mark}

pub mark : (marks : List ℕ) (node : ℕ) (r r' : Bool) (after after' : List ℕ) → (r ≡ marked marks node) × (after ≡ with_mark marks node)
    → (r' ≡ marked marks node) × (after' ≡ with_mark marks node) → (r ≡ r') × (after ≡ after')
mark marks node r r' after after' p q = (one_value p.0 q.0, one_value p.1 q.1)
