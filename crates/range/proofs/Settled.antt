-- What the public function promises settles its answer.
use mathlib.Core.Path.{◌≡◌}
use mathlib.Core.Bool.{Bool}
use Prim.Native.Nat.{ℕ}
use Rattle.base.proofs.Settled.{one_value}
use Rattle.word.specs.Range.{in_range}
use Rattle.word.specs.declared.Word.{Word}
use Rattle.word.specs.declared.Stage.{Stage}

pub in_range_lem : (W C slots : ℕ) (w : Word) (s : Stage) (r r' : Bool) → r ≡ in_range W C slots w s → r' ≡ in_range W C slots w s → r ≡ r'
in_range_lem W C slots w s r r' = one_value
