-- What the public functions promise settles their answers: two answers that a promise allows are equal.
use mathlib.Core.Path.{◌≡◌}
use mathlib.Core.List.{List}
use Prim.Native.Nat.{ℕ}
use Rattle.base.proofs.Settled.{one_value}
use Rattle.std.specs.Prelude.{Result}
use Rattle.word.specs.declared.Stage.{Stage}
use Rattle.word.specs.declared.Sizes.{Sizes}
use Rattle.lines.specs.{declared.Why.Why, declared.SizesWhy.SizesWhy}
use Rattle.lines.specs.Line.{line_of, sizes_of}

pub read_stage : (s : List ℕ) (r r' : Result Stage Why) → r ≡ line_of s → r' ≡ line_of s → r ≡ r'
read_stage s r r' = one_value

pub read_sizes : (s : List ℕ) (r r' : Result Sizes SizesWhy) → r ≡ sizes_of s → r' ≡ sizes_of s → r ≡ r'
read_sizes s r r' = one_value
