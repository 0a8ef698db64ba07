-- What `read` promises settles its answer: two answers that the promise allows are equal.
use mathlib.Core.Path.{◌≡◌}
use mathlib.Core.List.{List}
use Prim.Native.Nat.{ℕ}
use Rattle.base.proofs.Settled.{one_value}
use Rattle.std.specs.Prelude.{Result}
use Rattle.runfile.specs.declared.Refusal.{Refusal}
use Rattle.runfile.specs.declared.Shape.{Shape}
use Rattle.runfile.specs.File.{Reads}

pub read : (s : List ℕ) (r q : Result Shape Refusal) → Reads s r → Reads s q → r ≡ q
read s r q e d = one_value e.answer d.answer
