-- Two answers that one promise allows are equal.
use Prim.Native.Nat.{ℕ}
use mathlib.Core.Path.{◌≡◌}
use Rattle.base.proofs.Settled.{one_value}
use Rattle.racks.specs.declared.Refusal.{Refusal}
use Rattle.racks.specs.Rack.{refusal_number}

pub number_settled : (refused : Refusal) (n n' : ℕ) → n ≡ refusal_number refused → n' ≡ refusal_number refused → n ≡ n'
number_settled refused n n' = one_value
