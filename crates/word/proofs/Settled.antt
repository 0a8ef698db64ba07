-- What the public functions promise settles their answers.
use Prim.Native.Nat.{ℕ, ◌-◌}
use mathlib.Core.Path.{◌≡◌}
use mathlib.Core.Bool.{Bool}
use Rattle.base.proofs.Settled.{one_value}
use Rattle.word.specs.Stages.{row_number, pops_slot}
use Rattle.word.specs.declared.Stage.{Stage}

pub below : (b r r' : ℕ) → r ≡ b - 1 → r' ≡ b - 1 → r ≡ r'
below b r r' = one_value

pub row_number_lem : (s : Stage) (r r' : ℕ) → r ≡ row_number s → r' ≡ row_number s → r ≡ r'
row_number_lem s r r' = one_value

-- of is_idle, at_t1, at_b2 and past_b2
pub stands : (f : Stage → Bool) (s : Stage) (r r' : Bool) → r ≡ f s → r' ≡ f s → r ≡ r'
stands f s r r' = one_value

pub pops_slot_lem : (s : Stage) (t : ℕ) (r r' : Bool) → r ≡ pops_slot s t → r' ≡ pops_slot s t → r ≡ r'
pops_slot_lem s t r r' = one_value
