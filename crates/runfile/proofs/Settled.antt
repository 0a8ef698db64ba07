-- Each public function's promise settles its result: two results that it allows are equal.
use mathlib.Core.Path.{◌≡◌}
use mathlib.Core.List.{List}
use Prim.Native.Nat.{ℕ, ◌<◌}
use Rattle.base.proofs.Settled.{one_value}
use Rattle.runfile.specs.declared.Call.{Call}
use Rattle.std.specs.Prelude.{Result}
use Rattle.runfile.specs.declared.Refusal.{Refusal}
use Rattle.runfile.specs.declared.Shape.{Shape}
use Rattle.runfile.specs.Refusals.{refusal_number}
use Rattle.runfile.specs.File.{share_place, length_at, calls_before, call_place, call_of, coded_at, call_at, step_place}
use Rattle.runfile.specs.Inner.Counts.{shape_in}

pub length_at_lem : (s : List ℕ) (p r q : ℕ) → r ≡ length_at s p → q ≡ length_at s p → r ≡ q
length_at_lem s p r q = one_value

pub calls_before_lem : (s : List ℕ) (p r q : ℕ) → r ≡ calls_before s p → q ≡ calls_before s p → r ≡ q
calls_before_lem s p r q = one_value

pub call_at_lem : (s : List ℕ) (processes k : ℕ) (r q : Call) → r ≡ call_at s processes k → q ≡ call_at s processes k → r ≡ q
call_at_lem s processes k r q = one_value

pub call_of_lem : (processes code argument : ℕ) (r q : Result Call Refusal) → r ≡ call_of processes code argument → q ≡ call_of processes code argument → r ≡ q
call_of_lem processes code argument r q = one_value

pub coded_at_lem : (s : List ℕ) (processes k : ℕ) (r q : Result Call Refusal) → r ≡ coded_at s processes k → q ≡ coded_at s processes k → r ≡ q
coded_at_lem s processes k r q = one_value

-- of a refusal as a number
pub number_lem : (why : Refusal) (r q : ℕ) → r ≡ refusal_number why → q ≡ refusal_number why → r ≡ q
number_lem why r q = one_value

pub shape_in_lem : (s : List ℕ) (r q : Shape) → r ≡ shape_in s → q ≡ shape_in s → r ≡ q
shape_in_lem s r q = one_value

-- of the places, which also say how small they are
pub share_place_lem : (p r q : ℕ) → (r ≡ share_place p) × (r < 1000) → (q ≡ share_place p) × (q < 1000) → r ≡ q
share_place_lem p r q e d = one_value e.0 d.0

pub call_place_lem : (processes k r q : ℕ) → (r ≡ call_place processes k) × (r < 900000) → (q ≡ call_place processes k) × (q < 900000) → r ≡ q
call_place_lem processes k r q e d = one_value e.0 d.0

-- of a shape's two places
pub place : (shape : Shape) (k most r q : ℕ)
    → (r ≡ step_place shape.processes shape.calls k) × (r < most) → (q ≡ step_place shape.processes shape.calls k) × (q < most) → r ≡ q
place shape k most r q e d = one_value e.0 d.0
