-- Laws of the calls of a file: how many they are, which stands at a place, and what a call that is right says.
use mathlib.Core.Path.{◌≡◌, refl}
use mathlib.Core.Bool.{false}
use mathlib.Core.List.{List}
use Prim.Native.Nat.{ℕ, zero, suc, ◌+◌, ◌<◌}
use native.Mathlib.Omega.{arith}
use lib.ListN.{length, get_or, drop}
use lib.Seq.{get_or-drop}
use Rattle.base.specs.Bytes.{byte_at, number_at}
use Rattle.base.specs.Lists.{list_of}
use Rattle.base.proofs.Lists.{list_of-length, list_of_get_d}
use Rattle.runfile.specs.declared.Call.{Call}
use Rattle.runfile.specs.declared.Call.TheVariants.{Push, Pop}
use Rattle.std.specs.Prelude.{Result, Ok, Err}
use Rattle.runfile.specs.declared.Refusal.{Refusal}
use Rattle.runfile.specs.Check.{any}
use Rattle.runfile.specs.File.{call_of, call_in, call_at, first_calls, pushes, wrong_after}
use Rattle.runfile.proofs.CheckLaws.{when_none}

-- two lists of values that are the same up to n
pub list_of_same : {A : Type 0} (n : ℕ) (f g : ℕ → A) → ((k : ℕ) → k < n → f k ≡ g k) → list_of n f ≡ list_of n g
list_of_same zero f g h = refl
list_of_same (suc n) f g h = rw (h 0 (omega arith), list_of_same n (λ i. f (suc i)) (λ i. g (suc i)) (λ k lt. h (suc k) (omega arith)))

module _ (s : List ℕ) (P : ℕ) where
  pub calls_length : (n : ℕ) → length (first_calls s P n) ≡ n
  calls_length n = list_of-length n (call_at s P)

  pub call_get : (n k : ℕ) → k < n → get_or (first_calls s P n) k Pop ≡ call_at s P k
  call_get n k h = list_of_get_d n (call_at s P) Pop k h

-- what three bytes at a place say
abbrev pub coded_from : ℕ → List ℕ → ℕ → Result Call Refusal
coded_from P s at = call_of P (byte_at s at) (number_at s (at + 1))

pub coded_drop : (P : ℕ) (s : List ℕ) (i at : ℕ) → coded_from P (drop i s) at ≡ coded_from P s (i + at)
coded_drop P s i at =
    let a : i + (at + 1) ≡ i + at + 1 = omega arith in
    let b : i + (at + 1 + 1) ≡ i + at + 1 + 1 = omega arith in
    rw (get_or-drop i s at 0, get_or-drop i s (at + 1) 0, get_or-drop i s (at + 1 + 1) 0, a, b)

-- a push that is not refused is the first of its node
pub first_push : (earlier : List Call) (c : Result Call Refusal) (node : ℕ) → wrong_after earlier c ≡ 0 → call_in c ≡ Push node → any (pushes node) earlier ≡ false
first_push earlier (Ok call) node w e = when_none 4 _ (rw e at w)
first_push earlier (Err n) node w e = absurd (let z : ◌≡◌ {A = ℕ} 0 1 = cc in omega arith)
