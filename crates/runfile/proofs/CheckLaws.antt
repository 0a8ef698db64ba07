-- Laws of the chains of tests, as a proof takes them.
use mathlib.Core.Path.{◌≡◌, refl}
use mathlib.Core.Bool.{Bool, true, false, ◌||◌}
use mathlib.Core.List.{List, [], ◌∷◌}
use Prim.Native.Nat.{ℕ, zero, suc, ◌+◌, ◌<◌}
use native.Mathlib.Numerals.{add-one}
use native.Mathlib.Omega.{arith}
use native.Mathlib.Decide.{dec_lt}
use lib.ListN.{length, get_or, take}
use Rattle.runfile.specs.Check.{◌when◌, ◌then◌, any, first_of, sum}

pub then_on : (a b : ℕ) → a ≡ 0 → (a then b) ≡ b
then_on a b e = rw e

pub then_none : (a b : ℕ) → (a then b) ≡ 0 → (a ≡ 0) × (b ≡ 0)
then_none zero b e = (refl, e)
then_none (suc a) b e = absurd (omega arith)

pub when_none : (n : ℕ) (t : Bool) → (suc n when t) ≡ 0 → t ≡ false
when_none n true e = absurd (omega arith)
when_none n false e = refl

-- the first of n numbers
module _ (f : ℕ → ℕ) where
  pub first_none : (n k : ℕ) → first_of f n ≡ 0 → k < n → f k ≡ 0
  first_none zero k h lt = absurd (omega arith)
  first_none (suc n) k h lt = split (dec_lt k n) (first_none n k)
    where
      split : Dec (k < n) → (first_of f n ≡ 0 → k < n → f k ≡ 0) → f k ≡ 0
      split (yes q) more = more (then_none (first_of f n) (f n) h).0 q
      split (no q) more = let e : k ≡ n = omega arith in rw e (then_none (first_of f n) (f n) h).1

  pub first_all : (n : ℕ) → ((k : ℕ) → k < n → f k ≡ 0) → first_of f n ≡ 0
  first_all zero h = refl
  first_all (suc n) h = rw (first_all n (λ k lt. h k (omega arith)), h n (omega arith))

-- whether one of a list passes
module _ {A : Type 0} (p : A → Bool) (d : A) where
  pub any_none : (l : List A) (k : ℕ) → any p l ≡ false → k < length l → p (get_or l k d) ≡ false
  any_none [] k h lt = absurd (omega arith)
  any_none (x ∷ l) zero h lt = head (p x) h
    where
      head : (t : Bool) → (t || any p l) ≡ false → t ≡ false
      head true e = e
      head false e = refl
  any_none (x ∷ l) (suc k) h lt = any_none l k (tail (p x) h) (omega arith)
    where
      tail : (t : Bool) → (t || any p l) ≡ false → any p l ≡ false
      tail true e = absurd (let z : ◌≡◌ {A = ℕ} 0 1 = cc in omega arith)
      tail false e = e

  pub any_all : (l : List A) → ((k : ℕ) → k < length l → p (get_or l k d) ≡ false) → any p l ≡ false
  any_all [] h = refl
  any_all (x ∷ l) h = rw (h 0 (omega arith), any_all l (λ k lt. h (suc k) (omega arith)))

pub sum_next : (l : List ℕ) (i : ℕ) → sum (take (i + 1) l) ≡ sum (take i l) + get_or l i 0
sum_next l i = rw add-one (go l i)
  where
    go : (l : List ℕ) (i : ℕ) → sum (take (suc i) l) ≡ sum (take i l) + get_or l i 0
    go [] zero = refl
    go [] (suc i) = refl
    go (x ∷ l) zero = omega arith
    go (x ∷ l) (suc i) = omega (arith, go l i)
