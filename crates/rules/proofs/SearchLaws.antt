-- What the results of the searches say, and how a loop comes by them.
use mathlib.Core.Path.{◌≡◌, refl, sym, ap, ◌∙◌}
use mathlib.Core.Bool.{Bool, true, false, cond, ◌&&◌, ◌||◌}
use Prim.Native.Nat.{ℕ, zero, suc, ◌+◌, ◌-◌, ◌≤◌, ◌<◌}
use native.Mathlib.Numerals.{add-one}
use native.Mathlib.Omega.{arith}
use native.Mathlib.Decide.{ℕ_discrete}
use borrow.Author.Tests.{lt-ltb, le-ltb, ltb-true, ltb-false}
use lib.Dec.{ltb}
use Rattle.rules.specs.Search.{first, any, lowest}
use Rattle.base.proofs.Bools.{contra, not_so, or_l, or_r, or_e, by_both}

-- the first
pub first_is : (p : ℕ → Bool) (i k : ℕ) → first p i k < i + k → p (first p i k) ≡ true
first_is p i zero h = absurd (omega arith)
first_is p i (suc k) h = step (p i) refl h (first_is p (suc i) k)
  where
    step : (t : Bool) → p i ≡ t → cond t i (first p (suc i) k) < i + suc k → (first p (suc i) k < suc i + k → p (first p (suc i) k) ≡ true)
        → p (cond t i (first p (suc i) k)) ≡ true
    step true e h r = e
    step false e h r = r (omega arith)

pub first_hit : (p : ℕ → Bool) (i k j : ℕ) → i ≤ j → j < i + k → p j ≡ true → first p i k ≤ j
first_hit p i zero j a b e = absurd (omega arith)
first_hit p i (suc k) j a b e = step (p i) refl (ℕ_discrete i j) (first_hit p (suc i) k j)
  where
    step : (t : Bool) → p i ≡ t → Dec (i ≡ j) → (suc i ≤ j → j < suc i + k → p j ≡ true → first p (suc i) k ≤ j) → cond t i (first p (suc i) k) ≤ j
    step true u d r = a
    step false u (yes q) r = contra (p j) e (sym (ap p q) ∙ u)
    step false u (no q) r = r (omega arith) (omega arith) e

pub first_none : (p : ℕ → Bool) (i k : ℕ) → ((j : ℕ) → i ≤ j → j < i + k → p j ≡ false) → first p i k ≡ i + k
first_none p i zero h = omega arith
first_none p i (suc k) h = rw (h i (omega arith) (omega arith)) (omega (arith, first_none p (suc i) k (λ j a b. h j (omega arith) (omega arith))))

-- the lowest
pub record Hit (p : ℕ → Bool) (key : ℕ → ℕ) (n x : ℕ) : Type 0 where
  pub at : ℕ
  pub below : at < n
  pub passes : p at ≡ true
  pub keyed : key at ≡ x

pub lowest_is : (p : ℕ → Bool) (key : ℕ → ℕ) (n : ℕ) → lowest p key n < 65536 → Hit p key n (lowest p key n)
lowest_is p key zero h = absurd (omega arith)
lowest_is p key (suc n) h = step (p n) (ltb (key n) (lowest p key n)) refl h (lowest_is p key n)
  where
    step : (t u : Bool) → p n ≡ t → cond (t && u) (key n) (lowest p key n) < 65536 → (lowest p key n < 65536 → Hit p key n (lowest p key n))
        → Hit p key (suc n) (cond (t && u) (key n) (lowest p key n))
    step true true e h r = record { at = n; below = omega arith; passes = e; keyed = refl }
    step true false e h r = let z = r h in record { at = z.at; below = omega arith; passes = z.passes; keyed = z.keyed }
    step false u e h r = let z = r h in record { at = z.at; below = omega arith; passes = z.passes; keyed = z.keyed }

pub lowest_le : (p : ℕ → Bool) (key : ℕ → ℕ) (n i : ℕ) → i < n → p i ≡ true → lowest p key n ≤ key i
lowest_le p key zero i h e = absurd (omega arith)
lowest_le p key (suc n) i h e = step (p n) (ltb (key n) (lowest p key n)) refl refl (ℕ_discrete i n) (lowest_le p key n i)
  where
    step : (t u : Bool) → p n ≡ t → ltb (key n) (lowest p key n) ≡ u → Dec (i ≡ n) → (i < n → p i ≡ true → lowest p key n ≤ key i)
        → cond (t && u) (key n) (lowest p key n) ≤ key i
    step true true a b (yes q) r = omega (arith, ap key q)
    step true true a b (no q) r = omega (arith, r (omega arith) e, ltb-true (key n) (lowest p key n) b)
    step true false a b (yes q) r = omega (arith, ap key q, ltb-false (key n) (lowest p key n) b)
    step true false a b (no q) r = r (omega arith) e
    step false u a b (yes q) r = contra (p i) e (ap p q ∙ a)
    step false u a b (no q) r = r (omega arith) e

pub record Found (p : ℕ → Bool) (n : ℕ) : Type 0 where
  pub at : ℕ
  pub below : at < n
  pub passes : p at ≡ true

pub any_e : (p : ℕ → Bool) (n : ℕ) → any p n ≡ true → Found p n
any_e p n h = let k = ltb-true (first p 0 n) n h in record { at = first p 0 n; below = k; passes = first_is p 0 n (omega arith) }

pub any_i : (p : ℕ → Bool) (n k : ℕ) → k < n → p k ≡ true → any p n ≡ true
any_i p n k u h = let z = first_hit p 0 n k (omega arith) (omega arith) h in lt-ltb (first p 0 n) n (omega arith)

-- nothing was found
pub none_passes : (p : ℕ → Bool) (n : ℕ) → n ≤ first p 0 n → (j : ℕ) → j < n → p j ≡ false
none_passes p n h j u = not_so (p j) (λ e. let k = first_hit p 0 n j (omega arith) (omega arith) e in omega arith)

pub any_none : (p : ℕ → Bool) (n : ℕ) → any p n ≡ false → (j : ℕ) → j < n → p j ≡ false
any_none p n h = none_passes p n (ltb-false (first p 0 n) n h)

pub none : (p : ℕ → Bool) (n : ℕ) → ((j : ℕ) → j < n → p j ≡ false) → n ≤ first p 0 n
none p n h = omega (arith, first_none p 0 n (λ j a b. h j (omega arith)))

pub any_no : (p : ℕ → Bool) (n : ℕ) → ((j : ℕ) → j < n → p j ≡ false) → any p n ≡ false
any_no p n h = le-ltb (first p 0 n) n (none p n h)

-- whether one of a, a + 1, .. b passes
abbrev pub any_from : (ℕ → Bool) → ℕ → ℕ → Bool
any_from p a b = any (λ k. p (a + k)) (suc b - a)

-- from a to b
pub from_i : (p : ℕ → Bool) (a b x : ℕ) → a ≤ x → x ≤ b → p x ≡ true → any_from p a b ≡ true
from_i p a b x u v h =
    let e : a + (x - a) ≡ x = omega arith in
    any_i (λ k. p (a + k)) (suc b - a) (x - a) (omega arith) (ap p e ∙ h)

pub from_e : (p : ℕ → Bool) (a b : ℕ) → any_from p a b ≡ true → (x : ℕ) × (a ≤ x) × (x ≤ b) × (p x ≡ true)
from_e p a b h =
    let z = any_e (λ k. p (a + k)) (suc b - a) h in
    (a + z.at, omega arith, omega (arith, z.below), z.passes)

-- the loop of `first`: what is left is the whole
pub first_next : (p : ℕ → Bool) (i n : ℕ) → i < n → p i ≡ false → first p (i + 1) (n - (i + 1)) ≡ first p i (n - i)
first_next p i n h e = let k : n - i ≡ suc (n - (i + 1)) = omega arith in rw (k, e, add-one)

pub first_found : (p : ℕ → Bool) (i n : ℕ) → i < n → p i ≡ true → i ≡ first p i (n - i)
first_found p i n h e = let k : n - i ≡ suc (n - (i + 1)) = omega arith in rw (k, e)

pub first_end : (p : ℕ → Bool) (i n : ℕ) → n ≤ i → i ≡ first p i (n - i)
first_end p i n h = let k : n - i ≡ 0 = omega arith in rw k

pub first_start : (p : ℕ → Bool) (n : ℕ) → first p 0 (n - 0) ≡ first p 0 n
first_start p n = let k : n - 0 ≡ n = omega arith in rw k

pub at_end : {A : Type 0} (F : ℕ → A) (i n : ℕ) (x : A) → i ≤ n → n ≤ i → x ≡ F i → x ≡ F n
at_end F i n x h k e = let d : i ≡ n = omega arith in e ∙ ap F d

-- the loop of `any`, which leaves nowhere: what is done
pub any_next : (p : ℕ → Bool) (i : ℕ) (t : Bool) → t ≡ any p i → (t || p i) ≡ any p (i + 1)
any_next p i t e = by_both (t || p i) (any p (i + 1)) to (λ h. from (any_e p (i + 1) h))
  where
    to : (t || p i) ≡ true → any p (i + 1) ≡ true
    to h = or_e t (p i) h (λ a. let z = any_e p i (sym e ∙ a) in any_i p (i + 1) z.at (omega (arith, z.below)) z.passes)
        (λ a. any_i p (i + 1) i (omega arith) a)

    from : Found p (i + 1) → (t || p i) ≡ true
    from z = split (ℕ_discrete z.at i)
      where
        split : Dec (z.at ≡ i) → (t || p i) ≡ true
        split (yes d) = or_r t (p i) (sym (ap p d) ∙ z.passes)
        split (no d) = or_l t (p i) (e ∙ any_i p i z.at (omega (arith, z.below)) z.passes)
