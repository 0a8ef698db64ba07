-- Laws of the chains of tests, as the code goes through them.
use mathlib.Core.Path.{◌≡◌, refl, sym, ap, ◌∙◌}
use mathlib.Core.Bool.{Bool, ◌||◌, or-false, or_assoc}
use mathlib.Core.List.{List, [], ◌∷◌}
use Prim.Native.Nat.{ℕ, zero, suc, ◌+◌, ◌<◌}
use native.Mathlib.Numerals.{add-one}
use native.Mathlib.Omega.{arith}
use native.Mathlib.Decide.{dec_lt}
use lib.Dec.{leb}
use Rattle.std.specs.List.{fold}
use Rattle.base.specs.Lists.{list_of}
use Rattle.runfile.specs.Check.{◌then◌, any, first_of}
use Rattle.runfile.proofs.CheckLaws.{then_on}

pub then_stop : (a b : ℕ) → (a ≡ 0 → ⊥) → (a then b) ≡ a
then_stop zero b h = absurd (h refl)
then_stop (suc a) b h = refl

-- a program's steps through a chain: it stops at a number, or goes on
pub stops : (r a b : ℕ) → r ≡ a → (r ≡ 0 → ⊥) → r ≡ (a then b)
stops r a b e h = e ∙ sym (then_stop a b (λ z. h (e ∙ z)))

pub goes_on : (r x a b : ℕ) → r ≡ a → r ≡ 0 → x ≡ b → x ≡ (a then b)
goes_on r x a b e z d = d ∙ sym (then_on a b (sym e ∙ z))

-- the first of n numbers
module _ (f : ℕ → ℕ) where
  pub first_next : (i : ℕ) → first_of f i ≡ 0 → f i ≡ 0 → first_of f (i + 1) ≡ 0
  first_next i h e = rw (add-one, h, e)

  pub first_found : (i n : ℕ) → i < n → first_of f i ≡ 0 → (f i ≡ 0 → ⊥) → first_of f n ≡ f i
  first_found i zero lt h e = absurd (omega arith)
  first_found i (suc n) lt h e = split (dec_lt i n) (first_found i n)
    where
      split : Dec (i < n) → (i < n → first_of f i ≡ 0 → (f i ≡ 0 → ⊥) → first_of f n ≡ f i) → (first_of f n then f n) ≡ f i
      split (yes q) more = let k : first_of f n ≡ f i = more q h e in rw k (then_stop (f i) (f n) e)
      split (no q) more = let k : i ≡ n = omega arith in rw (← k, h)

-- whether one of some numbers is the limit or more, asked of each
pub fold_any : (limit : ℕ) (l : List ℕ) (hit : Bool) → fold (λ (t : Bool) (x : ℕ). t || leb limit x) hit l ≡ (hit || any (leb limit) l)
fold_any limit [] hit = sym (or-false hit)
fold_any limit (x ∷ l) hit = fold_any limit l (hit || leb limit x) ∙ or_assoc hit (leb limit x) (any (leb limit) l)

-- one value more
pub any_more : {A : Type 0} (p : A → Bool) (f : ℕ → A) (n : ℕ) → any p (list_of (n + 1) f) ≡ (any p (list_of n f) || p (f n))
any_more {A = A} p f n = rw add-one (go f n)
  where
    go : (f : ℕ → A) (n : ℕ) → any p (list_of (suc n) f) ≡ (any p (list_of n f) || p (f n))
    go f zero = or-false (p (f 0))
    go f (suc n) = ap (λ (t : Bool). p (f 0) || t) (go (λ i. f (suc i)) n) ∙ sym (or_assoc (p (f 0)) _ _)
