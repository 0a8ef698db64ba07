-- A fact of a choice from the fact of each way, and of a list after a store.
use Prim.Native.Nat.{ℕ, ◌<◌, ◌≤◌}
use mathlib.Core.Path.{◌≡◌, refl}
use mathlib.Core.Bool.{Bool, true, false, cond, false≢true, true≢false}
use mathlib.Core.List.{List}
use native.Mathlib.Decide.{ℕ_discrete}
use borrow.Author.Tests.{ltb-true, ltb-false, leb-true, leb-false, eqb-true, eqb-false}
use lib.Dec.{ltb, leb, eqb}
use lib.ListN.{length, get_or, set}
use lib.Seq.{get_or-set_same, get_or-set_other}

-- both are never at once
pub never : {A : Type 0} → false ≡ true → A
never e = absurd (false≢true e)

pub ever : {A : Type 0} → true ≡ false → A
ever e = absurd (true≢false e)

-- what holds on both ways of a test holds of what it gives
pub either_way : {A : Type 0} (P : A → Type 0) (t : Bool) {x y : A} → (t ≡ true → P x) → (t ≡ false → P y) → P (cond t x y)
either_way P true f g = f refl
either_way P false f g = g refl

module _ {A : Type 0} (P : A → Type 0) where
  pub if_eq : (a b : ℕ) {x y : A} → (a ≡ b → P x) → ((a ≡ b → ⊥) → P y) → P (cond (eqb a b) x y)
  if_eq a b f g = either_way P (eqb a b) (λ e. f (eqb-true a b e)) (λ e. g (eqb-false a b e))

  pub if_lt : (a b : ℕ) {x y : A} → (a < b → P x) → (b ≤ a → P y) → P (cond (ltb a b) x y)
  if_lt a b f g = either_way P (ltb a b) (λ e. f (ltb-true a b e)) (λ e. g (ltb-false a b e))

  pub if_le : (a b : ℕ) {x y : A} → (a ≤ b → P x) → (b < a → P y) → P (cond (leb a b) x y)
  if_le a b f g = either_way P (leb a b) (λ e. f (leb-true a b e)) (λ e. g (leb-false a b e))

  -- a list after a store
  pub if_set : (l : List A) (i j : ℕ) (a d : A) → i < length l → (j ≡ i → P a) → ((j ≡ i → ⊥) → P (get_or l j d)) → P (get_or (set l i a) j d)
  if_set l i j a d h f g = split (ℕ_discrete j i)
    where
      split : Dec (j ≡ i) → P (get_or (set l i a) j d)
      split (yes e) = rw (e, get_or-set_same l i a d h) (f e)
      split (no e) = rw (get_or-set_other l i j a d e) (g e)
