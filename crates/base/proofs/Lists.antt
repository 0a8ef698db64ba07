-- Laws of what holds of all elements of a list and of all pairs, of membership, and of the first values of a function.
use Prim.Native.Nat.{ℕ, zero, suc, ◌+◌, ◌*◌, ◌≤◌, ◌<◌}
use mathlib.Core.Path.{◌≡◌, refl, sym, ap, ◌∙◌}
use mathlib.Core.List.{List, [], ◌∷◌, ◌++◌}
use mathlib.Core.Logic.{inl, inr}
use native.Mathlib.Nat.{mul-suc, mul-le-mul_left}
use native.Mathlib.Omega.{arith}
use lib.ListN.{get_or, length, take}
use lib.Seq.{take-length}
use Rattle.base.specs.Lists.{list_of, In, All, Pairs}

module _ {A : Type 0} where
  pub all_snoc : (P : A → Type 0) (l : List A) (a : A) → All P l → P a → All P (l ++ (a ∷ []))
  all_snoc P [] a h p = (p, tt)
  all_snoc P (x ∷ l) a h p = (h.0, all_snoc P l a h.1 p)

  pub all_map : (P Q : A → Type 0) → ((x : A) → P x → Q x) → (l : List A) → All P l → All Q l
  all_map P Q f [] h = tt
  all_map P Q f (x ∷ l) h = (f x h.0, all_map P Q f l h.1)

  pub all_in : (P : A → Type 0) (l : List A) → ((x : A) → In x l → P x) → All P l
  all_in P [] f = tt
  all_in P (x ∷ l) f = (f x (inl refl), all_in P l (λ y i. f y (inr i)))

  pub in_all : (P : A → Type 0) (l : List A) → All P l → (x : A) → In x l → P x
  in_all P [] h x i = absurd i
  in_all P (y ∷ l) h x (inl e) = rw e h.0
  in_all P (y ∷ l) h x (inr i) = in_all P l h.1 x i

  pub in_snoc : (l : List A) (a x : A) → In x l → In x (l ++ (a ∷ []))
  in_snoc [] a x i = absurd i
  in_snoc (y ∷ l) a x (inl e) = inl e
  in_snoc (y ∷ l) a x (inr i) = inr (in_snoc l a x i)

  pub in_last : (l : List A) (a : A) → In a (l ++ (a ∷ []))
  in_last [] a = inl refl
  in_last (y ∷ l) a = inr (in_last l a)

  pub pairs_snoc : (R : A → A → Type 0) (l : List A) (a : A) → Pairs R l → All (λ x. R x a) l → Pairs R (l ++ (a ∷ []))
  pairs_snoc R [] a h p = (tt, tt)
  pairs_snoc R (x ∷ l) a h p = (all_snoc (R x) l a h.0 p.0, pairs_snoc R l a h.1 p.1)

  -- by places
  pub all_at : (P : A → Type 0) (d : A) (l : List A) → All P l → (i : ℕ) → i < length l → P (get_or l i d)
  all_at P d [] h i lt = absurd (omega arith)
  all_at P d (x ∷ l) h zero lt = h.0
  all_at P d (x ∷ l) h (suc i) lt = all_at P d l h.1 i (omega arith)

  pub pairs_at : (R : A → A → Type 0) (d : A) (l : List A) → Pairs R l → (i j : ℕ) → i < j → j < length l → R (get_or l i d) (get_or l j d)
  pairs_at R d [] h i j lt below = absurd (omega arith)
  pairs_at R d (x ∷ l) h i zero lt below = absurd (omega arith)
  pairs_at R d (x ∷ l) h zero (suc j) lt below = all_at (R x) d l h.0 j (omega arith)
  pairs_at R d (x ∷ l) h (suc i) (suc j) lt below = pairs_at R d l h.1 i j (omega arith) (omega arith)

  pub in_at : (d : A) (l : List A) (x : A) → In x l → (i : ℕ) × (i < length l) × (get_or l i d ≡ x)
  in_at d [] x i = absurd i
  in_at d (y ∷ l) x (inl e) = (0, omega arith, sym e)
  in_at d (y ∷ l) x (inr i) = let k = in_at d l x i in (suc k.0, omega (arith, k.1), k.2)

  -- the first n values
  pub list_of-length : (n : ℕ) (f : ℕ → A) → length (list_of n f) ≡ n
  list_of-length zero f = refl
  list_of-length (suc n) f = ap suc (list_of-length n (λ i. f (suc i)))

  pub list_of_get_d : (n : ℕ) (f : ℕ → A) (d : A) (i : ℕ) → i < n → get_or (list_of n f) i d ≡ f i
  list_of_get_d zero f d i h = absurd (omega arith)
  list_of_get_d (suc n) f d zero h = refl
  list_of_get_d (suc n) f d (suc i) h = list_of_get_d n (λ j. f (suc j)) d i (omega arith)

  pub list_of-take : (d : A) (n : ℕ) (xs : List A) → n ≤ length xs → list_of n (λ i. get_or xs i d) ≡ take n xs
  list_of-take d zero xs h = refl
  list_of-take d (suc n) [] h = absurd (omega arith)
  list_of-take d (suc n) (x ∷ xs) h = ap (λ (l : List A). x ∷ l) (list_of-take d n xs (omega arith))

  pub list_of_all : (d : A) (xs : List A) → list_of (length xs) (λ i. get_or xs i d) ≡ xs
  list_of_all d xs = list_of-take d (length xs) xs (omega arith) ∙ take-length xs

-- rows of so many places each, one after the other
pub rows_apart : (width i k : ℕ) → i < k → width * i + width ≤ width * k
rows_apart width i k h = omega (arith, mul-suc width i, mul-le-mul_left {m = suc i} {n = k} width (omega arith))
