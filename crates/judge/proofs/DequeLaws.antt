-- A part of an array as a queue: what a push and the two pops make of it, and its ends.
use mathlib.Core.Path.{◌≡◌, refl, sym, ap, ◌∙◌}
use mathlib.Core.Bool.{false}
use mathlib.Core.List.{List, [], ◌∷◌, ◌++◌}
use Prim.Native.Nat.{ℕ, suc, ◌+◌, ◌-◌, ◌≤◌, ◌<◌}
use native.Mathlib.Numerals.{add-one}
use native.Mathlib.Omega.{arith}
use native.Mathlib.Decide.{dec_lt}
use borrow.Author.Tests.{le-leb, lt-leb}
use lib.Dec.{eqb, leb}
use lib.ListN.{length, get_or, take, drop, set, length-take, drop_of_length-le}
use lib.Seq.{slice, slice-cons, take-suc, take-suc-set, drop-append-le, length-take-le}
use Rattle.rules.specs.Contents.{drop_last, drop_first}
use Rattle.rules.specs.Rules.{bottom_is, is_empty}

drop_last_snoc : (c : List ℕ) (x : ℕ) → drop_last (c ++ (x ∷ [])) ≡ c
drop_last_snoc [] x = refl
drop_last_snoc (y ∷ []) x = refl
drop_last_snoc (y ∷ z ∷ c) x = ap (λ (d : List ℕ). y ∷ d) (drop_last_snoc (z ∷ c) x)

bottom_is_snoc : (v : ℕ) (c : List ℕ) (x : ℕ) → bottom_is v (c ++ (x ∷ [])) ≡ eqb x v
bottom_is_snoc v [] x = refl
bottom_is_snoc v (y ∷ []) x = refl
bottom_is_snoc v (y ∷ z ∷ c) x = bottom_is_snoc v (z ∷ c) x

snoc_full : (c : List ℕ) (x : ℕ) → is_empty (c ++ (x ∷ [])) ≡ false
snoc_full [] x = refl
snoc_full (y ∷ c) x = refl

module _ (l : List ℕ) (lo hi : ℕ) where
  pub content_push : (x : ℕ) → lo ≤ hi → hi < length l → slice lo (hi + 1) (set l hi x) ≡ slice lo hi l ++ (x ∷ [])
  content_push x h k =
      let e : length (take hi l) ≡ hi = length-take-le hi l (omega arith) in
      let m : lo ≤ length (take hi l) = omega arith in
      rw (add-one, take-suc-set l hi x k) (drop-append-le lo (take hi l) (x ∷ []) m)

  pub content_none : hi ≤ lo → slice lo hi l ≡ []
  content_none h = let k : length (take hi l) ≤ lo = omega (arith, length-take hi l) in drop_of_length-le (take hi l) k

  pub content_split : lo < hi → hi ≤ length l → slice lo hi l ≡ slice lo (hi - 1) l ++ (get_or l (hi - 1) 0 ∷ [])
  content_split h k =
      let s : hi ≡ suc (hi - 1) = omega arith in
      let t : hi - 1 < length l = omega arith in
      let e : length (take (hi - 1) l) ≡ hi - 1 = length-take-le (hi - 1) l (omega arith) in
      let m : lo ≤ length (take (hi - 1) l) = omega arith in
      ap (λ (n : ℕ). slice lo n l) s ∙ ap (λ (xs : List ℕ). drop lo xs) (take-suc l (hi - 1) 0 t)
      ∙ drop-append-le lo (take (hi - 1) l) (get_or l (hi - 1) 0 ∷ []) m

  pub content_bottom : lo < hi → hi ≤ length l → slice lo (hi - 1) l ≡ drop_last (slice lo hi l)
  content_bottom h k = sym (ap drop_last (content_split h k) ∙ drop_last_snoc (slice lo (hi - 1) l) (get_or l (hi - 1) 0))

  pub content_last : (v : ℕ) → lo < hi → hi ≤ length l → eqb (get_or l (hi - 1) 0) v ≡ bottom_is v (slice lo hi l)
  content_last v h k = sym (ap (bottom_is v) (content_split h k) ∙ bottom_is_snoc v (slice lo (hi - 1) l) (get_or l (hi - 1) 0))

  pub content_full : lo < hi → hi ≤ length l → is_empty (slice lo hi l) ≡ false
  content_full h k = ap is_empty (content_split h k) ∙ snoc_full (slice lo (hi - 1) l) (get_or l (hi - 1) 0)

  pub content_top : lo < hi → hi ≤ length l → slice (lo + 1) hi l ≡ drop_first (slice lo hi l)
  content_top h k = rw (add-one, slice-cons lo hi l 0 h k)

  pub content_empty : hi ≤ length l → leb hi lo ≡ is_empty (slice lo hi l)
  content_empty h = split (dec_lt lo hi)
    where
      split : Dec (lo < hi) → leb hi lo ≡ is_empty (slice lo hi l)
      split (yes p) = lt-leb hi lo p ∙ sym (content_full p h)
      split (no p) = let k : hi ≤ lo = omega arith in le-leb hi lo k ∙ sym (ap is_empty (content_none k))

  -- nothing is taken from an empty queue
  pub none_bottom : hi ≤ lo → slice lo hi l ≡ drop_last (slice lo hi l)
  none_bottom h = rw (content_none h)

  pub none_top : hi ≤ lo → slice lo hi l ≡ drop_first (slice lo hi l)
  none_top h = rw (content_none h)
