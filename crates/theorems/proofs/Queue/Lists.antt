-- The ends of a list of nodes, and the slots from one index up to another.
use Prim.Native.Nat.{ℕ, zero, suc, ◌+◌, ◌≤◌, ◌<◌}
use mathlib.Core.Path.{◌≡◌, refl, ap, ◌∙◌}
use mathlib.Core.List.{List, [], ◌∷◌, ◌++◌}
use native.Mathlib.Omega.{arith}
use native.Mathlib.Numerals.{add-one}
use lib.ListN.{get_or, length, take}
use lib.Seq.{slice, drop-nil, slice_empty, take-suc, drop-append-le, length-take-le}
use Rattle.rules.specs.Contents.{drop_last}

pub drop_last_lem : (c : List ℕ) (x : ℕ) → drop_last (c ++ (x ∷ [])) ≡ c
drop_last_lem [] x = refl
drop_last_lem (y ∷ []) x = refl
drop_last_lem (y ∷ z ∷ c) x = ap (λ d. y ∷ d) (drop_last_lem (z ∷ c) x)

-- the nodes of slots f up to t: none, one more at the bottom, just one
pub slice_none : (f t : ℕ) (l : List ℕ) → t ≤ f → slice f t l ≡ []
slice_none f zero l h = drop-nil f
slice_none zero (suc t) l h = absurd (omega arith)
slice_none (suc f) (suc t) [] h = refl
slice_none (suc f) (suc t) (x ∷ l) h = slice_none f t l (omega arith)

pub slice_snoc : (f t : ℕ) (l : List ℕ) → f ≤ t → t < length l → slice f (suc t) l ≡ slice f t l ++ (get_or l t 0 ∷ [])
slice_snoc f t l h k =
    let len : length (take t l) ≡ t = length-take-le t l (omega arith) in
    rw (take-suc l t 0 k, drop-append-le f (take t l) (get_or l t 0 ∷ []) (omega arith))

pub one_node : (t b : ℕ) (l : List ℕ) → b ≡ t + 1 → t < length l → slice t b l ≡ get_or l t 0 ∷ []
one_node t b l e h = rw (e, add-one) (slice_snoc t t l (omega arith) h ∙ rw (slice_empty t l))
