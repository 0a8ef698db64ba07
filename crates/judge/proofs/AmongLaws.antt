-- Whether a node is among the first of a list, told by a fold over them.
use mathlib.Core.Path.{◌≡◌, refl, sym, ap, ◌∙◌}
use mathlib.Core.Bool.{Bool, true, false, ◌||◌}
use mathlib.Core.List.{List, [], ◌∷◌}
use Prim.Native.Nat.{ℕ, zero, suc, ◌≤◌, ◌<◌}
use native.Mathlib.Omega.{arith}
use lib.Dec.{eqb}
use lib.ListN.{length, get_or, take}
use lib.Seq.{length-take-le, get_or-take}
use Rattle.std.specs.List.{fold}
use Rattle.base.proofs.Bools.{contra, or_l, or_r, by_both}
use Rattle.rules.specs.Search.{any}
use Rattle.rules.proofs.SearchLaws.{Found, any_i, any_e}

module _ (v : ℕ) where
  abbrev pub among : Bool → List ℕ → Bool
  among hit l = fold (λ hit x. hit || eqb x v) hit l

  abbrev is : List ℕ → ℕ → Bool
  is l i = eqb (get_or l i 0) v

  stays : (l : List ℕ) (hit : Bool) → hit ≡ true → among hit l ≡ true
  stays [] hit h = h
  stays (x ∷ l) hit h = stays l (hit || eqb x v) (or_l hit (eqb x v) h)

  hits : (l : List ℕ) (hit : Bool) (i : ℕ) → i < length l → is l i ≡ true → among hit l ≡ true
  hits [] hit i u h = absurd (omega arith)
  hits (x ∷ l) hit zero u h = stays l (hit || eqb x v) (or_r hit (eqb x v) h)
  hits (x ∷ l) hit (suc i) u h = hits l (hit || eqb x v) i (omega arith) h

  hit_by : (l : List ℕ) (hit : Bool) → hit ≡ false → among hit l ≡ true → Found (is l) (length l)
  hit_by [] hit e h = contra hit h e
  hit_by (x ∷ l) true e h = contra true refl e
  hit_by (x ∷ l) false e h = by (eqb x v) refl (λ d. hit_by l (eqb x v) d h)
    where
      by : (t : Bool) → eqb x v ≡ t → (eqb x v ≡ false → Found (is l) (length l)) → Found (is (x ∷ l)) (suc (length l))
      by true d later = record { at = zero; below = omega arith; passes = d }
      by false d later = let z = later d in record { at = suc z.at; below = omega (arith, z.below); passes = z.passes }

  -- of those in front
  pub among_front : (nodes : List ℕ) (count : ℕ) → count ≤ length nodes → among false (take count nodes) ≡ any (is nodes) count
  among_front nodes count room = by_both _ _
      (λ h. let z = hit_by (take count nodes) false refl h in
      let u : z.at < count = omega (arith, z.below, length-take-le count nodes room) in
      any_i (is nodes) count z.at u (ap (λ (x : ℕ). eqb x v) (sym (get_or-take count nodes z.at 0 u)) ∙ z.passes))
      (λ h. let z = any_e (is nodes) count h in
      hits (take count nodes) false z.at (omega (arith, z.below, length-take-le count nodes room))
      (ap (λ (x : ℕ). eqb x v) (get_or-take count nodes z.at 0 z.below) ∙ z.passes))
