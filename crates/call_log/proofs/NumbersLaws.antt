-- Kind and result say what happened, and what happened has that kind and result.
use mathlib.Core.Path.{◌≡◌, refl, sym, ap, ◌∙◌}
use mathlib.Core.Bool.{Bool, true, false, ◌&&◌, false≢true}
use Prim.Native.Nat.{ℕ}
use borrow.Author.Tests.{eqb-true}
use lib.Dec.{eqb}
use Rattle.call_log.specs.declared.What.{What}
use Rattle.call_log.specs.declared.What.TheVariants.{Pushed, Full, BottomNode, BottomNil, TopNode, TopNil, TopLost}
use Rattle.call_log.specs.Numbers.{kind_of, result_of, what_of, same}

pub what_back : (w : What) → what_of (kind_of w) (result_of w) ≡ w
what_back Pushed = refl
what_back Full = refl
what_back BottomNode = refl
what_back BottomNil = refl
what_back TopNode = refl
what_back TopNil = refl
what_back TopLost = refl

pub same_refl : (w : What) → same w w ≡ true
same_refl Pushed = refl
same_refl Full = refl
same_refl BottomNode = refl
same_refl BottomNil = refl
same_refl TopNode = refl
same_refl TopNil = refl
same_refl TopLost = refl

pub same_of : (w x : What) → x ≡ w → same w x ≡ true
same_of w x h = ap (same w) h ∙ same_refl w

pub same_true : (a b : What) → same a b ≡ true → a ≡ b
same_true a b h = by_parts (eqb (kind_of a) (kind_of b)) refl h
  where
    by_parts : (s : Bool) → eqb (kind_of a) (kind_of b) ≡ s → (s && eqb (result_of a) (result_of b)) ≡ true → a ≡ b
    by_parts true k r =
        sym (what_back a) ∙ ap (λ (x : ℕ). what_of x (result_of a)) (eqb-true (kind_of a) (kind_of b) k)
        ∙ ap (λ (x : ℕ). what_of (kind_of b) x) (eqb-true (result_of a) (result_of b) r) ∙ what_back b
    by_parts false k r = absurd (false≢true r)
