-- A fact of a comparison of ages, from the fact of each way; and a fact of a top pop with NIL, from the fact of both cases.
use Prim.Native.Nat.{ℕ}
use mathlib.Core.Path.{◌≡◌, refl}
use mathlib.Core.Bool.{Bool, true, false, cond, ◌&&◌}
use lib.Dec.{eqb}
use borrow.Author.Tests.{eqb-true, eqb-false}
use Rattle.base.proofs.Cases.{never}
use Rattle.call_log.specs.Numbers.{is_top_nil}
use Rattle.call_log.specs.declared.What.{What}
use Rattle.call_log.specs.declared.What.TheVariants.{Pushed, Full, BottomNode, BottomNil, TopNode, TopNil, TopLost}
use Rattle.steps.specs.Step.{same_age}
use Rattle.word.specs.declared.Word.{Word}

module _ {A : Type 0} (P : A → Type 0) where
  -- age is still (t, g), or it is not
  pub if_age : (w : Word) (t g : ℕ) {x y : A} → (w.top ≡ t → w.tag ≡ g → P x) → ((w.top ≡ t → w.tag ≡ g → ⊥) → P y) → P (cond (same_age w t g) x y)
  if_age w t g {x} {y} f h = by (eqb w.top t) refl (eqb w.tag g) refl
    where
      by : (a : Bool) → eqb w.top t ≡ a → (b : Bool) → eqb w.tag g ≡ b → P (cond (a && b) x y)
      by true d true e = f (eqb-true w.top t d) (eqb-true w.tag g e)
      by true d false e = h (λ i. eqb-false w.tag g e)
      by false d b e = h (λ i j. eqb-false w.top t d i)

pub top_nil_lem : (P : What → Type 0) → P TopNil → P TopLost → (w : What) → is_top_nil w ≡ true → P w
top_nil_lem P a b Pushed h = never h
top_nil_lem P a b Full h = never h
top_nil_lem P a b BottomNode h = never h
top_nil_lem P a b BottomNil h = never h
top_nil_lem P a b TopNode h = never h
top_nil_lem P a b TopNil h = a
top_nil_lem P a b TopLost h = b
