-- What a call did, by its kind and result alone. No proof cites this law; docs/notes/C-15.md speaks of it.
use Prim.Native.Nat.{ℕ}
use mathlib.Core.Path.{◌≡◌, refl, sym, ◌∙◌}
use mathlib.Core.Bool.{Bool, true, false, cond}
use native.Mathlib.Omega.{arith}
use borrow.Author.Tests.{eqb-true}
use lib.Dec.{eqb}
use Rattle.call_log.specs.Numbers.{push, bottom_pop, done, lost}
use Rattle.call_log.specs.declared.What.{What}
use Rattle.call_log.specs.declared.What.TheVariants.{Pushed, Full, BottomNode, BottomNil, TopNode, TopNil, TopLost}

-- `what_of` of four tests: whether the kind is a push, whether a bottom pop, whether the result is done, and whether it is a lost race
abbrev did : Bool → Bool → Bool → Bool → What
did t u v x = cond t (cond v Pushed Full) (cond u (cond v BottomNode BottomNil) (cond v TopNode (cond x TopLost TopNil)))

-- where a test a of the first three agrees with a test b of what was done
abbrev At : (a : Bool → Bool → Bool → Bool) (b : What → Bool) → Bool → Bool → Bool → Bool → Type 0
At a b t u v x = a t u v ≡ b (did t u v x)

-- they agree on every kind and result if on the seven answers that the tests can give: no kind is both a push and a bottom pop
pub by_tests : (a : Bool → Bool → Bool → Bool) (b : What → Bool) → (a true false true ≡ b Pushed) × (a true false false ≡ b Full)
    × (a false true true ≡ b BottomNode) × (a false true false ≡ b BottomNil) × (a false false true ≡ b TopNode) × (a false false false ≡ b TopNil)
    × (a false false false ≡ b TopLost) → (k r : ℕ) → At a b (eqb k push) (eqb k bottom_pop) (eqb r done) (eqb r lost)
by_tests a b h k r = split (eqb k push) (eqb k bottom_pop) (eqb r done) (eqb r lost) refl refl
  where
    split : (t u v x : Bool) → eqb k push ≡ t → eqb k bottom_pop ≡ u → At a b t u v x
    split true true v x e d = absurd (let z : ◌≡◌ {A = ℕ} push bottom_pop = sym (eqb-true k push e) ∙ eqb-true k bottom_pop d in omega arith)
    split true false true x e d = h.0
    split true false false x e d = h.1
    split false true true x e d = h.2
    split false true false x e d = h.3
    split false false true x e d = h.4
    split false false false false e d = h.5
    split false false false true e d = h.6
