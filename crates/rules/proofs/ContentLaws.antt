-- The contents between calls and at a call, and what a removal of the topmost node is.
use mathlib.Core.Path.{◌≡◌, refl, ◌∙◌}
use mathlib.Core.Bool.{true, false}
use mathlib.Core.Logic.{◌⊎◌, inl, inr}
use mathlib.Core.List.{List, [], ◌∷◌}
use Prim.Native.Nat.{ℕ, zero, suc, ◌+◌, ◌≤◌, ◌<◌}
use native.Mathlib.Omega.{arith}
use borrow.Author.Tests.{lt-ltb, le-ltb, eqb-true}
use lib.ListN.{length}
use Rattle.call_log.specs.declared.Entry.{Entry}
use Rattle.call_log.specs.declared.What.{What}
use Rattle.call_log.specs.declared.What.TheVariants.{Pushed, Full, BottomNode, BottomNil, TopNode, TopNil, TopLost}
use Rattle.call_log.specs.Numbers.{what}
use Rattle.rules.specs.Contents.{happens, event_at, before, applied, drop_last}
use Rattle.rules.specs.Rules.{is_empty, takes_topmost}
use Rattle.base.proofs.Bools.{contra}
use Rattle.rules.proofs.SearchLaws.{first_none}

module _ (f : ℕ → Entry) (n q : ℕ) where
  pub before_quiet : (x : ℕ) → ((i : ℕ) → i < n → happens q x (f i) ≡ false) → before f n q (suc x) ≡ before f n q x
  unfolding before
  before_quiet x h =
      let e : event_at f n q x ≡ n = omega (arith, first_none (λ i. happens q x (f i)) 0 n (λ j a b. h j (omega arith))) in
      rw (e, le-ltb n n (omega arith))

  pub before_still : (m k : ℕ) → ((x : ℕ) → m ≤ x → x < m + k → (i : ℕ) → i < n → happens q x (f i) ≡ false) → before f n q (m + k) ≡ before f n q m
  before_still m zero h = let e : m + 0 ≡ m = omega arith in rw e
  before_still m (suc k) h =
      let e : m + suc k ≡ suc (m + k) = omega arith in
      rw e (before_quiet (m + k) (h (m + k) (omega arith) (omega arith)) ∙ before_still m k (λ x a b. h x a (omega arith)))

  pub before_event : (x : ℕ) → event_at f n q x < n → before f n q (suc x) ≡ applied (what (f (event_at f n q x))) (f (event_at f n q x)).node
      (before f n q x)
  unfolding before
  before_event x h = rw (lt-ltb (event_at f n q x) n h)

  pub before_start : before f n q 0 ≡ []
  unfolding before
  before_start = refl

pub topmost : (w : What) (c : List ℕ) → takes_topmost w c ≡ true → (w ≡ TopNode) ⊎ ((w ≡ BottomNode) × (length c ≡ 1))
topmost Pushed c h = contra false h refl
topmost Full c h = contra false h refl
topmost BottomNode c h = inr (refl, eqb-true (length c) 1 h)
topmost BottomNil c h = contra false h refl
topmost TopNode c h = inl refl
topmost TopNil c h = contra false h refl
topmost TopLost c h = contra false h refl

pub last_one : (c : List ℕ) → length c ≡ 1 → is_empty (drop_last c) ≡ true
last_one [] h = absurd (omega arith)
last_one (x ∷ []) h = refl
last_one (x ∷ y ∷ c) h = absurd (omega arith)
