-- A table of marks goes through a log: which nodes were pushed, and that no two pushes were of one.
use mathlib.Core.Path.{◌≡◌, refl, sym, ap, ◌∙◌}
use mathlib.Core.Bool.{Bool, true, false, ◌&&◌, ◌||◌, or-false}
use mathlib.Core.List.{List}
use Prim.Native.Nat.{ℕ, ◌+◌, ◌/◌, ◌<◌}
use native.Mathlib.Decide.{ℕ_discrete}
use native.Mathlib.Omega.{arith}
use borrow.Author.Tests.{eq-eqb, ne_eqb}
use lib.Dec.{eqb}
use lib.ListN.{length, length-set, replicate, length-replicate}
use Rattle.base.proofs.Bools.{contra, and_i}
use Rattle.call_log.specs.declared.Entry.{Entry}
use Rattle.call_log.specs.declared.What.TheVariants.{Pushed}
use Rattle.call_log.specs.Numbers.{what, same}
use Rattle.rules.specs.Search.{any}
use Rattle.rules.proofs.SearchLaws.{any_i, any_next}
use Rattle.marks.specs.Inner.Marks.{mark_bytes, marked, with_mark}
use Rattle.marks.proofs.MarkLaws.{mark_own, mark_other, none_marked}
use Rattle.judge.specs.Inner.Replay.{Differ}

-- entry x pushed v
abbrev pushes : (ℕ → Entry) → ℕ → ℕ → Bool
pushes f v x = same Pushed (what (f x)) && eqb (f x).node v

-- exactly the nodes that the first i entries pushed are marked, and they differ
pub record Marked (f : ℕ → Entry) (i : ℕ) (marks : List ℕ) : Type 0 where
  pub size : length marks ≡ mark_bytes
  pub nodes : (v : ℕ) → v < 65536 → marked marks v ≡ any (pushes f v) i
  pub differ : Differ f i

pub marked_start : (f : ℕ → Entry) → Marked f 0 (replicate mark_bytes 0)
marked_start f = record { size = length-replicate {A = ℕ} mark_bytes 0; nodes = none_marked; differ = λ x y u v. absurd (omega arith) }

module _ (f : ℕ → Entry) (i : ℕ) (marks : List ℕ) (s : Marked f i marks) where
  -- past an entry that pushed no node
  pub marked_other : same Pushed (what (f i)) ≡ false → Marked f (i + 1) marks
  marked_other e = record {
    size = s.size;
    nodes = λ v u. s.nodes v u ∙ sym (or-false (any (pushes f v) i)) ∙ ap (λ (t : Bool). any (pushes f v) i || t && eqb (f i).node v) (sym e)
        ∙ any_next (pushes f v) i (any (pushes f v) i) refl;
    differ = λ x y u v p q g. split x y u v p q g (ℕ_discrete x i) (ℕ_discrete y i);
  }
    where
      split : (x y : ℕ) → x < i + 1 → y < i + 1 → same Pushed (what (f x)) ≡ true → same Pushed (what (f y)) ≡ true → (f x).node ≡ (f y).node
          → Dec (x ≡ i) → Dec (y ≡ i) → x ≡ y
      split x y u v p q g (yes a) b = contra (same Pushed (what (f x))) p (ap (λ (k : ℕ). same Pushed (what (f k))) a ∙ e)
      split x y u v p q g (no a) (yes b) = contra (same Pushed (what (f y))) q (ap (λ (k : ℕ). same Pushed (what (f k))) b ∙ e)
      split x y u v p q g (no a) (no b) = s.differ x y (omega arith) (omega arith) p q g

  -- past one that pushed a node, which was not marked
  module _ (below : (f i).node < 65536) (push : same Pushed (what (f i)) ≡ true) (new : marked marks (f i).node ≡ false) where
    inside : (f i).node / 8 < length marks
    inside = omega (arith, s.size)

    by_node : (v : ℕ) → v < 65536 → Dec (v ≡ (f i).node) → marked (with_mark marks (f i).node) v ≡ any (pushes f v) (i + 1)
    by_node v u (yes e) =
        rw (e, mark_own marks (f i).node inside)
        (sym (any_i (pushes f (f i).node) (i + 1) i (omega arith) (and_i push (eq-eqb (f i).node (f i).node refl))))
    by_node v u (no e) =
        mark_other marks (f i).node v inside e ∙ s.nodes v u ∙ sym (or-false (any (pushes f v) i))
        ∙ ap (λ (t : Bool). any (pushes f v) i || t) (sym (rw (push, ne_eqb (f i).node v (λ g. e (sym g)))))
        ∙ any_next (pushes f v) i (any (pushes f v) i) refl

    fresh : (x : ℕ) → x < i → same Pushed (what (f x)) ≡ true → (f x).node ≡ (f i).node → ⊥
    fresh x u p g = contra (any (pushes f (f i).node) i) (any_i (pushes f (f i).node) i x u (and_i p (eq-eqb (f x).node (f i).node g)))
        (sym (s.nodes (f i).node below) ∙ new)

    split : (x y : ℕ) → x < i + 1 → y < i + 1 → same Pushed (what (f x)) ≡ true → same Pushed (what (f y)) ≡ true → (f x).node ≡ (f y).node
        → Dec (x ≡ i) → Dec (y ≡ i) → x ≡ y
    split x y u v p q g (yes a) (yes b) = a ∙ sym b
    split x y u v p q g (yes a) (no b) = absurd (fresh y (omega arith) q (sym g ∙ ap (λ (k : ℕ). (f k).node) a))
    split x y u v p q g (no a) (yes b) = absurd (fresh x (omega arith) p (g ∙ ap (λ (k : ℕ). (f k).node) b))
    split x y u v p q g (no a) (no b) = s.differ x y (omega arith) (omega arith) p q g

    pub marked_push : Marked f (i + 1) (with_mark marks (f i).node)
    marked_push = record {
      size = length-set marks ((f i).node / 8) _ ∙ s.size;
      nodes = λ v u. by_node v u (ℕ_discrete v (f i).node);
      differ = λ x y u v p q g. split x y u v p q g (ℕ_discrete x i) (ℕ_discrete y i);
    }
