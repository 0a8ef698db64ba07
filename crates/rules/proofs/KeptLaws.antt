-- What it says that no entry breaks rule 1, 2, 3 or 4.
use mathlib.Core.Path.{◌≡◌, sym, ap, ◌∙◌}
use mathlib.Core.Bool.{Bool, true, ◌&&◌, not}
use Prim.Native.Nat.{ℕ, ◌≤◌, ◌<◌}
use native.Mathlib.Omega.{arith}
use native.Mathlib.Decide.{dec_lt}
use borrow.Author.Tests.{eq-eqb}
use Rattle.call_log.specs.declared.Entry.{Entry}
use Rattle.rules.specs.Search.{any}
use Rattle.rules.specs.Contents.{bears}
use Rattle.rules.specs.Rules.{keeps1, breaks1, clash, breaks2, moment_right, bears_at, breaks3}
use Rattle.rules.specs.Judge.{first1, first2, first3}
use Rattle.rules.specs.Accepted.{Rule1, Rule2, Rule3}
use Rattle.base.proofs.Bools.{contra, and_i, or_0, or_1, not_f}
use Rattle.rules.proofs.SearchLaws.{none_passes, any_none}
use Rattle.rules.proofs.FieldLaws.{fields, order, moment}

-- moments that are borne differ
abbrev pub Distinct : (ℕ → Entry) → ℕ → Type 0
Distinct f n = (i j : ℕ) → i < n → j < n → bears (f i) ≡ true → bears (f j) ≡ true → (f i).moment ≡ (f j).moment → i ≡ j

module _ (f : ℕ → Entry) (n : ℕ) where
  pub fields_of : (P : ℕ) → n ≤ first1 f n P → (j : ℕ) → j < n → Rule1 P (f j)
  fields_of P h j u = fields P (f j) (not_f (keeps1 P (f j)) (none_passes (breaks1 f P) n h j u))

  -- in a log of at most 8 processes
  pub fields_to : (P : ℕ) → P ≤ 8 → n ≤ first1 f n P → (j : ℕ) → j < n → Rule1 8 (f j)
  fields_to P small h j u =
      let r = fields_of P h j u in
      record {
        process = omega (arith, r.process);
        queue = omega (arith, r.queue);
        kind = r.kind;
        result = r.result;
        own = r.own;
        full_push = r.full_push;
        nil_pop = r.nil_pop;
        lost_top = r.lost_top;
        node = r.node;
        start = r.start;
        end = r.end;
      }

  pub order_of : n ≤ first2 f n → (i j : ℕ) → i < j → j < n → Rule2 (f i) (f j)
  order_of h i j u v = order (f i) (f j) (any_none (λ i. clash (f i) (f j)) j (none_passes (breaks2 f) n h j v) i u)

  pub moments_of : n ≤ first3 f n → (j : ℕ) → j < n → Rule3 (f j)
  moments_of h j u =
      moment (f j) (not_f (moment_right (f j)) (or_0 (not (moment_right (f j))) (bears (f j) && any (λ i. bears_at (f j).moment (f i)) j)
      (none_passes (breaks3 f) n h j u)))

  pub distinct : n ≤ first3 f n → Distinct f n
  distinct h i j u v a b e = split (dec_lt i j) (dec_lt j i)
    where
      apart : (x y : ℕ) → y < x → x < n → bears (f x) ≡ true → bears (f y) ≡ true → (f x).moment ≡ (f y).moment → ⊥
      apart x y k w p r m =
          let z = or_1 (not (moment_right (f x))) (bears (f x) && any (λ i. bears_at (f x).moment (f i)) x) (none_passes (breaks3 f) n h x w) in
          let s = any_none (λ i. bears_at (f x).moment (f i)) x (sym (ap (λ (t : Bool). t && any (λ i. bears_at (f x).moment (f i)) x) p) ∙ z) y k in
          contra (bears_at (f x).moment (f y)) (and_i r (eq-eqb (f y).moment (f x).moment (sym m))) s

      split : Dec (i < j) → Dec (j < i) → i ≡ j
      split (yes k) d = absurd (apart j i k v b a (sym e))
      split (no k) (yes d) = absurd (apart i j d u a b e)
      split (no k) (no d) = omega arith
