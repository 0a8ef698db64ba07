-- The replay of one queue in a row of 256: what a call makes of it, and what is left after all of them.
use mathlib.Core.Path.{◌≡◌, sym, ap, ◌∙◌, subst}
use mathlib.Core.Bool.{Bool, true, false, cond}
use mathlib.Core.List.{List, [], ◌∷◌, ◌++◌}
use Prim.Native.Nat.{ℕ, zero, suc, ◌+◌, ◌-◌, ◌≤◌, ◌<◌}
use native.Mathlib.Numerals.{add-one}
use native.Mathlib.Omega.{arith}
use borrow.Author.Tests.{le-leb, eq-eqb}
use lib.ListN.{length, set, take, drop, replicate, length-set}
use lib.Seq.{slice, slice_empty, take-nil}
use Rattle.call_log.specs.declared.Entry.{Entry}
use Rattle.call_log.specs.Numbers.{what}
use Rattle.call_log.specs.Decode.{log_length, entry_count_of, entry_at}
use Rattle.rules.specs.Contents.{before, applied}
use Rattle.rules.specs.Judge.{first3, judge_of}
use Rattle.rules.specs.Left.{after_all, left_in, unordered, left_of, Leaves}
use Rattle.base.proofs.Bools.{and_i}
use Rattle.rules.proofs.ContentLaws.{before_start}
use Rattle.rules.proofs.LeftLaws.{left_for_good, InOrder, in_order}
use Rattle.fields.specs.Inner.Ends.{lo_of, hi_of, ends_after}
use Rattle.keys.specs.Inner.Keys.{index_at}
use Rattle.judge.specs.Inner.Order.{instant, Ordered}
use Rattle.judge.specs.Inner.Orders.{has_order}
use Rattle.judge.proofs.ReplayLaws.{still, other_is, own_is}
use Rattle.judge.proofs.RowLaws.{moved_is, bounds}
use Rattle.leaves.specs.Inner.Lies.{LiesIn}

-- after the first k moments
pub record Lying (f : ℕ → Entry) (n : ℕ) (keys : List ℕ) (k q : ℕ) (row : List ℕ) (s : ℕ) : Type 0 where
  pub holds : slice (lo_of s) (hi_of s) row ≡ before f n q (instant keys k)
  pub low : lo_of s ≤ hi_of s
  pub high : hi_of s ≤ k
  pub long : length row ≡ 256

pub lying_start : (f : ℕ → Entry) (n : ℕ) (keys : List ℕ) (q : ℕ) (row : List ℕ) → length row ≡ 256 → Lying f n keys 0 q row 0
lying_start f n keys q row h = record { holds = slice_empty 0 row ∙ sym (before_start f n q); low = omega arith; high = omega arith; long = h }

module _ (f : ℕ → Entry) (n : ℕ) (keys : List ℕ) (count : ℕ) (o : Ordered f n keys count) (q : ℕ) (row : List ℕ) (s : ℕ) where
  module _ (k : ℕ) (u : k < count) (h : Lying f n keys k q row s) (e : Entry) (is : e ≡ f (index_at keys k)) where
    pub lying_other : (e.queue ≡ q → ⊥) → Lying f n keys (k + 1) q row s
    lying_other ne = record {
      holds = h.holds ∙ sym (other_is f n keys count o q k u (λ d. ne (ap (λ (x : Entry). x.queue) is ∙ d)))
          ∙ ap (λ (x : ℕ). before f n q (instant keys x)) (sym (add-one k));
      low = h.low;
      high = omega (arith, h.high);
      long = h.long;
    }

    pub lying_own : e.queue ≡ q → hi_of s < 256 → Lying f n keys (k + 1) q (set row (hi_of s) e.node) (ends_after (what e) s)
    lying_own d room = let b = bounds (what e) s h.low (omega arith) in record {
      holds = moved_is row s e.node h.low (omega (arith, h.long)) (omega arith) (what e) ∙ ap (applied (what e) e.node) h.holds ∙ sym after
          ∙ ap (λ (x : ℕ). before f n q (instant keys x)) (sym (add-one k));
      low = b.low;
      high = omega (arith, b.high, h.high);
      long = length-set row (hi_of s) e.node ∙ h.long;
    }
      where
        after : before f n q (instant keys (suc k)) ≡ applied (what e) e.node (before f n q (instant keys k))
        after = subst (λ (x : Entry). x.queue ≡ q → before f n q (instant keys (suc k)) ≡ applied (what x) x.node (before f n q (instant keys k)))
            (sym is)
            (λ c. subst (λ (p : ℕ). before f n p (instant keys (suc k)) ≡ applied (what (f (index_at keys k))) (f (index_at keys k)).node
            (before f n p (instant keys k))) c
            (own_is f n keys count o k u)) d

  -- after all moments
  pub lies : n ≤ 256 → Lying f n keys count q row s → LiesIn f n q row (lo_of s) (hi_of s)
  lies small h = record {
    holds =
        h.holds ∙ sym (still f n keys count o q count (instant keys count + after_all f n) (omega arith) (λ u. absurd (omega arith)) (omega arith))
        ∙ left_for_good f n q (instant keys count + after_all f n) (omega arith);
    low = h.low;
    high = omega (arith, h.high, o.few);
    long = h.long;
  }

-- a part of a row, cut in the other order
pub part_is : (row : List ℕ) (lo hi : ℕ) → lo ≤ hi → take (hi - lo) (drop lo row) ≡ slice lo hi row
part_is row lo zero h = let e : lo ≡ 0 = omega arith in rw e
part_is row zero (suc hi) h = let e : suc hi - 0 ≡ suc hi = omega arith in rw e
part_is [] (suc lo) (suc hi) h = take-nil (suc hi - suc lo)
part_is (x ∷ row) (suc lo) (suc hi) h = let e : suc hi - suc lo ≡ hi - lo = omega arith in rw e (part_is row lo hi (omega arith))

-- zeros, less some
pub zeros_less : (m n : ℕ) → m ≤ n → drop {A = ℕ} m (replicate n 0) ≡ replicate (n - m) 0
zeros_less zero n h = let e : n - 0 ≡ n = omega arith in rw e
zeros_less (suc m) zero h = absurd (omega arith)
zeros_less (suc m) (suc n) h = let e : suc n - suc m ≡ n - m = omega arith in rw e (zeros_less m n (omega arith))

-- what is given for a log that is not refused
module _ (bytes : List ℕ) (free : unordered (judge_of bytes).number ≡ false) where
  whole_log : InOrder bytes
  whole_log = in_order bytes free

  pub few_calls : entry_count_of bytes ≤ 256
  few_calls = whole_log.few

  pub has_order_lem : has_order bytes ≡ true
  has_order_lem =
      and_i (and_i (le-leb (entry_count_of bytes) 256 few_calls) (eq-eqb (length bytes) (log_length (entry_count_of bytes)) whole_log.sized))
      (le-leb (entry_count_of bytes) (first3 (entry_at bytes) (entry_count_of bytes)) whole_log.rule3)

  pub leaves_some : (q : ℕ) (part : List ℕ) (c : ℕ) → part ≡ left_in (entry_at bytes) (entry_count_of bytes) q → c ≡ length part → length part ≤ 256
      → Leaves bytes q 0 c (part ++ drop (length part) (replicate 256 0))
  leaves_some q part c e l few =
      let p : part ≡ left_of bytes q = e ∙ sym (ap (λ (s : Bool). cond s [] (left_in (entry_at bytes) (entry_count_of bytes) q)) free) in
      record {
        refused = sym (ap (λ (s : Bool). cond s (judge_of bytes).number 0) free);
        counted = l ∙ ap length p;
        put = ap (λ (x : List ℕ). part ++ x) (zeros_less (length part) 256 few) ∙ ap (λ (x : List ℕ). x ++ replicate (256 - length x) 0) p;
      }
