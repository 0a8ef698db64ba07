-- The rules one after the other, and the head before them, as a chain of early answers takes them.
use mathlib.Core.Path.{◌≡◌}
use mathlib.Core.Bool.{Bool, true, ◌&&◌}
use mathlib.Core.List.{List}
use Prim.Native.Nat.{ℕ, ◌+◌, ◌*◌, ◌≤◌, ◌<◌}
use borrow.Author.Tests.{lt-ltb, le-ltb, leb-true}
use lib.Dec.{leb, eqb}
use lib.ListN.{length}
use Rattle.call_log.specs.declared.Entry.{Entry}
use Rattle.call_log.specs.Decode.{section_count_of, processes_of, slots_of, entry_count_of, entry_at}
use Rattle.call_log.specs.Encode.{section_count}
use Rattle.rules.specs.Judge.{Verdict}
use Rattle.rules.specs.Judge.{says, first1, first2, first3, first4, first5, first6, moment_rules_of, rules_of, head_right, judge_of}
use Rattle.base.proofs.Bools.{and_0, and_1}

module _ (f : ℕ → Entry) (n P C : ℕ) (r : Verdict) where
  pub says1 : (i : ℕ) → i ≡ first1 f n P → i < n → r ≡ says 14 i → r ≡ rules_of f n P C
  says1 i e h p = rw (← e, lt-ltb i n h) p

  module _ (h1 : n ≤ first1 f n P) where
    pub says2 : (i : ℕ) → i ≡ first2 f n → i < n → r ≡ says 15 i → r ≡ rules_of f n P C
    says2 i e h p = rw (le-ltb (first1 f n P) n h1, ← e, lt-ltb i n h) p

    pub says_later : n ≤ first2 f n → r ≡ moment_rules_of f n C → r ≡ rules_of f n P C
    says_later h2 p = rw (le-ltb (first1 f n P) n h1, le-ltb (first2 f n) n h2) p

module _ (f : ℕ → Entry) (n C : ℕ) (r : Verdict) where
  pub says0 : n ≤ first3 f n → n ≤ first4 f n → n ≤ first5 f n → n ≤ first6 f n C → r ≡ says 0 0 → r ≡ moment_rules_of f n C
  says0 h3 h4 h5 h6 p = rw (le-ltb (first3 f n) n h3, le-ltb (first4 f n) n h4, le-ltb (first5 f n) n h5, le-ltb (first6 f n C) n h6) p

-- the head
abbrev pub head_of : List ℕ → Bool
head_of l = head_right (section_count_of l) (processes_of l) (slots_of l) (entry_count_of l)

pub few : (m P C n : ℕ) → head_right m P C n ≡ true → (n ≤ 256) × (P ≤ 8)
few m P C n h =
    let to_slots = and_0 (eqb m section_count && leb 1 P && leb P 8 && leb 1 C && leb C 64) (leb n 256) h in
    let to_one = and_0 (eqb m section_count && leb 1 P && leb P 8 && leb 1 C) (leb C 64) to_slots in
    let to-processes = and_0 (eqb m section_count && leb 1 P && leb P 8) (leb 1 C) to_one in (
      leb-true n 256 (and_1 (eqb m section_count && leb 1 P && leb P 8 && leb 1 C && leb C 64) (leb n 256) h),
      leb-true P 8 (and_1 (eqb m section_count && leb 1 P) (leb P 8) to-processes),
    )

-- the head's numbers as they were read
module _ (l : List ℕ) (m P C n : ℕ) where
  pub head_read : m ≡ section_count_of l → P ≡ processes_of l → C ≡ slots_of l → n ≡ entry_count_of l → head_right m P C n ≡ head_of l
  head_read a b c d = rw (a, b, c, d)

  pub rules_read : P ≡ processes_of l → C ≡ slots_of l → n ≡ entry_count_of l
      → rules_of (entry_at l) n P C ≡ rules_of (entry_at l) (entry_count_of l) (processes_of l) (slots_of l)
  rules_read b c d = rw (b, c, d)

module _ (l : List ℕ) (r : Verdict) where
  pub whole : 5 ≤ length l → head_of l ≡ true → 5 + 12 * entry_count_of l ≤ length l → length l ≤ 5 + 12 * entry_count_of l
      → r ≡ rules_of (entry_at l) (entry_count_of l) (processes_of l) (slots_of l) → r ≡ judge_of l
  whole h b k m p = rw (le-ltb (length l) 5 h, b, le-ltb (length l) (5 + 12 * entry_count_of l) k, le-ltb (5 + 12 * entry_count_of l) (length l) m) p
