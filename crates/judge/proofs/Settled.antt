-- Each public function's promise settles its result: two results that it allows are equal.
use mathlib.Core.Path.{◌≡◌, refl, sym, ◌∙◌}
use mathlib.Core.Bool.{Bool, true, false}
use mathlib.Core.List.{List}
use Prim.Native.Nat.{ℕ, ◌<◌}
use native.Mathlib.Omega.{arith}
use native.Mathlib.Decide.{dec_lt}
use lib.ListN.{get_or}
use lib.Seq.{ext_get_or}
use Rattle.std.specs.Prelude.{Result}
use Rattle.base.proofs.Settled.{one_value}
use Rattle.call_log.specs.declared.Entry.{Entry}
use Rattle.call_log.specs.Decode.{entry_count_of, entry_at}
use Rattle.rules.specs.declared.Fault.{Fault}
use Rattle.rules.specs.Judge.{Verdict, verdict_in, judge_of}
use Rattle.rules.proofs.Settled.{one_answer}
use Rattle.judge.specs.Inner.Orders.{has_order, Orders}
use Rattle.judge.proofs.KeyLaws.{same_key, no_more}

pub judge : (bytes : List ℕ) (r s : Result (Unit {0}) Fault) → verdict_in r ≡ judge_of bytes → verdict_in s ≡ judge_of bytes → r ≡ s
judge bytes r s p q = one_answer r s (one_value p q)

-- and the verdict that an answer says
pub judge_verdict : (bytes : List ℕ) (r s : Verdict) → r ≡ judge_of bytes → s ≡ judge_of bytes → r ≡ s
judge_verdict bytes r s = one_value

-- how many keys, and every lent number: there is one list of a log's keys
pub in_order : (bytes : List ℕ) (c c' : ℕ) (x x' : List ℕ) → Orders bytes c x → Orders bytes c' x' → (c ≡ c') × (x ≡ x')
in_order bytes c c' x x' p r = by (has_order bytes) refl
  where
    f : ℕ → Entry
    f = entry_at bytes

    n : ℕ
    n = entry_count_of bytes

    alike : c ≡ c' → ((a : ℕ) → a < c → get_or x a 0 ≡ get_or x' a 0) → (c ≡ c') × (x ≡ x')
    alike e same = (e, ext_get_or 0 x x' (p.long ∙ sym r.long) (λ a u. at a (dec_lt a c)))
      where
        at : (a : ℕ) → Dec (a < c) → get_or x a 0 ≡ get_or x' a 0
        at a (yes u) = same a u
        at a (no u) = one_value (p.rest a (omega arith)) (r.rest a (omega arith))

    by : (t : Bool) → has_order bytes ≡ t → (c ≡ c') × (x ≡ x')
    by true h =
        let o = p.ordered h in
        let o' = r.ordered h in
        alike (omega (arith, no_more f n x x' c c' o o', no_more f n x' x c' c o' o)) (λ a u. (same_key f n x x' c c' o o' c a u u).1)
    by false h = alike (one_value (p.none h) (r.none h)) (λ a u. absurd (omega (arith, p.none h)))
