-- Each public function's promise settles its result: two results that it allows are equal.
use mathlib.Core.Path.{◌≡◌, sym, ap, ◌∙◌}
use mathlib.Core.List.{List}
use Prim.Native.Nat.{ℕ}
use native.Mathlib.Omega.{arith}
use Rattle.std.specs.Prelude.{Result, Ok, Err}
use Rattle.base.proofs.Settled.{one_value}
use Rattle.rules.specs.declared.Rule.{Rule}
use Rattle.rules.specs.Left.{Leaves, refusal_in, count_in}
use Rattle.rules.proofs.Settled.{rule_of, rule_back, some_number}

same_answer : (r s : Result ℕ Rule) → refusal_in r ≡ refusal_in s → count_in r ≡ count_in s → r ≡ s
same_answer (Ok c) (Ok d) n e = ap Ok e
same_answer (Ok c) (Err b) n e = absurd (omega (arith, n, some_number b))
same_answer (Err a) (Ok d) n e = absurd (omega (arith, n, some_number a))
same_answer (Err a) (Err b) n e = ap Err (sym (rule_back a) ∙ ap rule_of n ∙ rule_back b)

-- how many nodes or the refusal, and every lent number
pub left : (bytes : List ℕ) (q : ℕ) (r r' : Result ℕ Rule) (x x' : List ℕ) → Leaves bytes q (refusal_in r) (count_in r) x
    → Leaves bytes q (refusal_in r') (count_in r') x' → (r ≡ r') × (x ≡ x')
left bytes q r r' x x' p s = (same_answer r r' (one_value p.refused s.refused) (one_value p.counted s.counted), one_value p.put s.put)
