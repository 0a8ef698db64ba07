-- Each public function's promise settles its result; and the judge's answer follows from its verdict.
use mathlib.Core.Path.{◌≡◌, refl, sym, ap, ◌∙◌}
use Prim.Native.Nat.{ℕ, ◌<◌}
use native.Mathlib.Omega.{arith}
use mathlib.Core.Bool.{cond}
use lib.Dec.{eqb}
use Rattle.std.specs.Prelude.{Result, Ok, Err}
use Rattle.base.proofs.Settled.{one_value}
use Rattle.rules.specs.declared.Rule.{Rule}
use Rattle.rules.specs.declared.Rule.TheVariants.{CutShort, Head, TooLong, Fields, Ends, Moments, Contents, Causes, Full}
use Rattle.rules.specs.declared.Fault.{Fault}
use Rattle.rules.specs.Judge.{Verdict, rule_number, verdict_in}

pub from_rule : (rule : Rule) (r s : ℕ) → r ≡ rule_number rule → s ≡ rule_number rule → r ≡ s
from_rule rule r s = one_value

pub numbers : (verdict : Result (Unit {0}) Fault) (n n' e e' : ℕ) → (n ≡ (verdict_in verdict).number) × (e ≡ (verdict_in verdict).entry)
    → (n' ≡ (verdict_in verdict).number) × (e' ≡ (verdict_in verdict).entry) → (n ≡ n') × (e ≡ e')
numbers verdict n n' e e' p q = (one_value p.0 q.0, one_value p.1 q.1)

-- the rule of a number
abbrev pub rule_of : ℕ → Rule
rule_of n =
    cond (eqb n 11) CutShort (cond (eqb n 12) Head (cond (eqb n 13) TooLong (cond (eqb n 14) Fields (cond (eqb n 15) Ends
    (cond (eqb n 16) Moments (cond (eqb n 17) Contents (cond (eqb n 18) Causes Full)))))))

pub rule_back : (rule : Rule) → rule_of (rule_number rule) ≡ rule
rule_back CutShort = refl
rule_back Head = refl
rule_back TooLong = refl
rule_back Fields = refl
rule_back Ends = refl
rule_back Moments = refl
rule_back Contents = refl
rule_back Causes = refl
rule_back Full = refl

pub some_number : (rule : Rule) → 0 < rule_number rule
some_number CutShort = omega arith
some_number Head = omega arith
some_number TooLong = omega arith
some_number Fields = omega arith
some_number Ends = omega arith
some_number Moments = omega arith
some_number Contents = omega arith
some_number Causes = omega arith
some_number Full = omega arith

pub one_answer : (r s : Result (Unit {0}) Fault) → verdict_in r ≡ verdict_in s → r ≡ s
one_answer (Ok x) (Ok y) e = refl
one_answer (Ok x) (Err b) e = absurd (omega (arith, ap (λ (v : Verdict). v.number) e, some_number b.rule))
one_answer (Err a) (Ok y) e = absurd (omega (arith, ap (λ (v : Verdict). v.number) e, some_number a.rule))
one_answer (Err a) (Err b) e = λ i. Err (record { rule = rule i; entry = (e i).entry })
  where
    rule : a.rule ≡ b.rule
    rule = sym (rule_back a.rule) ∙ ap (λ (v : Verdict). rule_of v.number) e ∙ rule_back b.rule
