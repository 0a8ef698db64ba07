-- `judge::judge` meets its contract: a whole log with the right head is judged by its entries.
use mathlib.Core.Path.{sym, ap, ◌∙◌}
use Prim.Native.Nat.{ℕ}
use native.Mathlib.Omega.{arith}
use Rattle.call_log.specs.declared.Entry.{Entry}
use Rattle.rules.specs.Judge.{rules_of}
use Rattle.rules.proofs.VerdictLaws.{few, head_read, rules_read, whole}
use Rattle.judge.specs.Inner.Entries.{entries_in}
use Rattle.judge.specs.Inner.Order.{Whole}
use Rattle.judge.proofs.judge.Goals as goal

pub rules-requires : goal.rules-requires
rules-requires c =
    let n = c.number_at-entries.result in
    let is : Whole c.args.log.now n = omega (arith, c.if-log-whole.false, c.if-whole-log.false, c.length_of-whole.ensures) in
    let z = c.entries_of.ensures n is in
    let h = few c.byte_at-count.result c.byte_at-p.result c.byte_at-slots.result c.from.result (sym c.head_right.ensures ∙ c.if-not-head_right.false) in
    (omega (arith, z.0, h.0, c.from.ensures), h.1)

pub returns : goal.returns
returns c =
    let log = c.args.log.now in
    let n = c.number_at-entries.result in
    let is : Whole log n = omega (arith, c.if-log-whole.false, c.if-whole-log.false, c.length_of-whole.ensures) in
    let z = c.entries_of.ensures n is in
    let count = c.number_at-entries.ensures in
    let head = sym (head_read log _ _ _ _ c.byte_at-count.ensures c.byte_at-p.ensures c.byte_at-slots.ensures (c.from.ensures ∙ count))
    ∙ sym c.head_right.ensures ∙ c.if-not-head_right.false in
    whole log _ c.if-log-lt-HEAD_LENGTH.false head (omega (arith, is, count)) (omega (arith, is, count))
    (c.rules.ensures ∙ ap (λ (m : ℕ). rules_of (entries_in c.entries_of.result.now) m c.byte_at-p.result c.byte_at-slots.result) z.0
    ∙ ap (λ (f : ℕ → Entry). rules_of f n c.byte_at-p.result c.byte_at-slots.result) z.1
    ∙ rules_read log c.byte_at-count.result c.byte_at-p.result c.byte_at-slots.result n c.byte_at-p.ensures c.byte_at-slots.ensures count)
