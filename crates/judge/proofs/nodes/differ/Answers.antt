-- `judge::nodes::differ` meets its contract. The loop keeps `Marked`: the nodes of the pushes passed are marked, and differ.
use mathlib.Core.Path.{sym, ap, ◌∙◌, subst}
use Prim.Native.Nat.{◌+◌, ◌<◌}
use native.Mathlib.Omega.{arith}
use Rattle.judge.specs.Inner.Entries.{entries_in}
use Rattle.call_log.specs.Numbers.{what, same}
use Rattle.call_log.specs.declared.Entry.{Entry}
use Rattle.call_log.specs.declared.What.TheVariants.{Pushed}
use Rattle.marks.specs.Inner.Marks.{marked, with_mark}
use Rattle.judge.proofs.NodeLaws.{Marked, marked_start, marked_other, marked_push}
use Rattle.judge.proofs.nodes.differ.Goals as goal

pub loop-bytes-init : goal.loop-bytes-init
loop-bytes-init c = marked_start (entries_in c.args.entries.now)

pub loop-bytes-preserved-then-not-pushed : goal.loop-bytes-preserved-then-not-pushed
loop-bytes-preserved-then-not-pushed c =
    let f = entries_in c.args.entries.now in
    let l = c.loop-bytes in
    let none = sym (ap (λ (e : Entry). same Pushed (what e)) c.from-e.ensures) ∙ sym c.pushed.ensures ∙ c.if-not-pushed.true in
    marked_other f l.bytes-index l.marks l.invariant none

pub loop-bytes-preserved : goal.loop-bytes-preserved
loop-bytes-preserved c =
    let f = entries_in c.args.entries.now in
    let l = c.loop-bytes in
    let is = c.from-e.ensures in
    let told = c.mark.ensures in
    let low : c.from-e.result.node < 65536 = omega arith in
    let below = rw is at low in
    let push = sym (ap (λ (e : Entry). same Pushed (what e)) is) ∙ sym c.pushed.ensures ∙ c.if-not-pushed.false in
    let new = ap (λ (e : Entry). marked l.marks e.node) (sym is) ∙ sym told.0 ∙ c.if-mark.false in
    subst (Marked f (l.bytes-index + 1)) (sym (told.1 ∙ ap (λ (e : Entry). with_mark l.marks e.node) is)) (marked_push f l.bytes-index l.marks l.invariant below push new)
