-- `judge::full::unfilled_by_counts` meets its contract. The loop keeps how many pushes and pops count on each queue, and that the first among the
-- entries that are left is the first of all.
use mathlib.Core.Path.{sym, ◌∙◌}
use native.Mathlib.Omega.{arith}
use lib.ListN.{length}
use Rattle.judge.specs.Inner.Entries.{entries_in}
use Rattle.rules.proofs.SearchLaws.{first_start, first_next}
use Rattle.rules.specs.Rules.{breaks6}
use Rattle.judge.proofs.EntriesLaws.{pass_found, pass_ended}
use Rattle.judge.proofs.FullLaws.{counted_start, told}
use Rattle.judge.proofs.full.unfilled_by_counts.Goals as goal

pub loop-j-init : goal.loop-j-init
loop-j-init c =
    let f = entries_in c.args.entries.now in
    (first_start (breaks6 f c.args.slots) (length c.args.entries.now), counted_start f)

pub returns-then-full-there : goal.returns-then-full-there
returns-then-full-there c =
    let a = c.args in
    let l = c.loop-j in
    let f = entries_in a.entries.now in
    let n = length a.entries.now in
    let below = c.loop-j-test.true in
    let t = told f n c.requires.few c.requires.fields l.j below l.counts l.invariant.1 a.slots c.from-e.result c.from-e.ensures in
    pass_found (breaks6 f a.slots) l.j n l.invariant.0 below
    (sym (t.breaks c.full.ensures) ∙ (simp (c.from-q.ensures, c.from.ensures) at c.if-full-there.true))

pub counts_after-requires : goal.counts_after-requires
counts_after-requires c =
    let a = c.args in
    let l = c.loop-j in
    let t = told (entries_in a.entries.now) (length a.entries.now) c.requires.few c.requires.fields l.j c.loop-j-test.true l.counts l.invariant.1 a.slots
    c.from-e.result c.from-e.ensures in
    rw c.from-q.ensures (omega (arith, t.low))

pub loop-j-preserved : goal.loop-j-preserved
loop-j-preserved c =
    let a = c.args in
    let l = c.loop-j in
    let f = entries_in a.entries.now in
    let n = length a.entries.now in
    let below = c.loop-j-test.true in
    let t = told f n c.requires.few c.requires.fields l.j below l.counts l.invariant.1 a.slots c.from-e.result c.from-e.ensures in
    let none = simp (c.from-q.ensures, c.from.ensures) at c.if-full-there.false in (
      first_next (breaks6 f a.slots) l.j n below (sym (t.breaks c.full.ensures) ∙ none) ∙ l.invariant.0,
      rw (c.counts_after.ensures, c.from-q.ensures) t.turn,
    )

pub returns : goal.returns
returns c =
    let l = c.loop-j in
    pass_ended (breaks6 (entries_in c.args.entries.now) c.args.slots) l.j (length c.args.entries.now) l.invariant.0 c.loop-j-test.false
