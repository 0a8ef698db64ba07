-- `leaves::replayed` meets its contract. The loop keeps `Lying`: after the first k moments the row holds what the queue held.
use mathlib.Core.Path.{◌≡◌, subst}
use Prim.Native.Nat.{ℕ, ◌<◌}
use native.Mathlib.Omega.{arith}
use lib.ListN.{length}
use Rattle.call_log.specs.Decode.{entry_count_of, entry_at}
use Rattle.fields.specs.Inner.Ends.{hi_of}
use Rattle.leaves.proofs.LeavesLaws.{Lying, lying_start, lying_other, lying_own, lies}
use Rattle.leaves.proofs.replayed.Goals as goal

pub loop-key-init : goal.loop-key-init
loop-key-init c =
    let a = c.args in
    lying_start (entry_at a.log.now) (entry_count_of a.log.now) a.keys.now a.queue a.row.now (omega arith)

pub loop-key-preserved-then-e-queue : goal.loop-key-preserved-then-e-queue
loop-key-preserved-then-e-queue c =
    let a = c.args in
    let l = c.loop-key in
    lying_other (entry_at a.log.now) (entry_count_of a.log.now) a.keys.now (length a.keys.now) c.requires.ordered a.queue l.row l.ends l.key-index
    c.loop-key-test.true l.invariant c.entry_at-e.result c.entry_at-e.ensures c.if-e-queue.true

pub loop-key-preserved : goal.loop-key-preserved
loop-key-preserved c =
    let a = c.args in
    let l = c.loop-key in
    let below = c.loop-key-test.true in
    let room : hi_of l.ends < 256 = omega (arith, below, l.invariant.high, c.requires.ordered.few, c.requires.few) in
    rw c.moved-ends.ensures
    (lying_own (entry_at a.log.now) (entry_count_of a.log.now) a.keys.now (length a.keys.now) c.requires.ordered a.queue l.row l.ends l.key-index below
    l.invariant c.entry_at-e.result c.entry_at-e.ensures c.if-e-queue.false room)

pub returns : goal.returns
returns c =
    let a = c.args in
    let p = c.requires in
    let l = c.loop-key in
    let e : l.key-index ≡ length a.keys.now = omega (arith, l.auto.key-index-end, c.loop-key-test.false) in
    lies (entry_at a.log.now) (entry_count_of a.log.now) a.keys.now (length a.keys.now) p.ordered a.queue l.row l.ends p.few
    (subst (λ (k : ℕ). Lying (entry_at a.log.now) (entry_count_of a.log.now) a.keys.now k a.queue l.row l.ends) e l.invariant)
