-- `judge::replay::first_unlawful` meets its contract. The loop keeps `Replayed`: after the first k moments each row holds what its queue held, and no
-- call was unlawful.
use mathlib.Core.Path.{◌≡◌, sym, ◌∙◌}
use mathlib.Core.Bool.{Bool, true, false, cond}
use Prim.Native.Nat.{ℕ, ◌+◌}
use mir.Val.{bool_byte}
use native.Mathlib.Omega.{arith}
use lib.ListN.{length}
use Rattle.rules.specs.Judge.{first4}
use Rattle.judge.specs.Inner.Entries.{entries_in}
use Rattle.judge.proofs.EntriesLaws.{some_is, none_is}
use Rattle.judge.proofs.ReplayLaws.{worst_is, none_worst}
use Rattle.judge.proofs.RowLaws.{replay_start, told, wrong_is}
use Rattle.judge.proofs.replay.first_unlawful.Goals as goal

-- a truth value added to a count
one_more : (b : Bool) (c x : ℕ) → x ≡ bool_byte b → c + x ≡ cond b (c + 1) c
one_more true c x e = omega (arith, e)
one_more false c x e = omega (arith, e)

pub loop-key-init : goal.loop-key-init
loop-key-init g c =
    let a = c.args in
    replay_start a.watch (entries_in a.entries.now) (length a.entries.now) a.keys.now _ a.queues.now a.nodes.now c.requires.differ c.told-queues c.requires.rows c.told-nodes

pub lawful-requires : goal.lawful-requires
lawful-requires g c =
    let p = c.requires in
    let s = c.loop-key.invariant in
    let below = c.loop-key-test.true in
    let t = told _ _ _ _ p.ordered _ below _ _ _ _ _ _ s p.roomy.0 p.roomy.1 p.fields _ c.from-e.ensures in
    rw c.from-q.ensures (omega (arith, t.high, s.rows_long _ t.queue), omega (arith, t.few))

pub returns-then-not-lawful : goal.returns-then-not-lawful
returns-then-not-lawful g c =
    let p = c.requires in
    let s = c.loop-key.invariant in
    let below = c.loop-key-test.true in
    let t = told _ _ _ _ p.ordered _ below _ _ _ _ _ _ s p.roomy.0 p.roomy.1 p.fields _ c.from-e.ensures in
    let wrong = wrong_is _ _ _ _ p.ordered _ below _ _ _ _ _ _ s p.roomy.0 p.roomy.1 p.fields
    (sym ((rw c.from-q.ensures at c.lawful.ensures) ∙ t.ok) ∙ c.if-not-lawful.true) in
    some_is (length c.args.entries.now) (first4 (entries_in c.args.entries.now) (length c.args.entries.now)) _ (worst_is _ _ _ _ p.ordered _ below wrong s.fine)
    (p.ordered.index _ below)

pub loop-key-preserved : goal.loop-key-preserved
loop-key-preserved g c =
    let p = c.requires in
    let s = c.loop-key.invariant in
    let below = c.loop-key-test.true in
    let t = told _ _ _ _ p.ordered _ below _ _ _ _ _ _ s p.roomy.0 p.roomy.1 p.fields _ c.from-e.ensures in
    let fine = sym ((rw c.from-q.ensures at c.lawful.ensures) ∙ t.ok) ∙ c.if-not-lawful.false in
    rw (one_more _ c.loop-key.c _ c.from-c.ensures, c.pushed.ensures, c.moved.ensures, c.from-q.ensures) (t.turn fine)

pub returns : goal.returns
returns g c =
    let a = c.args in
    let l = c.loop-key in
    let n = length a.entries.now in
    none_is n (first4 (entries_in a.entries.now) n) (omega (
      arith,
      none_worst (entries_in a.entries.now) n a.keys.now (length a.keys.now) c.requires.ordered (λ x u. l.invariant.fine x (omega (arith, c.loop-key-test.false))),
    ))
